-- The headline: what was written is what the script means in each scenario.
use Rattle.std.specs.Prelude.{◌≡◌, ◌≤◌, ℕ, ℤ, List, length, ◌++◌, Option, Some, None}
use Rattle.std.specs.List.{flat_map}
use Rattle.std.specs.FinMap.{get}
use Rattle.pay_edge.specs.Edge.{Files}
use Rattle.pay_meaning.specs.Language.{Script}
use Rattle.pay_meaning.specs.Meaning.{Cells, Past, meaning, no_variables, fixings_of}
use Rattle.pay_meaning.specs.Events.{all_events, events_of, IsShared}
use Rattle.pay_lexer.specs.declared.token.Token.{Token}
use Rattle.pay_lexer.specs.Spelling.{SpellsTokens}
use Rattle.pay_lexer.specs.Lexing.{kinds}
use Rattle.pay_grammar.specs.Grammar.{SpellsScript}
use Rattle.pay_grammar.specs.TokenLimits.{IsWithin}
use Rattle.pay_inputs.specs.Limits.{event_limit, HasGoodSchedules, KeepsLimits}
use Rattle.pay_tables.specs.Records.{records_in}
use Rattle.pay_tables.specs.Tables.{Table, cells_of}
use Rattle.pay_tables.specs.Spelling.{SpellsTable, SpellsPast}
use Rattle.pay_report.specs.Detail.{header_line, nodes_line, scenario_lines}
use Rattle.pay_words.specs.Requests.{Asked, PastWords, RunWords, run, check_of, list_of, explain_of, request_of}
use Rattle.pay_inputs.specs.Inputs.{script_limit, fixings_limit, table_limit}

-- the words ask for a run
abbrev pub AsksRun : Option Asked → Type 0
AsksRun None = ⊥
AsksRun (Some (run words)) = Unit {0}
AsksRun (Some (check_of script)) = ⊥
AsksRun (Some (list_of script)) = ⊥
AsksRun (Some (explain_of script)) = ⊥

-- the past fixings that a run knows: none where none are asked for, and else those that the records of their file spell, which is not too long,
-- up to their as-of date
pub data KnowsPast (files : Files) : Option PastWords → Option Past → Type 0 where
  knows_none : KnowsPast files None None
  knows : (words : PastWords) (bytes : List ℕ) (cells : Cells) → get files words.file ≡ Some bytes → length bytes ≤ fixings_limit
      → SpellsPast (records_in bytes) cells → KnowsPast files (Some words) (Some (record { asof = words.asof; cells = cells }))

-- The words ask for a run of a script file and a scenario file, perhaps with past fixings. The bytes of the first spell tokens that spell a script
-- none of whose schedules is bad, and no two of whose events have one date. The records of the second spell a table, and those of the fixings file,
-- where one is given, spell past fixings. The text has gained a header, for each row of the table in order the lines of what the script's events
-- mean under the past fixings and those of that row, from no variables, and a last line with a count.
pub record PaysAsMeant (words : List (List ℕ)) (files : Files) (before after : List ℕ) : Type 0 where
  pub asked : RunWords
  pub asks : request_of words ≡ Some (run asked)
  pub script_bytes : List ℕ
  pub script_file : get files asked.script ≡ Some script_bytes
  pub table_bytes : List ℕ
  pub table_file : get files asked.scenarios ≡ Some table_bytes
  pub tokens : List Token
  pub spells_tokens : SpellsTokens script_bytes tokens
  pub script : Script
  pub spells_script : SpellsScript (kinds tokens) script
  pub schedules : HasGoodSchedules script
  pub dates : (number : ℤ) → ¬ IsShared number (all_events script)
  pub past : Option Past
  pub knows_past : KnowsPast files asked.past past
  pub table : Table
  pub spells_table : SpellsTable (records_in table_bytes) table
  pub nodes : ℕ
  pub text : after ≡ before ++ (header_line
      ++ (flat_map (λ row. scenario_lines row.label (meaning (events_of script) no_variables (fixings_of past (cells_of table row)))) table.rows
      ++ nodes_line nodes))

-- The words ask for a run of files none of which is too long. The bytes of the script file spell tokens none of which passes a limit, and which
-- spell a script none of whose schedules is bad, that keeps its limits, and no two of whose events have one date. The records of the scenario file
-- spell a table, and those of the fixings file, where one is given, spell past fixings.
pub record IsPayable (words : List (List ℕ)) (files : Files) : Type 0 where
  pub asked : RunWords
  pub asks : request_of words ≡ Some (run asked)
  pub script_bytes : List ℕ
  pub script_file : get files asked.script ≡ Some script_bytes
  pub script_short : length script_bytes ≤ script_limit
  pub table_bytes : List ℕ
  pub table_file : get files asked.scenarios ≡ Some table_bytes
  pub table_short : length table_bytes ≤ table_limit
  pub tokens : List Token
  pub spells_tokens : SpellsTokens script_bytes tokens
  pub within : IsWithin tokens
  pub script : Script
  pub spells_script : SpellsScript (kinds tokens) script
  pub schedules : HasGoodSchedules script
  pub few_events : length (all_events script) ≤ event_limit
  pub keeps : KeepsLimits script
  pub dates : (number : ℤ) → ¬ IsShared number (all_events script)
  pub past : Option Past
  pub knows_past : KnowsPast files asked.past past
  pub table : Table
  pub spells_table : SpellsTable (records_in table_bytes) table
