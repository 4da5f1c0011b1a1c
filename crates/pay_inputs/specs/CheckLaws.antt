-- When a script or a table is accepted, and why it is refused, in the words of the grammar.
use Rattle.std.specs.Prelude.{◌≡◌, ◌↔◌, ℕ, ℤ, ◌≤◌, ◌<◌, List, length, Some, None}
use Rattle.pay_dates.specs.declared.day.Day.{Day}
use Rattle.pay_lexer.specs.declared.token.Token.{Token}
use Rattle.pay_lexer.specs.Spelling.{SpellsTokens, IsBadPlace}
use Rattle.pay_lexer.specs.Lexing.{kinds}
use Rattle.pay_meaning.specs.Language.{Script}
use Rattle.pay_meaning.specs.Events.{all_events, IsShared, IsEarliestShared}
use Rattle.pay_grammar.specs.Grammar.{SpellsScript}
use Rattle.pay_grammar.specs.TokenLimits.{first_too_large, first_too_deep, IsWithin}
use Rattle.pay_roll.specs.declared.refusal.What.TheVariants.{Events}
use Rattle.pay_roll.specs.Rolling.{first_bad, first_of}
use Rattle.pay_inputs.specs.declared.refusal.Refusal.{Refusal}
use Rattle.pay_inputs.specs.declared.refusal.Refusal.TheVariants.{BadByte, TooLarge, TooDeep, NotScript, BadSchedule, SameDate, TooMany}
use Rattle.pay_inputs.specs.Limits.{event_limit, HasGoodSchedules, part_refusals, KeepsLimits}
use Rattle.pay_inputs.specs.Trades.{Trade, trade_of}
use Rattle.pay_meaning.specs.Meaning.{Cells}
use Rattle.pay_tables.specs.declared.refusal.TableRefusal.{TableRefusal}
use Rattle.pay_tables.specs.Records.{records_in}
use Rattle.pay_tables.specs.Tables.{Table}
use Rattle.pay_tables.specs.Spelling.{SpellsTable, SpellsPast}
use Rattle.pay_tables.specs.Faults as faults
use Rattle.pay_inputs.specs.Inputs.{bad, good, refusal_of_table, checked_script, checked_fixings, checked_table}

-- a text spells these tokens, none of which passes a limit, and they spell this script
pub record Spells (bytes : List ℕ) (tokens : List Token) (script : Script) : Type 0 where
  pub spells_tokens : SpellsTokens bytes tokens
  pub within : IsWithin tokens
  pub spells_script : SpellsScript (kinds tokens) script

-- no two events of a script have one date
abbrev pub HasDistinctDates : Script → Type 0
HasDistinctDates script = (number : ℤ) → ¬ IsShared number (all_events script)

-- a text spells a script none of whose schedules is bad, that keeps its limits, and no two of whose events have one date; and this is what it has
pub record IsScriptText (bytes : List ℕ) (trade : Trade) : Type 0 where
  pub tokens : List Token
  pub script : Script
  pub spells : Spells bytes tokens script
  pub schedules : HasGoodSchedules script
  pub few_events : length (all_events script) ≤ event_limit
  pub dates : HasDistinctDates script
  pub keeps : KeepsLimits script
  pub has : trade_of script ≡ trade

-- a text spells these tokens and this script, none of whose schedules is bad, and which has not too many events
pub record SpellsFew (bytes : List ℕ) (tokens : List Token) (script : Script) : Type 0 where
  pub spells : Spells bytes tokens script
  pub schedules : HasGoodSchedules script
  pub few_events : length (all_events script) ≤ event_limit

-- Why a text is refused as a script: the first place where nothing begins; the first token that is too large, or else the first that is too deep;
-- or no script is spelled; or else the first bad schedule; or else too many events; or else the earliest date that two of them have; or else too
-- many parts of its events, or names.
pub data IsScriptFault (bytes : List ℕ) : Refusal → Type 0 where
  bad_byte : (place : ℕ) → IsBadPlace bytes place → IsScriptFault bytes (BadByte place)
  too_large : (tokens : List Token) (t : Token) → SpellsTokens bytes tokens → first_too_large tokens ≡ Some t → IsScriptFault bytes (TooLarge t.start)
  too_deep : (tokens : List Token) (t : Token) → SpellsTokens bytes tokens → first_too_large tokens ≡ None → first_too_deep tokens ≡ Some t
      → IsScriptFault bytes (TooDeep t.start)
  no_script : (tokens : List Token) → SpellsTokens bytes tokens → IsWithin tokens → ((script : Script) → ¬ SpellsScript (kinds tokens) script)
      → IsScriptFault bytes NotScript
  bad_schedule : (tokens : List Token) (script : Script) (item : ℕ) → Spells bytes tokens script → first_bad 1 script ≡ Some item
      → IsScriptFault bytes (BadSchedule item)
  too_many_events : (tokens : List Token) (script : Script) → Spells bytes tokens script → HasGoodSchedules script
      → event_limit < length (all_events script) → IsScriptFault bytes (TooMany Events event_limit)
  same_date : (tokens : List Token) (script : Script) (date : Day) → SpellsFew bytes tokens script → IsEarliestShared (all_events script) date
      → IsScriptFault bytes (SameDate date)
  too_many_parts : (tokens : List Token) (script : Script) (refusal : Refusal) → SpellsFew bytes tokens script → HasDistinctDates script
      → first_of (part_refusals script) ≡ Some refusal → IsScriptFault bytes refusal

-- a script's text is accepted exactly where it spells a script that is not refused, and gives what that script has
abbrev pub ScriptAcceptanceHasCause : Type 0
ScriptAcceptanceHasCause = (bytes : List ℕ) (trade : Trade) → (checked_script bytes ≡ good trade) ↔ IsScriptText bytes trade

-- a script's text is refused exactly for its fault
abbrev pub ScriptRefusalHasCause : Type 0
ScriptRefusalHasCause = (bytes : List ℕ) (refusal : Refusal) → (checked_script bytes ≡ bad refusal) ↔ IsScriptFault bytes refusal

-- the records of a text spell this table
abbrev pub IsTableText : List ℕ → Table → Type 0
IsTableText bytes table = SpellsTable (records_in bytes) table

-- why a text is refused as a table: its records have a fault, and none that is asked before it
pub data IsTableFault (bytes : List ℕ) : Refusal → Type 0 where
  no_table : (refusal : TableRefusal) → faults.IsTableFault (records_in bytes) refusal → IsTableFault bytes (refusal_of_table refusal)

-- the records of a text spell these past fixings
abbrev pub IsPastText : List ℕ → Cells → Type 0
IsPastText bytes cells = SpellsPast (records_in bytes) cells

-- why a text is refused as past fixings: its records have a fault, and none that is asked before it
pub data IsPastFault (bytes : List ℕ) : Refusal → Type 0 where
  no_past : (refusal : TableRefusal) → faults.IsPastFault (records_in bytes) refusal → IsPastFault bytes (refusal_of_table refusal)

-- a table's text is accepted exactly where its records spell a table, and gives that table
abbrev pub TableAcceptanceHasCause : Type 0
TableAcceptanceHasCause = (bytes : List ℕ) (table : Table) → (checked_table bytes ≡ good table) ↔ IsTableText bytes table

-- a table's text is refused exactly for its first fault
abbrev pub TableRefusalHasCause : Type 0
TableRefusalHasCause = (bytes : List ℕ) (refusal : Refusal) → (checked_table bytes ≡ bad refusal) ↔ IsTableFault bytes refusal

-- a text of past fixings is accepted exactly where its records spell them, and gives them in the order of the text
abbrev pub PastAcceptanceHasCause : Type 0
PastAcceptanceHasCause = (bytes : List ℕ) (cells : Cells) → (checked_fixings bytes ≡ good cells) ↔ IsPastText bytes cells

-- a text of past fixings is refused exactly for its first fault
abbrev pub PastRefusalHasCause : Type 0
PastRefusalHasCause = (bytes : List ℕ) (refusal : Refusal) → (checked_fixings bytes ≡ bad refusal) ↔ IsPastFault bytes refusal
