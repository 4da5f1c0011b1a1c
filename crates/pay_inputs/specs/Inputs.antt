-- What a file is as an input: a script, past fixings or a table of scenarios.
use Rattle.std.specs.Prelude.{ℕ, List, Option, Some, None, Result, Ok, Err}
use Rattle.pay_edge.specs.Edge.{Files, Whole, Missing, Long, Bytes, whole_of}
use Rattle.pay_lexer.specs.declared.token.Token.{Token}
use Rattle.pay_lexer.specs.Lexing.{tokens_in}
use Rattle.pay_meaning.specs.Language.{Script}
use Rattle.pay_parser.specs.declared.parse_fault.ParseFault.{ParseFault}
use Rattle.pay_parser.specs.declared.parse_fault.ParseFault.TheVariants as parsing
use Rattle.pay_parser.specs.Parsing.{parsed}
use Rattle.pay_roll.specs.Rolling.{first_of}
use Rattle.pay_inputs.specs.declared.refusal.Refusal.{Refusal}
use Rattle.pay_inputs.specs.declared.refusal.Refusal.TheVariants.{TooLong, BadByte, TooLarge, TooDeep, NotScript, TooMany, BadHeader, BadDate, RepeatedDate}
use Rattle.pay_inputs.specs.declared.refusal.Refusal.TheVariants.{BadRow, BadName, BadCell}
use Rattle.pay_inputs.specs.Limits.{script_refusals}
use Rattle.pay_inputs.specs.Trades.{Trade, trade_of}
use Rattle.pay_meaning.specs.Meaning.{Cells}
use Rattle.pay_tables.specs.declared.refusal.TableRefusal.{TableRefusal}
use Rattle.pay_tables.specs.declared.refusal.TableRefusal.TheVariants as tables
use Rattle.pay_tables.specs.Tables.{Table}
use Rattle.pay_tables.specs.ScenarioFile.{scenarios_in}
use Rattle.pay_tables.specs.FixingsFile.{fixings_in}

-- an input: its file is not there, or it is refused, or it is accepted and gives a value
pub data Input (A : Type 0) : Type 0 where
  not_there : Input A
  bad : Refusal → Input A
  good : A → Input A

-- a file as a whole, of at most so many bytes, and then the check of its bytes
abbrev pub input_of : {A : Type 0} → ℕ → (List ℕ → Input A) → Whole → Input A
input_of limit check Missing = not_there
input_of limit check Long = bad (TooLong limit)
input_of limit check (Bytes bytes) = check bytes

-- a value, unless it is refused
abbrev pub unless : {A : Type 0} → Option Refusal → A → Input A
unless None value = good value
unless (Some refusal) value = bad refusal

-- what a script has, unless it is refused for its schedules, its events or its names
abbrev pub prepared : Script → Input Trade
prepared script = unless (first_of (script_refusals script)) (trade_of script)

-- why tokens spell no script within the limits of tokens
abbrev pub refusal_of : ParseFault → Refusal
refusal_of (parsing.TooLarge at) = TooLarge at
refusal_of (parsing.TooDeep at) = TooDeep at
refusal_of fault = NotScript

abbrev pub parsed_input : Result Script ParseFault → Input Trade
parsed_input (Err fault) = bad (refusal_of fault)
parsed_input (Ok script) = prepared script

abbrev pub lexed_input : Result (List Token) ℕ → Input Trade
lexed_input (Err place) = bad (BadByte place)
lexed_input (Ok tokens) = parsed_input (parsed tokens)

-- what the script of a text has: its tokens are asked for, the limits of tokens, a script, and then its schedules, its events and its names
unfoldable pub checked_script : List ℕ → Input Trade
checked_script bytes = lexed_input (tokens_in bytes)

-- why a file of scenarios or of past fixings is refused; want of memory is the refusal of none
abbrev pub refusal_of_table : TableRefusal → Refusal
refusal_of_table (tables.BadDate place) = BadDate place
refusal_of_table (tables.SameDate place) = RepeatedDate place
refusal_of_table (tables.BadRow row) = BadRow row
refusal_of_table (tables.BadName row) = BadName row
refusal_of_table (tables.BadCell row column) = BadCell row column
refusal_of_table (tables.TooMany what limit) = TooMany what limit
refusal_of_table refusal = BadHeader

abbrev pub read_input : {A : Type 0} → Result A TableRefusal → Input A
read_input (Err refusal) = bad (refusal_of_table refusal)
read_input (Ok value) = good value

-- the table of a scenario file
unfoldable pub checked_table : List ℕ → Input Table
checked_table bytes = read_input (scenarios_in bytes)

-- the past fixings of a fixings file, in the order of the file
unfoldable pub checked_fixings : List ℕ → Input Cells
checked_fixings bytes = read_input (fixings_in bytes)

-- the greatest length of a script file, of a fixings file and of a scenario file, in bytes
abbrev pub script_limit : ℕ
script_limit = 1_048_576

abbrev pub fixings_limit : ℕ
fixings_limit = 16_777_216

abbrev pub table_limit : ℕ
table_limit = 67_108_864

abbrev pub script_of : Files → List ℕ → Input Trade
script_of files name = input_of script_limit checked_script (whole_of files name script_limit)

abbrev pub past_of : Files → List ℕ → Input Cells
past_of files name = input_of fixings_limit checked_fixings (whole_of files name fixings_limit)

abbrev pub table_of : Files → List ℕ → Input Table
table_of files name = input_of table_limit checked_table (whole_of files name table_limit)
