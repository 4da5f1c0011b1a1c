-- Why a check stopped.
use Rattle.std.specs.Prelude.{◌≡◌, ℕ, List}
use Rattle.pay_lexer.specs.declared.fault.LexFault.{LexFault}
use Rattle.pay_lexer.specs.declared.fault.LexFault.TheVariants as lexing
use Rattle.pay_parser.specs.declared.parse_fault.ParseFault.{ParseFault}
use Rattle.pay_parser.specs.declared.parse_fault.ParseFault.TheVariants as parsing
use Rattle.pay_compile.specs.declared.refusal.CompileRefusal.{CompileRefusal}
use Rattle.pay_compile.specs.declared.refusal.CompileRefusal.TheVariants as compiling
use Rattle.pay_inputs.specs.declared.script.CheckStop.{CheckStop}
use Rattle.pay_inputs.specs.declared.script.CheckStop.TheVariants.{Refused, NoMemory}
use Rattle.pay_inputs.specs.declared.refusal.Refusal.TheVariants.{BadByte, TooLarge, TooDeep, NotScript, BadSchedule, SameDate, TooMany}
use Rattle.pay_inputs.specs.Inputs.{Input, bad, checked_script}

-- the stop of a text that was not cut into tokens
abbrev pub stop_of_lexing : LexFault → CheckStop
stop_of_lexing (lexing.BadByte at) = Refused (BadByte at)
stop_of_lexing lexing.NoMemory = NoMemory

-- the stop of tokens that were not read as a script
abbrev pub stop_of_parsing : ParseFault → CheckStop
stop_of_parsing (parsing.TooLarge at) = Refused (TooLarge at)
stop_of_parsing (parsing.TooDeep at) = Refused (TooDeep at)
stop_of_parsing parsing.NotScript = Refused NotScript
stop_of_parsing parsing.NoMemory = NoMemory

-- the stop of a script that is no trade
abbrev pub stop_of_compiling : CompileRefusal → CheckStop
stop_of_compiling (compiling.BadSchedule item) = Refused (BadSchedule item)
stop_of_compiling (compiling.SameDate date) = Refused (SameDate date)
stop_of_compiling (compiling.TooMany what limit) = Refused (TooMany what limit)
stop_of_compiling compiling.NoMemory = NoMemory

-- an input is refused for this reason; of want of memory nothing is said
abbrev pub Stops : {A : Type 0} → Input A → CheckStop → Type 0
Stops input (Refused refusal) = input ≡ bad refusal
Stops input NoMemory = Unit {0}

-- the same of a script's text
abbrev pub StopsScript : List ℕ → CheckStop → Type 0
StopsScript text stop = Stops (checked_script text) stop
