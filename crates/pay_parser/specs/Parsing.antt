-- What parsing answers: the script that tokens spell, or the first fault, with its place.
use Rattle.std.specs.Prelude.{◌≡◌, ℕ, List, Option, Some, None, Result, Ok, Err}
use Rattle.std.specs.Option.{option_map}
use Rattle.pay_lexer.specs.declared.token.Token.{Token}
use Rattle.pay_meaning.specs.Language.{Script}
use Rattle.pay_parser.specs.declared.parse_fault.ParseFault.{ParseFault}
use Rattle.pay_parser.specs.declared.parse_fault.ParseFault.TheVariants.{TooLarge, TooDeep, NotScript, NoMemory}
use Rattle.pay_place.specs.declared.step_fault.StepFault.{StepFault}
use Rattle.pay_place.specs.declared.step_fault.StepFault.TheVariants as step_fault
use Rattle.pay_grammar.specs.Reading.{script_in}
use Rattle.pay_grammar.specs.TokenLimits.{kinds, first_too_large, first_too_deep, IsWithin}

-- the place of a token's first byte, if there is one
abbrev pub start_of : Option Token → Option ℕ
start_of found = option_map (λ token. token.start) found

-- the answer, from the place where a token is too large, the place where the tokens are too deep, and the script that they spell
abbrev pub judged : Option ℕ → Option ℕ → Option Script → Result Script ParseFault
judged (Some at) deep script = Err (TooLarge at)
judged None (Some at) script = Err (TooDeep at)
judged None None (Some script) = Ok script
judged None None None = Err NotScript

-- the script that tokens spell, or why there is none
unfoldable pub parsed : List Token → Result Script ParseFault
parsed tokens = judged (start_of (first_too_large tokens)) (start_of (first_too_deep tokens)) (script_in (kinds tokens))

-- why tokens are refused: memory is wanted only where they keep every limit
abbrev pub IsFaultOf : List Token → ParseFault → Type 0
IsFaultOf tokens NoMemory = IsWithin tokens
IsFaultOf tokens fault = parsed tokens ≡ Err fault

-- where no token can stand the tokens are no script, and want of memory stays what it is
abbrev pub fault_of_step : StepFault → ParseFault
fault_of_step step_fault.NotScript = NotScript
fault_of_step step_fault.NoMemory = NoMemory
