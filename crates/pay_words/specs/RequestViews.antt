-- A request of the code as plain data, and why words are none.
use Rattle.std.specs.Prelude.{◌≡◌, ℕ, List, true, false, Option, None, IsSome}
use Rattle.std.specs.Option.{option_map}
use Rattle.pay_words.specs.declared.request.Request.{Request}
use Rattle.pay_words.specs.declared.request.Request.TheVariants.{Run, Check, Events, Explain}
use Rattle.pay_words.specs.declared.request.PastWords.{PastWords}
use Rattle.pay_words.specs.declared.request.RunWords.{RunWords}
use Rattle.pay_words.specs.declared.request.WordsFault.{WordsFault}
use Rattle.pay_words.specs.declared.request.WordsFault.TheVariants.{NotRequest, NoMemory}
use Rattle.pay_words.specs.Requests.{Asked, run, check_of, list_of, explain_of, is_file_name}
use Rattle.pay_words.specs.Requests as asked

abbrev pub past_words : PastWords → asked.PastWords
past_words words = record { file = words.file; asof = words.asof }

abbrev pub run_words : RunWords → asked.RunWords
run_words words = record { script = words.script; scenarios = words.scenarios; past = option_map past_words words.past }

abbrev pub asked_by : Request → Asked
asked_by (Run words) = run (run_words words)
asked_by (Check script) = check_of script
asked_by (Events script) = list_of script
asked_by (Explain script) = explain_of script

-- words that ask for nothing are no request; memory is wanted only where they ask for something
abbrev pub StopsWords : Option Asked → WordsFault → Type 0
StopsWords asked NotRequest = asked ≡ None
StopsWords asked NoMemory = IsSome asked

-- a word is no name of a file; memory is wanted only where it is one
abbrev pub StopsName : List ℕ → WordsFault → Type 0
StopsName word NotRequest = is_file_name word ≡ false
StopsName word NoMemory = is_file_name word ≡ true
