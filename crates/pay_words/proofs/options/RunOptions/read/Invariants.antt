use Rattle.std.proofs.Common.{◌≡◌, map, string_bytes, Some, length}
use Rattle.std.specs.Option.{option_and_then}
use Rattle.pay_words.specs.Requests.{options_in, run_options}
use Rattle.pay_words.specs.OptionViews.{values}
use Rattle.pay_words.proofs.OptionLemmas.{joined}
use Rattle.pay_words.proofs.options.RunOptions.read.Given as goal

-- the words that are left stand before the options that were read
abbrev pub invariant-loop-front : goal.invariant-loop-front
invariant-loop-front l =
    option_and_then run_options (options_in (map string_bytes l.words)) ≡ joined (map string_bytes l.rest) (Some (values l.options))

abbrev pub decreases-loop-front : goal.decreases-loop-front
decreases-loop-front l = length l.rest
