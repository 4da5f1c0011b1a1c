use Rattle.std.proofs.Common.{◌≡◌, drop}
use Rattle.pay_grammar.specs.Reading.{read_on, start}
use Rattle.pay_place.specs.ReadingViews.{state}
use Rattle.pay_grammar.specs.TokenLimits.{kinds}
use Rattle.pay_parser.proofs.parser.read_items.Given as goal

-- what is left, read from this place, decides
abbrev pub invariant-loop-token : goal.invariant-loop-token
invariant-loop-token l = read_on start (kinds l.tokens) ≡ read_on (state l.state) (kinds (drop l.token-index l.tokens))
