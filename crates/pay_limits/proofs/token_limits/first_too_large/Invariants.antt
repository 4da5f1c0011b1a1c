use Rattle.std.proofs.Common.{◌≡◌, drop}
use Rattle.pay_grammar.specs.TokenLimits.{first_too_large}
use Rattle.pay_limits.proofs.token_limits.first_too_large.Given as goal

-- none of the tokens so far is too large
abbrev pub invariant-loop-token : goal.invariant-loop-token
invariant-loop-token l = first_too_large l.tokens ≡ first_too_large (drop l.token-index l.tokens)
