use Rattle.std.proofs.Common.{◌≡◌, drop, option_map}
use Rattle.pay_limits.specs.DepthViews.{depths, IsCountable}
use Rattle.pay_grammar.specs.TokenDepths.{first_deep, nothing_counted}
use Rattle.pay_limits.proofs.token_limits.first_too_deep.Given as goal

-- the counts of the tokens so far decide, with the tokens that are left
abbrev pub invariant-loop-token : goal.invariant-loop-token
invariant-loop-token l = record {
  same : first_deep nothing_counted l.tokens ≡ first_deep (depths l.depths (option_map (λ before. before.now) l.last)) (drop l.token-index l.tokens);
  small : IsCountable l.token-index l.depths;
}
