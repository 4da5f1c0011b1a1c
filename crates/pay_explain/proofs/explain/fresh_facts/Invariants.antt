use Rattle.std.proofs.Common.{◌≡◌, ◌++◌, drop}
use Rattle.pay_explain.specs.Explaining.{zero_domains}
use Rattle.pay_explain.proofs.explain.fresh_facts.Given as goal

-- the domains so far and those of the names that are left are all the domains
abbrev pub invariant-loop : goal.invariant-loop
invariant-loop l = zero_domains l.trade.names.items ≡ l.domains.items ++ zero_domains (drop l.index l.trade.names.items)
