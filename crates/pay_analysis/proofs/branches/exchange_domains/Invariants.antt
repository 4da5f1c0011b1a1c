use Rattle.std.proofs.Common.{◌≡◌, ◌++◌, length, take, drop}
use Rattle.pay_analysis.specs.Walking.{all_put, put_out}
use Rattle.pay_analysis.proofs.branches.exchange_domains.Given as goal

-- what is left to exchange leads from here to the domains that all of it leads to, and the same of what is kept
abbrev pub invariant-loop-index : goal.invariant-loop-index
invariant-loop-index l = record {
  domains : all_put l.initial.domains.items l.changes l.initial.kept.items
      ≡ all_put l.domains.items (drop l.index l.changes) (drop l.index l.kept.items);
  kept : put_out l.initial.domains.items l.changes l.initial.kept.items
      ≡ take l.index l.kept.items ++ put_out l.domains.items (drop l.index l.changes) (drop l.index l.kept.items);
  one_each : length l.kept.items ≡ length l.changes;
}
