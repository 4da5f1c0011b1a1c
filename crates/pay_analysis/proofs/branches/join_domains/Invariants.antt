use Rattle.std.proofs.Common.{◌≡◌, length, drop}
use Rattle.pay_analysis.specs.Walking.{all_joined_with, AreAllRaws}
use Rattle.pay_analysis.proofs.branches.join_domains.Given as goal

-- what is left to join leads from here to the domains that all of it leads to
abbrev pub invariant-loop-index : goal.invariant-loop-index
invariant-loop-index l = record {
  domains : all_joined_with l.initial.domains.items l.changes l.kept
      ≡ all_joined_with l.domains.items (drop l.index l.changes) (drop l.index l.kept);
  limits : AreAllRaws l.initial.domains.items → AreAllRaws l.kept → AreAllRaws l.domains.items;
  one_each : length l.kept ≡ length l.changes;
}
