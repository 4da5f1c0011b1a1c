use Rattle.std.proofs.Common.{◌≡◌, map, take}
use Rattle.pay_domains.specs.Pieces.{point}
use Rattle.pay_analysis.specs.Walking.{AreAllRaws}
use Rattle.pay_analysis.proofs.facts.Facts.start.Given as goal

-- the domains so far are the points of the values so far
abbrev pub invariant-loop-value : goal.invariant-loop-value
invariant-loop-value l = record {
  points : l.domains.items ≡ map point (take l.value-index l.values);
  within : AreAllRaws l.domains.items;
}
