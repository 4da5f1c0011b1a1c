use Rattle.std.proofs.Common.{◌≡◌, ◌++◌, drop}
use Rattle.pay_analysis.specs.Walking.{domains_of}
use Rattle.pay_analysis.proofs.branches.keep.Given as goal

-- the raws so far and those of the variables that are left are those of all
abbrev pub invariant-loop-slot : goal.invariant-loop-slot
invariant-loop-slot l =
    domains_of l.facts.domains.items l.changes.items ≡ l.domains.items ++ domains_of l.facts.domains.items (drop l.slot-index l.changes.items)
