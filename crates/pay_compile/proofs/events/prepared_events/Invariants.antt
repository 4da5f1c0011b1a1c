use Rattle.std.proofs.Common.{◌≡◌, ◌++◌, map, drop}
use Rattle.pay_analysis.specs.Walking.{AreAllRaws, AreDomains}
use Rattle.pay_domains.specs.Pieces.{point}
use Rattle.pay_tree.specs.OwnedViews.{event_tree}
use Rattle.pay_compile.specs.Prepared.{kept_until, prepared_from}
use Rattle.pay_compile.proofs.events.prepared_events.Given as goal

-- the copies so far and what becomes of the events that are left, from the facts that are reached, are all that there are to be
abbrev pub invariant-loop-event : goal.invariant-loop-event
invariant-loop-event l = record {
  same : prepared_from (kept_until l.until (map event_tree l.events.items)) (map point l.values)
      ≡ map event_tree l.copies.items ++ prepared_from (kept_until l.until (map event_tree (drop l.event-index l.events.items))) l.facts.domains.items;
  domains : AreDomains l.facts.domains.items;
  limits : AreAllRaws l.facts.domains.items;
}
