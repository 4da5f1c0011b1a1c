use Rattle.std.proofs.Common.{◌≡◌, drop}
use Rattle.pay_code.specs.Filled.{AreFilledSteps}
use Rattle.pay_facts.specs.Reached.{steps_parts}
use Rattle.pay_facts.specs.SlotFacts.{after_steps}
use Rattle.pay_tree.specs.OwnedViews.{steps_tree}
use Rattle.pay_analysis.specs.Marks.{marked, marks_at}
use Rattle.pay_analysis.specs.Walking.{AreAllRaws, AreDomains}
use Rattle.pay_analysis.proofs.walk_steps.+steps.Given as goal

-- the steps that are left lead from here to the facts and the marks that all of them lead to
abbrev pub invariant-walk_steps-loop-step : goal.invariant-walk_steps-loop-step
invariant-walk_steps-loop-step l = record {
  facts : after_steps (steps_tree l.steps.items) l.initial.facts.domains.items l.initial.facts.known
      ≡ after_steps (steps_tree (drop l.step-index l.steps.items)) l.facts.domains.items l.facts.known;
  marks : marked (marks_at l.initial.marks.items) (steps_parts (steps_tree l.steps.items) l.initial.facts.domains.items l.initial.facts.known)
      ≡ marked (marks_at l.marks.items) (steps_parts (steps_tree (drop l.step-index l.steps.items)) l.facts.domains.items l.facts.known);
  filled : AreFilledSteps (steps_tree (drop l.step-index l.steps.items));
  domains : AreDomains l.facts.domains.items;
  limits : AreAllRaws l.facts.domains.items;
}
