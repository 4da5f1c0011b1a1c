use Rattle.std.proofs.Common.{◌≡◌, ◌+◌, ◌<◌, rules, true, false, Some, length, drop, refl, ap, sym, subst, ◌∙◌}
use Rattle.std.proofs.lemmas.Result.{on_ok_weaker}
use Rattle.pay_tree.specs.declared.owned.Step.{the_lemmas}
use Rattle.pay_tree.specs.Owned.{step_then}
use Rattle.pay_tree.specs.OwnedViews.{step_tree, steps_tree, test_tree}
use Rattle.pay_tree.proofs.OwnedLemmas.{step-if}
use Rattle.pay_code.specs.Filled.{IsFilled, AreFilledSteps}
use Rattle.pay_facts.specs.Reached.{steps_parts}
use Rattle.pay_facts.specs.SlotFacts.{after_steps, decide_by_slots}
use Rattle.pay_analysis.specs.Marks.{marks_at}
use Rattle.pay_analysis.specs.Walking.{AreAllRaws, AreDomains}
use Rattle.pay_analysis.proofs.SlotLemmas.{drop_next}
use Rattle.pay_analysis.proofs.BranchLemmas.{kept_count, put_out_count, step_domains}
use Rattle.pay_analysis.proofs.StepMarks.{on_ok_two, branch_marked, both_marked, back_again, taken_out, choice_facts, kept_raws, step_marked}
use Rattle.pay_analysis.proofs.walk_steps.+steps.Goals as goal

pub walk_other-join-requires : goal.walk_other-join-requires
walk_other-join-requires t c =
    ap length c.exchange.ensures.kept ∙ put_out_count c.args.facts.now.domains.items c.args.changes.now.items c.args.kept.domains.items c.requires.one_each

pub walk_step-walk_other-requires : goal.walk_step-walk_other-requires
walk_step-walk_other-requires t c = (
  search (rules, the_lemmas),
  let seen = ap step_tree c.in-If.is ∙ step-if _ _ _ _ in
      let filled = subst IsFilled seen c.requires.filled in
      let changes = c.in-If.changes.items in
      let before = c.walk_condition.new.facts.domains.items in
      let walked = rw (c.walk_condition.ensures.domains, c.in_ok-answer-in-If.ensures.known) at c.in_ok-kept-in-None.ensures in
      let first = ap (λ facts. facts.domains) walked.facts in
      let back = back_again changes _ _ _ _ _ _ _ _ _ filled.0 c.requires.domains refl refl walked.kept first refl in
      let taken = taken_out changes _ _ _ _ _ _ _ _ _ filled.0 refl refl walked.kept first refl in
      let kept_limits = kept_raws c.walk_first.new.facts.domains.items changes c.in_ok-kept-in-None.ensures.limits in (
        filled.1.1,
        (
          ap length c.in_ok-kept-in-None.ensures.kept ∙ kept_count before changes,
          (
            subst AreDomains (sym back) c.requires.domains,
            (subst AreAllRaws (sym back) c.requires.limits, subst AreAllRaws (sym taken) kept_limits),
          ),
        ),
      ),
)

pub walk_step-returns-in-Some-true-clause-marks : goal.walk_step-returns-in-Some-true-clause-marks
walk_step-returns-in-Some-true-clause-marks t c =
    let seen = ap step_tree c.in-If.is ∙ step-if _ _ _ _ in
    let answered : c.in_ok-answer-in-If.answer ≡ Some true = search rules in
    let walked = rw (c.walk_condition.ensures.domains, c.in_ok-answer-in-If.ensures.known) at c.walk_steps.ensures in
    let step = step_tree c.args.step.now in
    let test = test_tree c.in-If.test in
    let yes_part = steps_tree c.in-If.yes.items in
    let no_part = steps_tree c.in-If.no.items in
    let domains = c.args.facts.now.domains.items in
    let known = c.args.facts.now.known in
    let decision = decide_by_slots test domains known in
    on_ok_weaker c.walk_steps.result
    (branch_marked step test yes_part no_part c.in-If.changes.items domains known decision (Some true) (steps_parts yes_part domains decision.known)
    (marks_at c.args.marks.now.items) (marks_at c.walk_condition.new.marks.items) (marks_at c.walk_steps.new.marks.items)
    seen refl (sym c.in_ok-answer-in-If.ensures.answer ∙ answered) refl c.in_ok-answer-in-If.ensures.marks)
    walked.marks

pub walk_step-returns-in-Some-false-clause-marks : goal.walk_step-returns-in-Some-false-clause-marks
walk_step-returns-in-Some-false-clause-marks t c =
    let seen = ap step_tree c.in-If.is ∙ step-if _ _ _ _ in
    let answered : c.in_ok-answer-in-If.answer ≡ Some false = search rules in
    let walked = rw (c.walk_condition.ensures.domains, c.in_ok-answer-in-If.ensures.known) at c.walk_steps-in-Some-false.ensures in
    let step = step_tree c.args.step.now in
    let test = test_tree c.in-If.test in
    let yes_part = steps_tree c.in-If.yes.items in
    let no_part = steps_tree c.in-If.no.items in
    let domains = c.args.facts.now.domains.items in
    let known = c.args.facts.now.known in
    let decision = decide_by_slots test domains known in
    on_ok_weaker c.walk_steps-in-Some-false.result
    (branch_marked step test yes_part no_part c.in-If.changes.items domains known decision (Some false) (steps_parts no_part domains decision.known)
    (marks_at c.args.marks.now.items) (marks_at c.walk_condition.new.marks.items) (marks_at c.walk_steps-in-Some-false.new.marks.items)
    seen refl (sym c.in_ok-answer-in-If.ensures.answer ∙ answered) refl c.in_ok-answer-in-If.ensures.marks)
    walked.marks

pub walk_step-returns-in_ok-kept-in-None-clause-facts : goal.walk_step-returns-in_ok-kept-in-None-clause-facts
walk_step-returns-in_ok-kept-in-None-clause-facts t c =
    let seen = ap step_tree c.in-If.is ∙ step-if _ _ _ _ in
    let filled = subst IsFilled seen c.requires.filled in
    let changes = c.in-If.changes.items in
    let walked = rw (c.walk_condition.ensures.domains, c.in_ok-answer-in-If.ensures.known) at c.in_ok-kept-in-None.ensures in
    let first = ap (λ facts. facts.domains) walked.facts in
    let back = back_again changes _ _ _ _ _ _ _ _ _ filled.0 c.requires.domains refl refl walked.kept first refl in
    let taken = taken_out changes _ _ _ _ _ _ _ _ _ filled.0 refl refl walked.kept first refl in
    on_ok_two c.walk_other.result
    (λ joins knows. choice_facts _ _ _ _ _ _ _ _ _ _ _ _ _ _ _ _ seen filled.0 c.requires.domains refl (sym c.in_ok-answer-in-If.ensures.answer ∙ c.in-None.is)
    walked.facts back (walked.known) refl taken refl refl joins knows)
    c.walk_other.ensures.domains c.walk_other.ensures.known

pub walk_step-returns-in_ok-kept-in-None-clause-marks : goal.walk_step-returns-in_ok-kept-in-None-clause-marks
walk_step-returns-in_ok-kept-in-None-clause-marks t c =
    let seen = ap step_tree c.in-If.is ∙ step-if _ _ _ _ in
    let filled = subst IsFilled seen c.requires.filled in
    let changes = c.in-If.changes.items in
    let walked = rw (c.walk_condition.ensures.domains, c.in_ok-answer-in-If.ensures.known) at c.in_ok-kept-in-None.ensures in
    let first = ap (λ facts. facts.domains) walked.facts in
    let back = back_again changes _ _ _ _ _ _ _ _ _ filled.0 c.requires.domains refl refl walked.kept first refl in
    let step = step_tree c.args.step.now in
    let test = test_tree c.in-If.test in
    let yes_part = steps_tree c.in-If.yes.items in
    let no_part = steps_tree c.in-If.no.items in
    let domains = c.args.facts.now.domains.items in
    let known = c.args.facts.now.known in
    let decision = decide_by_slots test domains known in
    on_ok_weaker c.walk_other.result
    (both_marked step test yes_part no_part changes domains _ known _ decision
    (marks_at c.args.marks.now.items) (marks_at c.walk_condition.new.marks.items) (marks_at c.walk_first.new.marks.items)
    (marks_at c.walk_other.new.marks.items) seen refl (sym c.in_ok-answer-in-If.ensures.answer ∙ c.in-None.is) back
    (walked.known) c.in_ok-answer-in-If.ensures.marks walked.marks)
    c.walk_other.ensures.marks

pub walk_steps-loop-step-preserved : goal.walk_steps-loop-step-preserved
walk_steps-loop-step-preserved t c =
    let steps = c.args.steps.now.items in
    let i = c.loop-step.step-index in
    let before = c.loop-step.facts in
    let stepped = c.in_ok-walk_step.ensures.facts in
    let item = step_tree c.step-item.result in
    let below = subst (λ xs. i < length xs) c.deref-step-items.ensures.value c.loop-step-test.true in
    let is = rw c.deref-step-items.ensures.value at c.step-item.is in
    let rest = steps_tree (drop (i + 1) steps) in
    let opened : steps_tree (drop i steps) ≡ step_then item rest =
    ap steps_tree (drop_next steps i c.step-item.result below) ∙ sym (ap (λ s. step_then (step_tree s) rest) is) in
    record {
      facts = c.loop-step.invariant.facts ∙ ap (λ left. after_steps left before.domains.items before.known) opened
          ∙ sym (λ j. after_steps rest (stepped j).domains (stepped j).known);
      marks = step_marked _ (marks_at c.loop-step.marks.items) _ _ rest item before.domains.items before.known _ c.loop-step.invariant.marks opened stepped
          c.in_ok-walk_step.ensures.marks;
      filled = (subst AreFilledSteps opened c.loop-step.invariant.filled).1;
      domains = subst AreDomains (sym (ap (λ facts. facts.domains) stepped))
          (step_domains item before.domains.items before.known c.loop-step.invariant.domains);
      limits = c.in_ok-walk_step.ensures.limits;
    }
