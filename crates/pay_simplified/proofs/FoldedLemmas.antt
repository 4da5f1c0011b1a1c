-- Events whose constants are folded have the simplified script of the events.
use Rattle.std.proofs.Common.{◌≡◌, ℕ, ℤ, Bool, false, List, [], ◌∷◌, map, Option, Some, None, Result, Ok, Err, refl, sym, ap, ◌∙◌, pos, neg_ℤ}
use Rattle.std.proofs.Common.{unsigned_abs, option_map}
use Rattle.std.specs.Prelude.{unwrap_or}
use Rattle.pay_meaning.specs.declared.fault.FaultKind.{FaultKind}
use Rattle.pay_meaning.specs.Language.{Number, literal, negative, absolute, binary, Comparison, Note, Condition, compare, settled, Event}
use Rattle.pay_meaning.specs.Meaning.{calculated, compared}
use Rattle.pay_facts.specs.Decisions.{Decision}
use Rattle.pay_facts.specs.After.{after_event}
use Rattle.pay_facts.specs.FoldLaws.{ConstantsFollow}
use Rattle.pay_facts.proofs.FoldLemmas.{folded-ranges}
use Rattle.pay_tree.specs.declared.tree.Binary.{Binary}
use Rattle.pay_tree.specs.declared.tree.Unary.{Unary}
use Rattle.pay_tree.specs.declared.tree.Unary.TheVariants.{Neg, Abs}
use Rattle.pay_tree.specs.Views.{operator, comparison, signed}
use Rattle.pay_tree.specs.Owned.{NumberTree, literal_at, slot_at, spot_at, unary_at, binary_at, TestTree, truth_at, compare_at, not_at, and_at, or_at}
use Rattle.pay_tree.specs.Owned.{StepTree, assigning, paying, choosing, grouping, StepsTree, no_steps, step_then, name_at, surely, note_of}
use Rattle.pay_tree.specs.Owned.{spelled_number, spelled_test, spelled_step, spelled_steps, spelled_event}
use Rattle.pay_visit.specs.Rewriting.{rewritten_number, rewritten_test, rewritten_step, rewritten_steps}
use Rattle.pay_passes.specs.Folding.{folding, answer_of}
use Rattle.pay_simplified.specs.Simplified.{simple_number, as_decided, simple_event, simplified}
use Rattle.pay_simplified.specs.Pruning.{folded_event}
use Rattle.pay_simplified.specs.SimpleLaws.{FoldingKeepsSimplified}
use Rattle.pay_simplified.proofs.SameLemmas.{AreSameNumbers, AreSameConditions, AreSameStatements, AreSameBodies, same_literal, same_variable, same_spot}
use Rattle.pay_simplified.proofs.SameLemmas.{same_negative, same_absolute, same_binary, same_compare, same_negation, same_conjunction, same_disjunction}
use Rattle.pay_simplified.proofs.SameLemmas.{same_settled, same_sure, same_assign, same_pay, same_choose, same_group, same_done, same_next}
use Rattle.pay_simplified.proofs.TermLemmas.{same_constant}

-- what is the same at each step is the same
numbers_onward : (event other : Event) (a b c : Number) → AreSameNumbers event event a b → AreSameNumbers event other b c → AreSameNumbers event other a c
numbers_onward event other a b c first second = record {
  ranges = λ domains known. first.ranges domains known ∙ second.ranges domains known;
  simple = λ domains known. first.simple domains known ∙ second.simple domains known;
}

conditions_onward : (event other : Event) (a b c : Condition) → AreSameConditions event event a b → AreSameConditions event other b c
    → AreSameConditions event other a c
conditions_onward event other a b c first second = record {
  decisions = λ domains known. first.decisions domains known ∙ second.decisions domains known;
  simple = λ domains known. first.simple domains known ∙ second.simple domains known;
}

number_itself : (event : Event) (a : Number) → AreSameNumbers event event a a
number_itself event a = record { ranges = λ domains known. refl; simple = λ domains known. refl }

condition_itself : (event : Event) (a : Condition) → AreSameConditions event event a a
condition_itself event a = record { decisions = λ domains known. refl; simple = λ domains known. refl }

module _ (names : List (List ℕ)) (event : Event) where
  constant : ConstantsFollow event
  constant = (folded-ranges event).1

  -- a sign or an operator of literals that doesn't fault
  negative-same : (raw : ℤ) → AreSameNumbers event event (literal (neg_ℤ raw)) (negative (literal raw))
  negative-same raw = record {
    ranges = λ domains known. sym (constant.of_negative raw domains known);
    simple = λ domains known.
        same_constant event event (negative (literal raw)) (negative (simple_number (literal raw) domains known event)) (neg_ℤ raw) domains known
        (constant.of_negative raw domains known);
  }

  absolute-same : (raw : ℤ) → AreSameNumbers event event (literal (pos (unsigned_abs raw))) (absolute (literal raw))
  absolute-same raw = record {
    ranges = λ domains known. sym (constant.of_absolute raw domains known);
    simple = λ domains known.
        same_constant event event (absolute (literal raw)) (absolute (simple_number (literal raw) domains known event)) (pos (unsigned_abs raw)) domains known
        (constant.of_absolute raw domains known);
  }

  answer-same : (id left right : ℕ) (op : Binary) (a b : ℤ) (r : Result ℤ FaultKind) → calculated (operator op) a b ≡ r
      → AreSameNumbers event event
      (spelled_number names (unwrap_or (option_map (literal_at id) (answer_of r)) (binary_at id op (literal_at left a) (literal_at right b))))
      (binary (operator op) (literal a) (literal b))
  answer-same id left right op a b (Ok raw) is = record {
    ranges = λ domains known. sym (constant.of_binary (operator op) a b raw is domains known);
    simple = λ domains known.
        same_constant event event (binary (operator op) (literal a) (literal b))
        (binary (operator op) (simple_number (literal a) domains known event) (simple_number (literal b) domains known event)) raw domains known
        (constant.of_binary (operator op) a b raw is domains known);
  }
  answer-same id left right op a b (Err fault) is = number_itself event (binary (operator op) (literal a) (literal b))

  -- what becomes of a number
  number-kept : (a : NumberTree) → AreSameNumbers event event (spelled_number names (folding.number a)) (spelled_number names a)
  number-kept (literal_at id raw) = number_itself event (literal raw)
  number-kept (slot_at id slot) = number_itself event _
  number-kept (spot_at id) = number_itself event _
  number-kept (unary_at id Neg (literal_at place raw)) = negative-same raw
  number-kept (unary_at id Abs (literal_at place raw)) = absolute-same raw
  number-kept (unary_at id op side) = number_itself event (spelled_number names (unary_at id op side))
  number-kept (binary_at id op (literal_at left a) (literal_at right b)) = answer-same id left right op a b _ refl
  number-kept (binary_at id op left right) = number_itself event (spelled_number names (binary_at id op left right))

  -- a comparison of two literals
  compared-same : (op : Comparison) (a b : ℤ) (note : Note)
      → AreSameConditions event event (settled (compared op a b)) (compare op (literal a) (literal b) note)
  compared-same op a b note = record {
    decisions = λ domains known. sym (constant.of_compare op a b note domains known);
    simple = λ domains known.
        let made : Condition = compare op (simple_number (literal a) domains known event) (simple_number (literal b) domains known event) note in
        sym (ap (λ (d : Decision). as_decided d made) (constant.of_compare op a b note domains known));
  }

  surely-same : (other : Event) (told : Option Bool) (a b : Condition) → AreSameConditions event other a b
      → AreSameConditions event other (surely told a) (surely told b)
  surely-same other None a b same = same
  surely-same other (Some answer) a b same = same_sure event other answer a b same

  -- what becomes of a test
  test-kept : (a : TestTree) → AreSameConditions event event (spelled_test names (folding.test a)) (spelled_test names a)
  test-kept (truth_at id told answer) = condition_itself event (surely told (settled answer))
  test-kept (compare_at id told op (literal_at left a) (literal_at right b) smooth) =
      surely-same event told (settled (compared (comparison op) a b)) (compare (comparison op) (literal a) (literal b) (note_of smooth))
      (compared-same (comparison op) a b (note_of smooth))
  test-kept (compare_at id told op left right smooth) = condition_itself event (spelled_test names (compare_at id told op left right smooth))
  test-kept (not_at id told side) = condition_itself event (spelled_test names (not_at id told side))
  test-kept (and_at id told left right) = condition_itself event (spelled_test names (and_at id told left right))
  test-kept (or_at id told left right) = condition_itself event (spelled_test names (or_at id told left right))

module _ (names legs : List (List ℕ)) (event other : Event) where
  signed-same : (op : Unary) (a b : Number) → AreSameNumbers event other a b → AreSameNumbers event other (signed op a) (signed op b)
  signed-same Neg a b same = same_negative event other a b same
  signed-same Abs a b same = same_absolute event other a b same

  number-same : (a : NumberTree) → AreSameNumbers event other (spelled_number names (rewritten_number folding a)) (spelled_number names a)
  number-same (literal_at id raw) = same_literal event other raw
  number-same (slot_at id slot) = same_variable event other (name_at names slot)
  number-same (spot_at id) = same_spot event other
  number-same (unary_at id op side) =
      let new : NumberTree = rewritten_number folding side in
      numbers_onward event other _ _ _ (number-kept names event (unary_at id op new))
      (signed-same op (spelled_number names new) (spelled_number names side) (number-same side))
  number-same (binary_at id op left right) =
      let first : NumberTree = rewritten_number folding left in
      let second : NumberTree = rewritten_number folding right in
      numbers_onward event other _ _ _ (number-kept names event (binary_at id op first second))
      (same_binary event other (operator op) (spelled_number names first) (spelled_number names left) (spelled_number names second)
      (spelled_number names right) (number-same left) (number-same right))

  test-same : (a : TestTree) → AreSameConditions event other (spelled_test names (rewritten_test folding a)) (spelled_test names a)
  test-same (truth_at id told answer) = surely-same names event other told (settled answer) (settled answer) (same_settled event other answer)
  test-same (compare_at id told op left right smooth) =
      let first : NumberTree = rewritten_number folding left in
      let second : NumberTree = rewritten_number folding right in
      conditions_onward event other _ _ _ (test-kept names event (compare_at id told op first second smooth))
      (surely-same names event other told _ _
      (same_compare event other (comparison op) (spelled_number names first) (spelled_number names left) (spelled_number names second)
      (spelled_number names right) (note_of smooth) (number-same left) (number-same right)))
  test-same (not_at id told side) = surely-same names event other told _ _ (same_negation event other _ _ (test-same side))
  test-same (and_at id told left right) =
      surely-same names event other told _ _ (same_conjunction event other _ _ _ _ (test-same left) (test-same right))
  test-same (or_at id told left right) =
      surely-same names event other told _ _ (same_disjunction event other _ _ _ _ (test-same left) (test-same right))

  mutual
    step-same : (a : StepTree) → AreSameStatements event other (spelled_step names legs (rewritten_step folding a)) (spelled_step names legs a)
    step-same (assigning slot value) = same_assign event other (name_at names slot) _ _ (number-same value)
    step-same (paying leg amount) = same_pay event other (name_at legs leg) _ _ (number-same amount)
    step-same (choosing test yes_part no_part changes) =
        same_choose event other _ _ _ _ _ _ (test-same test) (steps-same yes_part) (steps-same no_part)
    step-same (grouping steps) = same_group event other _ _ (steps-same steps)

    steps-same : (a : StepsTree) → AreSameBodies event other (spelled_steps names legs (rewritten_steps folding a)) (spelled_steps names legs a)
    steps-same no_steps = same_done event other
    steps-same (step_then step rest) = same_next event other _ _ _ _ (step-same step) (steps-same rest)

pub folding_keeps_simplified : FoldingKeepsSimplified
folding_keeps_simplified names legs [] domains = refl
folding_keeps_simplified names legs (tree ∷ rest) domains =
    let old : Event = spelled_event names legs tree in
    let new : Event = spelled_event names legs (folded_event tree) in
    let same : AreSameBodies new old new.body old.body = steps-same names legs new old tree.steps in
    let here = same.simple domains false in
    let after_same : after_event new domains ≡ after_event old domains = ap (λ facts. facts.domains) (same.facts domains false) in
    ap (λ left. simple_event new domains ∷ simplified (map (spelled_event names legs) (map folded_event rest)) left) after_same
    ∙ (λ i. record { date = old.date; period = old.period; days = old.days; body = here i }
    ∷ folding_keeps_simplified names legs rest (after_event old domains) i)
