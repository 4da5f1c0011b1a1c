-- Parts that are shown one after another, of which a front is shown where there is no memory.
use Rattle.std.proofs.Common.{◌≡◌, ℕ, ◌+◌, ◌<◌, List, [], ◌∷◌, ◌++◌, length, get_or, drop, refl, sym, ap, ◌∙◌, subst}
use Rattle.std.specs.Prelude.{Result, Ok, Err, OnOk, OnErr}
use Rattle.std.proofs.lemmas.List.{append_assoc, append-nil, at_drop_more}
use Rattle.pay_tree.specs.declared.owned.Step.{Step}
use Rattle.pay_tree.specs.Owned.{NumberTree, TestTree, StepTree}
use Rattle.pay_tree.specs.OwnedViews.{step_tree, steps_tree}
use Rattle.pay_visit.specs.Showing.{TreePart, a_number_at, a_test_at, a_step_of, parts_of_number, parts_of_test, parts_of_step, parts_of_steps}
use Rattle.pay_visit.specs.Showing.{ShowedFront}

-- which parts are seen
abbrev pub Seen : Type 1
Seen = List TreePart → Type 0

-- what is seen after is what was seen before, and these parts
abbrev pub Adds : Seen → Seen → List TreePart → Type 0
Adds old new parts = (before : List TreePart) → old before → new (before ++ parts)

-- a front of these parts is seen after what was seen before
abbrev pub AddsFront : Seen → Seen → List TreePart → Type 0
AddsFront old new parts = (before : List TreePart) → old before → ShowedFront new before parts

-- a number whose form is known: itself, and then the parts of its sides
pub number_parts : {number known : NumberTree} {rest : List TreePart} → number ≡ known → parts_of_number known ≡ a_number_at known ∷ rest
    → parts_of_number number ≡ (a_number_at number ∷ []) ++ rest
number_parts {number} {known} {rest} is parts = ap parts_of_number is ∙ parts ∙ ap (λ a. a_number_at a ∷ rest) (sym is)

pub test_parts : {test known : TestTree} {rest : List TreePart} → test ≡ known → parts_of_test known ≡ a_test_at known ∷ rest
    → parts_of_test test ≡ (a_test_at test ∷ []) ++ rest
test_parts {test} {known} {rest} is parts = ap parts_of_test is ∙ parts ∙ ap (λ a. a_test_at a ∷ rest) (sym is)

pub step_parts : {step known : StepTree} {rest : List TreePart} → step ≡ known → parts_of_step known ≡ a_step_of known ∷ rest
    → parts_of_step step ≡ (a_step_of step ∷ []) ++ rest
step_parts {step} {known} {rest} is parts = ap parts_of_step is ∙ parts ∙ ap (λ a. a_step_of a ∷ rest) (sym is)

pub adds_both : (first next last : Seen) (p q : List TreePart) → Adds first next p → Adds next last q → Adds first last (p ++ q)
adds_both first next last p q one other before seen = subst last (append_assoc before p q) (other (before ++ p) (one before seen))

front_after : (last : Seen) (before p q : List TreePart) → ShowedFront last (before ++ p) q → ShowedFront last before (p ++ q)
front_after last before p q h = record {
  front = p ++ h.front;
  rest = h.rest;
  is = ap (λ x. p ++ x) h.is ∙ sym (append_assoc p h.front h.rest);
  shown = subst last (append_assoc before p h.front) h.shown;
}

front_before : (last : Seen) (before p q : List TreePart) → ShowedFront last before p → ShowedFront last before (p ++ q)
front_before last before p q h = record {
  front = h.front;
  rest = h.rest ++ q;
  is = ap (λ x. x ++ q) h.is ∙ append_assoc h.front h.rest q;
  shown = h.shown;
}

on_ok : {T E : Type 0} (result : Result T E) {P Q : Type 0} → (P → Q) → OnOk result P → OnOk result Q
on_ok (Ok t) f h = f h
on_ok (Err e) f h = tt

on_err : {T E : Type 0} (result : Result T E) {P Q : Type 0} → (P → Q) → OnErr result P → OnErr result Q
on_err (Ok t) f h = tt
on_err (Err e) f h = f h

at_err : {T E : Type 0} (result : Result T E) {P : Type 0} → P → OnErr result P
at_err (Ok t) h = tt
at_err (Err e) h = h

-- the last call's parts after those that are shown
pub then_ok : {T E : Type 0} (result : Result T E) (first next last : Seen) (p q whole : List TreePart) → whole ≡ p ++ q → Adds first next p
    → ((before : List TreePart) → next before → OnOk result (last (before ++ q)))
    → (before : List TreePart) → first before → OnOk result (last (before ++ whole))
then_ok result first next last p q whole is one other before seen =
    on_ok result (λ h. subst (λ x. last (before ++ x)) (sym is) (subst last (append_assoc before p q) h)) (other (before ++ p) (one before seen))

-- a front of the last call's parts after those that are shown
pub then_fault : {T E : Type 0} (result : Result T E) (first next last : Seen) (p q whole : List TreePart) → whole ≡ p ++ q → Adds first next p
    → ((before : List TreePart) → next before → OnErr result (ShowedFront last before q))
    → (before : List TreePart) → first before → OnErr result (ShowedFront last before whole)
then_fault result first next last p q whole is one other before seen =
    on_err result (λ h. subst (λ x. ShowedFront last before x) (sym is) (front_after last before p q h)) (other (before ++ p) (one before seen))

-- a front of the first parts, where others follow
pub cut : (first last : Seen) (p q : List TreePart) → AddsFront first last p → AddsFront first last (p ++ q)
cut first last p q one before seen = front_before last before p q (one before seen)

-- a front of the later parts, after those that are shown
pub later : (first next last : Seen) (p q : List TreePart) → Adds first next p → AddsFront next last q → AddsFront first last (p ++ q)
later first next last p q one other before seen = front_after last before p q (other (before ++ p) (one before seen))

-- a front of some parts after those that are shown, at a way out
pub then_cut : {T E : Type 0} (result : Result T E) (first next last : Seen) (p q whole : List TreePart) → whole ≡ p ++ q → Adds first next p
    → AddsFront next last q
    → (before : List TreePart) → first before → OnErr result (ShowedFront last before whole)
then_cut result first next last p q whole is one other before seen =
    at_err result (subst (λ x. ShowedFront last before x) (sym is) (front_after last before p q (other (before ++ p) (one before seen))))

-- the parts that are shown and those that are left are the whole
pub record SeenTo (first now : Seen) (whole left : List TreePart) : Type 0 where
  pub done : List TreePart
  pub is : whole ≡ done ++ left
  pub shown : Adds first now done

pub seen_none : (now : Seen) (whole : List TreePart) → SeenTo now now whole whole
seen_none now whole = record { done = []; is = refl; shown = λ before seen. subst now (sym (append-nil before)) seen }

-- the parts of the steps that are left, from a step on
pub left_from : (steps : List Step) (i : ℕ) (step : Step) → i < length steps → step ≡ get_or steps i step
    → parts_of_steps (steps_tree (drop i steps)) ≡ parts_of_step (step_tree step) ++ parts_of_steps (steps_tree (drop (i + 1) steps))
left_from steps i step below is =
    at_drop_more (λ x. parts_of_steps (steps_tree x)) steps i step below
    ∙ ap (λ x. parts_of_step (step_tree x) ++ parts_of_steps (steps_tree (drop (i + 1) steps))) (sym is)

pub seen_more : (first now new : Seen) (whole left p rest : List TreePart) → SeenTo first now whole left → left ≡ p ++ rest → Adds now new p
    → SeenTo first new whole rest
seen_more first now new whole left p rest h is one = record {
  done = h.done ++ p;
  is = h.is ∙ ap (λ x. h.done ++ x) is ∙ sym (append_assoc h.done p rest);
  shown = adds_both first now new h.done p h.shown one;
}

pub seen_all : (first now : Seen) (whole : List TreePart) → SeenTo first now whole [] → Adds first now whole
seen_all first now whole h before seen = subst (λ x. now (before ++ x)) (sym (h.is ∙ append-nil h.done)) (h.shown before seen)

pub seen_cut : {T E : Type 0} (result : Result T E) (first now last : Seen) (whole left p rest : List TreePart) → SeenTo first now whole left
    → left ≡ p ++ rest → AddsFront now last p
    → (before : List TreePart) → first before → OnErr result (ShowedFront last before whole)
seen_cut result first now last whole left p rest h is one =
    then_cut result first now last h.done (p ++ rest) whole (h.is ∙ ap (λ x. h.done ++ x) is) h.shown (cut now last p rest one)
