-- Each part that is reached has its own mark: by how often each place is there.
use Rattle.std.proofs.Common.{◌≡◌, ℕ, ◌+◌, ◌≤◌, Bool, true, false, nat_eq, ◌||◌, List, [], ◌∷◌, ◌++◌, Option, Some, None, if◌then◌else◌}
use Rattle.std.proofs.Common.{inl, inr, refl, ap, sym, subst, ◌∙◌, arith}
use Rattle.std.proofs.lemmas.Bool.{cases_Bool, false≢true}
use Rattle.std.proofs.lemmas.Bool.Decides.{nat_tests}
use Rattle.pay_tree.specs.Owned.{NumberTree, literal_at, slot_at, spot_at, unary_at, binary_at, number_places}
use Rattle.pay_tree.specs.Owned.{TestTree, truth_at, compare_at, not_at, and_at, or_at, test_places}
use Rattle.pay_tree.specs.Owned.{StepTree, assigning, paying, choosing, grouping, step_places, StepsTree, no_steps, step_then, steps_places}
use Rattle.pay_code.specs.Filled.{is_among, IsEachOnce}
use Rattle.pay_facts.specs.SlotFacts.{SlotDomains, range_by_slots, decide_by_slots, after_step}
use Rattle.pay_facts.specs.Reached.{Part, own_number, own_test, unless_false, unless_true, number_parts, test_parts, branch_parts, step_parts, steps_parts}
use Rattle.pay_analysis.specs.declared.marks.Mark.{Mark}
use Rattle.pay_analysis.specs.Marks.{put_mark, mark_of, marked, no_marks}
use Rattle.pay_analysis.specs.MarkLaws.{IsPartOf, MarksAreOwn}

-- how often a place is among places, and among those of parts
one : ℕ → ℕ → ℕ
one id place = if nat_eq id place then 1 else 0

one-here : (id place : ℕ) → nat_eq id place ≡ true → one id place ≡ 1
unfolding one
one-here id place t = ap (λ b. if b then 1 else 0) t

one-elsewhere : (id place : ℕ) → nat_eq id place ≡ false → one id place ≡ 0
unfolding one
one-elsewhere id place f = ap (λ b. if b then 1 else 0) f

abbrev times : ℕ → List ℕ → ℕ
times id [] = 0
times id (place ∷ rest) = one id place + times id rest

abbrev visits : ℕ → List Part → ℕ
visits id [] = 0
visits id (part ∷ rest) = one id part.id + visits id rest

times-append : (id : ℕ) (a b : List ℕ) → times id (a ++ b) ≡ times id a + times id b
times-append id [] b = omega arith
times-append id (place ∷ a) b = omega (arith, times-append id a b)

visits-append : (id : ℕ) (a b : List Part) → visits id (a ++ b) ≡ visits id a + visits id b
visits-append id [] b = omega arith
visits-append id (part ∷ a) b = omega (arith, visits-append id a b)

-- the parts of a number are at its places
number-visits : (id : ℕ) (n : NumberTree) (domains : SlotDomains) (known : Bool) → visits id (number_parts n domains known) ≤ times id (number_places n)
number-visits id (literal_at place raw) domains known = omega arith
number-visits id (slot_at place slot) domains known = omega arith
number-visits id (spot_at place) domains known = omega arith
number-visits id (unary_at place op side) domains known =
    let own = own_number (unary_at place op side) domains known place in
    omega (arith, number-visits id side domains known, visits-append id (number_parts side domains known) own)
number-visits id (binary_at place op left right) domains known =
    let between = (range_by_slots left domains known).known in
    let own = own_number (binary_at place op left right) domains known place in
    omega (
      arith,
      number-visits id left domains known,
      number-visits id right domains between,
      times-append id (number_places left) (number_places right),
      visits-append id (number_parts left domains known) (number_parts right domains between ++ own),
      visits-append id (number_parts right domains between) own,
    )

-- fewer parts where a side is skipped
unless-false : (id : ℕ) (answer : Option Bool) (parts : List Part) → visits id (unless_false answer parts) ≤ visits id parts
unless-false id None parts = omega arith
unless-false id (Some true) parts = omega arith
unless-false id (Some false) parts = omega arith

unless-true : (id : ℕ) (answer : Option Bool) (parts : List Part) → visits id (unless_true answer parts) ≤ visits id parts
unless-true id None parts = omega arith
unless-true id (Some true) parts = omega arith
unless-true id (Some false) parts = omega arith

-- the parts of a test are at its places
test-visits : (id : ℕ) (t : TestTree) (domains : SlotDomains) (known : Bool) → visits id (test_parts t domains known) ≤ times id (test_places t)
test-visits id (truth_at place told answer) domains known = omega arith
test-visits id (compare_at place told op left right smooth) domains known =
    let between = (range_by_slots left domains known).known in
    let own = own_test (compare_at place told op left right smooth) domains known place in
    omega (
      arith,
      number-visits id left domains known,
      number-visits id right domains between,
      times-append id (number_places left) (number_places right),
      visits-append id (number_parts left domains known) (number_parts right domains between ++ own),
      visits-append id (number_parts right domains between) own,
    )
test-visits id (not_at place told side) domains known =
    omega (arith, test-visits id side domains known, visits-append id (test_parts side domains known) (own_test (not_at place told side) domains known place))
test-visits id (and_at place told left right) domains known =
    let between = decide_by_slots left domains known in
    let own = own_test (and_at place told left right) domains known place in
    let later = unless_false between.answer (test_parts right domains between.known) in
    omega (
      arith,
      test-visits id left domains known,
      test-visits id right domains between.known,
      times-append id (test_places left) (test_places right),
      unless-false id between.answer (test_parts right domains between.known),
      visits-append id (test_parts left domains known) (later ++ own),
      visits-append id later own,
    )
test-visits id (or_at place told left right) domains known =
    let between = decide_by_slots left domains known in
    let own = own_test (or_at place told left right) domains known place in
    let later = unless_true between.answer (test_parts right domains between.known) in
    omega (
      arith,
      test-visits id left domains known,
      test-visits id right domains between.known,
      times-append id (test_places left) (test_places right),
      unless-true id between.answer (test_parts right domains between.known),
      visits-append id (test_parts left domains known) (later ++ own),
      visits-append id later own,
    )

-- the parts of the branches that are reached are some of those of both
branch-visits : (id : ℕ) (answer : Option Bool) (a b : List Part) → visits id (branch_parts answer a b) ≤ visits id a + visits id b
branch-visits id None a b = omega (arith, visits-append id a b)
branch-visits id (Some true) a b = omega arith
branch-visits id (Some false) a b = omega arith

-- the parts of steps are at their places
mutual
  step-visits : (id : ℕ) (s : StepTree) (domains : SlotDomains) (known : Bool) → visits id (step_parts s domains known) ≤ times id (step_places s)
  step-visits id (assigning slot value) domains known = number-visits id value domains known
  step-visits id (paying leg amount) domains known = number-visits id amount domains known
  step-visits id (choosing test yes_part no_part changes) domains known =
      let between = decide_by_slots test domains known in
      let a = steps_parts yes_part domains between.known in
      let b = steps_parts no_part domains between.known in
      omega (
        arith,
        test-visits id test domains known,
        steps-visits id yes_part domains between.known,
        steps-visits id no_part domains between.known,
        branch-visits id between.answer a b,
        visits-append id (test_parts test domains known) (branch_parts between.answer a b),
        times-append id (test_places test) (steps_places yes_part ++ steps_places no_part),
        times-append id (steps_places yes_part) (steps_places no_part),
      )
  step-visits id (grouping steps) domains known = steps-visits id steps domains known

  steps-visits : (id : ℕ) (steps : StepsTree) (domains : SlotDomains) (known : Bool)
      → visits id (steps_parts steps domains known) ≤ times id (steps_places steps)
  steps-visits id no_steps domains known = omega arith
  steps-visits id (step_then step rest) domains known =
      let after = after_step step domains known in
      omega (
        arith,
        step-visits id step domains known,
        steps-visits id rest after.domains after.known,
        visits-append id (step_parts step domains known) (steps_parts rest after.domains after.known),
        times-append id (step_places step) (steps_places rest),
      )

-- a place that is not among others is there no time
out-times : (id : ℕ) (places : List ℕ) → is_among id places ≡ false → times id places ≡ 0
out-times id [] h = refl
out-times id (place ∷ rest) h = elim (cases_Bool (nat_eq id place)) [
  | inl t ↦ absurd (false≢true (sym h ∙ ap (λ b. b || is_among id rest) t))
  | inr f ↦
      let later = out-times id rest (sym (ap (λ b. b || is_among id rest) f) ∙ h) in
      let first = one-elsewhere id place f in omega (arith, later, first)
]

-- where no place is there twice, each is there once at most
once-times : (id : ℕ) (places : List ℕ) → IsEachOnce places → times id places ≤ 1
once-times id [] h = omega arith
once-times id (place ∷ rest) h = elim (cases_Bool (nat_eq id place)) [
  | inl t ↦
      let same : id ≡ place = grind (arith, nat_tests) in
      let later : times id rest ≡ 0 = subst (λ p. times p rest ≡ 0) (sym same) (out-times place rest h.0) in
      let first = one-here id place t in omega (arith, later, first)
  | inr f ↦
      let later = once-times id rest h.1 in
      let first = one-elsewhere id place f in omega (arith, later, first)
]

-- parts at other places leave a mark as it is
left-alone : (m : ℕ → Mark) (parts : List Part) (id : ℕ) → visits id parts ≡ 0 → marked m parts id ≡ m id
left-alone m [] id h = refl
left-alone m (part ∷ rest) id h = elim (cases_Bool (nat_eq id part.id)) [
  | inl t ↦ let first = one-here id part.id t in absurd (omega (arith, h, first))
  | inr f ↦
      left-alone (put_mark m part.id (mark_of part.found)) rest id (omega (arith, h, one-elsewhere id part.id f))
      ∙ ap (λ b. if b then mark_of part.found else m id) f
]

-- a part whose place is there once has its own mark
own-mark : (m : ℕ → Mark) (parts : List Part) (part : Part) → visits part.id parts ≤ 1 → IsPartOf part parts
    → marked m parts part.id ≡ mark_of part.found
own-mark m [] part h e = absurd e
own-mark m (first ∷ rest) part h (inl same) =
    let here : nat_eq part.id first.id ≡ true = ap (λ p. nat_eq part.id p.id) (sym same) ∙ itself part.id in
    let counted = one-here part.id first.id here in
    left-alone (put_mark m first.id (mark_of first.found)) rest part.id (omega (arith, h, counted))
    ∙ ap (λ b. if b then mark_of first.found else m part.id) here ∙ ap (λ p. mark_of p.found) (sym same)
  where
    itself : (n : ℕ) → nat_eq n n ≡ true
    itself n = grind (arith, nat_tests)
own-mark m (first ∷ rest) part h (inr e) =
    own-mark (put_mark m first.id (mark_of first.found)) rest part (omega (arith, h)) e

-- no part is at a place that none of them has
no-visits : (id : ℕ) (parts : List Part) → ((part : Part) → IsPartOf part parts → ¬ (part.id ≡ id)) → visits id parts ≡ 0
no-visits id [] h = refl
no-visits id (part ∷ rest) h = elim (cases_Bool (nat_eq id part.id)) [
  | inl t ↦ let same : part.id ≡ id = grind (arith, nat_tests) in absurd (h part (inl refl) same)
  | inr f ↦
      let later = no-visits id rest (λ p e. h p (inr e)) in
      let first = one-elsewhere id part.id f in omega (arith, later, first)
]

pub marks-own : MarksAreOwn
marks-own = record {
  own = λ steps domains known part once e.
      own-mark no_marks (steps_parts steps domains known) part
      (let few = once-times part.id (steps_places steps) once in omega (arith, few, steps-visits part.id steps domains known)) e;
  others = λ steps domains known id h. left-alone no_marks (steps_parts steps domains known) id (no-visits id (steps_parts steps domains known) h);
}
