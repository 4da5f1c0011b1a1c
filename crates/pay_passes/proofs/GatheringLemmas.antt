-- The variables that parts assign, and ordered sets of them.
use Rattle.std.proofs.Common.{◌≡◌, ℕ, nat_eq, Bool, true, false, cond, ◌||◌, List, [], ◌∷◌, ◌++◌, refl, sym, ap, ◌∙◌, append_assoc, append-nil, arith}
use Rattle.std.proofs.Common.{inl, inr}
use Rattle.std.proofs.lemmas.Bool.{cases_Bool, eqb-true, eqb-false, eq-eqb, ne_eqb}
use Rattle.std.specs.Ordering.{nat_cmp}
use Rattle.std.specs.Cmp.{unsigned_tied}
use Rattle.std.specs.List.{list_any}
use Rattle.std.specs.List.Sorted.{IsStrictlySortedBy}
use Rattle.std.specs.BTreeMap.{is_at}
use Rattle.std.proofs.lemmas.Map.Keys.{sorted_tail, below_from_sorted}
use Rattle.pay_tree.specs.Owned.{NumberTree, literal_at, slot_at, spot_at, unary_at, binary_at, TestTree, truth_at, compare_at, not_at, and_at}
use Rattle.pay_tree.specs.Owned.{or_at, StepTree, assigning, paying, choosing, grouping, StepsTree, no_steps, step_then}
use Rattle.pay_visit.specs.Showing.{TreePart, a_step_of, parts_of_number, parts_of_test, parts_of_step, parts_of_steps}
use Rattle.pay_tree.specs.Assigned.{assigned_by, assigned_in}
use Rattle.pay_passes.specs.Changes.{rising}
use Rattle.pay_passes.specs.PassLaws.{AreLess}
use Rattle.pay_passes.specs.Gathering.{assigned_by_part, assigned_by_parts, has, HaveSame}
use Rattle.pay_passes.proofs.RisingLemmas.{rising_less, has_rising, has_both, one_rising}

-- two lists of parts assign what each of them assigns
pub assigned_by_both : (front back : List TreePart) → assigned_by_parts (front ++ back) ≡ assigned_by_parts front ++ assigned_by_parts back
assigned_by_both [] back = refl
assigned_by_both (part ∷ rest) back =
    ap (λ slots. assigned_by_part part ++ slots) (assigned_by_both rest back)
    ∙ sym (append_assoc (assigned_by_part part) (assigned_by_parts rest) (assigned_by_parts back))

both_nothing : (front back : List TreePart) → assigned_by_parts front ≡ [] → assigned_by_parts back ≡ [] → assigned_by_parts (front ++ back) ≡ []
both_nothing front back h k = assigned_by_both front back ∙ ap (λ slots. slots ++ assigned_by_parts back) h ∙ k

-- a number assigns nothing
number_assigns : (number : NumberTree) → assigned_by_parts (parts_of_number number) ≡ []
number_assigns (literal_at id raw) = refl
number_assigns (slot_at id slot) = refl
number_assigns (spot_at id) = refl
number_assigns (unary_at id op side) = number_assigns side
number_assigns (binary_at id op left right) = both_nothing (parts_of_number left) (parts_of_number right) (number_assigns left) (number_assigns right)

-- a test assigns nothing
test_assigns : (test : TestTree) → assigned_by_parts (parts_of_test test) ≡ []
test_assigns (truth_at id told answer) = refl
test_assigns (compare_at id told op left right smooth) =
    both_nothing (parts_of_number left) (parts_of_number right) (number_assigns left) (number_assigns right)
test_assigns (not_at id told side) = test_assigns side
test_assigns (and_at id told left right) = both_nothing (parts_of_test left) (parts_of_test right) (test_assigns left) (test_assigns right)
test_assigns (or_at id told left right) = both_nothing (parts_of_test left) (parts_of_test right) (test_assigns left) (test_assigns right)

mutual
  step_assigns : (step : StepTree) → assigned_by_parts (parts_of_step step) ≡ assigned_by step
  step_assigns (assigning slot value) = ap (λ slots. slot ∷ slots) (number_assigns value)
  step_assigns (paying leg amount) = number_assigns amount
  step_assigns (choosing test yes_part no_part changes) =
      assigned_by_both (parts_of_test test) (parts_of_steps yes_part ++ parts_of_steps no_part)
      ∙ ap (λ slots. slots ++ assigned_by_parts (parts_of_steps yes_part ++ parts_of_steps no_part)) (test_assigns test)
      ∙ assigned_by_both (parts_of_steps yes_part) (parts_of_steps no_part)
      ∙ ap (λ slots. slots ++ assigned_by_parts (parts_of_steps no_part)) (steps_assign yes_part)
      ∙ ap (λ slots. assigned_in yes_part ++ slots) (steps_assign no_part)
  step_assigns (grouping steps) = steps_assign steps

  -- the parts of steps assign what the steps assign
  pub steps_assign : (steps : StepsTree) → assigned_by_parts (parts_of_steps steps) ≡ assigned_in steps
  steps_assign no_steps = refl
  steps_assign (step_then step rest) =
      assigned_by_both (parts_of_step step) (parts_of_steps rest)
      ∙ ap (λ slots. slots ++ assigned_by_parts (parts_of_steps rest)) (step_assigns step)
      ∙ ap (λ slots. assigned_by step ++ slots) (steps_assign rest)

-- two lists with the same numbers have one rising list
pub same_rising : (slots others : List ℕ) → HaveSame slots others → rising slots ≡ rising others
same_rising slots others h =
    one_rising (rising slots) (rising others) (rising_less slots) (rising_less others)
    (λ slot. has_rising slots slot ∙ h slot ∙ sym (has_rising others slot))

-- a list that rises is its rising list
pub rising_itself : (slots : List ℕ) → AreLess slots → slots ≡ rising slots
rising_itself slots h = one_rising slots (rising slots) h (rising_less slots) (λ slot. sym (has_rising slots slot))

-- a part that assigns nothing is shown
pub shown_nothing : (keys : List ℕ) (before : List TreePart) (part : TreePart) → assigned_by_part part ≡ []
    → HaveSame keys (assigned_by_parts before) → HaveSame keys (assigned_by_parts (before ++ (part ∷ [])))
shown_nothing keys before part h same slot =
    same slot ∙ ap (λ slots. has slots slot)
    (sym (assigned_by_both before (part ∷ []) ∙ ap (λ slots. assigned_by_parts before ++ (slots ++ [])) h ∙ append-nil (assigned_by_parts before)))

-- a number that is put among others is in neither order
or_turned : (b c : Bool) → (b || (c || false)) ≡ (c || b)
or_turned true true = refl
or_turned true false = refl
or_turned false true = refl
or_turned false false = refl

-- an assignment is shown, and its slot is added
pub shown_assign : (old new : List ℕ) (before : List TreePart) (slot : ℕ) (value : NumberTree)
    → ((other : ℕ) → has new other ≡ (nat_eq slot other || has old other)) → HaveSame old (assigned_by_parts before)
    → HaveSame new (assigned_by_parts (before ++ (a_step_of (assigning slot value) ∷ [])))
shown_assign old new before slot value added same other =
    added other ∙ ap (λ b. nat_eq slot other || b) (same other)
    ∙ sym (or_turned (has (assigned_by_parts before) other) (nat_eq slot other))
    ∙ sym (ap (λ slots. has slots other) (assigned_by_both before (a_step_of (assigning slot value) ∷ []))
    ∙ has_both (assigned_by_parts before) (slot ∷ []) other)

found_there : (slot first : ℕ) → is_at (nat_cmp slot) first ≡ nat_eq first slot
found_there slot first = unsigned_tied slot first ∙ elim (cases_Bool (nat_eq slot first)) [
  | inl hit ↦ hit ∙ sym (eq-eqb first slot (sym (eqb-true slot first hit)))
  | inr miss ↦ miss ∙ sym (ne_eqb first slot (λ same. eqb-false slot first miss (sym same)))
]

-- what a set has by the order of its keys is what it has
pub has_keys : (keys : List ℕ) (slot : ℕ) → list_any (is_at (nat_cmp slot)) keys ≡ has keys slot
has_keys [] slot = refl
has_keys (first ∷ rest) slot =
    ap (λ b. b || list_any (is_at (nat_cmp slot)) rest) (found_there slot first) ∙ ap (λ b. nat_eq first slot || b) (has_keys rest slot)

-- keys in order rise
pub keys_less : (keys : List ℕ) → IsStrictlySortedBy nat_cmp keys → AreLess keys
keys_less [] h = tt
keys_less (first ∷ []) h = tt
keys_less (first ∷ second ∷ rest) h = (below_from_sorted (first ∷ second ∷ rest) 0 1 0 h (omega arith) (omega arith), keys_less (second ∷ rest) (sorted_tail nat_cmp first (second ∷ rest) h))

either : (b c : Bool) → cond b true c ≡ (b || c)
either true c = refl
either false c = refl

-- keys with one more number have that one too
pub one_more : (old new : List ℕ) (slot : ℕ)
    → ((q : ℕ) → list_any (is_at (nat_cmp q)) new ≡ cond (is_at (nat_cmp slot) q) true (list_any (is_at (nat_cmp q)) old))
    → (other : ℕ) → has new other ≡ (nat_eq slot other || has old other)
one_more old new slot h other =
    sym (has_keys new other) ∙ h other ∙ either (is_at (nat_cmp slot) other) (list_any (is_at (nat_cmp other)) old)
    ∙ ap (λ b. b || list_any (is_at (nat_cmp other)) old) (unsigned_tied slot other) ∙ ap (λ b. nat_eq slot other || b) (has_keys old other)

-- keys in order are their rising list
pub keys_rising : (keys : List ℕ) → IsStrictlySortedBy nat_cmp keys → keys ≡ rising keys
keys_rising keys h = rising_itself keys (keys_less keys h)

-- a set that has what two lists of parts assign
pub shown_both : (keys : List ℕ) (yes_part no_part : StepsTree)
    → HaveSame keys (assigned_by_parts (parts_of_steps yes_part ++ parts_of_steps no_part)) → rising keys ≡ rising (assigned_in yes_part ++ assigned_in no_part)
shown_both keys yes_part no_part same =
    same_rising keys (assigned_by_parts (parts_of_steps yes_part ++ parts_of_steps no_part)) same
    ∙ ap rising (assigned_by_both (parts_of_steps yes_part) (parts_of_steps no_part)
    ∙ ap (λ slots. slots ++ assigned_by_parts (parts_of_steps no_part)) (steps_assign yes_part)
    ∙ ap (λ slots. assigned_in yes_part ++ slots) (steps_assign no_part))

pub shown_all : (keys : List ℕ) (steps : StepsTree) → HaveSame keys (assigned_by_parts (parts_of_steps steps)) → rising keys ≡ rising (assigned_in steps)
shown_all keys steps same = same_rising keys (assigned_by_parts (parts_of_steps steps)) same ∙ ap rising (steps_assign steps)
