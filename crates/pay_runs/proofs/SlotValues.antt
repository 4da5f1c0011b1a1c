-- The values of numbers and the weights of tests, by number and by name.
use Rattle.std.proofs.Common.{◌≡◌, ℕ, ◌-◌, pos, neg_ℤ, unsigned_abs, Bool, List, length, IsTrue, Option, Some, None, Result, Ok, refl, ap}
use Rattle.std.proofs.lemmas.Bool.{and_parts, ltb-true}
use Rattle.pay_fixed.specs.Weights.{whole as full}
use Rattle.pay_meaning.specs.declared.fault.FaultKind.{FaultKind}
use Rattle.pay_meaning.specs.Language.{Condition}
use Rattle.pay_meaning.specs.Meaning.{Variables, Moment, one, both, calculated, value}
use Rattle.pay_tree.specs.declared.tree.Unary.TheVariants.{Neg, Abs}
use Rattle.pay_tree.specs.Views.{operator, comparison}
use Rattle.pay_tree.specs.Owned.{NumberTree, literal_at, slot_at, spot_at, unary_at, binary_at, TestTree, truth_at, compare_at, not_at, and_at}
use Rattle.pay_tree.specs.Owned.{or_at, spelled_number, spelled_test, surely, note_of}
use Rattle.pay_runs.specs.Weighing.{IsFuzzy, certain, compared_weight, and_weight, or_weight, weight}
use Rattle.pay_runs.specs.Slots.{Slots, value_by_slots, surely_weight, weight_by_slots, number_within, test_within}
use Rattle.pay_runs.specs.RunLaws.{StandFor}

-- a number has the value of what it stands for
pub value_same : (names : List (List ℕ)) (slots : Slots) (variables : Variables) (at : Moment) → StandFor names slots variables
    → (number : NumberTree) → IsTrue (number_within (length names) number)
    → value_by_slots number slots at.fixing ≡ value (spelled_number names number) variables at
value_same names slots variables at stand (literal_at id raw) within = refl
value_same names slots variables at stand (slot_at id slot) within = ap Ok (stand.same slot (ltb-true slot (length names) within))
value_same names slots variables at stand (spot_at id) within = refl
value_same names slots variables at stand (unary_at id Neg side) within = ap (one neg_ℤ) (value_same names slots variables at stand side within)
value_same names slots variables at stand (unary_at id Abs side) within =
    ap (one (λ raw. pos (unsigned_abs raw))) (value_same names slots variables at stand side within)
value_same names slots variables at stand (binary_at id op left right) within =
    let parts = and_parts (number_within (length names) left) (number_within (length names) right) within in
    λ i. both (calculated (operator op)) (value_same names slots variables at stand left parts.0 i)
    (value_same names slots variables at stand right parts.1 i)

surely_same : (told : Option Bool) (fuzzy : IsFuzzy) (c : Condition) (variables : Variables) (at : Moment) (x : Result ℕ FaultKind)
    → x ≡ weight fuzzy c variables at → surely_weight told x ≡ weight fuzzy (surely told c) variables at
surely_same None fuzzy c variables at x same = same
surely_same (Some answer) fuzzy c variables at x same = ap (one (λ w. certain answer)) same

-- a test has the weight of what it stands for
pub weight_same : (fuzzy : IsFuzzy) (names : List (List ℕ)) (slots : Slots) (variables : Variables) (at : Moment) → StandFor names slots variables
    → (test : TestTree) → IsTrue (test_within (length names) test)
    → weight_by_slots fuzzy test slots at.fixing ≡ weight fuzzy (spelled_test names test) variables at
weight_same fuzzy names slots variables at stand (truth_at id told answer) within = surely_same told fuzzy _ variables at _ refl
weight_same fuzzy names slots variables at stand (compare_at id told op left right smooth) within =
    let parts = and_parts (number_within (length names) left) (number_within (length names) right) within in
    surely_same told fuzzy _ variables at _
    (λ i. both (λ a b. Ok (compared_weight fuzzy (comparison op) (note_of smooth) a b))
    (value_same names slots variables at stand left parts.0 i) (value_same names slots variables at stand right parts.1 i))
weight_same fuzzy names slots variables at stand (not_at id told side) within =
    surely_same told fuzzy _ variables at _ (ap (one (λ w. full - w)) (weight_same fuzzy names slots variables at stand side within))
weight_same fuzzy names slots variables at stand (and_at id told left right) within =
    let parts = and_parts (test_within (length names) left) (test_within (length names) right) within in
    surely_same told fuzzy _ variables at _
    (λ i. and_weight (weight_same fuzzy names slots variables at stand left parts.0 i)
    (weight_same fuzzy names slots variables at stand right parts.1 i))
weight_same fuzzy names slots variables at stand (or_at id told left right) within =
    let parts = and_parts (test_within (length names) left) (test_within (length names) right) within in
    surely_same told fuzzy _ variables at _
    (λ i. or_weight (weight_same fuzzy names slots variables at stand left parts.0 i)
    (weight_same fuzzy names slots variables at stand right parts.1 i))
