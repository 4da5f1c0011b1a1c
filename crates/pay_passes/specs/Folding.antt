-- Constants folded: numbers of literals alone, and comparisons of two literals.
use Rattle.std.specs.Prelude.{◌≡◌, ℤ, pos, neg_ℤ, unsigned_abs, Bool, List, Option, Some, None, unwrap_or, Result, Ok, Err, IsErr, IsNone, ℕ}
use Rattle.std.specs.Option.{option_map}
use Rattle.pay_meaning.specs.Meaning.{Variables, Moment, value, truth, effect, calculated, compared}
use Rattle.pay_tree.specs.declared.tree.Unary.{Unary}
use Rattle.pay_tree.specs.declared.tree.Unary.TheVariants.{Neg, Abs}
use Rattle.pay_tree.specs.Views.{operator, comparison}
use Rattle.pay_tree.specs.Owned.{NumberTree, literal_at, slot_at, spot_at, unary_at, binary_at, TestTree, truth_at, compare_at, not_at, and_at}
use Rattle.pay_tree.specs.Owned.{or_at, StepTree, assigning, paying, choosing, grouping, StepsTree, no_steps, step_then, spelled_number, spelled_test, spelled_steps}
use Rattle.pay_visit.specs.Rewriting.{Change, rewritten_steps}
use Rattle.pay_visit.specs.Keeping.{Keeps, Finished}

-- the raw of a literal
abbrev pub literal_of : NumberTree → Option ℤ
literal_of (literal_at id raw) = Some raw
literal_of number = None

-- a raw under an operator
abbrev pub signed_raw : Unary → ℤ → ℤ
signed_raw Neg raw = neg_ℤ raw
signed_raw Abs raw = pos (unsigned_abs raw)

-- the answer, unless it is a fault
abbrev pub answer_of : {A E : Type 0} → Result A E → Option A
answer_of (Ok answer) = Some answer
answer_of (Err fault) = None

-- what two raws give, where both are there and it is no fault
abbrev pub of_both : {A : Type 0} → (ℤ → ℤ → Option A) → Option ℤ → Option ℤ → Option A
of_both f (Some a) (Some b) = f a b
of_both f (Some a) None = None
of_both f None right = None

-- the raw of an operator of literals, unless it faults
abbrev pub constant_of : NumberTree → Option ℤ
constant_of (unary_at id op side) = option_map (signed_raw op) (literal_of side)
constant_of (binary_at id op left right) = of_both (λ a b. answer_of (calculated (operator op) a b)) (literal_of left) (literal_of right)
constant_of number = None

-- the truth of a comparison of two literals
abbrev pub settled_of : TestTree → Option Bool
settled_of (compare_at id told op left right smooth) = of_both (λ a b. Some (compared (comparison op) a b)) (literal_of left) (literal_of right)
settled_of test = None

-- the place of a number
abbrev pub place_of : NumberTree → ℕ
place_of (literal_at id raw) = id
place_of (slot_at id slot) = id
place_of (spot_at id) = id
place_of (unary_at id op side) = id
place_of (binary_at id op left right) = id

-- a truth literal in the place of a test, and as sure as it
abbrev pub truth_in_place : TestTree → Bool → TestTree
truth_in_place (truth_at id told other) answer = truth_at id told answer
truth_in_place (compare_at id told op left right smooth) answer = truth_at id told answer
truth_in_place (not_at id told side) answer = truth_at id told answer
truth_in_place (and_at id told left right) answer = truth_at id told answer
truth_in_place (or_at id told left right) answer = truth_at id told answer

-- an operator of literals becomes its value, unless it faults; a comparison of two literals becomes its truth; all else stays
abbrev pub folding : Change
folding = record {
  number = λ number. unwrap_or (option_map (literal_at (place_of number)) (constant_of number)) number;
  test = λ test. unwrap_or (option_map (truth_in_place test) (settled_of test)) test;
  step = λ step. step;
}

-- steps with their constants folded
abbrev pub folded_steps : StepsTree → StepsTree
folded_steps steps = rewritten_steps folding steps

-- in every scenario, with whatever names of the variables and legs: the same value, the same truth and the same effect, or the same fault
abbrev pub SameMeaning : Keeps
SameMeaning = record {
  numbers = λ a b. (names : List (List ℕ)) (variables : Variables) (at : Moment)
      → value (spelled_number names a) variables at ≡ value (spelled_number names b) variables at;
  tests = λ a b. (names : List (List ℕ)) (variables : Variables) (at : Moment)
      → truth (spelled_test names a) variables at ≡ truth (spelled_test names b) variables at;
  steps = λ a b. (names legs : List (List ℕ)) (variables : Variables) (at : Moment)
      → effect (spelled_steps names legs a) variables at ≡ effect (spelled_steps names legs b) variables at;
}

-- no operator in a number is one of literals alone, unless it faults
abbrev pub IsFoldedNumber : NumberTree → Type 0
IsFoldedNumber (literal_at id raw) = Unit {0}
IsFoldedNumber (slot_at id slot) = Unit {0}
IsFoldedNumber (spot_at id) = Unit {0}
IsFoldedNumber (unary_at id op side) = IsFoldedNumber side × IsNone (literal_of side)
IsFoldedNumber (binary_at id op left right) = IsFoldedNumber left × IsFoldedNumber right
    × ((a b : ℤ) → literal_of left ≡ Some a → literal_of right ≡ Some b → IsErr (calculated (operator op) a b))

-- the numbers of a test are folded, and no comparison in it is one of two literals
abbrev pub IsFoldedTest : TestTree → Type 0
IsFoldedTest (truth_at id told answer) = Unit {0}
IsFoldedTest (compare_at id told op left right smooth) = IsFoldedNumber left × IsFoldedNumber right × IsNone (settled_of (compare_at id told op left right smooth))
IsFoldedTest (not_at id told side) = IsFoldedTest side
IsFoldedTest (and_at id told left right) = IsFoldedTest left × IsFoldedTest right
IsFoldedTest (or_at id told left right) = IsFoldedTest left × IsFoldedTest right

abbrev mutual
  -- the numbers and tests of a step are folded
  pub IsFoldedStep : StepTree → Type 0
  IsFoldedStep (assigning slot value) = IsFoldedNumber value
  IsFoldedStep (paying leg amount) = IsFoldedNumber amount
  IsFoldedStep (choosing test yes_part no_part changes) = IsFoldedTest test × AreFolded yes_part × AreFolded no_part
  IsFoldedStep (grouping steps) = AreFolded steps

  -- those of each of the steps
  pub AreFolded : StepsTree → Type 0
  AreFolded no_steps = Unit {0}
  AreFolded (step_then first rest) = IsFoldedStep first × AreFolded rest

-- what is folded is finished
abbrev pub Folded : Finished
Folded = record { number = IsFoldedNumber; test = IsFoldedTest; step = IsFoldedStep }
