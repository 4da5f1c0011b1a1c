-- The promise of folding: it keeps every value, truth and effect, and leaves nothing to fold. It stands here since the pass names its proof.
use Rattle.std.proofs.Common.{◌≡◌, ℕ, ℤ, Bool, [], Option, Some, None, Result, Ok, Err, IsErr, unsigned_abs, pos, neg_ℤ, not, refl, sym, ap, ◌∙◌, subst}
use Rattle.std.proofs.Common.{option_map}
use Rattle.std.proofs.lemmas.List.{append-nil}
use Rattle.std.proofs.lemmas.Option.{none-some, same_Some}
use Rattle.std.specs.Prelude.{unwrap_or}
use Rattle.pay_meaning.specs.declared.fault.FaultKind.{FaultKind}
use Rattle.pay_meaning.specs.Language.{Condition}
use Rattle.pay_meaning.specs.Meaning.{Variables, Moment, Effect, value, truth, effect, calculated, compared, one, both, both_hold, either_holds}
use Rattle.pay_meaning.specs.Meaning.{assigned, paid, chosen, followed_by}
use Rattle.pay_tree.specs.declared.tree.Binary.{Binary}
use Rattle.pay_tree.specs.declared.tree.Unary.{Unary}
use Rattle.pay_tree.specs.declared.tree.Unary.TheVariants.{Neg, Abs}
use Rattle.pay_tree.specs.Views.{operator, comparison}
use Rattle.pay_tree.specs.Owned.{NumberTree, literal_at, slot_at, spot_at, unary_at, binary_at, TestTree, truth_at, compare_at, not_at, and_at}
use Rattle.pay_tree.specs.Owned.{or_at, StepTree, assigning, paying, choosing, grouping, StepsTree, no_steps, step_then}
use Rattle.pay_tree.specs.Owned.{surely, name_at}
use Rattle.pay_visit.specs.Keeping.{IsOrder, IsUnderForms, ChangeKeeps, ChangeFinishes, IsPromise, HasFinishedSides, HasFinishedTests, HasFinishedParts}
use Rattle.pay_visit.specs.Keeping.{AreFinished}
use Rattle.pay_passes.specs.Folding.{SameMeaning, Folded, folding, IsFoldedNumber, IsFoldedTest, IsFoldedStep, AreFolded, answer_of}

-- each tree means the same as itself, and as a third where it means the same as a second and that as the third
same_is_order : IsOrder SameMeaning
same_is_order = record {
  number_itself = λ a names variables at. refl;
  number_onward = λ a b c first second names variables at. first names variables at ∙ second names variables at;
  test_itself = λ a names variables at. refl;
  test_onward = λ a b c first second names variables at. first names variables at ∙ second names variables at;
  steps_itself = λ a names legs variables at. refl;
  steps_onward = λ a b c first second names legs variables at. first names legs variables at ∙ second names legs variables at;
}

-- what two results give is the same where they are the same
both_same : {A B : Type 0} (f : A → A → Result B FaultKind) (a b c d : Result A FaultKind) → a ≡ b → c ≡ d → both f a c ≡ both f b d
both_same f a b c d first second = λ i. both f (first i) (second i)

-- an operator of numbers that mean the same means the same
unary_same : (id : ℕ) (op : Unary) (a b : NumberTree) → SameMeaning.numbers a b → SameMeaning.numbers (unary_at id op a) (unary_at id op b)
unary_same id Neg a b same names variables at = ap (one neg_ℤ) (same names variables at)
unary_same id Abs a b same names variables at = ap (one (λ raw. pos (unsigned_abs raw))) (same names variables at)

-- conditions of the same truth have it also where they are sure of an answer
surely_same : (told : Option Bool) (a b : Condition) (variables : Variables) (at : Moment) → truth a variables at ≡ truth b variables at
    → truth (surely told a) variables at ≡ truth (surely told b) variables at
surely_same None a b variables at same = same
surely_same (Some answer) a b variables at same = ap (one (λ other. answer)) same

-- an effect that nothing follows
abbrev alone : Result Effect FaultKind → Result Effect FaultKind
alone effect = followed_by effect (λ after. Ok (record { variables = after; payments = [] }))

-- an effect that nothing follows is the effect itself
alone_same : (e : Result Effect FaultKind) → alone e ≡ e
alone_same (Err fault) = refl
alone_same (Ok e) = ap (λ payments. Ok (record { variables = e.variables; payments = payments })) (append-nil e.payments)

-- what is chosen of results that are the same is the same
choose_same : (t u : Result Bool FaultKind) (a b c d : Result Effect FaultKind) → t ≡ u → a ≡ b → c ≡ d → chosen t a c ≡ chosen u b d
choose_same t u a b c d tested first second = λ i. chosen (tested i) (first i) (second i)

-- an effect and what follows from it are the same where both are
follow_same : (a b : Result Effect FaultKind) (f g : Variables → Result Effect FaultKind) → a ≡ b → ((after : Variables) → f after ≡ g after)
    → followed_by a f ≡ followed_by b g
follow_same a b f g first rest = λ i. followed_by (first i) (λ after. rest after i)

-- a tree means the same as another of its form where its parts mean the same as those of the other
same_under_forms : IsUnderForms SameMeaning
same_under_forms = record {
  unary = unary_same;
  binary = λ id op a b c d first second names variables at. both_same (calculated (operator op)) _ _ _ _ (first names variables at) (second names variables at);
  compare = λ id told op smooth a b c d first second names variables at.
      surely_same told _ _ variables at (both_same (λ x y. Ok (compared (comparison op) x y)) _ _ _ _ (first names variables at) (second names variables at));
  negation = λ id told a b same names variables at. surely_same told _ _ variables at (ap (one not) (same names variables at));
  conjunction = λ id told a b c d first second names variables at.
      surely_same told _ _ variables at (λ i. both_hold (first names variables at i) (second names variables at i));
  disjunction = λ id told a b c d first second names variables at.
      surely_same told _ _ variables at (λ i. either_holds (first names variables at i) (second names variables at i));
  assign = λ slot a b same names legs variables at. ap (λ raw. alone (assigned variables (name_at names slot) raw)) (same names variables at);
  pay = λ leg a b same names legs variables at. ap (λ raw. alone (paid variables at.date (name_at legs leg) raw)) (same names variables at);
  choose = λ changes t u a b c d tested first second names legs variables at.
      ap alone (choose_same _ _ _ _ _ _ (tested names variables at) (first names legs variables at) (second names legs variables at));
  group = λ a b same names legs variables at. ap alone (same names legs variables at);
  onward = λ s t a b first rest names legs variables at.
      follow_same _ _ _ _ (sym (alone_same _) ∙ first names legs variables at ∙ alone_same _) (λ after. rest names legs after at);
}

-- an operator of two literals means the same as what becomes of it, whether the raws give an answer or a fault
answer_kept : (id left right : ℕ) (op : Binary) (a b : ℤ) (r : Result ℤ FaultKind) → calculated (operator op) a b ≡ r
    → SameMeaning.numbers (unwrap_or (option_map (literal_at id) (answer_of r)) (binary_at id op (literal_at left a) (literal_at right b)))
    (binary_at id op (literal_at left a) (literal_at right b))
answer_kept id left right op a b (Ok raw) is names variables at = sym is
answer_kept id left right op a b (Err fault) is names variables at = refl

-- what becomes of a number means the same as the number
number_kept : (a : NumberTree) → SameMeaning.numbers (folding.number a) a
number_kept (literal_at id raw) names variables at = refl
number_kept (slot_at id slot) names variables at = refl
number_kept (spot_at id) names variables at = refl
number_kept (unary_at id Neg (literal_at place raw)) names variables at = refl
number_kept (unary_at id Abs (literal_at place raw)) names variables at = refl
number_kept (unary_at id op side) names variables at = refl
number_kept (binary_at id op (literal_at left a) (literal_at right b)) names variables at = answer_kept id left right op a b _ refl names variables at
number_kept (binary_at id op left right) names variables at = refl

-- what becomes of a test means the same as the test
test_kept : (a : TestTree) → SameMeaning.tests (folding.test a) a
test_kept (compare_at id told op (literal_at left a) (literal_at right b) smooth) names variables at = surely_same told _ _ variables at refl
test_kept other names variables at = refl

-- what becomes of a tree means the same
folding_keeps : ChangeKeeps folding SameMeaning
folding_keeps = record { number = number_kept; test = test_kept; step = λ a names legs variables at. refl }

-- what becomes of an operator of two literals is folded, whether the raws give an answer or a fault
answer_finished : (id left right : ℕ) (op : Binary) (a b : ℤ) (r : Result ℤ FaultKind) → calculated (operator op) a b ≡ r
    → IsFoldedNumber (unwrap_or (option_map (literal_at id) (answer_of r)) (binary_at id op (literal_at left a) (literal_at right b)))
answer_finished id left right op a b (Ok raw) is = tt
answer_finished id left right op a b (Err fault) is = (
  tt,
  tt,
  λ x y first second. subst (λ z. IsErr (calculated (operator op) z y)) (same_Some a x first)
      (subst (λ z. IsErr (calculated (operator op) a z)) (same_Some b y second) (subst IsErr (sym is) refl)),
)

-- what becomes of a number whose sides are folded is folded
number_finished : (a : NumberTree) → HasFinishedSides Folded a → IsFoldedNumber (folding.number a)
number_finished (literal_at id raw) sides = tt
number_finished (slot_at id slot) sides = tt
number_finished (spot_at id) sides = tt
number_finished (unary_at id op (literal_at place raw)) sides = tt
number_finished (unary_at id op side) sides = (sides, refl)
number_finished (binary_at id op (literal_at left a) (literal_at right b)) sides = answer_finished id left right op a b _ refl
number_finished (binary_at id op (literal_at left a) right) sides = (sides.0, sides.1, λ x y first second. absurd (none-some y second))
number_finished (binary_at id op left right) sides = (sides.0, sides.1, λ x y first second. absurd (none-some x first))

-- what becomes of a test whose sides are folded is folded
test_finished : (a : TestTree) → HasFinishedTests Folded a → IsFoldedTest (folding.test a)
test_finished (truth_at id told answer) sides = tt
test_finished (compare_at id told op (literal_at left a) (literal_at right b) smooth) sides = tt
test_finished (compare_at id told op left right smooth) sides = (sides.0, sides.1, refl)
test_finished (not_at id told side) sides = sides
test_finished (and_at id told left right) sides = sides
test_finished (or_at id told left right) sides = sides

-- steps each of which is folded are folded
pub finished_are_folded : (steps : StepsTree) → AreFinished Folded steps → AreFolded steps
finished_are_folded no_steps finished = tt
finished_are_folded (step_then step rest) finished = (finished.0, finished_are_folded rest finished.1)

-- a step whose parts are folded is folded
step_finished : (a : StepTree) → HasFinishedParts Folded a → IsFoldedStep a
step_finished (assigning slot value) parts = parts
step_finished (paying leg amount) parts = parts
step_finished (choosing test yes_part no_part changes) parts =
    (parts.0, finished_are_folded yes_part parts.1, finished_are_folded no_part parts.2)
step_finished (grouping steps) parts = finished_are_folded steps parts

-- what becomes of a tree whose parts are folded is folded
folding_finishes : ChangeFinishes folding Folded
folding_finishes = record { number = number_finished; test = test_finished; step = step_finished }

-- what folding promises
pub folding_promise : IsPromise folding SameMeaning Folded
folding_promise = record { order = same_is_order; forms = same_under_forms; kept = folding_keeps; finishes = folding_finishes }
