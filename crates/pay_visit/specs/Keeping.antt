-- What a rewriter promises: that the new tree keeps the old one, and that it is finished.
use Rattle.std.specs.Prelude.{ℕ, Bool, List, Option}
use Rattle.pay_fixed.specs.declared.smooth.Smooth.{Smooth}
use Rattle.pay_tree.specs.declared.tree.Binary.{Binary}
use Rattle.pay_tree.specs.declared.tree.Unary.{Unary}
use Rattle.pay_tree.specs.declared.tree.Compare.{Compare}
use Rattle.pay_tree.specs.Owned.{NumberTree, literal_at, slot_at, spot_at, unary_at, binary_at, TestTree, truth_at, compare_at, not_at, and_at}
use Rattle.pay_tree.specs.Owned.{or_at, StepTree, assigning, paying, choosing, grouping, StepsTree, no_steps, step_then}
use Rattle.pay_visit.specs.Rewriting.{Change}

-- when the first tree, the new one, keeps the second
pub record Keeps : Type 1 where
  pub numbers : NumberTree → NumberTree → Type 0
  pub tests : TestTree → TestTree → Type 0
  pub steps : StepsTree → StepsTree → Type 0

-- when a tree is finished
pub record Finished : Type 1 where
  pub number : NumberTree → Type 0
  pub test : TestTree → Type 0
  pub step : StepTree → Type 0

-- a list of one step
abbrev pub one_step : StepTree → StepsTree
one_step step = step_then step no_steps

-- each tree keeps itself, and what keeps a tree that keeps a third keeps the third
pub record IsOrder (keeps : Keeps) : Type 0 where
  pub number_itself : (a : NumberTree) → keeps.numbers a a
  pub number_onward : (a b c : NumberTree) → keeps.numbers a b → keeps.numbers b c → keeps.numbers a c
  pub test_itself : (a : TestTree) → keeps.tests a a
  pub test_onward : (a b c : TestTree) → keeps.tests a b → keeps.tests b c → keeps.tests a c
  pub steps_itself : (a : StepsTree) → keeps.steps a a
  pub steps_onward : (a b c : StepsTree) → keeps.steps a b → keeps.steps b c → keeps.steps a c

-- a tree keeps another of its form where its parts keep those of the other
pub record IsUnderForms (keeps : Keeps) : Type 0 where
  pub unary : (id : ℕ) (op : Unary) (a b : NumberTree) → keeps.numbers a b → keeps.numbers (unary_at id op a) (unary_at id op b)
  pub binary : (id : ℕ) (op : Binary) (a b c d : NumberTree) → keeps.numbers a b → keeps.numbers c d
      → keeps.numbers (binary_at id op a c) (binary_at id op b d)
  pub compare : (id : ℕ) (told : Option Bool) (op : Compare) (smooth : Option Smooth) (a b c d : NumberTree) → keeps.numbers a b → keeps.numbers c d
      → keeps.tests (compare_at id told op a c smooth) (compare_at id told op b d smooth)
  pub negation : (id : ℕ) (told : Option Bool) (a b : TestTree) → keeps.tests a b → keeps.tests (not_at id told a) (not_at id told b)
  pub conjunction : (id : ℕ) (told : Option Bool) (a b c d : TestTree) → keeps.tests a b → keeps.tests c d
      → keeps.tests (and_at id told a c) (and_at id told b d)
  pub disjunction : (id : ℕ) (told : Option Bool) (a b c d : TestTree) → keeps.tests a b → keeps.tests c d
      → keeps.tests (or_at id told a c) (or_at id told b d)
  pub assign : (slot : ℕ) (a b : NumberTree) → keeps.numbers a b → keeps.steps (one_step (assigning slot a)) (one_step (assigning slot b))
  pub pay : (leg : ℕ) (a b : NumberTree) → keeps.numbers a b → keeps.steps (one_step (paying leg a)) (one_step (paying leg b))
  pub choose : (changes : List ℕ) (t u : TestTree) (a b c d : StepsTree) → keeps.tests t u → keeps.steps a b → keeps.steps c d
      → keeps.steps (one_step (choosing t a c changes)) (one_step (choosing u b d changes))
  pub group : (a b : StepsTree) → keeps.steps a b → keeps.steps (one_step (grouping a)) (one_step (grouping b))
  pub onward : (s t : StepTree) (a b : StepsTree) → keeps.steps (one_step s) (one_step t) → keeps.steps a b
      → keeps.steps (step_then s a) (step_then t b)

-- what becomes of a tree keeps it
pub record ChangeKeeps (change : Change) (keeps : Keeps) : Type 0 where
  pub number : (a : NumberTree) → keeps.numbers (change.number a) a
  pub test : (a : TestTree) → keeps.tests (change.test a) a
  pub step : (a : StepTree) → keeps.steps (one_step (change.step a)) (one_step a)

-- the sides of a number are finished
abbrev pub HasFinishedSides : Finished → NumberTree → Type 0
HasFinishedSides finished (literal_at id raw) = Unit {0}
HasFinishedSides finished (slot_at id slot) = Unit {0}
HasFinishedSides finished (spot_at id) = Unit {0}
HasFinishedSides finished (unary_at id op side) = finished.number side
HasFinishedSides finished (binary_at id op left right) = finished.number left × finished.number right

-- the sides of a test are finished
abbrev pub HasFinishedTests : Finished → TestTree → Type 0
HasFinishedTests finished (truth_at id told answer) = Unit {0}
HasFinishedTests finished (compare_at id told op left right smooth) = finished.number left × finished.number right
HasFinishedTests finished (not_at id told side) = finished.test side
HasFinishedTests finished (and_at id told left right) = finished.test left × finished.test right
HasFinishedTests finished (or_at id told left right) = finished.test left × finished.test right

-- each of these steps is finished
abbrev pub AreFinished : Finished → StepsTree → Type 0
AreFinished finished no_steps = Unit {0}
AreFinished finished (step_then step rest) = finished.step step × AreFinished finished rest

-- the parts of a step are finished
abbrev pub HasFinishedParts : Finished → StepTree → Type 0
HasFinishedParts finished (assigning slot value) = finished.number value
HasFinishedParts finished (paying leg amount) = finished.number amount
HasFinishedParts finished (choosing test yes_part no_part changes) = finished.test test × AreFinished finished yes_part × AreFinished finished no_part
HasFinishedParts finished (grouping steps) = AreFinished finished steps

-- what becomes of a tree whose parts are finished is finished
pub record ChangeFinishes (change : Change) (finished : Finished) : Type 0 where
  pub number : (a : NumberTree) → HasFinishedSides finished a → finished.number (change.number a)
  pub test : (a : TestTree) → HasFinishedTests finished a → finished.test (change.test a)
  pub step : (a : StepTree) → HasFinishedParts finished a → finished.step (change.step a)

-- the relation of a rewriter is one that its promise can be built on, and what becomes of a tree keeps it and is finished
pub record IsPromise (change : Change) (keeps : Keeps) (finished : Finished) : Type 0 where
  pub order : IsOrder keeps
  pub forms : IsUnderForms keeps
  pub kept : ChangeKeeps change keeps
  pub finishes : ChangeFinishes change finished
