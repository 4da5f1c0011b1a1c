-- What pruning promises to the walk: nothing beyond what becomes of each part. A tree that is pruned by any marks has nothing in common with the old one,
-- and can be pruned again by others; so each tree keeps each other one, and each is finished. It stands here since the pass names its proof.
use Rattle.std.specs.Prelude.{ℕ}
use Rattle.pay_visit.specs.Keeping.{Keeps, Finished, IsOrder, IsUnderForms, ChangeKeeps, ChangeFinishes, IsPromise}
use Rattle.pay_analysis.specs.declared.marks.Mark.{Mark}
use Rattle.pay_simplified.specs.Pruning.{pruning}

-- each tree keeps each other one
abbrev pub any_keeps : Keeps
any_keeps = record { numbers = λ a b. Unit {0}; tests = λ a b. Unit {0}; steps = λ a b. Unit {0} }

-- each tree is finished
abbrev pub any_finished : Finished
any_finished = record { number = λ a. Unit {0}; test = λ a. Unit {0}; step = λ a. Unit {0} }

any_is_order : IsOrder any_keeps
any_is_order = record {
  number_itself = λ a. tt;
  number_onward = λ a b c first second. tt;
  test_itself = λ a. tt;
  test_onward = λ a b c first second. tt;
  steps_itself = λ a. tt;
  steps_onward = λ a b c first second. tt;
}

any_under_forms : IsUnderForms any_keeps
any_under_forms = record {
  unary = λ id op a b same. tt;
  binary = λ id op a b c d first second. tt;
  compare = λ id told op smooth a b c d first second. tt;
  negation = λ id told a b same. tt;
  conjunction = λ id told a b c d first second. tt;
  disjunction = λ id told a b c d first second. tt;
  assign = λ slot a b same. tt;
  pay = λ leg a b same. tt;
  choose = λ changes t u a b c d tested first second. tt;
  group = λ a b same. tt;
  onward = λ s t a b first rest. tt;
}

any_change_keeps : (marks : ℕ → Mark) → ChangeKeeps (pruning marks) any_keeps
any_change_keeps marks = record { number = λ a. tt; test = λ a. tt; step = λ a. tt }

any_change_finishes : (marks : ℕ → Mark) → ChangeFinishes (pruning marks) any_finished
any_change_finishes marks = record { number = λ a sides. tt; test = λ a sides. tt; step = λ a parts. tt }

-- what pruning by these marks promises
pub pruning_promise : (marks : ℕ → Mark) → IsPromise (pruning marks) any_keeps any_finished
pruning_promise marks = record {
  order = any_is_order;
  forms = any_under_forms;
  kept = any_change_keeps marks;
  finishes = any_change_finishes marks;
}
