-- An event pruned by marks.
use Rattle.std.specs.Prelude.{ℕ}
use Rattle.pay_tree.specs.Owned.{EventTree}
use Rattle.pay_visit.specs.Rewriting.{rewritten_steps}
use Rattle.pay_analysis.specs.declared.marks.Mark.{Mark}
use Rattle.pay_simplified.specs.Pruning.{pruning, with_steps}

-- the event with each part as its mark and the forms of its sides make it; its date and its terms stay
abbrev pub pruned_by : (ℕ → Mark) → EventTree → EventTree
pruned_by marks event = with_steps event (rewritten_steps (pruning marks) event.steps)
