-- An operation whose target lies ahead passes over at most what is left.
use Rattle.std.proofs.Common.{ℕ, ◌+◌, ◌-◌, ◌≤◌, ℤ, Bool, true, false, List, [], ◌∷◌, length, take, drop, Result, Ok, Err, nat_eq, arith}
use Rattle.pay_meaning.specs.declared.fault.FaultKind.{FaultKind}
use Rattle.pay_meaning.specs.Meaning.{known, calculated}
use Rattle.pay_tree.specs.Views.{operator}
use Rattle.pay_fixed.specs.Weights.{whole as full}
use Rattle.pay_runs.specs.Slots.{first_cell}
use Rattle.pay_code.specs.declared.op.Op.TheVariants as op
use Rattle.pay_code.specs.Execution.{State, Frame, alone, true_branch, false_branch, top_number, top_weight, below_top, counted, put_number, skip_if}
use Rattle.pay_code.specs.Execution.{enter, turn, close, changes_of, changes_from_if, op_ahead}
use Rattle.pay_code.specs.BoundLaws.{PassesAtMost, StepsPassWithin}

put_passes : (numbers : List ℤ) (r : Result ℤ FaultKind) (s : State) (left : ℕ) → PassesAtMost left (put_number numbers r s)
put_passes numbers (Err fault) s left = tt
put_passes numbers (Ok raw) s left = omega arith

skip_passes : (skipped : Bool) (past : ℕ) (s : State) (left : ℕ) → past ≤ left → PassesAtMost left (skip_if skipped past s)
skip_passes true past s left h = h
skip_passes false past s left h = omega arith

enter_passes : (nothing all : Bool) (w past : ℕ) (changes : List ℕ) (s : State) (left : ℕ) → past ≤ left
    → PassesAtMost left (enter nothing all w past changes s)
enter_passes true all w past changes s left h = h
enter_passes false true w past changes s left h = omega arith
enter_passes false false w past changes s left h = omega arith

turn_passes : (frames : List Frame) (past : ℕ) (changes : List ℕ) (s : State) (left : ℕ) → past ≤ left
    → PassesAtMost left (turn frames past changes s)
turn_passes [] past changes s left h = omega arith
turn_passes (alone ∷ outer) past changes s left h = h
turn_passes (true_branch w before from ∷ outer) past changes s left h = omega arith
turn_passes (false_branch w before between from ∷ outer) past changes s left h = omega arith

close_passes : (frames : List Frame) (changes : List ℕ) (s : State) (left : ℕ) → PassesAtMost left (close frames changes s)
close_passes [] changes s left = omega arith
close_passes (alone ∷ outer) changes s left = omega arith
close_passes (true_branch w before from ∷ outer) changes s left = omega arith
close_passes (false_branch w before between from ∷ outer) changes s left = omega arith

pub steps_pass_within : StepsPassWithin
steps_pass_within fuzzy table (op.Number raw) at rest s lies = omega arith
steps_pass_within fuzzy table (op.Slot slot) at rest s lies = omega arith
steps_pass_within fuzzy table op.Spot at rest s lies = put_passes s.numbers (known (first_cell s.row)) s (length rest)
steps_pass_within fuzzy table (op.Unary kind) at rest s lies = omega arith
steps_pass_within fuzzy table (op.Binary kind) at rest s lies =
    put_passes (below_top (below_top s.numbers)) (calculated (operator kind) (top_number (below_top s.numbers)) (top_number s.numbers)) s (length rest)
steps_pass_within fuzzy table (op.Truth answer) at rest s lies = omega arith
steps_pass_within fuzzy table (op.Compare kind smooth) at rest s lies = omega arith
steps_pass_within fuzzy table op.Not at rest s lies = omega arith
steps_pass_within fuzzy table (op.AndSkip to) at rest s lies =
    skip_passes (nat_eq (top_weight s.weights) 0) (to - (at + 1)) s (length rest) (let end = lies.1 in omega arith)
steps_pass_within fuzzy table op.AndJoin at rest s lies = omega arith
steps_pass_within fuzzy table (op.OrSkip to) at rest s lies =
    skip_passes (nat_eq (top_weight s.weights) full) (to - (at + 1)) s (length rest) (let end = lies.1 in omega arith)
steps_pass_within fuzzy table op.OrJoin at rest s lies = omega arith
steps_pass_within fuzzy table (op.Sure answer) at rest s lies = omega arith
steps_pass_within fuzzy table (op.Assign slot) at rest s lies = omega arith
steps_pass_within fuzzy table (op.Pay leg) at rest s lies = omega arith
steps_pass_within fuzzy table (op.If to) at rest s lies =
    enter_passes (nat_eq (top_weight s.weights) 0) (nat_eq (top_weight s.weights) full) (top_weight s.weights) (to - (at + 1))
    (changes_from_if table at rest to) (counted (record s { weights = below_top s.weights })) (length rest) (let end = lies.1 in omega arith)
steps_pass_within fuzzy table (op.Else after) at rest s lies =
    turn_passes s.frames (after - (at + 1)) (changes_of table (op_ahead rest (after - (at + 1)))) s (length rest) (let end = lies.1 in omega arith)
steps_pass_within fuzzy table (op.EndIf first count) at rest s lies = close_passes s.frames (take count (drop first table)) s (length rest)
steps_pass_within fuzzy table op.EndEvent at rest s lies = omega arith
