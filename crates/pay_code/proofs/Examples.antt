-- Small events, their code, and what it does.
use Rattle.std.proofs.Common.{◌≡◌, pos, true, false, List, [], ◌∷◌, Some, None, refl}
use Rattle.pay_dates.specs.declared.day.Day.{Day}
use Rattle.pay_fixed.specs.declared.smooth.Smooth.TheVariants.{Rise}
use Rattle.pay_meaning.specs.declared.fault.FaultKind.TheVariants.{MissingFixing}
use Rattle.pay_tree.specs.declared.tree.Binary.TheVariants.{Add}
use Rattle.pay_tree.specs.declared.tree.Compare.TheVariants.{More}
use Rattle.pay_tree.specs.Owned.{literal_at, slot_at, spot_at, binary_at, truth_at, compare_at, or_at, and_at, assigning, paying, choosing, no_steps, step_then}
use Rattle.pay_tree.specs.Owned.{EventTree, StepsTree, TestTree}
use Rattle.pay_fixed.specs.Weights.{weight_of}
use Rattle.pay_runs.specs.Slots.{slots_finished, slots_faulted}
use Rattle.pay_code.specs.declared.op.Op.TheVariants as op
use Rattle.pay_code.specs.Bounds.{pays_in, legs_in, saved_in, steps_parts}
use Rattle.pay_code.specs.Flat.{steps_code, steps_table, flat_code, events_table}
use Rattle.pay_code.specs.Execution.{run_of}

-- `if spot() > 100 then a = 1 x pays 2 else y pays a + 3 endif`, smoothed from 90 to 110
abbrev yes_steps : StepsTree
yes_steps = step_then (assigning 0 (literal_at 3 (pos 10_000))) (step_then (paying 0 (literal_at 4 (pos 20_000))) no_steps)

abbrev no_steps_of : StepsTree
no_steps_of = step_then (paying 1 (binary_at 5 Add (slot_at 6 0) (literal_at 7 (pos 30_000)))) no_steps

abbrev choice_of : TestTree → Day → List EventTree
choice_of test date =
    record { date = date; period = 0; days = 0; steps = step_then (choosing test yes_steps no_steps_of (0 ∷ [])) no_steps } ∷ []

abbrev smoothed_test : TestTree
smoothed_test = compare_at 0 None More (spot_at 1) (literal_at 2 (pos 1_000_000)) (Some (Rise (pos 0) (pos 100_000)))

its_code : (date : Day) → flat_code (choice_of smoothed_test date)
    ≡ op.Spot ∷ op.Number (pos 1_000_000) ∷ op.Compare More (Some (Rise (pos 0) (pos 100_000))) ∷ op.If 9
    ∷ op.Number (pos 10_000) ∷ op.Assign 0 ∷ op.Number (pos 20_000) ∷ op.Pay 0 ∷ op.Else 13
    ∷ op.Slot 0 ∷ op.Number (pos 30_000) ∷ op.Binary Add ∷ op.Pay 1 ∷ op.EndIf 0 1 ∷ op.EndEvent ∷ []
its_code date = refl

its_table : (date : Day) → events_table (choice_of smoothed_test date) ≡ 0 ∷ []
its_table date = refl

-- crisp, the smoothing is not read: the true branch alone
crisp_run : (date : Day)
    → run_of false (events_table (choice_of smoothed_test date)) (flat_code (choice_of smoothed_test date)) (pos 5 ∷ []) (date ∷ [])
    (Some (pos 1_050_000) ∷ [])
    ≡ record {
      payments = record { date = date; leg = 0; amount = pos 20_000 } ∷ [];
      end = slots_finished (pos 10_000 ∷ []);
      nodes = 8;
    }
crisp_run date = refl

-- a missing fixing faults, and counts
missing_run : (date : Day)
    → run_of true (events_table (choice_of smoothed_test date)) (flat_code (choice_of smoothed_test date)) (pos 5 ∷ []) (date ∷ []) (None ∷ [])
    ≡ record { payments = []; end = slots_faulted date MissingFixing; nodes = 1 }
missing_run date = refl

-- the same choice on truths, of which the right one is skipped
abbrev either_of : TestTree
either_of = or_at 0 (Some false) (truth_at 1 None true) (and_at 2 None (truth_at 3 None true) (truth_at 4 None false))

skipping_code : (date : Day) → flat_code (choice_of either_of date)
    ≡ op.Truth true ∷ op.OrSkip 7 ∷ op.Truth true ∷ op.AndSkip 6 ∷ op.Truth false ∷ op.AndJoin ∷ op.OrJoin ∷ op.Sure false ∷ op.If 14
    ∷ op.Number (pos 10_000) ∷ op.Assign 0 ∷ op.Number (pos 20_000) ∷ op.Pay 0 ∷ op.Else 18
    ∷ op.Slot 0 ∷ op.Number (pos 30_000) ∷ op.Binary Add ∷ op.Pay 1 ∷ op.EndIf 0 1 ∷ op.EndEvent ∷ []
skipping_code date = refl

skipping_run : (date : Day)
    → run_of true (events_table (choice_of either_of date)) (flat_code (choice_of either_of date)) (pos 5 ∷ []) (date ∷ []) (None ∷ [])
    ≡ record {
      payments = record { date = date; leg = 1; amount = pos 30_005 } ∷ [];
      end = slots_finished (pos 5 ∷ []);
      nodes = 7;
    }
skipping_run date = refl

-- fuzzy, half of each branch: both run, from the same values
fuzzy_run : (date : Day)
    → run_of true (events_table (choice_of smoothed_test date)) (flat_code (choice_of smoothed_test date)) (pos 5 ∷ []) (date ∷ [])
    (Some (pos 1_050_000) ∷ [])
    ≡ record {
      payments = record { date = date; leg = 0; amount = pos 10_000 } ∷ record { date = date; leg = 1; amount = pos 15_003 } ∷ [];
      end = slots_finished (pos 5_003 ∷ []);
      nodes = 12;
    }
unfolding weight_of
fuzzy_run date = refl

-- a choice in the false branch of another
abbrev nested : StepsTree
nested = step_then (choosing smoothed_test yes_steps (step_then (choosing either_of yes_steps no_steps_of (0 ∷ [])) no_steps) (0 ∷ [])) no_steps

-- each choice has its part of the table
its_parts : (steps_table nested ≡ 0 ∷ 0 ∷ []) × (steps_parts nested ≡ 22)
its_parts = (refl, refl)

-- its code saves twice its table, and has three `Pay`s
its_pays : (pays_in (steps_code 0 0 nested) ≡ 3) × (legs_in (steps_code 0 0 nested) ≡ 0 ∷ 0 ∷ 1 ∷ [])
    × (saved_in (steps_table nested) 0 (steps_code 0 0 nested) ≡ 4)
its_pays = (refl, refl, refl)
