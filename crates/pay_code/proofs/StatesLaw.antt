-- No state of a run has more on its stacks than the code has operations, or more saved values than the code can save.
use Rattle.std.proofs.Common.{◌≡◌, ℕ, zero, suc, ◌+◌, ◌*◌, ◌≤◌, List, [], ◌∷◌, length, ap, sym, ◌∙◌, arith}
use Rattle.pay_runs.specs.Weighing.{IsFuzzy}
use Rattle.pay_code.specs.declared.op.Op.{Op}
use Rattle.pay_code.specs.Bounds.{pays_of, saved_of, saved_in}
use Rattle.pay_code.specs.BoundLaws.{StepsWithin}
use Rattle.pay_code.specs.Execution.{State, Stepped, goes, stops, step, starting}
use Rattle.pay_code.specs.Flat.{events_table, flat_code}
use Rattle.pay_code.specs.Programs.{Compiled, IsValid}
use Rattle.pay_code.specs.States.{states_after, states_from, EachIs, InEachRun, HasEntries, HasSaved}
use Rattle.pay_code.proofs.AddLaw.{steps_add_at_most}
use Rattle.pay_code.proofs.SavesLaw.{code_saves}

-- there is room on each stack for one entry of each of so many operations
record HasRoomFor (entries left : ℕ) (s : State) : Type 0 where
  numbers : length s.numbers + left ≤ entries
  weights : length s.weights + left ≤ entries
  frames : length s.frames + left ≤ entries

has_entries : (entries left : ℕ) (s : State) → HasRoomFor entries left s → HasEntries entries s
has_entries entries left s room = record {
  numbers = let h = room.numbers in omega arith;
  weights = let h = room.weights in omega arith;
  frames = let h = room.frames in omega arith;
}

room_after : (entries left pays saves : ℕ) (s : State) (x : Stepped) (f : ℕ → State → List State) → HasRoomFor entries (suc left) s
    → StepsWithin pays saves s x → ((past : ℕ) (after : State) → HasRoomFor entries left after → EachIs (HasEntries entries) (f past after))
    → EachIs (HasEntries entries) (states_after x f)
room_after entries left pays saves s (goes past after) f room adds onward =
    onward past after (record {
      numbers = let h = room.numbers in let k = adds.numbers in omega arith;
      weights = let h = room.weights in let k = adds.weights in omega arith;
      frames = let h = room.frames in let k = adds.frames in omega arith;
    })
room_after entries left pays saves s (stops fault after) f room adds onward = (
  record {
    numbers = let h = room.numbers in let k = adds.numbers in omega arith;
    weights = let h = room.weights in let k = adds.weights in omega arith;
    frames = let h = room.frames in let k = adds.frames in omega arith;
  },
  tt,
)

room_from : (entries : ℕ) (fuzzy : IsFuzzy) (t : List ℕ) (ops : List Op) (at past : ℕ) (s : State) → HasRoomFor entries (length ops) s
    → EachIs (HasEntries entries) (states_from fuzzy t ops at past s)
room_from entries fuzzy t [] at past s room = (has_entries entries 0 s room, tt)
room_from entries fuzzy t (first ∷ rest) at (suc past) s room =
    room_from entries fuzzy t rest (at + 1) past s (record {
      numbers = let h = room.numbers in omega arith;
      weights = let h = room.weights in omega arith;
      frames = let h = room.frames in omega arith;
    })
room_from entries fuzzy t (first ∷ rest) at zero s room = (
  has_entries entries (suc (length rest)) s room,
  room_after entries (length rest) (pays_of first) (saved_of t first at rest) s (step fuzzy t first at rest s)
      (λ past after. states_from fuzzy t rest (at + 1) past after) room (steps_add_at_most fuzzy t first at rest s)
      (λ past after left. room_from entries fuzzy t rest (at + 1) past after left),
)

-- each stack has at most one entry for each operation
pub stacks_are_low : (program : Compiled) → InEachRun (HasEntries (length program.code)) program
stacks_are_low program row =
    room_from (length program.code) program.fuzzy program.table program.code 0 0 (starting program.start program.dates row)
    (record { numbers = omega arith; weights = omega arith; frames = omega arith })

saves_after : (values left pays saves : ℕ) (s : State) (x : Stepped) (f : ℕ → State → List State) → length s.saved + (saves + left) ≤ values
    → StepsWithin pays saves s x → ((past : ℕ) (after : State) → length after.saved + left ≤ values → EachIs (HasSaved values) (f past after))
    → EachIs (HasSaved values) (states_after x f)
saves_after values left pays saves s (goes past after) f room adds onward = onward past after (let k = adds.saved in omega arith)
saves_after values left pays saves s (stops fault after) f room adds onward = (let k = adds.saved in omega arith, tt)

saves_from : (values : ℕ) (fuzzy : IsFuzzy) (t : List ℕ) (ops : List Op) (at past : ℕ) (s : State) → length s.saved + saved_in t at ops ≤ values
    → EachIs (HasSaved values) (states_from fuzzy t ops at past s)
saves_from values fuzzy t [] at past s room = (omega arith, tt)
saves_from values fuzzy t (first ∷ rest) at (suc past) s room = saves_from values fuzzy t rest (at + 1) past s (omega arith)
saves_from values fuzzy t (first ∷ rest) at zero s room = (
  omega arith,
  saves_after values (saved_in t (at + 1) rest) (pays_of first) (saved_of t first at rest) s (step fuzzy t first at rest s)
      (λ past after. states_from fuzzy t rest (at + 1) past after) room (steps_add_at_most fuzzy t first at rest s)
      (λ past after left. saves_from values fuzzy t rest (at + 1) past after left),
)

-- the open splits hold at most two values for each entry of the table
pub splits_are_few : (program : Compiled) → IsValid program → InEachRun (HasSaved (2 * length program.table)) program
splits_are_few program valid row =
    let saves : saved_in program.table 0 program.code ≡ 2 * length program.table =
    (λ i. saved_in (valid.stands.table i) 0 (valid.stands.code i)) ∙ code_saves valid.events
    ∙ ap (λ (t : List ℕ). 2 * length t) (sym valid.stands.table) in
    saves_from (2 * length program.table) program.fuzzy program.table program.code 0 0 (starting program.start program.dates row) (omega (arith, saves))
