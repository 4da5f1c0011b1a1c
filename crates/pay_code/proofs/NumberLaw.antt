-- The code of a number gives its value.
use Rattle.std.proofs.Common.{ℕ, ◌+◌, ℤ, List, [], ◌∷◌, ◌++◌, length, Result, Ok, Err, refl, ap, ◌∙◌, arith}
use Rattle.pay_meaning.specs.declared.fault.FaultKind.{FaultKind}
use Rattle.pay_meaning.specs.Meaning.{one, both, known, calculated}
use Rattle.pay_tree.specs.declared.tree.Unary.{Unary}
use Rattle.pay_tree.specs.declared.tree.Binary.{Binary}
use Rattle.pay_tree.specs.Views.{operator}
use Rattle.pay_tree.specs.Owned.{NumberTree, literal_at, slot_at, spot_at, unary_at, binary_at}
use Rattle.pay_runs.specs.Weighing.{IsFuzzy}
use Rattle.pay_runs.specs.Counting.{unless_fault}
use Rattle.pay_runs.specs.Slots.{slot_value, signed_value, value_by_slots, first_cell}
use Rattle.pay_runs.specs.SlotCounts.{number_slot_nodes}
use Rattle.pay_code.specs.declared.op.Op.{Op}
use Rattle.pay_code.specs.declared.op.Op.TheVariants as op
use Rattle.pay_code.specs.Flat.{number_code}
use Rattle.pay_code.specs.Execution.{State, exec}
use Rattle.pay_code.proofs.RunLemmas.{with_number, Gives, put_leads, before_two, before_three, length_two, length_three}

unary_gives : (fuzzy : IsFuzzy) (t : List ℕ) (kind : Unary) (side : List Op) (at : ℕ) (s : State) (x : Result ℤ FaultKind) (n : ℕ)
    → Gives fuzzy t side at s x n → Gives fuzzy t (side ++ (op.Unary kind ∷ [])) at s (one (signed_value kind) x) (n + unless_fault x 1)
unary_gives fuzzy t kind side at s (Err fault) n first = λ rest there total e h.
    ap (λ ops. exec fuzzy t ops at 0 s) (before_two side (op.Unary kind ∷ []) rest)
    ∙ first (op.Unary kind ∷ rest) (at + length side) total refl (omega arith)
unary_gives fuzzy t kind side at s (Ok a) n first = λ rest there total e h.
    ap (λ ops. exec fuzzy t ops at 0 s) (before_two side (op.Unary kind ∷ []) rest)
    ∙ first (op.Unary kind ∷ rest) (at + length side) (s.nodes + n) refl refl
    ∙ put_leads fuzzy t s.numbers (Ok (signed_value kind a)) (with_number s (s.nodes + n) a) rest (at + length side + 1) there total
    (omega (arith, length_two side (op.Unary kind ∷ []))) (omega arith)

binary_gives : (fuzzy : IsFuzzy) (t : List ℕ) (kind : Binary) (left right : List Op) (at : ℕ) (s : State) (x y : Result ℤ FaultKind) (n m : ℕ)
    → Gives fuzzy t left at s x n → ((a : ℤ) → Gives fuzzy t right (at + length left) (with_number s (s.nodes + n) a) y m)
    → Gives fuzzy t (left ++ (right ++ (op.Binary kind ∷ []))) at s (both (calculated (operator kind)) x y)
    (n + unless_fault x (m + unless_fault y 1))
binary_gives fuzzy t kind left right at s (Err fault) y n m first second = λ rest there total e h.
    ap (λ ops. exec fuzzy t ops at 0 s) (before_three left right (op.Binary kind ∷ []) rest)
    ∙ first (right ++ (op.Binary kind ∷ rest)) (at + length left) total refl (omega arith)
binary_gives fuzzy t kind left right at s (Ok a) (Err fault) n m first second = λ rest there total e h.
    ap (λ ops. exec fuzzy t ops at 0 s) (before_three left right (op.Binary kind ∷ []) rest)
    ∙ first (right ++ (op.Binary kind ∷ rest)) (at + length left) (s.nodes + n) refl refl
    ∙ second a (op.Binary kind ∷ rest) (at + length left + length right) total refl (omega arith)
binary_gives fuzzy t kind left right at s (Ok a) (Ok b) n m first second = λ rest there total e h.
    ap (λ ops. exec fuzzy t ops at 0 s) (before_three left right (op.Binary kind ∷ []) rest)
    ∙ first (right ++ (op.Binary kind ∷ rest)) (at + length left) (s.nodes + n) refl refl
    ∙ second a (op.Binary kind ∷ rest) (at + length left + length right) (s.nodes + n + m) refl refl
    ∙ put_leads fuzzy t s.numbers (calculated (operator kind) a b) (with_number (with_number s (s.nodes + n) a) (s.nodes + n + m) b) rest
    (at + length left + length right + 1) there total (omega (arith, length_three left right (op.Binary kind ∷ []))) (omega arith)

-- the code of a number gives its value, and evaluates as many parts
pub number_gives : (fuzzy : IsFuzzy) (t : List ℕ) (number : NumberTree) (at : ℕ) (s : State)
    → Gives fuzzy t (number_code number) at s (value_by_slots number s.slots (first_cell s.row)) (number_slot_nodes number s.slots (first_cell s.row))
number_gives fuzzy t (literal_at id raw) at s = λ rest there total e h. put_leads fuzzy t s.numbers (Ok raw) s rest (at + 1) there total e h
number_gives fuzzy t (slot_at id slot) at s = λ rest there total e h.
    put_leads fuzzy t s.numbers (Ok (slot_value s.slots slot)) s rest (at + 1) there total e h
number_gives fuzzy t (spot_at id) at s = λ rest there total e h. put_leads fuzzy t s.numbers (known (first_cell s.row)) s rest (at + 1) there total e h
number_gives fuzzy t (unary_at id kind side) at s =
    unary_gives fuzzy t kind (number_code side) at s (value_by_slots side s.slots (first_cell s.row))
    (number_slot_nodes side s.slots (first_cell s.row)) (number_gives fuzzy t side at s)
number_gives fuzzy t (binary_at id kind left right) at s =
    binary_gives fuzzy t kind (number_code left) (number_code right) at s (value_by_slots left s.slots (first_cell s.row))
    (value_by_slots right s.slots (first_cell s.row)) (number_slot_nodes left s.slots (first_cell s.row))
    (number_slot_nodes right s.slots (first_cell s.row)) (number_gives fuzzy t left at s)
    (λ a. number_gives fuzzy t right (at + length (number_code left)) (with_number s (s.nodes + number_slot_nodes left s.slots (first_cell s.row)) a))
