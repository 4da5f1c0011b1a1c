-- The code of a test tells its weight.
use Rattle.std.proofs.Common.{◌≡◌, ℕ, ◌+◌, ◌-◌, ℤ, Bool, true, false, List, [], ◌∷◌, ◌++◌, length, Option, Some, None, Result, Ok, Err, nat_eq}
use Rattle.std.proofs.Common.{if◌then◌else◌, refl, sym, ap, ◌∙◌, arith}
use Rattle.std.proofs.lemmas.Bool.{eqb-true}
use Rattle.pay_fixed.specs.declared.smooth.Smooth.{Smooth}
use Rattle.pay_meaning.specs.declared.fault.FaultKind.{FaultKind}
use Rattle.pay_meaning.specs.Meaning.{one, both}
use Rattle.pay_tree.specs.declared.tree.Compare.{Compare}
use Rattle.pay_tree.specs.Views.{comparison}
use Rattle.pay_tree.specs.Owned.{TestTree, truth_at, compare_at, not_at, and_at, or_at, note_of}
use Rattle.pay_fixed.specs.Weights.{whole as full}
use Rattle.pay_runs.specs.Weighing.{IsFuzzy, certain, compared_weight, joint, either, and_weight, or_weight}
use Rattle.pay_runs.specs.Counting.{unless_fault, nodes_after_and, nodes_after_or}
use Rattle.pay_runs.specs.Slots.{value_by_slots, surely_weight, weight_by_slots, first_cell}
use Rattle.pay_runs.specs.SlotCounts.{number_slot_nodes, test_slot_nodes}
use Rattle.pay_code.specs.declared.op.Op.{Op}
use Rattle.pay_code.specs.declared.op.Op.TheVariants as op
use Rattle.pay_code.specs.Flat.{number_code, and_code_to, or_code_to, after_sides, surely_code, test_code}
use Rattle.pay_code.specs.Execution.{State, counted, skip_if, onward, exec}
use Rattle.pay_code.proofs.RunLemmas.{faults, ends_with, with_number, with_weight, Gives, Tells, jumped, settled_at, before_two, before_three}
use Rattle.pay_code.proofs.RunLemmas.{length_two, length_three}
use Rattle.pay_code.proofs.NumberLaw.{number_gives}

-- the pieces of a test of two sides before other code
pub before_jump : (left : List Op) (skip : Op) (right : List Op) (join : Op) (rest : List Op)
    → (left ++ (skip ∷ (right ++ (join ∷ [])))) ++ rest ≡ left ++ (skip ∷ (right ++ (join ∷ rest)))
before_jump left skip right join rest =
    before_two left (skip ∷ (right ++ (join ∷ []))) rest ∙ ap (λ ops. left ++ (skip ∷ ops)) (before_two right (join ∷ []) rest)

pub length_jump : (left : List Op) (skip : Op) (right : List Op) (join : Op)
    → length (left ++ (skip ∷ (right ++ (join ∷ [])))) ≡ length left + 1 + length right + 1
length_jump left skip right join = omega (arith, length_two left (skip ∷ (right ++ (join ∷ []))), length_two right (join ∷ []))

sym_two : (right : List Op) (join : Op) (rest : List Op) → right ++ (join ∷ rest) ≡ (right ++ (join ∷ [])) ++ rest
sym_two right join rest = sym (before_two right (join ∷ []) rest)

truth_tells : (fuzzy : IsFuzzy) (t : List ℕ) (answer : Bool) (at : ℕ) (s : State)
    → Tells fuzzy t (op.Truth answer ∷ []) at s (Ok (certain answer)) 1
truth_tells fuzzy t answer at s = λ rest there total e h.
    settled_at fuzzy t rest (at + 1) there (s.nodes + 1) total (λ n. with_weight s n (certain answer)) e h

surely_tells : (fuzzy : IsFuzzy) (t : List ℕ) (told : Option Bool) (code : List Op) (at : ℕ) (s : State) (x : Result ℕ FaultKind) (n : ℕ)
    → Tells fuzzy t code at s x n → Tells fuzzy t (surely_code told code) at s (surely_weight told x) n
surely_tells fuzzy t None code at s x n first = first
surely_tells fuzzy t (Some answer) code at s (Err fault) n first = λ rest there total e h.
    ap (λ ops. exec fuzzy t ops at 0 s) (before_two code (op.Sure answer ∷ []) rest)
    ∙ first (op.Sure answer ∷ rest) (at + length code) total refl h
surely_tells fuzzy t (Some answer) code at s (Ok w) n first = λ rest there total e h.
    ap (λ ops. exec fuzzy t ops at 0 s) (before_two code (op.Sure answer ∷ []) rest)
    ∙ first (op.Sure answer ∷ rest) (at + length code) total refl h
    ∙ settled_at fuzzy t rest (at + length code + 1) there total total (λ n. with_weight s n (certain answer))
    (omega (arith, length_two code (op.Sure answer ∷ []))) refl

compare_tells : (fuzzy : IsFuzzy) (t : List ℕ) (kind : Compare) (smooth : Option Smooth) (left right : List Op) (at : ℕ) (s : State)
    (x y : Result ℤ FaultKind) (n m : ℕ)
    → Gives fuzzy t left at s x n → ((a : ℤ) → Gives fuzzy t right (at + length left) (with_number s (s.nodes + n) a) y m)
    → Tells fuzzy t (left ++ (right ++ (op.Compare kind smooth ∷ []))) at s
    (both (λ a b. Ok (compared_weight fuzzy (comparison kind) (note_of smooth) a b)) x y) (n + unless_fault x (m + unless_fault y 1))
compare_tells fuzzy t kind smooth left right at s (Err fault) y n m first second = λ rest there total e h.
    ap (λ ops. exec fuzzy t ops at 0 s) (before_three left right (op.Compare kind smooth ∷ []) rest)
    ∙ first (right ++ (op.Compare kind smooth ∷ rest)) (at + length left) total refl (omega arith)
compare_tells fuzzy t kind smooth left right at s (Ok a) (Err fault) n m first second = λ rest there total e h.
    ap (λ ops. exec fuzzy t ops at 0 s) (before_three left right (op.Compare kind smooth ∷ []) rest)
    ∙ first (right ++ (op.Compare kind smooth ∷ rest)) (at + length left) (s.nodes + n) refl refl
    ∙ second a (op.Compare kind smooth ∷ rest) (at + length left + length right) total refl (omega arith)
compare_tells fuzzy t kind smooth left right at s (Ok a) (Ok b) n m first second = λ rest there total e h.
    ap (λ ops. exec fuzzy t ops at 0 s) (before_three left right (op.Compare kind smooth ∷ []) rest)
    ∙ first (right ++ (op.Compare kind smooth ∷ rest)) (at + length left) (s.nodes + n) refl refl
    ∙ second a (op.Compare kind smooth ∷ rest) (at + length left + length right) (s.nodes + n + m) refl refl
    ∙ settled_at fuzzy t rest (at + length left + length right + 1) there (s.nodes + n + m + 1) total
    (λ n. with_weight s n (compared_weight fuzzy (comparison kind) (note_of smooth) a b))
    (omega (arith, length_three left right (op.Compare kind smooth ∷ []))) (omega arith)

not_tells : (fuzzy : IsFuzzy) (t : List ℕ) (side : List Op) (at : ℕ) (s : State) (x : Result ℕ FaultKind) (n : ℕ)
    → Tells fuzzy t side at s x n → Tells fuzzy t (side ++ (op.Not ∷ [])) at s (one (λ w. full - w) x) (n + unless_fault x 1)
not_tells fuzzy t side at s (Err fault) n first = λ rest there total e h.
    ap (λ ops. exec fuzzy t ops at 0 s) (before_two side (op.Not ∷ []) rest)
    ∙ first (op.Not ∷ rest) (at + length side) total refl (omega arith)
not_tells fuzzy t side at s (Ok w) n first = λ rest there total e h.
    ap (λ ops. exec fuzzy t ops at 0 s) (before_two side (op.Not ∷ []) rest)
    ∙ first (op.Not ∷ rest) (at + length side) (s.nodes + n) refl refl
    ∙ settled_at fuzzy t rest (at + length side + 1) there (s.nodes + n + 1) total (λ n. with_weight s n (full - w))
    (omega (arith, length_two side (op.Not ∷ []))) (omega arith)

-- a right side and the operation after it, which weighs the two sides by a function
right_tells : (fuzzy : IsFuzzy) (t : List ℕ) (join : Op) (weigh : ℕ → ℕ → ℕ) (right : List Op) (at : ℕ) (s : State) (w k : ℕ)
    (y : Result ℕ FaultKind) (m : ℕ)
    → ((rest : List Op) (place n b : ℕ) → exec fuzzy t (join ∷ rest) place 0 (with_weight (with_weight s k w) n b)
    ≡ exec fuzzy t rest (place + 1) 0 (with_weight s (n + 1) (weigh w b)))
    → Tells fuzzy t right at (with_weight s k w) y m → (rest : List Op) (there total : ℕ) → there ≡ at + length right + 1
    → total ≡ k + (m + unless_fault y 1)
    → exec fuzzy t (right ++ (join ∷ rest)) at 0 (with_weight s k w)
    ≡ ends_with (one (weigh w) y) (faults s total) (λ v. exec fuzzy t rest there 0 (with_weight s total v))
right_tells fuzzy t join weigh right at s w k (Err fault) m joins second rest there total e h =
    second (join ∷ rest) (at + length right) total refl (omega arith)
right_tells fuzzy t join weigh right at s w k (Ok b) m joins second rest there total e h =
    second (join ∷ rest) (at + length right) (k + m) refl refl
    ∙ joins rest (at + length right) (k + m) b
    ∙ settled_at fuzzy t rest (at + length right + 1) there (k + m + 1) total (λ n. with_weight s n (weigh w b)) e (omega arith)

-- a right side that is skipped, or not, by a test of the left one's weight, which is then `sharp`
side_tells : (fuzzy : IsFuzzy) (t : List ℕ) (join : Op) (weigh : ℕ → ℕ → ℕ) (right : List Op) (at past : ℕ) (s : State) (w sharp k : ℕ)
    (y : Result ℕ FaultKind) (m : ℕ) (skipped : Bool)
    → ((rest : List Op) (place n b : ℕ) → exec fuzzy t (join ∷ rest) place 0 (with_weight (with_weight s k w) n b)
    ≡ exec fuzzy t rest (place + 1) 0 (with_weight s (n + 1) (weigh w b)))
    → Tells fuzzy t right at (with_weight s k w) y m → nat_eq w sharp ≡ skipped → past ≡ length right + 1
    → (rest : List Op) (there total : ℕ) → there ≡ at + length right + 1
    → total ≡ k + (if skipped then 1 else m + unless_fault y 1)
    → onward (skip_if skipped past (with_weight s k w)) (λ n after. exec fuzzy t (right ++ (join ∷ rest)) at n after)
    ≡ ends_with (if skipped then Ok sharp else one (weigh w) y) (faults s total) (λ v. exec fuzzy t rest there 0 (with_weight s total v))
side_tells fuzzy t join weigh right at past s w sharp k y m true joins second same long rest there total e h =
    let is : w ≡ sharp = eqb-true w sharp same in
    let nodes : k + 1 ≡ total = omega arith in
    ap (λ ops. exec fuzzy t ops at past (counted (with_weight s k w))) (sym_two right join rest)
    ∙ jumped fuzzy t (right ++ (join ∷ [])) rest at past there (counted (with_weight s k w))
    (omega (arith, length_two right (join ∷ []))) (omega arith)
    ∙ (λ i. exec fuzzy t rest there 0 (with_weight s (nodes i) (is i)))
side_tells fuzzy t join weigh right at past s w sharp k y m false joins second same long rest there total e h =
    right_tells fuzzy t join weigh right at s w k y m joins second rest there total e h

and_tells : (fuzzy : IsFuzzy) (t : List ℕ) (to : ℕ) (left right : List Op) (at : ℕ) (s : State) (x y : Result ℕ FaultKind) (n m : ℕ)
    → to ≡ after_sides at left right → Tells fuzzy t left at s x n
    → ((a : ℕ) → Tells fuzzy t right (at + length left + 1) (with_weight s (s.nodes + n) a) y m)
    → Tells fuzzy t (and_code_to to left right) at s (and_weight x y) (n + nodes_after_and x (m + unless_fault y 1))
and_tells fuzzy t to left right at s (Err fault) y n m target first second = λ rest there total e h.
    ap (λ ops. exec fuzzy t ops at 0 s) (before_jump left (op.AndSkip to) right op.AndJoin rest)
    ∙ first (op.AndSkip to ∷ (right ++ (op.AndJoin ∷ rest))) (at + length left) total refl (omega arith)
and_tells fuzzy t to left right at s (Ok a) y n m target first second = λ rest there total e h.
    ap (λ ops. exec fuzzy t ops at 0 s) (before_jump left (op.AndSkip to) right op.AndJoin rest)
    ∙ first (op.AndSkip to ∷ (right ++ (op.AndJoin ∷ rest))) (at + length left) (s.nodes + n) refl refl
    ∙ side_tells fuzzy t op.AndJoin joint right (at + length left + 1) (to - (at + length left + 1)) s a 0 (s.nodes + n) y m (nat_eq a 0)
    (λ rest place n b. refl) (second a) refl (omega arith) rest there total
    (omega (arith, length_jump left (op.AndSkip to) right op.AndJoin)) (omega arith)

or_tells : (fuzzy : IsFuzzy) (t : List ℕ) (to : ℕ) (left right : List Op) (at : ℕ) (s : State) (x y : Result ℕ FaultKind) (n m : ℕ)
    → to ≡ after_sides at left right → Tells fuzzy t left at s x n
    → ((a : ℕ) → Tells fuzzy t right (at + length left + 1) (with_weight s (s.nodes + n) a) y m)
    → Tells fuzzy t (or_code_to to left right) at s (or_weight x y) (n + nodes_after_or x (m + unless_fault y 1))
or_tells fuzzy t to left right at s (Err fault) y n m target first second = λ rest there total e h.
    ap (λ ops. exec fuzzy t ops at 0 s) (before_jump left (op.OrSkip to) right op.OrJoin rest)
    ∙ first (op.OrSkip to ∷ (right ++ (op.OrJoin ∷ rest))) (at + length left) total refl (omega arith)
or_tells fuzzy t to left right at s (Ok a) y n m target first second = λ rest there total e h.
    ap (λ ops. exec fuzzy t ops at 0 s) (before_jump left (op.OrSkip to) right op.OrJoin rest)
    ∙ first (op.OrSkip to ∷ (right ++ (op.OrJoin ∷ rest))) (at + length left) (s.nodes + n) refl refl
    ∙ side_tells fuzzy t op.OrJoin either right (at + length left + 1) (to - (at + length left + 1)) s a full (s.nodes + n) y m (nat_eq a full)
    (λ rest place n b. refl) (second a) refl (omega arith) rest there total
    (omega (arith, length_jump left (op.OrSkip to) right op.OrJoin)) (omega arith)

-- the code of a test tells its weight, and evaluates as many parts
pub test_tells : (fuzzy : IsFuzzy) (t : List ℕ) (test : TestTree) (at : ℕ) (s : State)
    → Tells fuzzy t (test_code at test) at s (weight_by_slots fuzzy test s.slots (first_cell s.row))
    (test_slot_nodes fuzzy test s.slots (first_cell s.row))
test_tells fuzzy t (truth_at id told answer) at s =
    surely_tells fuzzy t told (op.Truth answer ∷ []) at s (Ok (certain answer)) 1 (truth_tells fuzzy t answer at s)
test_tells fuzzy t (compare_at id told kind left right smooth) at s =
    surely_tells fuzzy t told _ at s _ _
    (compare_tells fuzzy t kind smooth (number_code left) (number_code right) at s (value_by_slots left s.slots (first_cell s.row))
    (value_by_slots right s.slots (first_cell s.row)) (number_slot_nodes left s.slots (first_cell s.row))
    (number_slot_nodes right s.slots (first_cell s.row)) (number_gives fuzzy t left at s)
    (λ a. number_gives fuzzy t right (at + length (number_code left)) (with_number s (s.nodes + number_slot_nodes left s.slots (first_cell s.row)) a)))
test_tells fuzzy t (not_at id told side) at s =
    surely_tells fuzzy t told _ at s _ _
    (not_tells fuzzy t (test_code at side) at s (weight_by_slots fuzzy side s.slots (first_cell s.row))
    (test_slot_nodes fuzzy side s.slots (first_cell s.row)) (test_tells fuzzy t side at s))
test_tells fuzzy t (and_at id told left right) at s =
    let there : ℕ = at + length (test_code at left) + 1 in
    surely_tells fuzzy t told _ at s _ _
    (and_tells fuzzy t _ (test_code at left) (test_code there right) at s (weight_by_slots fuzzy left s.slots (first_cell s.row))
    (weight_by_slots fuzzy right s.slots (first_cell s.row)) (test_slot_nodes fuzzy left s.slots (first_cell s.row))
    (test_slot_nodes fuzzy right s.slots (first_cell s.row)) refl (test_tells fuzzy t left at s)
    (λ a. test_tells fuzzy t right there (with_weight s (s.nodes + test_slot_nodes fuzzy left s.slots (first_cell s.row)) a)))
test_tells fuzzy t (or_at id told left right) at s =
    let there : ℕ = at + length (test_code at left) + 1 in
    surely_tells fuzzy t told _ at s _ _
    (or_tells fuzzy t _ (test_code at left) (test_code there right) at s (weight_by_slots fuzzy left s.slots (first_cell s.row))
    (weight_by_slots fuzzy right s.slots (first_cell s.row)) (test_slot_nodes fuzzy left s.slots (first_cell s.row))
    (test_slot_nodes fuzzy right s.slots (first_cell s.row)) refl (test_tells fuzzy t left at s)
    (λ a. test_tells fuzzy t right there (with_weight s (s.nodes + test_slot_nodes fuzzy left s.slots (first_cell s.row)) a)))
