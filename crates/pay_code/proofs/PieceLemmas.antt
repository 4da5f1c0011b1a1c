-- Pieces of lists: what stands at the end of a piece, what is left after it, and payments that are scaled by pieces.
use Rattle.std.proofs.Common.{◌≡◌, ℕ, zero, suc, ◌-◌, List, [], ◌∷◌, ◌++◌, length, take, drop, map, refl, ap, ◌∙◌, arith}
use Rattle.pay_fixed.specs.Weights.{whole as full}
use Rattle.pay_runs.specs.Slots.{SlotPayment, scaled_slot_payment}
use Rattle.pay_code.specs.declared.op.Op.{Op}
use Rattle.pay_code.specs.Execution.{op_ahead, scaled_from}

-- the operation after a piece of code
pub ahead : (part : List Op) (o : Op) (rest : List Op) (n : ℕ) → n ≡ length part → op_ahead (part ++ (o ∷ rest)) n ≡ o
ahead [] o rest zero h = refl
ahead [] o rest (suc n) h = absurd (omega arith)
ahead (first ∷ part) o rest zero h = absurd (omega arith)
ahead (first ∷ part) o rest (suc n) h = ahead part o rest n (omega arith)

pub drop_piece : {A : Type 0} (a b : List A) (n : ℕ) → n ≡ length a → drop n (a ++ b) ≡ b
drop_piece [] b zero h = refl
drop_piece [] b (suc n) h = absurd (omega arith)
drop_piece (first ∷ a) b zero h = absurd (omega arith)
drop_piece (first ∷ a) b (suc n) h = drop_piece a b n (omega arith)

pub take_piece : {A : Type 0} (a b : List A) (n : ℕ) → n ≡ length a → take n (a ++ b) ≡ a
take_piece [] b zero h = refl
take_piece [] b (suc n) h = absurd (omega arith)
take_piece (first ∷ a) b zero h = absurd (omega arith)
take_piece (first ∷ a) b (suc n) h = ap (λ xs. first ∷ xs) (take_piece a b n (omega arith))

-- the payments of two branches after others
pub scaled_pieces : (w first second : ℕ) (paid p q : List SlotPayment) → first ≡ length paid → second ≡ length (paid ++ p)
    → scaled_from w first second ((paid ++ p) ++ q) ≡ paid ++ (map (scaled_slot_payment w) p ++ map (scaled_slot_payment (full - w)) q)
scaled_pieces w first second paid p q h k =
    let both : take second ((paid ++ p) ++ q) ≡ paid ++ p = take_piece (paid ++ p) q second k in
    let before : take first (take second ((paid ++ p) ++ q)) ≡ paid = ap (take first) both ∙ take_piece paid p first h in
    let yes_part : drop first (take second ((paid ++ p) ++ q)) ≡ p = ap (drop first) both ∙ drop_piece paid p first h in
    let no_part : drop second ((paid ++ p) ++ q) ≡ q = drop_piece (paid ++ p) q second k in
    λ i. before i ++ (map (scaled_slot_payment w) (yes_part i) ++ map (scaled_slot_payment (full - w)) (no_part i))
