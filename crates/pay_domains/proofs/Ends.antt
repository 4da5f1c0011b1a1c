-- The least and the greatest raw of pieces that rise are the first low and the last high.
use Rattle.std.proofs.Common.{◌≡◌, ℤ, pos, ◌+ℤ◌, ◌≤ℤ◌, ◌<ℤ◌, List, [], ◌∷◌, inl, inr, refl, ap, ◌∙◌, arith}
use Rattle.std.proofs.lemmas.Int.{ints, clamps}
use Rattle.std.specs.Int.{int_min, int_max}
use Rattle.pay_domains.specs.declared.piece.Piece.{Piece}
use Rattle.pay_domains.specs.Pieces.{Held, last_high, AreBeyond, IsCanonical}
use Rattle.pay_domains.proofs.NormalLemmas.{first_least, high_within}

-- the least of the lows, and the greatest of the highs
abbrev pub least_low : Piece → List Piece → ℤ
least_low p [] = p.low
least_low p (q ∷ rest) = int_min p.low (least_low q rest)

abbrev pub greatest_high : Piece → List Piece → ℤ
greatest_high p [] = p.high
greatest_high p (q ∷ rest) = int_max p.high (greatest_high q rest)

pub last_high_over : (z : ℤ) (p : Piece) (ps : List Piece) → z ≤ℤ p.high → AreBeyond p.high ps → z ≤ℤ last_high p ps
last_high_over z p [] h k = h
last_high_over z p (q ∷ rest) h k = last_high_over z q rest (omega (arith, ints, k.0, k.1)) k.2

pub least_is_first : (p : Piece) (ps : List Piece) → IsCanonical (p ∷ ps) → least_low p ps ≡ p.low
least_is_first p [] h = refl
least_is_first p (q ∷ rest) h =
    let later : least_low q rest ≡ q.low = least_is_first q rest (h.1.1, h.1.2) in
    ap (int_min p.low) later ∙ before p.low q.low p.high h.0 h.1.0
  where
    before : (a b c : ℤ) → a ≤ℤ c → (c +ℤ pos 1) <ℤ b → int_min a b ≡ a
    before a b c h k = omega (arith, ints, clamps)

pub greatest_is_last : (p : Piece) (ps : List Piece) → IsCanonical (p ∷ ps) → greatest_high p ps ≡ last_high p ps
greatest_is_last p [] h = refl
greatest_is_last p (q ∷ rest) h =
    ap (int_max p.high) (greatest_is_last q rest (h.1.1, h.1.2))
    ∙ under p.high (last_high q rest) (last_high_over p.high q rest (omega (arith, ints, h.1.0, h.1.1)) h.1.2)
  where
    under : (a b : ℤ) → a ≤ℤ b → int_max a b ≡ b
    under a b h = omega (arith, ints, clamps)

-- what is held lies between these ends, and they are held
pub held_from_first : (x : ℤ) (p : Piece) (ps : List Piece) → IsCanonical (p ∷ ps) → Held x (p ∷ ps) → p.low ≤ℤ x
held_from_first = first_least

pub held_to_last : (x : ℤ) (p : Piece) (ps : List Piece) → IsCanonical (p ∷ ps) → Held x (p ∷ ps) → x ≤ℤ last_high p ps
held_to_last x p ps h (inl w) = last_high_over x p ps w.high h.1
held_to_last x p [] h (inr e) = absurd e
held_to_last x p (q ∷ rest) h (inr e) = held_to_last x q rest (h.1.1, h.1.2) e

pub last_held : (p : Piece) (ps : List Piece) → IsCanonical (p ∷ ps) → Held (last_high p ps) (p ∷ ps)
last_held p [] h = inl (high_within p h.0)
last_held p (q ∷ rest) h = inr (last_held q rest (h.1.1, h.1.2))
