-- The least and the greatest raw of pieces that rise.
use Rattle.std.proofs.Common.{◌≡◌, ◌-◌, ℤ, ◌≤ℤ◌, List, [], ◌∷◌, length, Some, refl, ap, sym, ◌∙◌, arith}
use Rattle.std.specs.List.{slice_get}
use Rattle.std.specs.Option.{unwrap_or}
use Rattle.std.proofs.lemmas.Int.{ints, clamps}
use Rattle.std.proofs.lemmas.Option.{none-some}
use Rattle.pay_domains.specs.declared.piece.Piece.{Piece}
use Rattle.pay_domains.specs.Pieces.{from_to, last_high, AreBeyond, IsCanonical}
use Rattle.pay_facts.specs.Decisions.{least_raw, greatest_raw}
use Rattle.pay_ranges.specs.Views.{ends_of}

least-over : (z : ℤ) (p : Piece) (rest : List Piece) → z ≤ℤ p.low → p.low ≤ℤ p.high → AreBeyond p.high rest → z ≤ℤ least_raw p rest
least-over z p [] h k e = h
least-over z p (q ∷ rest) h k e =
    let there = least-over z q rest (omega (arith, ints, e.0)) e.1 e.2 in omega (arith, ints, clamps, there)

least-under : (p : Piece) (rest : List Piece) → least_raw p rest ≤ℤ p.low
least-under p [] = omega (arith, ints)
least-under p (q ∷ rest) = omega (arith, ints, clamps)

low-least : (p : Piece) (rest : List Piece) → p.low ≤ℤ p.high → AreBeyond p.high rest → p.low ≡ least_raw p rest
low-least p rest h e =
    let over = least-over p.low p rest (omega (arith, ints)) h e in
    let under = least-under p rest in omega (arith, ints)

high-greatest : (p : Piece) (rest : List Piece) → p.low ≤ℤ p.high → AreBeyond p.high rest
    → (p.high ≤ℤ greatest_raw p rest) × (last_high p rest ≡ greatest_raw p rest)
high-greatest p [] h e = (omega (arith, ints), refl)
high-greatest p (q ∷ rest) h e =
    let there = high-greatest q rest e.1 e.2 in (omega (arith, ints, clamps), there.1 ∙ omega (arith, ints, clamps, e.0, there.0))

last-got : (p : Piece) (rest : List Piece) (last : Piece) → Some last ≡ slice_get (p ∷ rest) (length rest) → last.high ≡ last_high p rest
last-got p [] last is = ap (λ piece. piece.high) (ap (λ o. unwrap_or o last) is)
last-got p (q ∷ rest) last is = last-got q rest last is

-- the first piece has the least raw, and the last one the greatest
pub ends_rise : (pieces : List Piece) (first last : Piece) → IsCanonical pieces → Some first ≡ slice_get pieces 0
    → Some last ≡ slice_get pieces (length pieces - 1) → Some (from_to first.low last.high) ≡ ends_of pieces
ends_rise [] first last h first_is last_is = absurd (none-some first (sym first_is))
ends_rise (p ∷ rest) first last h first_is last_is =
    let begins : first ≡ p = ap (λ o. unwrap_or o first) first_is in
    let ends = last-got p rest last (last_is ∙ ap (slice_get (p ∷ rest)) (omega arith)) in
    let low = ap (λ piece. piece.low) begins ∙ low-least p rest h.0 h.1 in
    let high = ends ∙ (high-greatest p rest h.0 h.1).1 in
    λ i. Some (from_to (low i) (high i))
