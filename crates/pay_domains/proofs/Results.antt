-- What operators, signs, unions and intersections give are domains, and what domains within the limit hold are raws of numbers.
use Rattle.std.proofs.Common.{ℤ, List, [], ◌∷◌, ◌++◌, map, flat_map, inl, inr, arith}
use Rattle.std.proofs.lemmas.Int.{ints}
use Rattle.pay_fixed.specs.Round.{IsRaw}
use Rattle.pay_meaning.specs.Language.{Operator}
use Rattle.pay_meaning.specs.Meaning.{calculated}
use Rattle.pay_domains.specs.declared.piece.Piece.{Piece}
use Rattle.pay_domains.specs.Pieces.{Held, point, AreRaws, IsDomain}
use Rattle.pay_domains.specs.Operators.{clipped, right_pieces, spans, reach, turned, magnitude, negated, magnitudes, united, common, met}
use Rattle.pay_domains.specs.DomainLaws.{Covers}
use Rattle.pay_domains.proofs.NormalLaws.{normal-domain, canonical_proper}
use Rattle.pay_domains.proofs.OperatorLaws.{clipped_proper, append_proper, flat_proper, operators-sound}
use Rattle.pay_domains.proofs.SetLaws.{map_proper, turned_proper, magnitude_proper, met_pieces_proper}

-- results are domains
pub point_domain : (raw : ℤ) → IsDomain (point raw)
point_domain raw = record { rises = (omega (arith, ints), tt); few = omega arith }

pub reach_domain : (op : Operator) (a b : List Piece) → IsDomain (reach op a b).domain
unfolding reach
reach_domain op a b =
    let pieces = flat_map clipped (spans op a (right_pieces op b)) in
    (normal-domain pieces (flat_proper clipped clipped_proper (spans op a (right_pieces op b)))).domain

pub negated_domain : (a : List Piece) → IsDomain a → IsDomain (negated a)
unfolding negated
negated_domain a h = (normal-domain (map turned a) (map_proper turned turned_proper a (canonical_proper a h.rises))).domain

pub magnitudes_domain : (a : List Piece) → IsDomain a → IsDomain (magnitudes a)
unfolding magnitudes
magnitudes_domain a h = (normal-domain (map magnitude a) (map_proper magnitude magnitude_proper a (canonical_proper a h.rises))).domain

pub united_domain : (a b : List Piece) → IsDomain a → IsDomain b → IsDomain (united a b)
unfolding united
united_domain a b h k = (normal-domain (a ++ b) (append_proper a b (canonical_proper a h.rises) (canonical_proper b k.rises))).domain

pub met_domain : (a b : List Piece) → IsDomain (met a b)
unfolding met
met_domain a b = (normal-domain (flat_map (λ p. flat_map (common p) b) a) (met_pieces_proper a b)).domain

-- what a domain within the limit holds is a raw
pub held_raw : (x : ℤ) (a : List Piece) → AreRaws a → Held x a → IsRaw x
held_raw x [] h e = absurd e
held_raw x (p ∷ rest) h (inl w) = omega (arith, ints, h.0, h.1, w.low, w.high)
held_raw x (p ∷ rest) h (inr e) = held_raw x rest h.2 e

-- so an operator on two domains within the limit is sound
pub reach_covers : (op : Operator) (a b : List Piece) (x y : ℤ) → IsDomain a → IsDomain b → AreRaws a → AreRaws b → Held x a → Held y b
    → Covers (reach op a b) (calculated op x y)
reach_covers op a b x y h k l m e f =
    operators-sound op a b x y (canonical_proper a h.rises) (canonical_proper b k.rises) (λ q. (held_raw x a l e, held_raw y b m f)) e f
