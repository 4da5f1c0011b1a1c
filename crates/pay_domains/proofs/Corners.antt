-- A result at a place between the ends of two pieces lies between the results at the ends.
use Rattle.std.proofs.Common.{◌≡◌, ℕ, suc, ◌*◌, ◌<◌, ◌≤◌, ℤ, pos, negsuc, neg_ℤ, ◌*ℤ◌, ◌≤ℤ◌, ◌<ℤ◌}
use Rattle.std.proofs.Common.{true, ◌⊎◌, inl, inr, refl, sym, arith, mul-le-mul_left, mul-le-mul_right}
use Rattle.std.proofs.lemmas.Int.{ints, clamps}
use Rattle.std.specs.Int.{int_min, int_max}
use lib.IntN.{*ℤ_comm}
use Rattle.pay_fixed.specs.Round.{nearest, round, scale}
use Rattle.pay_meaning.specs.Language.{Operator, add, subtract, multiply, divide, least, greatest}
use Rattle.pay_domains.specs.declared.piece.Piece.{Piece}
use Rattle.pay_domains.specs.Pieces.{Within}
use Rattle.pay_domains.specs.Operators.{exact, is_quotient, span, least_of_four, greatest_of_four}

-- z lies from a to b, or from b to a
abbrev pub Along : ℤ → ℤ → ℤ → Type 0
Along a b z = ((a ≤ℤ z) × (z ≤ℤ b)) ⊎ ((b ≤ℤ z) × (z ≤ℤ a))

pub record Between (a b z : ℤ) : Type 0 where
  pub low : int_min a b ≤ℤ z
  pub high : z ≤ℤ int_max a b

between : (a b z : ℤ) → Along a b z → Between a b z
between a b z (inl h) = record { low = omega (arith, ints, clamps, h.0); high = omega (arith, ints, clamps, h.1) }
between a b z (inr h) = record { low = omega (arith, ints, clamps, h.0); high = omega (arith, ints, clamps, h.1) }

-- what rises or falls keeps what lies between
rising-along : (f : ℤ → ℤ) → ((m n : ℤ) → m ≤ℤ n → f m ≤ℤ f n) → (a b z : ℤ) → Along a b z → Along (f a) (f b) (f z)
rising-along f rise a b z (inl h) = inl (rise a z h.0, rise z b h.1)
rising-along f rise a b z (inr h) = inr (rise b z h.0, rise z a h.1)

falling-along : (f : ℤ → ℤ) → ((m n : ℤ) → m ≤ℤ n → f n ≤ℤ f m) → (a b z : ℤ) → Along a b z → Along (f a) (f b) (f z)
falling-along f fall a b z (inl h) = inr (fall z b h.1, fall a z h.0)
falling-along f fall a b z (inr h) = inl (fall z a h.1, fall b z h.0)

-- products
times-rising : (w : ℕ) (a b : ℤ) → a ≤ℤ b → (a *ℤ pos w) ≤ℤ (b *ℤ pos w)
times-rising w (pos a) (pos b) h = let more : a * w ≤ b * w = mul-le-mul_right w (omega (arith, ints)) in omega (arith, ints)
times-rising w (pos a) (negsuc b) h = absurd (omega (arith, ints))
times-rising w (negsuc a) (pos b) h = omega (arith, ints)
times-rising w (negsuc a) (negsuc b) h = let more : suc b * w ≤ suc a * w = mul-le-mul_right w (omega (arith, ints)) in omega (arith, ints)

neg-neg : (z : ℤ) → neg_ℤ (neg_ℤ z) ≡ z
neg-neg z = omega (arith, ints)

times-neg : (a : ℤ) (w : ℕ) → a *ℤ negsuc w ≡ neg_ℤ (a *ℤ pos (suc w))
times-neg (pos a) w = refl
times-neg (negsuc a) w = sym (neg-neg (pos (suc a * suc w)))

times-falling : (w : ℕ) (a b : ℤ) → a ≤ℤ b → (b *ℤ negsuc w) ≤ℤ (a *ℤ negsuc w)
times-falling w a b h = let more = times-rising (suc w) a b h in rw (times-neg a w, times-neg b w) (omega (arith, ints))

times-along : (c a b z : ℤ) → Along a b z → Along (a *ℤ c) (b *ℤ c) (z *ℤ c)
times-along (pos w) a b z h = rising-along (λ m. m *ℤ pos w) (times-rising w) a b z h
times-along (negsuc w) a b z h = falling-along (λ m. m *ℤ negsuc w) (times-falling w) a b z h

-- rounded quotients: they rise with the number under a positive divisor
nearest-rising : (d a b : ℕ) → a ≤ b → nearest a d ≤ nearest b d
nearest-rising d a b h = grind arith

round-rising : (d : ℕ) (m n : ℤ) → m ≤ℤ n → round m (pos d) ≤ℤ round n (pos d)
round-rising d (pos m) (pos n) h = let more = nearest-rising d m n (omega (arith, ints)) in omega (arith, ints)
round-rising d (pos m) (negsuc n) h = absurd (omega (arith, ints))
round-rising d (negsuc m) (pos n) h = omega (arith, ints)
round-rising d (negsuc m) (negsuc n) h = let more = nearest-rising d (suc n) (suc m) (omega (arith, ints)) in omega (arith, ints)

round-neg : (n : ℤ) (d : ℕ) → round n (negsuc d) ≡ neg_ℤ (round n (pos (suc d)))
round-neg (pos n) d = refl
round-neg (negsuc n) d = sym (neg-neg (pos (nearest (suc n) (suc d))))

round-falling : (d : ℕ) (m n : ℤ) → m ≤ℤ n → round n (negsuc d) ≤ℤ round m (negsuc d)
round-falling d m n h = let more = round-rising (suc d) m n h in rw (round-neg m d, round-neg n d) (omega (arith, ints))

round-along : (d a b z : ℤ) → Along a b z → Along (round a d) (round b d) (round z d)
round-along (pos d) a b z h = rising-along (λ m. round m (pos d)) (round-rising d) a b z h
round-along (negsuc d) a b z h = falling-along (λ m. round m (negsuc d)) (round-falling d) a b z h

-- and they come nearer to 0 as the divisor goes away from it
nearest-shrinks : (n c d : ℕ) → 0 < c → c ≤ d → nearest n d ≤ nearest n c
nearest-shrinks n c d h k = grind (arith, mul-le-mul_left, mul-le-mul_right)

-- two divisors on one side of 0
abbrev IsBeside : ℤ → ℤ → Type 0
IsBeside d e = (pos 0 <ℤ d) ⊎ (e <ℤ pos 0)

round-shrinks : (n : ℕ) (d e : ℤ) → IsBeside d e → d ≤ℤ e → round (pos n) e ≤ℤ round (pos n) d
round-shrinks n (pos d) (pos e) (inl s) h = let less = nearest-shrinks n d e (omega (arith, ints)) (omega (arith, ints)) in omega (arith, ints)
round-shrinks n (pos d) (pos e) (inr s) h = absurd (omega (arith, ints))
round-shrinks n (pos d) (negsuc e) s h = absurd (omega (arith, ints))
round-shrinks n (negsuc d) (pos e) (inl s) h = absurd (omega (arith, ints))
round-shrinks n (negsuc d) (pos e) (inr s) h = absurd (omega (arith, ints))
round-shrinks n (negsuc d) (negsuc e) s h =
    let less = nearest-shrinks n (suc e) (suc d) (omega arith) (omega (arith, ints)) in omega (arith, ints)

round-mirror : (n : ℕ) (d : ℤ) → round (negsuc n) d ≡ neg_ℤ (round (pos (suc n)) d)
round-mirror n (pos d) = refl
round-mirror n (negsuc d) = sym (neg-neg (pos (nearest (suc n) (suc d))))

round-grows : (n : ℕ) (d e : ℤ) → IsBeside d e → d ≤ℤ e → round (negsuc n) d ≤ℤ round (negsuc n) e
round-grows n d e s h = let less = round-shrinks (suc n) d e s h in rw (round-mirror n d, round-mirror n e) (omega (arith, ints))

divisor-along : (n low high y : ℤ) → IsBeside low high → low ≤ℤ y → y ≤ℤ high → Along (round n low) (round n high) (round n y)
divisor-along (pos n) low high y s h k = inr (round-shrinks n y high (upper s) k, round-shrinks n low y (lower s) h)
  where
    upper : IsBeside low high → IsBeside y high
    upper (inl a) = inl (omega (arith, ints))
    upper (inr a) = inr a

    lower : IsBeside low high → IsBeside low y
    lower (inl a) = inl a
    lower (inr a) = inr (omega (arith, ints))
divisor-along (negsuc n) low high y s h k = inl (round-grows n low y (lower s) h, round-grows n y high (upper s) k)
  where
    upper : IsBeside low high → IsBeside y high
    upper (inl a) = inl (omega (arith, ints))
    upper (inr a) = inr a

    lower : IsBeside low high → IsBeside low y
    lower (inl a) = inl a
    lower (inr a) = inr (omega (arith, ints))

-- a divisor's piece lies on one side of 0
abbrev pub Suits : Operator → Piece → Type 0
Suits op q = is_quotient op ≡ true → IsBeside q.low q.high

-- along the first operand, and along the second
first-along : (op : Operator) (p : Piece) (x y : ℤ) → Within x p → Along (exact op p.low y) (exact op p.high y) (exact op x y)
first-along add p x y w = inl (omega (arith, ints, w.low), omega (arith, ints, w.high))
first-along subtract p x y w = inl (omega (arith, ints, w.low), omega (arith, ints, w.high))
first-along multiply p x y w =
    round-along scale (p.low *ℤ y) (p.high *ℤ y) (x *ℤ y) (times-along y p.low p.high x (inl (w.low, w.high)))
first-along divide p x y w =
    round-along y (p.low *ℤ scale) (p.high *ℤ scale) (x *ℤ scale) (times-along scale p.low p.high x (inl (w.low, w.high)))
first-along least p x y w = inl (omega (arith, ints, clamps, w.low), omega (arith, ints, clamps, w.high))
first-along greatest p x y w = inl (omega (arith, ints, clamps, w.low), omega (arith, ints, clamps, w.high))

second-along : (op : Operator) (q : Piece) (x y : ℤ) → Suits op q → Within y q → Along (exact op x q.low) (exact op x q.high) (exact op x y)
second-along add q x y s w = inl (omega (arith, ints, w.low), omega (arith, ints, w.high))
second-along subtract q x y s w = inr (omega (arith, ints, w.high), omega (arith, ints, w.low))
second-along multiply q x y s w =
    round-along scale (x *ℤ q.low) (x *ℤ q.high) (x *ℤ y)
    (rw (*ℤ_comm x q.low, *ℤ_comm x q.high, *ℤ_comm x y) (times-along x q.low q.high y (inl (w.low, w.high))))
second-along divide q x y s w = divisor-along (x *ℤ scale) q.low q.high y (s refl) w.low w.high
second-along least q x y s w = inl (omega (arith, ints, clamps, w.low), omega (arith, ints, clamps, w.high))
second-along greatest q x y s w = inl (omega (arith, ints, clamps, w.low), omega (arith, ints, clamps, w.high))

four-low : (a b c d e f z : ℤ) → Between a c e → Between b d f → Between e f z → least_of_four a b c d ≤ℤ z
four-low a b c d e f z h k l = omega (arith, ints, clamps, h.low, k.low, l.low)

four-high : (a b c d e f z : ℤ) → Between a c e → Between b d f → Between e f z → z ≤ℤ greatest_of_four a b c d
four-high a b c d e f z h k l = omega (arith, ints, clamps, h.high, k.high, l.high)

-- what an operator gives for raws of two pieces lies in their span
pub in_span : (op : Operator) (p q : Piece) (x y : ℤ) → Suits op q → Within x p → Within y q → Within (exact op x y) (span op p q)
in_span op p q x y s w v =
    let at-low = between (exact op p.low q.low) (exact op p.high q.low) (exact op x q.low) (first-along op p x q.low w) in
    let at-high = between (exact op p.low q.high) (exact op p.high q.high) (exact op x q.high) (first-along op p x q.high w) in
    let across = between (exact op x q.low) (exact op x q.high) (exact op x y) (second-along op q x y s v) in
    record {
      low = four-low (exact op p.low q.low) (exact op p.low q.high) (exact op p.high q.low) (exact op p.high q.high)
          (exact op x q.low) (exact op x q.high) (exact op x y) at-low at-high across;
      high = four-high (exact op p.low q.low) (exact op p.low q.high) (exact op p.high q.low) (exact op p.high q.high)
          (exact op x q.low) (exact op x q.high) (exact op x y) at-low at-high across;
    }
