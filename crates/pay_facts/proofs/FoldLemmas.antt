-- That folding keeps ranges, decisions and facts.
use Rattle.std.proofs.Common.{◌≡◌, Bool, true, false, not, ◌||◌, ◌&&◌, List, [], ◌∷◌, ◌++◌, Some, Result, Ok, Err, IsTrue, refl}
use Rattle.std.proofs.Common.{subst, ap, ◌∙◌, ℤ, pos, neg_ℤ, unsigned_abs, ◌*ℤ◌, ◌≤ℤ◌, ◌<ℤ◌, if◌then◌else◌, inl, inr, nat_le, arith}
use Rattle.std.proofs.lemmas.Bool.{cases_Bool}
use Rattle.std.proofs.lemmas.Bool.Decides.{Decides-int_eq, nat_tests}
use Rattle.std.proofs.lemmas.Int.{ints, clamps}
use Rattle.std.specs.Prelude.{int_lt, int_le}
use Rattle.std.specs.Ordering.{int_eq}
use Rattle.std.specs.List.{flat_map, list_any}
use Rattle.std.specs.Int.{int_min, int_max}
use Rattle.pay_fixed.specs.Round.{round, scale, limit, limited, IsRaw}
use Rattle.pay_meaning.specs.declared.fault.FaultKind.{FaultKind}
use Rattle.pay_meaning.specs.declared.fault.FaultKind.TheVariants.{Overflow, ZeroDivisor}
use Rattle.pay_meaning.specs.Language.{Operator, add, subtract, multiply, divide, least, greatest, literal, Comparison, less, at_most, greater}
use Rattle.pay_meaning.specs.Language.{at_least, equals, differs, Event}
use Rattle.pay_meaning.specs.Meaning.{calculated, compared}
use Rattle.pay_domains.specs.declared.piece.Piece.{Piece}
use Rattle.pay_domains.specs.declared.ranged.Ranged.{Ranged}
use Rattle.pay_domains.specs.Pieces.{Held, from_to, point, normal}
use Rattle.pay_domains.specs.Operators.{lowest, highest, no_flags, with_flags, exact, least_of_four, greatest_of_four, span, unless_empty, clipped, is_beyond}
use Rattle.pay_domains.specs.Operators.{holds_zero, is_quotient, right_pieces, spans, has_pieces, reach, magnitude, negated, magnitudes, met}
use Rattle.pay_domains.specs.Queries.{is_none, point_of}
use Rattle.pay_facts.specs.Facts.{Domains}
use Rattle.pay_facts.specs.Ranges.{Range, picked, result_of, range, range_of_one, range_of_both}
use Rattle.pay_facts.specs.Decisions.{decided, is_same_point, are_apart, comparison_answer, comparison_decision, turned_decision}
use Rattle.pay_facts.specs.Decisions.{and_decision, or_decision, told_decision}
use Rattle.pay_facts.specs.After.{after_assignment, after_branches}
use Rattle.pay_facts.specs.FoldLaws.{WholesFollowParts, ConstantsFollow, FoldedRanges}
use Rattle.pay_facts.proofs.ComparisonLemmas.{apart-full}

wholes : (event : Event) → WholesFollowParts event
wholes event = record {
  of_negative = λ a b h domains known i. range_of_one negated (h domains known i);
  of_absolute = λ a b h domains known i. range_of_one magnitudes (h domains known i);
  of_binary = λ op a b c d h k domains known i. range_of_both op (h domains known i) (k domains (h domains known i).known i);
  of_compare = λ op a b c d note other h k domains known i. comparison_decision op (h domains known i) (k domains (h domains known i).known i);
  of_negation = λ a b h domains known i. turned_decision (h domains known i);
  of_conjunction = λ a b c d h k domains known i. and_decision (h domains known i) (k domains (h domains known i).known i);
  of_disjunction = λ a b c d h k domains known i. or_decision (h domains known i) (k domains (h domains known i).known i);
  of_sure = λ answer a b h domains known i. told_decision answer (h domains known i);
  of_assign = λ name a b h domains known i. after_assignment domains name (h domains known i);
  of_pay = λ leg other a b h domains known i. record { domains = domains; known = (h domains known i).known };
  of_choose = λ a b c d e f h k l domains known i.
      after_branches (h domains known i).answer (k domains (h domains known i).known i) (l domains (h domains known i).known i);
  of_group = λ a b h domains known. h domains known;
  of_next = λ a b c d h k domains known i. k (h domains known i).domains (h domains known i).known i;
}

-- signs of points
negated-point : (raw : ℤ) → negated (point raw) ≡ point (neg_ℤ raw)
unfolding negated normal
negated-point raw = refl

magnitude-point : (raw : ℤ) → magnitude (from_to raw raw) ≡ from_to (pos (unsigned_abs raw)) (pos (unsigned_abs raw))
magnitude-point raw = elim (cases_Bool (int_le (pos 0) raw)) [
  | inl hit ↦ let same : raw ≡ pos (unsigned_abs raw) = positive raw hit in rw hit (ap (λ z. from_to z z) same)
  | inr miss ↦
      let same : neg_ℤ raw ≡ pos (unsigned_abs raw) = negative-is raw miss in
      let below = below-zero raw miss in rw (miss, below) (ap (λ z. from_to z z) same)
]
  where
    positive : (raw : ℤ) → int_le (pos 0) raw ≡ true → raw ≡ pos (unsigned_abs raw)
    positive raw h = let k : pos 0 ≤ℤ raw = grind (arith, ints) in omega (arith, ints)

    below-zero : (raw : ℤ) → int_le (pos 0) raw ≡ false → int_le raw (pos 0) ≡ true
    below-zero raw h = let k : raw <ℤ pos 0 = grind (arith, ints) in grind (arith, ints)

    negative-is : (raw : ℤ) → int_le (pos 0) raw ≡ false → neg_ℤ raw ≡ pos (unsigned_abs raw)
    negative-is raw h = let k : raw <ℤ pos 0 = grind (arith, ints) in omega (arith, ints)

one-normal : (p : Piece) → normal (p ∷ []) ≡ p ∷ []
unfolding normal
one-normal p = refl

magnitudes-point : (raw : ℤ) → magnitudes (point raw) ≡ point (pos (unsigned_abs raw))
unfolding magnitudes
magnitudes-point raw = one-normal (magnitude (from_to raw raw)) ∙ ap (λ p. p ∷ []) (magnitude-point raw)

-- an operator of two points
span-point : (op : Operator) (a b : ℤ) → span op (from_to a a) (from_to b b) ≡ from_to (exact op a b) (exact op a b)
span-point op a b = λ i. from_to (least-same (exact op a b) i) (greatest-same (exact op a b) i)
  where
    least-same : (z : ℤ) → least_of_four z z z z ≡ z
    least-same z = omega (arith, ints, clamps)

    greatest-same : (z : ℤ) → greatest_of_four z z z z ≡ z
    greatest-same z = omega (arith, ints, clamps)

clipped-point : (z : ℤ) → IsRaw z → clipped (from_to z z) ≡ point z
clipped-point z h =
    let low : int_max z lowest ≡ z = omega (arith, ints, clamps) in
    let high : int_min z highest ≡ z = omega (arith, ints, clamps) in
    let order : int_le z z ≡ true = grind (arith, ints) in
    ap (λ p. unless_empty p) (λ i. from_to (low i) (high i)) ∙ rw order refl

within-point : (z : ℤ) → IsRaw z → is_beyond (from_to z z) ≡ false
within-point z h =
    let low : int_lt z lowest ≡ false = grind (arith, ints) in
    let high : int_lt highest z ≡ false = grind (arith, ints) in
    rw (low, high) refl

not-zero : (b : ℤ) → ¬ (b ≡ pos 0) → holds_zero (from_to b b) ≡ false
not-zero b h = elim (cases_Bool (int_le b (pos 0))) [
  | inl hit ↦ elim (cases_Bool (int_le (pos 0) b)) [
    | inl other ↦ absurd (h (zero-is b hit other))
    | inr miss ↦ rw (hit, miss) refl
  ]
  | inr miss ↦ rw miss refl
]
  where
    zero-is : (b : ℤ) → int_le b (pos 0) ≡ true → int_le (pos 0) b ≡ true → b ≡ pos 0
    zero-is b h k =
        let low : b ≤ℤ pos 0 = grind (arith, ints) in
        let high : pos 0 ≤ℤ b = grind (arith, ints) in
        omega (arith, ints)

-- what an operator needs of its right operand not to be a quotient by zero
abbrev Divides : Operator → ℤ → Type 0
Divides op b = IsTrue (is_quotient op) → ¬ (b ≡ pos 0)

right-point : (op : Operator) (b : ℤ) → Divides op b → right_pieces op (point b) ≡ point b
right-point add b h = refl
right-point subtract b h = refl
right-point multiply b h = refl
right-point divide b h = rw (not-zero b (h refl)) refl
right-point least b h = refl
right-point greatest b h = refl

zero-point : (op : Operator) (a b : ℤ) → Divides op b → (is_quotient op && has_pieces (point a) && list_any holds_zero (point b)) ≡ false
zero-point add a b h = refl
zero-point subtract a b h = refl
zero-point multiply a b h = refl
zero-point divide a b h = rw (not-zero b (h refl)) refl
zero-point least a b h = refl
zero-point greatest a b h = refl

-- one piece that is a raw, clipped; and its flag
piece-of : (pieces : List Piece) (z : ℤ) → IsRaw z → pieces ≡ point z → normal (flat_map clipped pieces) ≡ point z
piece-of pieces z h is = ap (λ s. normal (flat_map clipped s)) is ∙ ap (λ s. normal (s ++ [])) (clipped-point z h) ∙ one-normal (from_to z z)

flag-of-piece : (pieces : List Piece) (z : ℤ) → IsRaw z → pieces ≡ point z → list_any is_beyond pieces ≡ false
flag-of-piece pieces z h is = ap (list_any is_beyond) is ∙ ap (λ t. t || false) (within-point z h)

reach-point : (op : Operator) (a b : ℤ) → IsRaw (exact op a b) → Divides op b
    → reach op (point a) (point b) ≡ (let r : Ranged = record { domain = point (exact op a b); flags = no_flags } in r)
unfolding reach
reach-point op a b h k =
    let is : spans op (point a) (right_pieces op (point b)) ≡ point (exact op a b) =
    ap (spans op (point a)) (right-point op b k) ∙ ap (λ p. p ∷ []) (span-point op a b) in
    let domain = piece-of (spans op (point a) (right_pieces op (point b))) (exact op a b) h is in
    let overflow = flag-of-piece (spans op (point a) (right_pieces op (point b))) (exact op a b) h is in
    λ i. record { domain = domain i; flags = record { overflow = overflow i; zero = zero-point op a b k i; missing = false } }

ok-same : (x y : ℤ) → ◌≡◌ {A = Result ℤ FaultKind} (Ok x) (Ok y) → x ≡ y
ok-same x y h = cc

-- what a calculation gives is the exact raw, within the limit
limited-is : (z c : ℤ) → limited Overflow z ≡ Ok c → (z ≡ c) × IsRaw z
limited-is z c h = elim (cases_Bool (nat_le (unsigned_abs z) limit)) [
  | inl hit ↦
      let same : Ok z ≡ Ok c = subst (λ t. (if t then Ok z else Err Overflow) ≡ Ok c) hit h in
      (ok-same z c same, grind (arith, nat_tests))
  | inr miss ↦ let wrong : Err Overflow ≡ Ok c = subst (λ t. (if t then Ok z else Err Overflow) ≡ Ok c) miss h in cc
]

-- what an operator makes of two points is a point and no fault
abbrev pointed : ℤ → Ranged
pointed z = record { domain = point z; flags = no_flags }

limited-point : (op : Operator) (a b c : ℤ) → Divides op b → limited Overflow (exact op a b) ≡ Ok c → reach op (point a) (point b) ≡ pointed c
limited-point op a b c k h = let is = limited-is (exact op a b) c h in reach-point op a b is.1 k ∙ ap pointed is.0

picked-point : (op : Operator) (a b c : ℤ) → exact op a b ≡ c → picked op (point a) (point b) ≡ pointed c
picked-point op a b c is =
    let spanned : normal (spans op (point a) (point b)) ≡ point (exact op a b) =
    ap (λ p. normal (p ∷ [])) (span-point op a b) ∙ one-normal (from_to (exact op a b) (exact op a b)) in
    (λ i. record { domain = spanned i; flags = no_flags }) ∙ ap pointed is

result-point : (op : Operator) (a b c : ℤ) → calculated op a b ≡ Ok c → result_of op (point a) (point b) ≡ pointed c
result-point add a b c h = limited-point add a b c (λ q. cc) h
result-point subtract a b c h = limited-point subtract a b c (λ q. cc) h
result-point multiply a b c h = limited-point multiply a b c (λ q. cc) h
result-point divide a b c h = elim (cases_Bool (int_eq b (pos 0))) [
  | inl hit ↦
      let wrong : Err ZeroDivisor ≡ Ok c = subst (λ t. (if t then Err ZeroDivisor else limited Overflow (round (a *ℤ scale) b)) ≡ Ok c) hit h in cc
  | inr miss ↦
      let k : limited Overflow (round (a *ℤ scale) b) ≡ Ok c =
      subst (λ t. (if t then Err ZeroDivisor else limited Overflow (round (a *ℤ scale) b)) ≡ Ok c) miss h in
      limited-point divide a b c (λ q zero. let hit : int_eq b (pos 0) ≡ true = (Decides-int_eq b (pos 0)).1 zero in cc) k
]
result-point least a b c h = picked-point least a b c (ok-same (int_min a b) c h)
result-point greatest a b c h = picked-point greatest a b c (ok-same (int_max a b) c h)

own-range : Ranged → Bool → Range
own-range own known = record { domain = own.domain; flags = with_flags (with_flags no_flags no_flags) own.flags; known = known }

calculated-range : (event : Event) (op : Operator) (a b c : ℤ) → calculated op a b ≡ Ok c → (domains : Domains) (known : Bool)
    → range_of_both op (range (literal a) domains known event) (range (literal b) domains known event) ≡ range (literal c) domains known event
unfolding own-range
calculated-range event op a b c h domains known = ap (λ own. own-range own known) (result-point op a b c h)

-- the answer of two points
lt-answer : (a b : ℤ) → decided (int_lt a b) (int_le b a) ≡ Some (int_lt a b)
lt-answer a b = elim (cases_Bool (int_lt a b)) [
  | inl hit ↦ rw hit refl
  | inr miss ↦ let other : int_le b a ≡ true = flipped a b miss in rw (miss, other) refl
]
  where
    flipped : (a b : ℤ) → int_lt a b ≡ false → int_le b a ≡ true
    flipped a b h = let k : b ≤ℤ a = grind (arith, ints) in grind (arith, ints)

le-answer : (a b : ℤ) → decided (int_le a b) (int_lt b a) ≡ Some (int_le a b)
le-answer a b = elim (cases_Bool (int_le a b)) [
  | inl hit ↦ rw hit refl
  | inr miss ↦ let other : int_lt b a ≡ true = flipped a b miss in rw (miss, other) refl
]
  where
    flipped : (a b : ℤ) → int_le a b ≡ false → int_lt b a ≡ true
    flipped a b h = let k : b <ℤ a = grind (arith, ints) in grind (arith, ints)

-- of two points one is the other or they are apart
same-answer : (a b : ℤ) → is_same_point (point_of (point a)) (point_of (point b)) ≡ int_eq a b
same-answer a b =
    let left : int_eq a a ≡ true = (Decides-int_eq a a).1 refl in
    let right : int_eq b b ≡ true = (Decides-int_eq b b).1 refl in
    rw (left, right) refl

common-self : (a : ℤ) → is_none (met (point a) (point a)) ≡ false
unfolding met
common-self a =
    let low : int_max a a ≡ a = omega (arith, ints, clamps) in
    let high : int_min a a ≡ a = omega (arith, ints, clamps) in
    let order : int_le a a ≡ true = grind (arith, ints) in
    ap (λ p. is_none (normal ((unless_empty p ++ []) ++ []))) (λ i. from_to (low i) (high i))
    ∙ ap (λ t. is_none (normal (((if t then point a else []) ++ []) ++ []))) order ∙ ap is_none (one-normal (from_to a a))

apart-answer : (a b : ℤ) → are_apart (point a) (point b) ≡ not (int_eq a b)
apart-answer a b = elim (cases_Bool (int_eq a b)) [
  | inl hit ↦ rw hit (subst (λ c. is_none (met (point a) (point c)) ≡ false) ((Decides-int_eq a b).0 hit) (common-self a))
  | inr miss ↦ rw miss (apart-full (point a) (point b) (λ x h k. differ a b x miss h k))
]
  where
    differ : (a b x : ℤ) → int_eq a b ≡ false → Held x (point a) → ¬ Held x (point b)
    differ a b x miss (inl v) (inl w) =
        let same : a ≡ b = omega (arith, ints, v.low, v.high, w.low, w.high) in
        let hit : int_eq a b ≡ true = (Decides-int_eq a b).1 same in cc
    differ a b x miss (inl v) (inr k) = k
    differ a b x miss (inr h) k = h

decided-either : (t : Bool) → decided t (not t) ≡ Some t
decided-either true = refl
decided-either false = refl

decided-other : (t : Bool) → decided (not t) t ≡ Some (not t)
decided-other true = refl
decided-other false = refl

point-answer : (op : Comparison) (a b : ℤ) → comparison_answer op (point a) (point b) ≡ Some (compared op a b)
point-answer less a b = lt-answer a b
point-answer at_most a b = le-answer a b
point-answer greater a b = lt-answer b a
point-answer at_least a b = le-answer b a
point-answer equals a b = (λ i. decided (same-answer a b i) (apart-answer a b i)) ∙ decided-either (int_eq a b)
point-answer differs a b = (λ i. decided (apart-answer a b i) (same-answer a b i)) ∙ decided-other (int_eq a b)

constants : (event : Event) → ConstantsFollow event
constants event = record {
  of_negative = λ raw domains known i. record { domain = negated-point raw i; flags = no_flags; known = known };
  of_absolute = λ raw domains known i. record { domain = magnitudes-point raw i; flags = no_flags; known = known };
  of_binary = λ op a b c h. calculated-range event op a b c h;
  of_period = λ domains known. refl;
  of_days = λ domains known. refl;
  of_compare = λ op a b note domains known i. record { answer = point-answer op a b i; flags = no_flags; known = known };
}

pub folded-ranges : FoldedRanges
folded-ranges event = (wholes event, constants event)
