-- What the parts of a decision say of raws.
use Rattle.std.proofs.Common.{◌≡◌, Bool, true, false, not, List, [], ◌∷◌, ◌++◌, Option, Some, None, IsTrue, refl, sym, subst, ap, ◌∙◌}
use Rattle.std.proofs.Common.{if◌then◌else◌, inl, inr, ◌↔◌, ℤ, ◌≤ℤ◌, ◌<ℤ◌, arith}
use Rattle.std.proofs.lemmas.Bool.{cases_Bool}
use Rattle.std.proofs.lemmas.Bool.Decides.{Decides-int_eq}
use Rattle.std.proofs.lemmas.Int.{ints, clamps}
use Rattle.std.specs.Prelude.{int_lt, int_le}
use Rattle.std.specs.Ordering.{int_eq}
use Rattle.std.specs.List.{flat_map}
use Rattle.std.specs.Int.{int_min, int_max}
use Rattle.pay_meaning.specs.Language.{Comparison, less, at_most, greater, at_least, equals, differs}
use Rattle.pay_meaning.specs.Meaning.{compared}
use Rattle.pay_domains.specs.declared.piece.Piece.{Piece}
use Rattle.pay_domains.specs.Pieces.{Within, Held, normal, AreProper, IsDomain}
use Rattle.pay_domains.specs.Operators.{common, met}
use Rattle.pay_domains.specs.Queries.{is_none, is_point, point_of}
use Rattle.pay_facts.specs.Decisions.{least_raw, greatest_raw, decided, is_same_point, are_apart, compared_ends, comparison_answer}
use Rattle.pay_facts.specs.Holding.{Agrees}
use Rattle.pay_facts.specs.DecisionLaws.{ComparisonAnswerIsSound, ComparisonAnswerIsFull, HoldsOnly, AreEnds, DecisionsReadRaws}
use Rattle.pay_domains.proofs.SetLaws.{sets-sound}
use Rattle.pay_facts.proofs.ResultLemmas.{proper}

-- the least and the greatest raw
low-bounds : (p : Piece) (rest : List Piece) (x : ℤ) → Held x (p ∷ rest) → least_raw p rest ≤ℤ x
low-bounds p [] x (inl w) = w.low
low-bounds p [] x (inr h) = absurd h
low-bounds p (q ∷ rest) x (inl w) = omega (arith, ints, clamps, w.low)
low-bounds p (q ∷ rest) x (inr h) = let k = low-bounds q rest x h in omega (arith, ints, clamps)

high-bounds : (p : Piece) (rest : List Piece) (x : ℤ) → Held x (p ∷ rest) → x ≤ℤ greatest_raw p rest
high-bounds p [] x (inl w) = w.high
high-bounds p [] x (inr h) = absurd h
high-bounds p (q ∷ rest) x (inl w) = omega (arith, ints, clamps, w.high)
high-bounds p (q ∷ rest) x (inr h) = let k = high-bounds q rest x h in omega (arith, ints, clamps)

-- the lesser of two raws is one of them, and so is the greater
min-cases : (P : ℤ → Type 0) (a b : ℤ) → P a → P b → P (int_min a b)
min-cases P a b h k = elim (cases_Bool (int_lt b a)) [
  | inl hit ↦ rw hit k
  | inr miss ↦ rw miss h
]

max-cases : (P : ℤ → Type 0) (a b : ℤ) → P a → P b → P (int_max a b)
max-cases P a b h k = elim (cases_Bool (int_lt b a)) [
  | inl hit ↦ rw hit h
  | inr miss ↦ rw miss k
]

low-held : (p : Piece) (rest : List Piece) → AreProper (p ∷ rest) → Held (least_raw p rest) (p ∷ rest)
low-held p [] h = inl (record { low = omega (arith, ints); high = h.0 })
low-held p (q ∷ rest) h =
    min-cases (λ z. Held z (p ∷ q ∷ rest)) p.low (least_raw q rest) (inl (record { low = omega (arith, ints); high = h.0 })) (inr (low-held q rest h.1))

high-held : (p : Piece) (rest : List Piece) → AreProper (p ∷ rest) → Held (greatest_raw p rest) (p ∷ rest)
high-held p [] h = inl (record { low = h.0; high = omega (arith, ints) })
high-held p (q ∷ rest) h =
    max-cases (λ z. Held z (p ∷ q ∷ rest)) p.high (greatest_raw q rest) (inl (record { low = h.0; high = omega (arith, ints) })) (inr (high-held q rest h.1))

ends : (p : Piece) (rest : List Piece) → IsDomain (p ∷ rest) → AreEnds p rest
ends p rest d = record {
  least = low-held p rest (proper (p ∷ rest) d);
  greatest = high-held p rest (proper (p ∷ rest) d);
  between = λ x h. (low-bounds p rest x h, high-bounds p rest x h);
}

-- pieces that hold a raw are not none
none-held : (a : List Piece) (x : ℤ) → IsTrue (is_none a) → ¬ Held x a
none-held [] x h k = k
none-held (p ∷ rest) x h k = cc

-- two domains are apart where they have no raw in common
apart-sound : (a b : List Piece) → IsDomain a → IsDomain b → IsTrue (are_apart a b) → (x : ℤ) → Held x a → ¬ Held x b
apart-sound a b da db h x in-a in-b =
    none-held (met a b) x h ((sets-sound a b x (proper a da) (proper b db)).met_both in-a in-b)

common-none : (p q : Piece) → ((x : ℤ) → Within x p → ¬ Within x q) → common p q ≡ []
common-none p q h = elim (cases_Bool (int_le (int_max p.low q.low) (int_min p.high q.high))) [
  | inl hit ↦
      let order : int_max p.low q.low ≤ℤ int_min p.high q.high = grind (arith, ints) in
      absurd (h (int_max p.low q.low) (record { low = omega (arith, ints, clamps); high = omega (arith, ints, clamps) })
      (record { low = omega (arith, ints, clamps); high = omega (arith, ints, clamps) }))
  | inr miss ↦ rw miss refl
]

row-none : (p : Piece) (b : List Piece) → ((x : ℤ) → Within x p → ¬ Held x b) → flat_map (common p) b ≡ []
row-none p [] h = refl
row-none p (q ∷ rest) h =
    ap (λ c. c ++ flat_map (common p) rest) (common-none p q (λ x v w. h x v (inl w))) ∙ row-none p rest (λ x v k. h x v (inr k))

rows-none : (a b : List Piece) → ((x : ℤ) → Held x a → ¬ Held x b) → flat_map (λ p. flat_map (common p) b) a ≡ []
rows-none [] b h = refl
rows-none (p ∷ rest) b h =
    ap (λ c. c ++ flat_map (λ q. flat_map (common q) b) rest) (row-none p b (λ x w k. h x (inl w) k)) ∙ rows-none rest b (λ x k l. h x (inr k) l)

met-none : (a b : List Piece) → flat_map (λ p. flat_map (common p) b) a ≡ [] → IsTrue (is_none (met a b))
unfolding met normal
met-none a b h = rw h refl

pub apart-full : (a b : List Piece) → ((x : ℤ) → Held x a → ¬ Held x b) → IsTrue (are_apart a b)
apart-full a b h = met-none a b (rows-none a b h)

-- the raw of a point is the only one
point-only : (a : List Piece) (x : ℤ) → point_of a ≡ Some x → HoldsOnly x a
point-only [] x h = cc
point-only (p ∷ []) x h = elim (cases_Bool (is_point p)) [
  | inl hit ↦
      let one : p.low ≡ p.high = (Decides-int_eq p.low p.high).0 hit in
      let is : p.low ≡ x = some-same p.low x (subst (λ c. (if c then Some p.low else None) ≡ Some x) hit h) in
      λ y. (λ held. within-point p x y one is held, λ same. inl (record { low = omega (arith, ints); high = omega (arith, ints) }))
  | inr miss ↦ let none : None ≡ Some x = subst (λ c. (if c then Some p.low else None) ≡ Some x) miss h in cc
]
  where
    some-same : (a b : ℤ) → Some a ≡ Some b → a ≡ b
    some-same a b e = cc

    within-point : (p : Piece) (x y : ℤ) → p.low ≡ p.high → p.low ≡ x → Held y (p ∷ []) → y ≡ x
    within-point p x y one is (inl w) = omega (arith, ints, w.low, w.high)
    within-point p x y one is (inr h) = absurd h
point-only (p ∷ q ∷ rest) x h = cc

only-point : (a : List Piece) (x : ℤ) → IsDomain a → HoldsOnly x a → point_of a ≡ Some x
only-point [] x d h = absurd ((h x).1 refl)
only-point (p ∷ []) x d h =
    let low : p.low ≡ x = (h p.low).0 (inl (record { low = omega (arith, ints); high = d.rises.0 })) in
    let high : p.high ≡ x = (h p.high).0 (inl (record { low = d.rises.0; high = omega (arith, ints) })) in
    let one : int_eq p.low p.high ≡ true = (Decides-int_eq p.low p.high).1 (low ∙ sym high) in
    rw one (ap Some low)
only-point (p ∷ q ∷ rest) x d h =
    let first : p.low ≡ x = (h p.low).0 (inl (record { low = omega (arith, ints); high = d.rises.0 })) in
    let second : q.low ≡ x = (h q.low).0 (inr (inl (record { low = omega (arith, ints); high = d.rises.1.1 }))) in
    absurd (omega (arith, ints, d.rises.0, d.rises.1.0))

-- two raws that are known and the same
same-points : (u v : Option ℤ) → IsTrue (is_same_point u v) → (x : ℤ) × ((u ≡ Some x) × (v ≡ Some x))
same-points None v h = cc
same-points (Some x) None h = cc
same-points (Some x) (Some y) h = (x, (refl, ap Some (sym ((Decides-int_eq x y).0 h))))

points-same : (u v : Option ℤ) (x : ℤ) → u ≡ Some x → v ≡ Some x → IsTrue (is_same_point u v)
points-same u v x h k = rw (h, k) ((Decides-int_eq x x).1 refl)

same-only : (a b : List Piece) → IsDomain a → IsDomain b
    → IsTrue (is_same_point (point_of a) (point_of b)) ↔ ((x : ℤ) × (HoldsOnly x a × HoldsOnly x b))
same-only a b da db = (
  λ h. let k = same-points (point_of a) (point_of b) h in (k.0, (point-only a k.0 k.1.0, point-only b k.0 k.1.1)),
  λ h. points-same (point_of a) (point_of b) h.0 (only-point a h.0 da h.1.0) (only-point b h.0 db h.1.1),
)

-- a decision of two tests agrees with a truth that they show
decided-agrees : (shown refuted truth : Bool) → (IsTrue shown → truth ≡ true) → (IsTrue refuted → truth ≡ false) → Agrees (decided shown refuted) truth
decided-agrees true refuted truth h k = h refl
decided-agrees false true truth h k = k refl
decided-agrees false false truth h k = tt

-- what the ends show
lt-shows : (x y high low : ℤ) → x ≤ℤ high → low ≤ℤ y → IsTrue (int_lt high low) → int_lt x y ≡ true
lt-shows x y high low h k t = let less : high <ℤ low = grind (arith, ints) in grind (arith, ints)

le-shows : (x y high low : ℤ) → x ≤ℤ high → low ≤ℤ y → IsTrue (int_le high low) → int_le x y ≡ true
le-shows x y high low h k t = let order : high ≤ℤ low = grind (arith, ints) in grind (arith, ints)

not-lt-shows : (x y low high : ℤ) → low ≤ℤ x → y ≤ℤ high → IsTrue (int_le high low) → int_lt x y ≡ false
not-lt-shows x y low high h k t = let order : high ≤ℤ low = grind (arith, ints) in grind (arith, ints)

not-le-shows : (x y low high : ℤ) → low ≤ℤ x → y ≤ℤ high → IsTrue (int_lt high low) → int_le x y ≡ false
not-le-shows x y low high h k t = let less : high <ℤ low = grind (arith, ints) in grind (arith, ints)

eq-shows : (x y : ℤ) → x ≡ y → int_eq x y ≡ true
eq-shows x y h = (Decides-int_eq x y).1 h

not-eq-shows : (x y : ℤ) → ¬ (x ≡ y) → int_eq x y ≡ false
not-eq-shows x y h = elim (cases_Bool (int_eq x y)) [
  | inl hit ↦ absurd (h ((Decides-int_eq x y).0 hit))
  | inr miss ↦ miss
]

pub ends-agree : (op : Comparison) (a a' b b' x y : ℤ) (same apart : Bool) → a ≤ℤ x → x ≤ℤ a' → b ≤ℤ y → y ≤ℤ b' → (IsTrue same → x ≡ y)
    → (IsTrue apart → ¬ (x ≡ y)) → Agrees (compared_ends op a a' b b' same apart) (compared op x y)
ends-agree less a a' b b' x y same apart la ha lb hb s t =
    decided-agrees (int_lt a' b) (int_le b' a) (int_lt x y) (lt-shows x y a' b ha lb) (not-lt-shows x y a b' la hb)
ends-agree at_most a a' b b' x y same apart la ha lb hb s t =
    decided-agrees (int_le a' b) (int_lt b' a) (int_le x y) (le-shows x y a' b ha lb) (not-le-shows x y a b' la hb)
ends-agree greater a a' b b' x y same apart la ha lb hb s t =
    decided-agrees (int_lt b' a) (int_le a' b) (int_lt y x) (lt-shows y x b' a hb la) (not-lt-shows y x b a' lb ha)
ends-agree at_least a a' b b' x y same apart la ha lb hb s t =
    decided-agrees (int_le b' a) (int_lt a' b) (int_le y x) (le-shows y x b' a hb la) (not-le-shows y x b a' lb ha)
ends-agree equals a a' b b' x y same apart la ha lb hb s t =
    decided-agrees same apart (int_eq x y) (λ h. eq-shows x y (s h)) (λ h. not-eq-shows x y (t h))
ends-agree differs a a' b b' x y same apart la ha lb hb s t =
    decided-agrees apart same (not (int_eq x y)) (λ h. ap not (not-eq-shows x y (t h))) (λ h. ap not (eq-shows x y (s h)))

-- the same raw alone in both
same-raw : (a b : List Piece) (x y : ℤ) → IsDomain a → IsDomain b → Held x a → Held y b → IsTrue (is_same_point (point_of a) (point_of b)) → x ≡ y
same-raw a b x y da db in-a in-b h = let k = (same-only a b da db).0 h in (k.1.0 x).0 in-a ∙ sym ((k.1.1 y).0 in-b)

pub comparison-agrees : (op : Comparison) (a b : List Piece) (x y : ℤ) → IsDomain a → IsDomain b → Held x a → Held y b
    → Agrees (comparison_answer op a b) (compared op x y)
comparison-agrees op [] b x y da db h k = absurd h
comparison-agrees op (p ∷ a) [] x y da db h k = absurd k
comparison-agrees op (p ∷ a) (q ∷ b) x y da db h k =
    ends-agree op (least_raw p a) (greatest_raw p a) (least_raw q b) (greatest_raw q b) x y
    (is_same_point (point_of (p ∷ a)) (point_of (q ∷ b))) (are_apart (p ∷ a) (q ∷ b))
    (low-bounds p a x h) (high-bounds p a x h) (low-bounds q b y k) (high-bounds q b y k) (same-raw (p ∷ a) (q ∷ b) x y da db h k)
    (λ t same. apart-sound (p ∷ a) (q ∷ b) da db t x h (subst (λ z. Held z (q ∷ b)) (sym same) k))

comparison-sound : ComparisonAnswerIsSound
comparison-sound op a b x y answer da db h k is =
    subst (λ u. Agrees u (compared op x y)) is (comparison-agrees op a b x y da db h k)

-- a test that shows it, and one that refutes it
both-tests : (shown refuted answer : Bool) → shown ≡ answer → refuted ≡ not answer → decided shown refuted ≡ Some answer
both-tests shown refuted true h k = rw h refl
both-tests shown refuted false h k = rw (h, k) refl

le-flipped : (a b : ℤ) → int_le a b ≡ not (int_lt b a)
le-flipped a b = elim (cases_Bool (int_lt b a)) [
  | inl hit ↦ rw hit (not-le a b hit)
  | inr miss ↦ rw miss (is-le a b miss)
]
  where
    not-le : (a b : ℤ) → int_lt b a ≡ true → int_le a b ≡ false
    not-le a b h = let k : b <ℤ a = grind (arith, ints) in grind (arith, ints)

    is-le : (a b : ℤ) → int_lt b a ≡ false → int_le a b ≡ true
    is-le a b h = let k : a ≤ℤ b = grind (arith, ints) in grind (arith, ints)

not-not : (t : Bool) → not (not t) ≡ t
not-not true = refl
not-not false = refl

lt-flipped : (a b : ℤ) → int_lt a b ≡ not (int_le b a)
lt-flipped a b = sym (not-not (int_lt a b)) ∙ ap not (sym (le-flipped b a))

-- all raws of two domains answer the equality alike
abbrev AllAnswer : List Piece → List Piece → Bool → Type 0
AllAnswer a b answer = (v w : ℤ) → Held v a → Held w b → int_eq v w ≡ answer

eq-same : (a b : List Piece) (x y : ℤ) (answer : Bool) → IsDomain a → IsDomain b → Held x a → Held y b → AllAnswer a b answer
    → is_same_point (point_of a) (point_of b) ≡ answer
eq-same a b x y true da db in-a in-b h = (same-only a b da db).1 (
  y,
  (
    λ v. (λ held. (Decides-int_eq v y).0 (h v y held in-b), λ is. subst (λ z. Held z a) ((Decides-int_eq x y).0 (h x y in-a in-b) ∙ sym is) in-a),
    λ w. (λ held. sym ((Decides-int_eq x w).0 (h x w in-a held)) ∙ (Decides-int_eq x y).0 (h x y in-a in-b), λ is. subst (λ z. Held z b) (sym is) in-b),
  ),
)
eq-same a b x y false da db in-a in-b h = elim (cases_Bool (is_same_point (point_of a) (point_of b))) [
  | inl hit ↦
      let is = same-raw a b x y da db in-a in-b hit in
      let same : int_eq x y ≡ true = eq-shows x y is in
      let differ = h x y in-a in-b in cc
  | inr miss ↦ miss
]

eq-apart : (a b : List Piece) (x y : ℤ) (answer : Bool) → IsDomain a → IsDomain b → Held x a → Held y b → AllAnswer a b answer
    → are_apart a b ≡ not answer
eq-apart a b x y true da db in-a in-b h = elim (cases_Bool (are_apart a b)) [
  | inl hit ↦ absurd (apart-sound a b da db hit x in-a (subst (λ z. Held z b) (sym ((Decides-int_eq x y).0 (h x y in-a in-b))) in-b))
  | inr miss ↦ miss
]
eq-apart a b x y false da db in-a in-b h =
    apart-full a b (λ v held other. let same : int_eq v v ≡ true = eq-shows v v refl in let differ = h v v held other in cc)

not-answer : (t answer : Bool) → not t ≡ answer → t ≡ not answer
not-answer t answer h = sym (not-not t) ∙ ap not h

comparison-full : ComparisonAnswerIsFull
comparison-full op [] b x y answer da db h k all = absurd h
comparison-full op (p ∷ a) [] x y answer da db h k all = absurd k
comparison-full less (p ∷ a) (q ∷ b) x y answer da db h k all =
    let left = ends p a da in let right = ends q b db in
    both-tests (int_lt (greatest_raw p a) (least_raw q b)) (int_le (greatest_raw q b) (least_raw p a)) answer
    (all (greatest_raw p a) (least_raw q b) left.greatest right.least)
    (le-flipped (greatest_raw q b) (least_raw p a) ∙ ap not (all (least_raw p a) (greatest_raw q b) left.least right.greatest))
comparison-full at_most (p ∷ a) (q ∷ b) x y answer da db h k all =
    let left = ends p a da in let right = ends q b db in
    both-tests (int_le (greatest_raw p a) (least_raw q b)) (int_lt (greatest_raw q b) (least_raw p a)) answer
    (all (greatest_raw p a) (least_raw q b) left.greatest right.least)
    (lt-flipped (greatest_raw q b) (least_raw p a) ∙ ap not (all (least_raw p a) (greatest_raw q b) left.least right.greatest))
comparison-full greater (p ∷ a) (q ∷ b) x y answer da db h k all =
    let left = ends p a da in let right = ends q b db in
    both-tests (int_lt (greatest_raw q b) (least_raw p a)) (int_le (greatest_raw p a) (least_raw q b)) answer
    (all (least_raw p a) (greatest_raw q b) left.least right.greatest)
    (le-flipped (greatest_raw p a) (least_raw q b) ∙ ap not (all (greatest_raw p a) (least_raw q b) left.greatest right.least))
comparison-full at_least (p ∷ a) (q ∷ b) x y answer da db h k all =
    let left = ends p a da in let right = ends q b db in
    both-tests (int_le (greatest_raw q b) (least_raw p a)) (int_lt (greatest_raw p a) (least_raw q b)) answer
    (all (least_raw p a) (greatest_raw q b) left.least right.greatest)
    (lt-flipped (greatest_raw p a) (least_raw q b) ∙ ap not (all (greatest_raw p a) (least_raw q b) left.greatest right.least))
comparison-full equals (p ∷ a) (q ∷ b) x y answer da db h k all =
    both-tests (is_same_point (point_of (p ∷ a)) (point_of (q ∷ b))) (are_apart (p ∷ a) (q ∷ b)) answer
    (eq-same (p ∷ a) (q ∷ b) x y answer da db h k all) (eq-apart (p ∷ a) (q ∷ b) x y answer da db h k all)
comparison-full differs (p ∷ a) (q ∷ b) x y answer da db h k all =
    let eq : AllAnswer (p ∷ a) (q ∷ b) (not answer) = λ v w i j. not-answer (int_eq v w) answer (all v w i j) in
    both-tests (are_apart (p ∷ a) (q ∷ b)) (is_same_point (point_of (p ∷ a)) (point_of (q ∷ b))) answer
    (eq-apart (p ∷ a) (q ∷ b) x y (not answer) da db h k eq ∙ not-not answer) (eq-same (p ∷ a) (q ∷ b) x y (not answer) da db h k eq)

pub reads-raws : DecisionsReadRaws
reads-raws = record {
  sound = comparison-sound;
  full = comparison-full;
  apart = λ a b da db. (apart-sound a b da db, apart-full a b);
  same = same-only;
  ends = ends;
}
