-- Events in order: that `in_order` gives the one order, and what a shared date is.
use Rattle.std.proofs.Common.{◌≡◌, ◌≤◌, ◌<◌, Bool, true, false, cond, List, [], ◌∷◌, Some, None, ℤ, ◌≤ℤ◌, ◌<ℤ◌, refl, sym, ap, subst, ◌∙◌, ◌⊎◌, inl}
use Rattle.std.proofs.Common.{inr, length, arith}
use Rattle.std.proofs.lemmas.Bool.{cases_Bool}
use Rattle.std.proofs.lemmas.Bool.Decides.{Decides-int_eq}
use Rattle.std.proofs.lemmas.Int.{ints, by_lt_z}
use Rattle.std.specs.Prelude.{int_lt}
use Rattle.std.specs.Ordering.{int_eq}
use Rattle.pay_dates.specs.declared.day.Day.{Day}
use Rattle.pay_dates.specs.Days.{day_number}
use Rattle.pay_meaning.specs.Language.{Event}
use Rattle.pay_meaning.specs.Events.{number_of, events_at, placed, in_order, shared_date, IsShared, IsEarliestShared}
use Rattle.pay_meaning.specs.Laws.{AreFrom, IsRising, OrderIsUnique, SharedDateIsEarliest}

pub lt-cases : (a b : ℤ) → ((int_lt a b ≡ true) × (a <ℤ b)) ⊎ ((int_lt a b ≡ false) × (b ≤ℤ a))
lt-cases a b = elim (cases_Bool (int_lt a b)) [
  | inl hit ↦ inl (hit, grind (arith, ints))
  | inr miss ↦ inr (miss, grind (arith, ints))
]

pub eq-cases : (a b : ℤ) → ((int_eq a b ≡ true) × (a ≡ b)) ⊎ ((int_eq a b ≡ false) × ¬ (a ≡ b))
eq-cases a b = elim (cases_Bool (int_eq a b)) [
  | inl hit ↦ inl (hit, (Decides-int_eq a b).0 hit)
  | inr miss ↦ inr (miss, λ same. let hit = (Decides-int_eq a b).1 same in cc)
]

-- each event from a later number on is from an earlier one on
from-weaker : (a b : ℤ) → a ≤ℤ b → (es : List Event) → AreFrom b es → AreFrom a es
from-weaker a b h [] k = tt
from-weaker a b h (e ∷ es) k = (omega (arith, ints, k.0), from-weaker a b h es k.1)

placed-from : (n : ℤ) (e : Event) (es : List Event) → n ≤ℤ number_of e → AreFrom n es → AreFrom n (placed e es)
placed-from n e [] h k = (h, tt)
placed-from n e (f ∷ r) h k = elim (lt-cases (number_of f) (number_of e)) [
  | inl hit ↦ rw hit.0 (k.0, placed-from n e r h k.1)
  | inr miss ↦ rw miss.0 (h, k)
]

placed-rising : (e : Event) (es : List Event) → IsRising es → IsRising (placed e es)
placed-rising e [] h = (tt, tt)
placed-rising e (f ∷ r) h = elim (lt-cases (number_of f) (number_of e)) [
  | inl hit ↦ rw hit.0 (placed-from (number_of f) e r (omega (arith, ints, hit.1)) h.0, placed-rising e r h.1)
  | inr miss ↦ rw miss.0 ((miss.1, from-weaker (number_of e) (number_of f) miss.1 r h.0), h)
]

in_order-rising : (es : List Event) → IsRising (in_order es)
in_order-rising [] = tt
in_order-rising (e ∷ es) = placed-rising e (in_order es) (in_order-rising es)

-- two events of which at most one passes may change places
swap-at : (p q : Bool) (e f : Event) (es : List Event) → (p ≡ true → q ≡ true → ⊥)
    → cond q (f ∷ cond p (e ∷ es) es) (cond p (e ∷ es) es) ≡ cond p (e ∷ cond q (f ∷ es) es) (cond q (f ∷ es) es)
swap-at true true e f es h = absurd (h refl refl)
swap-at true false e f es h = refl
swap-at false true e f es h = refl
swap-at false false e f es h = refl

both-at : (a b n : ℤ) → b <ℤ a → int_eq a n ≡ true → int_eq b n ≡ true → ⊥
both-at a b n less p q =
    let x : a ≡ n = (Decides-int_eq a n).0 p in
    let y : b ≡ n = (Decides-int_eq b n).0 q in
    absurd (omega (arith, ints))

placed-same : (n : ℤ) (e : Event) (es : List Event) → events_at n (placed e es) ≡ events_at n (e ∷ es)
placed-same n e [] = refl
placed-same n e (f ∷ r) = elim (lt-cases (number_of f) (number_of e)) [
  | inl hit ↦ rw hit.0
      (ap (λ xs. cond (int_eq (number_of f) n) (f ∷ xs) xs) (placed-same n e r)
      ∙ swap-at (int_eq (number_of e) n) (int_eq (number_of f) n) e f (events_at n r) (both-at (number_of e) (number_of f) n hit.1))
  | inr miss ↦ rw miss.0 refl
]

in_order-same : (n : ℤ) (es : List Event) → events_at n (in_order es) ≡ events_at n es
in_order-same n [] = refl
in_order-same n (e ∷ es) = placed-same n e (in_order es) ∙ ap (λ xs. cond (int_eq (number_of e) n) (e ∷ xs) xs) (in_order-same n es)

-- an event is among those on its own date
at-own : (n : ℤ) (e : Event) (es : List Event) → number_of e ≡ n → events_at n (e ∷ es) ≡ e ∷ events_at n es
at-own n e es h = rw ((Decides-int_eq (number_of e) n).1 h) refl

-- no event is on a date before all of them
none-before : (n m : ℤ) → n <ℤ m → (es : List Event) → AreFrom m es → events_at n es ≡ []
none-before n m less [] k = refl
none-before n m less (e ∷ es) k = elim (eq-cases (number_of e) n) [
  | inl hit ↦ absurd (omega (arith, ints, k.0, hit.1))
  | inr miss ↦ rw miss.0 (none-before n m less es k.1)
]

-- the first of events that rise is no later than a date that some have
first-from : (n : ℤ) (e : Event) (es : List Event) → IsRising (e ∷ es) → 0 < length (events_at n (e ∷ es)) → number_of e ≤ℤ n
first-from n e es h some = by_lt_z n (number_of e)
    (λ less.
    let none : events_at n (e ∷ es) ≡ [] = none-before n (number_of e) less (e ∷ es) (omega (arith, ints), h.0) in
    absurd (omega (arith, ap length none)))
    (λ le. le)

-- lists that rise and are alike at each date are one list
tail-same : (b : Bool) (e : Event) (xs ys : List Event) → cond b (e ∷ xs) xs ≡ cond b (e ∷ ys) ys → xs ≡ ys
tail-same true e xs ys h = cc
tail-same false e xs ys h = h

heads-same : (x y : Event) (xs ys : List Event) → IsRising (x ∷ xs) → IsRising (y ∷ ys) → ((n : ℤ) → events_at n (x ∷ xs) ≡ events_at n (y ∷ ys)) → x ≡ y
heads-same x y xs ys h k same =
    let own-x = at-own (number_of x) x xs refl in
    let own-y = at-own (number_of y) y ys refl in
    let at-x = same (number_of x) in
    let at-y = same (number_of y) in
    let low : number_of y ≤ℤ number_of x = first-from (number_of x) y ys k (omega (arith, ap length own-x, ap length at-x)) in
    let high : number_of x ≤ℤ number_of y = first-from (number_of y) x xs h (omega (arith, ap length own-y, ap length at-y)) in
    let equal : number_of y ≡ number_of x = omega (arith, ints) in
    let other = at-own (number_of x) y ys equal in
    let joined : x ∷ events_at (number_of x) xs ≡ y ∷ events_at (number_of x) ys = sym own-x ∙ at-x ∙ other in
    cc

rising-same : (xs ys : List Event) → IsRising xs → IsRising ys → ((n : ℤ) → events_at n xs ≡ events_at n ys) → xs ≡ ys
rising-same [] [] h k same = refl
rising-same [] (y ∷ ys) h k same = absurd (omega (arith, ap length (same (number_of y)), ap length (at-own (number_of y) y ys refl)))
rising-same (x ∷ xs) [] h k same = absurd (omega (arith, ap length (same (number_of x)), ap length (at-own (number_of x) x xs refl)))
rising-same (x ∷ xs) (y ∷ ys) h k same =
    let head : x ≡ y = heads-same x y xs ys h k same in
    let tails : xs ≡ ys = rising-same xs ys h.1 k.1 (λ n. tail-same (int_eq (number_of x) n) x (events_at n xs) (events_at n ys) (same n ∙ ap (λ e. events_at n (e ∷ ys)) (sym head))) in
    cc

pub order-unique : OrderIsUnique
order-unique = record {
  ordered = λ es. record { rising = in_order-rising es; same = λ n. in_order-same n es };
  unique = λ es ordered h. rising-same ordered (in_order es) h.rising (in_order-rising es) (λ n. h.same n ∙ sym (in_order-same n es));
}

-- one event more on any date
more-at : (n : ℤ) (e : Event) (es : List Event) → length (events_at n es) ≤ length (events_at n (e ∷ es))
more-at n e es = elim (eq-cases (number_of e) n) [
  | inl hit ↦ rw hit.0 (omega arith)
  | inr miss ↦ rw miss.0 (omega arith)
]

-- an event before others that are later is alone on its date
alone-at : (n : ℤ) (e f : Event) (r : List Event) → IsRising (e ∷ f ∷ r) → ¬ (number_of e ≡ number_of f) → number_of e ≡ n → length (events_at n (e ∷ f ∷ r)) ≡ 1
alone-at n e f r h differ same =
    let none : events_at n (f ∷ r) ≡ [] = none-before n (number_of f) (by_lt_z (number_of e) (number_of f) (λ less. omega (arith, ints)) (λ le. absurd (differ (omega (arith, ints, h.0.0))))) (f ∷ r) (omega (arith, ints), h.1.0) in
    rw (at-own n e (f ∷ r) same) (omega (arith, ap length none))

shared-below : (n : ℤ) (e f : Event) (r : List Event) → IsRising (e ∷ f ∷ r) → ¬ (number_of e ≡ number_of f) → IsShared n (e ∷ f ∷ r) → IsShared n (f ∷ r)
shared-below n e f r h differ two = elim (eq-cases (number_of e) n) [
  | inl hit ↦ absurd (omega (arith, alone-at n e f r h differ hit.1))
  | inr miss ↦ rw miss.0 at two
]

shared-first : (e f : Event) (r : List Event) → IsRising (e ∷ f ∷ r) → number_of e ≡ number_of f → IsEarliestShared (e ∷ f ∷ r) e.date
shared-first e f r h same = record {
  shared = rw (at-own (number_of e) e (f ∷ r) refl, at-own (number_of e) f r (sym same)) (omega arith);
  earliest = λ n two. first-from n e (f ∷ r) h (omega arith);
}

shared-found : (es : List Event) (date : Day) → IsRising es → shared_date es ≡ Some date → IsEarliestShared es date
shared-found [] date h e = cc
shared-found (x ∷ []) date h e = cc
shared-found (x ∷ y ∷ r) date h e = elim (eq-cases (number_of x) (number_of y)) [
  | inl hit ↦
      let same : x.date ≡ date = let q = rw hit.0 at e in cc in
      subst (λ (d : Day). IsEarliestShared (x ∷ y ∷ r) d) same (shared-first x y r h hit.1)
  | inr miss ↦
      let later = shared-found (y ∷ r) date h.1 (rw miss.0 at e) in
      record {
        shared = let two = later.shared in omega (arith, more-at (day_number date) x (y ∷ r));
        earliest = λ n two. later.earliest n (shared-below n x y r h miss.1 two);
      }
]

shared-none : (es : List Event) → IsRising es → shared_date es ≡ None → (n : ℤ) → ¬ IsShared n es
shared-none [] h e n two = absurd (omega arith)
shared-none (x ∷ []) h e n two = elim (eq-cases (number_of x) n) [
  | inl hit ↦ let q = rw hit.0 at two in absurd (omega arith)
  | inr miss ↦ let q = rw miss.0 at two in absurd (omega arith)
]
shared-none (x ∷ y ∷ r) h e n two = elim (eq-cases (number_of x) (number_of y)) [
  | inl hit ↦ let q = rw hit.0 at e in cc
  | inr miss ↦ shared-none (y ∷ r) h.1 (rw miss.0 at e) n (shared-below n x y r h miss.1 two)
]

pub shared-earliest : SharedDateIsEarliest
shared-earliest = record {
  found = λ es date e.
      let k = shared-found (in_order es) date (in_order-rising es) e in
      record {
        shared = let same = in_order-same (day_number date) es in rw same at k.shared;
        earliest = λ n two. k.earliest n (let same = in_order-same n es in rw same two);
      };
  none = λ es e n two. shared-none (in_order es) (in_order-rising es) e n (let same = in_order-same n es in rw same two);
}
