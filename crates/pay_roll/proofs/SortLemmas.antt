-- A stable sort by date gives the one order of the events.
use Rattle.std.proofs.Common.{◌≡◌, ◌+◌, Bool, true, false, cond, not, ◌&&◌, List, [], ◌∷◌, map, filter, ℤ, ◌≤ℤ◌, ◌⊎◌, inl, inr, refl, sym, ap, ◌∙◌}
use Rattle.std.proofs.Common.{add-one, arith}
use Rattle.std.proofs.lemmas.Int.{ints}
use Rattle.std.specs.declared.cmp.Ordering.TheVariants.{Less, Equal, Greater}
use Rattle.std.specs.Prelude.{int_lt}
use Rattle.std.specs.Ordering.{int_eq, int_cmp, is_lt, is_eq}
use Rattle.std.specs.List.Sorted.{IsSortedByKey, IsStableByKey, ties}
use Rattle.pay_meaning.specs.Language.{Event}
use Rattle.pay_meaning.specs.Events.{number_of, events_at, in_order}
use Rattle.pay_meaning.specs.Laws.{AreFrom, IsRising}
use Rattle.pay_meaning.proofs.EventLaws.{order-unique, eq-cases, lt-cases}
use Rattle.pay_roll.specs.declared.plan.PlannedEvent.{PlannedEvent}
use Rattle.pay_roll.specs.Plans.{planned, date_number}

tie-by : (p q : Bool) → is_eq (cond q Less (cond p Greater Equal))
    ≡ (not (is_lt (cond p Less (cond q Greater Equal))) && not (is_lt (cond q Less (cond p Greater Equal))))
tie-by true true = refl
tie-by true false = refl
tie-by false true = refl
tie-by false false = refl

-- the test that a sort's stability speaks of
abbrev same_date : PlannedEvent → PlannedEvent → Bool
same_date = ties (λ x y. is_lt (int_cmp (date_number x) (date_number y)))

tie-is : (x z : PlannedEvent) → int_eq (date_number z) (date_number x) ≡ same_date x z
tie-is x z = tie-by (int_lt (date_number x) (date_number z)) (int_lt (date_number z) (date_number x))

-- the events on the date of one, before and after the view
kept-cons : (b c : Bool) (z : PlannedEvent) (zs : List Event) (ws : List PlannedEvent) → b ≡ c → zs ≡ map planned ws
    → cond b (planned z ∷ zs) zs ≡ map planned (cond c (z ∷ ws) ws)
kept-cons true true z zs ws e f = ap (λ xs. planned z ∷ xs) f
kept-cons true false z zs ws e f = cc
kept-cons false true z zs ws e f = cc
kept-cons false false z zs ws e f = f

at-own-date : (x : PlannedEvent) (zs : List PlannedEvent) → events_at (date_number x) (map planned zs) ≡ map planned (filter (same_date x) zs)
at-own-date x [] = refl
at-own-date x (z ∷ zs) = kept-cons _ _ z (events_at (date_number x) (map planned zs)) (filter (same_date x) zs) (tie-is x z) (at-own-date x zs)

-- an event on a date, or none
record At (n : ℤ) : Type 0 where
  one : PlannedEvent
  is : date_number one ≡ n

found-at : (n : ℤ) (zs : List PlannedEvent) → At n ⊎ (events_at n (map planned zs) ≡ [])
found-at n [] = inr refl
found-at n (z ∷ zs) = elim (eq-cases (date_number z) n) [
  | inl hit ↦ inl (record { one = z; is = hit.1 })
  | inr miss ↦ elim (found-at n zs) [ inl there ↦ inl there | inr none ↦ inr (rw miss.0 none) ]
]

same-at : (n : ℤ) (xs ys : List PlannedEvent) → IsStableByKey date_number int_cmp xs ys → At n
    → events_at n (map planned ys) ≡ events_at n (map planned xs)
same-at n xs ys stable at =
    ap (λ m. events_at m (map planned ys)) (sym at.is) ∙ at-own-date at.one ys ∙ ap (map planned) (stable at.one)
    ∙ sym (at-own-date at.one xs) ∙ ap (λ m. events_at m (map planned xs)) at.is

same-everywhere : (n : ℤ) (xs ys : List PlannedEvent) → IsStableByKey date_number int_cmp xs ys
    → events_at n (map planned ys) ≡ events_at n (map planned xs)
same-everywhere n xs ys stable = elim (found-at n xs) [
  | inl at ↦ same-at n xs ys stable at
  | inr none ↦ elim (found-at n ys) [ inl at ↦ same-at n xs ys stable at | inr neither ↦ neither ∙ sym none ]
]

-- neighbours in order
abbrev Steps : List Event → Type 0
Steps [] = Unit {0}
Steps (e ∷ []) = Unit {0}
Steps (e ∷ f ∷ rest) = (number_of e ≤ℤ number_of f) × Steps (f ∷ rest)

from-steps : (n : ℤ) (e : Event) (es : List Event) → n ≤ℤ number_of e → Steps (e ∷ es) → AreFrom n es
from-steps n e [] h k = tt
from-steps n e (f ∷ es) h k = let first : n ≤ℤ number_of f = omega (arith, ints, k.0) in (first, from-steps n f es first k.1)

steps-rise : (es : List Event) → Steps es → IsRising es
steps-rise [] h = tt
steps-rise (e ∷ []) h = (tt, tt)
steps-rise (e ∷ f ∷ es) h = (from-steps (number_of e) e (f ∷ es) (omega (arith, ints)) h, steps-rise (f ∷ es) h.1)

not-less : (p q : Bool) → is_lt (cond p Less (cond q Greater Equal)) ≡ false → p ≡ false
not-less true q h = cc
not-less false q h = refl

not-less-is : (a b : ℤ) → is_lt (int_cmp b a) ≡ false → a ≤ℤ b
not-less-is a b h = elim (lt-cases b a) [
  | inl hit ↦ let no = not-less (int_lt b a) (int_lt a b) h in cc
  | inr miss ↦ miss.1
]

sorted-steps : (ys : List PlannedEvent) → IsSortedByKey date_number int_cmp ys → Steps (map planned ys)
sorted-steps [] h = tt
sorted-steps (x ∷ []) h = tt
sorted-steps (x ∷ y ∷ ys) h = (
  not-less-is (date_number x) (date_number y) (h 0 x (omega arith) (omega arith)),
  sorted-steps (y ∷ ys) (λ k d low high. simp add-one (simp add-one at (h (k + 1) d (omega arith) (omega arith)))),
)

pub sorted-in_order : (xs ys : List PlannedEvent) → IsSortedByKey date_number int_cmp ys → IsStableByKey date_number int_cmp xs ys
    → map planned ys ≡ in_order (map planned xs)
sorted-in_order xs ys sorted stable = order-unique.unique (map planned xs) (map planned ys) (record {
  rising = steps-rise (map planned ys) (sorted-steps ys sorted);
  same = λ n. same-everywhere n xs ys stable;
})
