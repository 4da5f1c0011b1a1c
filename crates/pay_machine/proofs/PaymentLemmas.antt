-- Scaled payments as the definitions have them.
use Rattle.std.proofs.Common.{◌≡◌, ℕ, ◌+◌, ◌-◌, ◌<◌, ℤ, List, [], ◌∷◌, ◌++◌, length, map, take, drop, set, get_or, refl, sym, ap, ◌∙◌, arith}
use Rattle.std.proofs.lemmas.List.{map-append, take-map, drop-map, drop_more, take_more, take_more_set, drop-set-lt}
use Rattle.pay_fixed.specs.Weights.{whole as full, scaled}
use Rattle.pay_runs.specs.Slots.{scaled_slot_payment}
use Rattle.pay_code.specs.Execution.{scaled_from}
use Rattle.pay_machine.specs.declared.outcome.Payment.{Payment}
use Rattle.pay_machine.specs.Paid.{paid}

-- a payment of this amount in place of its own
abbrev with_amount : Payment → ℤ → Payment
with_amount payment amount = record { date = payment.date; leg = payment.leg; amount = amount }

-- one more payment is scaled
pub scaled_more : (w i : ℕ) (payments was : List Payment) (d : Payment) (amount : ℤ) → i < length payments → length payments ≡ length was
    → map paid (take i payments) ≡ map (scaled_slot_payment w) (map paid (take i was)) → drop i payments ≡ drop i was
    → amount ≡ scaled w (get_or payments i d).amount
    → (map paid (take (i + 1) (set payments i (with_amount (get_or payments i d) amount))) ≡ map (scaled_slot_payment w) (map paid (take (i + 1) was)))
    × (drop (i + 1) (set payments i (with_amount (get_or payments i d) amount)) ≡ drop (i + 1) was)
scaled_more w i payments was d amount h k e f g =
    let before = get_or payments i d in
    let now = with_amount before amount in
    let within : i < length was = omega arith in
    let same : before ∷ drop (i + 1) payments ≡ get_or was i d ∷ drop (i + 1) was =
    sym (drop_more payments i d h) ∙ f ∙ drop_more was i d within in
    let here : before ≡ get_or was i d = cc in
    let made : paid now ≡ scaled_slot_payment w (paid (get_or was i d)) =
    (λ j. record { date = before.date; leg = before.leg; amount = g j }) ∙ ap (λ p. scaled_slot_payment w (paid p)) here in (
      rw (
        take_more_set payments i now h,
        take_more was i d within,
        map-append paid (take i payments) (now ∷ []),
        map-append paid (take i was) (get_or was i d ∷ []),
        map-append (scaled_slot_payment w) (map paid (take i was)) (paid (get_or was i d) ∷ []),
        e,
        made,
      ) refl,
      drop-set-lt (i + 1) payments i now (omega arith) ∙ cc,
    )

-- payments of which the parts between the two places and from the second on were scaled are those that `scaled_from` gives
pub scaled_halves : (w first second : ℕ) (was earlier between later : List Payment)
    → earlier ≡ take first (take second was)
    → map paid between ≡ map (scaled_slot_payment w) (map paid (drop first (take second was)))
    → map paid later ≡ map (scaled_slot_payment (full - w)) (map paid (drop second was))
    → map paid (earlier ++ (between ++ later)) ≡ scaled_from w first second (map paid was)
scaled_halves w first second was earlier between later e f g =
    rw (
      map-append paid earlier (between ++ later),
      map-append paid between later,
      e,
      f,
      g,
      take-map paid second was,
      take-map paid first (take second was),
      drop-map paid first (take second was),
      drop-map paid second was,
    ) refl
