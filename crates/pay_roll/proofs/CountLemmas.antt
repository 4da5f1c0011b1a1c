-- The nodes and the payments of one event more, and counts up to a limit.
use Rattle.std.proofs.Common.{◌≡◌, ℕ, ◌+◌, List, ◌∷◌, length, arith, ap, ◌∙◌}
use Rattle.std.proofs.lemmas.Bool.Decides.{nat_tests}
use Rattle.std.proofs.lemmas.List.{length-append}
use Rattle.std.proofs.lemmas.List.Elements.{filter-append}
use Rattle.pay_meaning.specs.Language.{Event}
use Rattle.pay_meaning.specs.Parts.{Part, body_parts, event_parts, is_payment, payment_count}
use Rattle.pay_roll.specs.Rolling.{refusal_beyond}
use Rattle.pay_roll.specs.declared.refusal.What.{What}
use Rattle.pay_tree.specs.Sizes.{up_to}

-- the nodes of an event and of those after it
pub more_nodes : (event : Event) (rest : List Event) → length (event_parts (event ∷ rest)) ≡ length (body_parts event.body) + length (event_parts rest)
more_nodes event rest = length-append (body_parts event.body) (event_parts rest)

-- the payments of an event and of those after it
pub more_payments : (event : Event) (rest : List Event)
    → payment_count (event_parts (event ∷ rest)) ≡ payment_count (body_parts event.body) + payment_count (event_parts rest)
more_payments event rest =
    ap (λ (parts : List Part). length parts) (filter-append is_payment (body_parts event.body) (event_parts rest))
    ∙ length-append _ _

-- a count up to a limit is beyond it exactly where the count is
pub beyond_up_to : (what : What) (limit count : ℕ) → refusal_beyond what limit (up_to limit count) ≡ refusal_beyond what limit count
beyond_up_to what limit count = grind (arith, nat_tests)
