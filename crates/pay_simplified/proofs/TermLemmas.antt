-- Events with `period()` and `days()` as literals have the simplified script of the events.
use Rattle.std.proofs.Common.{◌≡◌, Bool, false, [], ◌∷◌, map, Some, None, if◌then◌else◌, ℤ, refl, sym, ap, ◌∙◌}
use Rattle.std.proofs.lemmas.Bool.Decides.{Decides-int_eq}
use Rattle.pay_meaning.specs.Language.{Number, literal, variable, spot, period, days, negative, absolute, binary, Condition, compare, negation}
use Rattle.pay_meaning.specs.Language.{conjunction, disjunction, settled, sure, Statement, assign, pay, choose, group, Body, done, next, Event}
use Rattle.pay_meaning.specs.Meaning.{whole}
use Rattle.pay_facts.specs.Facts.{Domains}
use Rattle.pay_facts.specs.Ranges.{exactly, range}
use Rattle.pay_facts.specs.After.{after_event}
use Rattle.pay_passes.specs.Terms.{number_at, condition_at, statement_at, body_at, at_own_terms}
use Rattle.pay_simplified.specs.Simplified.{point_in, at_point, simple_number, simple_event, simplified}
use Rattle.pay_simplified.specs.SimpleLaws.{TermsKeepSimplified}
use Rattle.pay_simplified.proofs.SameLemmas.{AreSameNumbers, AreSameConditions, AreSameStatements, AreSameBodies, same_literal, same_variable, same_spot}
use Rattle.pay_simplified.proofs.SameLemmas.{same_negative, same_absolute, same_binary, same_compare, same_negation, same_conjunction, same_disjunction}
use Rattle.pay_simplified.proofs.SameLemmas.{same_settled, same_sure, same_assign, same_pay, same_choose, same_group, same_done, same_next}

-- what is exactly a raw is this literal
pub exact_point : (raw : ℤ) (known : Bool) (number : Number) → at_point (point_in (exactly raw known)) number ≡ literal raw
exact_point raw known number =
    ap (λ t. at_point (if t then Some raw else None) number) ((Decides-int_eq raw raw).1 refl)

-- a number of an event that has the range of a literal is the literal, once it is simplified
pub same_constant : (event other : Event) (number made : Number) (raw : ℤ) (domains : Domains) (known : Bool)
    → range number domains known other ≡ exactly raw known
    → simple_number (literal raw) domains known event ≡ at_point (point_in (range number domains known other)) made
same_constant event other number made raw domains known same =
    exact_point raw known (literal raw) ∙ sym (exact_point raw known made) ∙ sym (ap (λ r. at_point (point_in r) made) same)

-- an event whose `period()` and `days()` are literals is read at whatever event
module _ (event other : Event) where
  number-same : (number : Number) → AreSameNumbers other event (number_at event.period event.days number) number
  number-same (literal raw) = same_literal other event raw
  number-same (variable name) = same_variable other event name
  number-same spot = same_spot other event
  number-same period = record {
    ranges = λ domains known. refl;
    simple = λ domains known. same_constant other event period period (whole event.period) domains known refl;
  }
  number-same days = record {
    ranges = λ domains known. refl;
    simple = λ domains known. same_constant other event days days (whole event.days) domains known refl;
  }
  number-same (negative side) = same_negative other event _ _ (number-same side)
  number-same (absolute side) = same_absolute other event _ _ (number-same side)
  number-same (binary op left right) = same_binary other event op _ _ _ _ (number-same left) (number-same right)

  condition-same : (condition : Condition) → AreSameConditions other event (condition_at event.period event.days condition) condition
  condition-same (compare op left right note) = same_compare other event op _ _ _ _ note (number-same left) (number-same right)
  condition-same (negation side) = same_negation other event _ _ (condition-same side)
  condition-same (conjunction left right) = same_conjunction other event _ _ _ _ (condition-same left) (condition-same right)
  condition-same (disjunction left right) = same_disjunction other event _ _ _ _ (condition-same left) (condition-same right)
  condition-same (settled answer) = same_settled other event answer
  condition-same (sure answer side) = same_sure other event answer _ _ (condition-same side)

  mutual
    statement-same : (statement : Statement) → AreSameStatements other event (statement_at event.period event.days statement) statement
    statement-same (assign name number) = same_assign other event name _ _ (number-same number)
    statement-same (pay leg number) = same_pay other event leg _ _ (number-same number)
    statement-same (choose condition yes_part no_part) =
        same_choose other event _ _ _ _ _ _ (condition-same condition) (body-same yes_part) (body-same no_part)
    statement-same (group body) = same_group other event _ _ (body-same body)

    body-same : (body : Body) → AreSameBodies other event (body_at event.period event.days body) body
    body-same done = same_done other event
    body-same (next statement rest) = same_next other event _ _ _ _ (statement-same statement) (body-same rest)

pub terms_keep_simplified : TermsKeepSimplified
terms_keep_simplified [] domains = refl
terms_keep_simplified (event ∷ rest) domains =
    let own : Event = at_own_terms event in
    let same : AreSameBodies own event own.body event.body = body-same event own event.body in
    let here = same.simple domains false in
    let after_same : after_event own domains ≡ after_event event domains = ap (λ facts. facts.domains) (same.facts domains false) in
    ap (λ left. simple_event own domains ∷ simplified (map at_own_terms rest) left) after_same
    ∙ (λ i. record { date = event.date; period = event.period; days = event.days; body = here i }
    ∷ terms_keep_simplified rest (after_event event domains) i)
