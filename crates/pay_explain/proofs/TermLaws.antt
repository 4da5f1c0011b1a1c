-- What is said of events is the same where `period()` and `days()` are literals in them.
use Rattle.std.proofs.Common.{◌≡◌, ℕ, Bool, false, List, [], ◌∷◌, ◌++◌, map, refl, ap, ◌∙◌}
use Rattle.pay_meaning.specs.Language.{Number, literal, variable, spot, period, days, negative, absolute, binary, Condition, compare, negation}
use Rattle.pay_meaning.specs.Language.{conjunction, disjunction, settled, sure, Statement, assign, pay, choose, group, Body, done, next, Event}
use Rattle.pay_domains.specs.Operators.{negated, magnitudes}
use Rattle.pay_facts.specs.Facts.{Domains, Facts, no_facts}
use Rattle.pay_facts.specs.Ranges.{range, range_of_one, range_of_both}
use Rattle.pay_facts.specs.Decisions.{decide, comparison_decision, turned_decision, and_decision, or_decision, told_decision}
use Rattle.pay_facts.specs.After.{after_assignment, after_branches, after_one, after, after_event}
use Rattle.pay_passes.specs.Terms.{number_at, condition_at, statement_at, body_at, at_own_terms}
use Rattle.pay_print.specs.StepText.{step_text}
use Rattle.pay_simplified.specs.Simplified.{simple_body}
use Rattle.pay_simplified.proofs.TermLemmas.{terms_keep_simplified}
use Rattle.pay_explain.specs.Explaining.{domain_lines, event_heading, explain_text}
use Rattle.pay_explain.specs.ExplainLaws.{ExplainedAtTerms}

-- an event whose `period()` and `days()` are literals is read at whatever event
module _ (event other : Event) where
  number_same : (number : Number) (domains : Domains) (known : Bool)
      → range (number_at event.period event.days number) domains known other ≡ range number domains known event
  number_same (literal raw) domains known = refl
  number_same (variable name) domains known = refl
  number_same spot domains known = refl
  number_same period domains known = refl
  number_same days domains known = refl
  number_same (negative side) domains known = ap (range_of_one negated) (number_same side domains known)
  number_same (absolute side) domains known = ap (range_of_one magnitudes) (number_same side domains known)
  number_same (binary op left right) domains known =
      ap (λ r. range_of_both op r (range (number_at event.period event.days right) domains r.known other)) (number_same left domains known)
      ∙ ap (range_of_both op (range left domains known event)) (number_same right domains (range left domains known event).known)

  condition_same : (condition : Condition) (domains : Domains) (known : Bool)
      → decide (condition_at event.period event.days condition) domains known other ≡ decide condition domains known event
  condition_same (compare op left right note) domains known =
      ap (λ r. comparison_decision op r (range (number_at event.period event.days right) domains r.known other)) (number_same left domains known)
      ∙ ap (comparison_decision op (range left domains known event)) (number_same right domains (range left domains known event).known)
  condition_same (negation side) domains known = ap turned_decision (condition_same side domains known)
  condition_same (conjunction left right) domains known =
      ap (λ d. and_decision d (decide (condition_at event.period event.days right) domains d.known other)) (condition_same left domains known)
      ∙ ap (and_decision (decide left domains known event)) (condition_same right domains (decide left domains known event).known)
  condition_same (disjunction left right) domains known =
      ap (λ d. or_decision d (decide (condition_at event.period event.days right) domains d.known other)) (condition_same left domains known)
      ∙ ap (or_decision (decide left domains known event)) (condition_same right domains (decide left domains known event).known)
  condition_same (settled answer) domains known = refl
  condition_same (sure answer side) domains known = ap (told_decision answer) (condition_same side domains known)

  mutual
    statement_same : (statement : Statement) (domains : Domains) (known : Bool)
        → after_one (statement_at event.period event.days statement) domains known other ≡ after_one statement domains known event
    statement_same (assign name number) domains known = ap (after_assignment domains name) (number_same number domains known)
    statement_same (pay leg number) domains known =
        ap (λ r. let facts : Facts = record { domains = domains; known = r.known } in facts) (number_same number domains known)
    statement_same (choose condition yes_part no_part) domains known =
        ap (λ d. after_branches d.answer (after (body_at event.period event.days yes_part) domains d.known other)
        (after (body_at event.period event.days no_part) domains d.known other)) (condition_same condition domains known)
        ∙ (λ i. after_branches (decide condition domains known event).answer
        (body_same yes_part domains (decide condition domains known event).known i)
        (body_same no_part domains (decide condition domains known event).known i))
    statement_same (group body) domains known = body_same body domains known

    body_same : (body : Body) (domains : Domains) (known : Bool)
        → after (body_at event.period event.days body) domains known other ≡ after body domains known event
    body_same done domains known = refl
    body_same (next statement rest) domains known =
        ap (λ facts. after (body_at event.period event.days rest) facts.domains facts.known other) (statement_same statement domains known)
        ∙ body_same rest (after_one statement domains known event).domains (after_one statement domains known event).known

-- the raws after an event are the same
event_same : (event : Event) (domains : Domains) → after_event (at_own_terms event) domains ≡ after_event event domains
event_same event domains = ap (λ facts. facts.domains) (body_same event (at_own_terms event) event.body domains false)

-- the statements of the first of these events, if there is one
abbrev first_body : List Event → Body
first_body [] = done
first_body (event ∷ rest) = event.body

-- the simplified statements are the same
simple_same : (event : Event) (domains : Domains)
    → simple_body (at_own_terms event).body domains false (at_own_terms event) ≡ simple_body event.body domains false event
simple_same event domains = ap first_body (terms_keep_simplified (event ∷ []) domains)

said_same : (names : List (List ℕ)) (events : List Event) (domains : Domains)
    → explain_text names (map at_own_terms events) domains ≡ explain_text names events domains
said_same names [] domains = refl
said_same names (event ∷ rest) domains =
    let own = event_same event domains in
    let onward = ap (explain_text names (map at_own_terms rest)) own ∙ said_same names rest (after_event event domains) in
    λ i. (event_heading event ++ (step_text names (simple_same event domains i) ++ domain_lines names (map (own i) names))) ++ onward i

pub explained_at_terms : ExplainedAtTerms
explained_at_terms names events = said_same names events no_facts
