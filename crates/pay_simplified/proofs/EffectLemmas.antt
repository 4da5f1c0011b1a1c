-- Simplified statements have the effect that they had, and a simplified script the meaning.
use Rattle.std.proofs.Common.{◌≡◌, Bool, true, false, List, [], ◌∷◌, Option, Some, None, Result, Ok, Err, refl, sym, ap, subst, ◌∙◌, ℤ, pos, unwrap_or}
use Rattle.std.specs.Ordering.{nat_cmp}
use Rattle.std.specs.Cmp.Lexicographic.{slice_cmp}
use Rattle.std.specs.FinMap.{get-empty}
use Rattle.pay_dates.specs.declared.day.Day.{Day}
use Rattle.pay_meaning.specs.declared.fault.FaultKind.{FaultKind}
use Rattle.pay_meaning.specs.Language.{Condition, Statement, assign, pay, choose, group, Body, done, next, Event}
use Rattle.pay_meaning.specs.Meaning.{Variables, lookup, no_variables, Moment, moment_of, Fixings, fixing_at, one, truth, Effect, assigned, paid}
use Rattle.pay_meaning.specs.Meaning.{after_payments, followed_by, chosen, effect_of, effect, Meaning, after_earlier, event_then, meaning}
use Rattle.pay_domains.specs.Pieces.{Held, point}
use Rattle.pay_facts.specs.Facts.{Domains, points_of, no_facts}
use Rattle.pay_facts.specs.Decisions.{decide}
use Rattle.pay_facts.specs.After.{after_one, after, after_event}
use Rattle.pay_facts.specs.Holding.{Hold, HoldValues, HoldAfter, AreFixings, at_fixing}
use Rattle.pay_facts.specs.FactLaws.{AreDomains}
use Rattle.pay_facts.proofs.AfterLemmas.{one-domains, after-domains, facts-hold, domains-stay, start-holds}
use Rattle.pay_simplified.specs.Simplified.{literal_of, sure_of, choose_form, simple_choose, simple_condition, simple_statement, simple_body, simplified}
use Rattle.pay_simplified.specs.SimpleLaws.{SimpleIsSame, SimplifiedPaysTheSame}
use Rattle.pay_simplified.proofs.SimpleLemmas.{number_same, literal_says, sure_says, after_condition, condition_same}

-- one branch of a condition that is sure
only_true : (u : Result Bool FaultKind) (a b c : Result Effect FaultKind) → u ≡ one (λ other. true) u → chosen u a b ≡ chosen u a c
only_true (Err fault) a b c is = refl
only_true (Ok truth) a b c is = ap (λ r. chosen r a b) is ∙ sym (ap (λ r. chosen r a c) is)

only_false : (u : Result Bool FaultKind) (a b c : Result Effect FaultKind) → u ≡ one (λ other. false) u → chosen u a c ≡ chosen u b c
only_false (Err fault) a b c is = refl
only_false (Ok truth) a b c is = ap (λ r. chosen r a c) is ∙ sym (ap (λ r. chosen r b c) is)

choose_by : (literal told : Option Bool) (condition : Condition) (yes_part no_part : Body) (variables : Variables) (at : Moment)
    → ((answer : Bool) → literal ≡ Some answer → truth condition variables at ≡ Ok answer)
    → ((answer : Bool) → told ≡ Some answer → truth condition variables at ≡ one (λ any. answer) (truth condition variables at))
    → effect_of (choose_form literal told condition yes_part no_part) variables at
    ≡ chosen (truth condition variables at) (effect yes_part variables at) (effect no_part variables at)
choose_by (Some true) told condition yes_part no_part variables at h k =
    sym (ap (λ r. chosen r (effect yes_part variables at) (effect no_part variables at)) (h true refl))
choose_by (Some false) told condition yes_part no_part variables at h k =
    sym (ap (λ r. chosen r (effect yes_part variables at) (effect no_part variables at)) (h false refl))
choose_by None (Some true) condition yes_part no_part variables at h k =
    only_true (truth condition variables at) (effect yes_part variables at) (effect done variables at) (effect no_part variables at) (k true refl)
choose_by None (Some false) condition yes_part no_part variables at h k =
    only_false (truth condition variables at) (effect done variables at) (effect yes_part variables at) (effect no_part variables at) (k false refl)
choose_by None None condition yes_part no_part variables at h k = refl

-- an `if` by its form, whatever its parts are
pub simple_choose_same : (condition : Condition) (yes_part no_part : Body) (variables : Variables) (at : Moment)
    → effect_of (simple_choose condition yes_part no_part) variables at
    ≡ chosen (truth condition variables at) (effect yes_part variables at) (effect no_part variables at)
simple_choose_same condition yes_part no_part variables at =
    choose_by (literal_of condition) (sure_of condition) condition yes_part no_part variables at (literal_says condition variables at)
    (sure_says condition variables at)

-- effects that are the same where those that are asked are
chosen_same : (t u : Result Bool FaultKind) (a b c e : Result Effect FaultKind) → t ≡ u → ((x : Bool) → u ≡ Ok x → a ≡ b)
    → ((x : Bool) → u ≡ Ok x → c ≡ e) → chosen t a c ≡ chosen u b e
chosen_same t (Err fault) a b c e first second third = ap (λ r. chosen r a c) first
chosen_same t (Ok x) a b c e first second third =
    ap (λ r. chosen r a c) first ∙ (λ i. chosen (Ok x) (second x refl i) (third x refl i))

followed_same : (e f : Result Effect FaultKind) (rest other : Variables → Result Effect FaultKind) → e ≡ f
    → ((left : Effect) → f ≡ Ok left → rest left.variables ≡ other left.variables) → followed_by e rest ≡ followed_by f other
followed_same e (Err fault) rest other first second = ap (λ r. followed_by r rest) first
followed_same e (Ok left) rest other first second = ap (λ r. followed_by r rest) first ∙ ap (after_payments left.payments) (second left refl)

-- the facts hold of what one statement leaves
after_statement : (event : Event) (fixing : Option ℤ) (statement : Statement) (domains : Domains) (known : Bool) (variables : Variables)
    → AreDomains domains → Hold domains known variables fixing → (left : Effect)
    → effect_of statement variables (at_fixing event fixing) ≡ Ok left
    → Hold (after_one statement domains known event).domains (after_one statement domains known event).known left.variables fixing
after_statement event fixing statement domains known variables d h left is =
    subst (λ r. HoldAfter fixing (after_one statement domains known event) (followed_by r (λ more. Ok (record { variables = more; payments = [] })))) is
    (facts-hold (next statement done) domains known event variables fixing d h)

mutual
  statement_same : (event : Event) (fixing : Option ℤ) (statement : Statement) (domains : Domains) (known : Bool) (variables : Variables)
      → AreDomains domains → Hold domains known variables fixing
      → effect_of (simple_statement statement domains known event) variables (at_fixing event fixing) ≡ effect_of statement variables (at_fixing event fixing)
  statement_same event fixing (assign name number) domains known variables d h =
      ap (assigned variables name) (number_same domains event variables fixing d number known h)
  statement_same event fixing (pay leg number) domains known variables d h =
      ap (paid variables event.date leg) (number_same domains event variables fixing d number known h)
  statement_same event fixing (choose condition yes_part no_part) domains known variables d h =
      let between : Bool = (decide condition domains known event).known in
      let here = after_condition domains event variables fixing d condition known h in
      simple_choose_same (simple_condition condition domains known event) (simple_body yes_part domains between event)
      (simple_body no_part domains between event) variables (at_fixing event fixing)
      ∙ chosen_same _ _ _ _ _ _ (condition_same domains event variables fixing d condition known h)
      (λ x is. body_same event fixing yes_part domains between variables d (here x is))
      (λ x is. body_same event fixing no_part domains between variables d (here x is))
  statement_same event fixing (group body) domains known variables d h = body_same event fixing body domains known variables d h

  pub body_same : (event : Event) (fixing : Option ℤ) (body : Body) (domains : Domains) (known : Bool) (variables : Variables)
      → AreDomains domains → Hold domains known variables fixing
      → effect (simple_body body domains known event) variables (at_fixing event fixing) ≡ effect body variables (at_fixing event fixing)
  body_same event fixing done domains known variables d h = refl
  body_same event fixing (next statement rest) domains known variables d h =
      let between = after_one statement domains known event in
      followed_same _ _ _ _ (statement_same event fixing statement domains known variables d h)
      (λ left is. body_same event fixing rest between.domains between.known left.variables (one-domains statement domains known event d)
      (after_statement event fixing statement domains known variables d h left is))

pub simple_is_same : SimpleIsSame
simple_is_same = record {
  numbers = λ number domains known event variables fixing d h. number_same domains event variables fixing d number known h;
  conditions = λ condition domains known event variables fixing d h. condition_same domains event variables fixing d condition known h;
  bodies = λ body domains known event variables fixing d h. body_same event fixing body domains known variables d h;
}

event_same : (date : Day) (e f : Result Effect FaultKind) (rest other : Variables → Meaning) → e ≡ f
    → ((left : Effect) → f ≡ Ok left → rest left.variables ≡ other left.variables) → event_then date e rest ≡ event_then date f other
event_same date e (Err fault) rest other first second = ap (λ r. event_then date r rest) first
event_same date e (Ok left) rest other first second = ap (λ r. event_then date r rest) first ∙ ap (after_earlier left.payments) (second left refl)

pays_same : (events : List Event) (domains : Domains) (variables : Variables) (fixings : Fixings)
    → AreDomains domains → HoldValues domains variables → AreFixings fixings
    → meaning (simplified events domains) variables fixings ≡ meaning events variables fixings
pays_same [] domains variables fixings d h f = refl
pays_same (event ∷ rest) domains variables fixings d h f =
    let fixing : Option ℤ = fixing_at fixings event.date in
    let start : Hold domains false variables fixing =
    record { values = h; spot = λ k. let wrong : false ≡ true = k in absurd cc; limits = f event } in
    let last : HoldAfter fixing (after event.body domains false event) (effect event.body variables (moment_of event fixings)) =
    facts-hold event.body domains false event variables fixing d start in
    event_same event.date _ _ _ _ (body_same event fixing event.body domains false variables d start)
    (λ left is. pays_same rest (after_event event domains) left.variables fixings (after-domains event.body domains false event d)
    (subst (HoldAfter fixing (after event.body domains false event)) is last).values f)

-- variables of which none was assigned are 0
fresh_holds : HoldValues no_facts no_variables
fresh_holds name =
    subst (λ raw. Held (lookup no_variables name) (point raw)) (ap (λ found. unwrap_or found (pos 0)) (get-empty (slice_cmp nat_cmp) name))
    (start-holds no_variables name)

pub simplified_pays_the_same : SimplifiedPaysTheSame
simplified_pays_the_same = record {
  held = pays_same;
  from_values = λ events variables fixings f.
      pays_same events (points_of (lookup variables)) variables fixings (domains-stay.of_points (lookup variables)) (start-holds variables) f;
  fresh = λ events fixings f. pays_same events no_facts no_variables fixings (domains-stay.of_points (λ name. pos 0)) fresh_holds f;
}
