-- That the facts hold after statements, and in every run.
use Rattle.std.proofs.Common.{◌≡◌, ℕ, Bool, true, false, ◌&&◌, cond, List, [], ◌∷◌, Option, Some, None, Result, Ok, Err, IfOk, refl, sym}
use Rattle.std.proofs.Common.{subst, ap, ◌∙◌, ℤ, pos, unwrap_or, if◌then◌else◌, inl, inr}
use Rattle.std.proofs.lemmas.Bool.{cases_Bool}
use Rattle.std.specs.Ordering.{nat_cmp, eq_by_cmp}
use Rattle.std.specs.Cmp.Lexicographic.{slice_cmp, nat_list_cmp_total}
use Rattle.std.specs.FinMap.{insert, get, get-insert}
use Rattle.pay_dates.specs.declared.day.Day.{Day}
use Rattle.pay_meaning.specs.declared.fault.FaultKind.{FaultKind}
use Rattle.pay_meaning.specs.Language.{Statement, assign, pay, choose, group, Body, done, next, Event}
use Rattle.pay_meaning.specs.Meaning.{Variables, lookup, fixing_at, moment_of, value, truth, Payment, Effect, assigned, paid, after_payments}
use Rattle.pay_meaning.specs.Meaning.{followed_by, chosen, effect_of, effect, Meaning, event_then, meaning}
use Rattle.pay_domains.specs.declared.piece.Piece.{Piece}
use Rattle.pay_domains.specs.Pieces.{Held, IsDomain}
use Rattle.pay_facts.specs.Facts.{Domains, Facts, put}
use Rattle.pay_facts.specs.Ranges.{Range, range}
use Rattle.pay_facts.specs.Decisions.{Decision, decide}
use Rattle.pay_facts.specs.After.{after_assignment, both_facts, after_branches, after_one, after, after_event, after_events}
use Rattle.pay_facts.specs.Holding.{Hold, HoldValues, IsKnown, InRange, Agrees, IsDecided, HoldAfter, at_fixing}
use Rattle.pay_facts.specs.FactLaws.{AreDomains, DomainsStay, FactsHoldAfter, HoldAtEnd, FactsHoldInEveryRun, StartHolds}
use Rattle.pay_domains.proofs.SetLaws.{sets-sound}
use Rattle.pay_domains.proofs.Results.{point_domain, united_domain}
use Rattle.pay_facts.proofs.ResultLemmas.{proper}
use Rattle.pay_facts.proofs.RangeLemmas.{range-domain, point-held, hold-on, ranges-sound}
use Rattle.pay_facts.proofs.DecisionLemmas.{decisions-sound}

-- either of two choices is a domain
put-domains : (domains : Domains) (name : List ℕ) (pieces : List Piece) → AreDomains domains → IsDomain pieces → AreDomains (put domains name pieces)
put-domains domains name pieces h k other = elim (cases_Bool (eq_by_cmp (slice_cmp nat_cmp) other name)) [
  | inl hit ↦ rw hit k
  | inr miss ↦ rw miss (h other)
]

branches-domains : (answer : Option Bool) (a b : Facts) → AreDomains a.domains → AreDomains b.domains
    → AreDomains (after_branches answer a b).domains
branches-domains (Some true) a b h k = h
branches-domains (Some false) a b h k = k
branches-domains None a b h k = λ name. united_domain (a.domains name) (b.domains name) (h name) (k name)

mutual
  -- every variable has a domain after statements, where each had one before
  pub one-domains : (s : Statement) (domains : Domains) (known : Bool) (event : Event) → AreDomains domains
      → AreDomains (after_one s domains known event).domains
  one-domains (assign name number) domains known event h =
      put-domains domains name (range number domains known event).domain h (range-domain number domains known event h)
  one-domains (pay leg number) domains known event h = h
  one-domains (choose condition yes_part no_part) domains known event h =
      let d = decide condition domains known event in
      branches-domains d.answer (after yes_part domains d.known event) (after no_part domains d.known event)
      (after-domains yes_part domains d.known event h) (after-domains no_part domains d.known event h)
  one-domains (group body) domains known event h = after-domains body domains known event h

  pub after-domains : (body : Body) (domains : Domains) (known : Bool) (event : Event) → AreDomains domains
      → AreDomains (after body domains known event).domains
  after-domains done domains known event h = h
  after-domains (next s rest) domains known event h =
      after-domains rest (after_one s domains known event).domains (after_one s domains known event).known event (one-domains s domains known event h)

-- the value of a name after an assignment
default-cond : (b : Bool) (raw : ℤ) (old : Option ℤ) → unwrap_or (cond b (Some raw) old) (pos 0) ≡ cond b raw (unwrap_or old (pos 0))
default-cond true raw old = refl
default-cond false raw old = refl

lookup-inserted : (variables : Variables) (name : List ℕ) (raw : ℤ) (other : List ℕ)
    → lookup (insert variables name raw) other ≡ cond (eq_by_cmp (slice_cmp nat_cmp) other name) raw (lookup variables other)
lookup-inserted variables name raw other =
    ap (λ o. unwrap_or o (pos 0)) (get-insert nat_list_cmp_total variables name raw other)
    ∙ default-cond (eq_by_cmp (slice_cmp nat_cmp) other name) raw (get variables other)

either-held : (b : Bool) (x y : ℤ) (p q : List Piece) → Held x p → Held y q → Held (cond b x y) (if b then p else q)
either-held true x y p q h k = h
either-held false x y p q h k = k

put-holds : (domains : Domains) (variables : Variables) (name : List ℕ) (raw : ℤ) (pieces : List Piece) → HoldValues domains variables → Held raw pieces
    → HoldValues (put domains name pieces) (insert variables name raw)
put-holds domains variables name raw pieces h k other =
    subst (λ x. Held x (put domains name pieces other)) (sym (lookup-inserted variables name raw other))
    (either-held (eq_by_cmp (slice_cmp nat_cmp) other name) raw (lookup variables other) pieces (domains other) k (h other))

assigned-holds : (domains : Domains) (known : Bool) (variables : Variables) (fixing : Option ℤ) (name : List ℕ) (r : Range) (u : Result ℤ FaultKind)
    → Hold domains known variables fixing → InRange fixing r u → HoldAfter fixing (after_assignment domains name r) (assigned variables name u)
assigned-holds domains known variables fixing name r (Err fault) h k = tt
assigned-holds domains known variables fixing name r (Ok raw) h k =
    record { values = put-holds domains variables name raw r.domain h.values k.0; spot = k.1; limits = h.limits }

paid-holds : (domains : Domains) (known : Bool) (variables : Variables) (fixing : Option ℤ) (date : Day) (leg : List ℕ) (r : Range) (u : Result ℤ FaultKind)
    → Hold domains known variables fixing → InRange fixing r u
    → HoldAfter fixing (record { domains = domains; known = r.known }) (paid variables date leg u)
paid-holds domains known variables fixing date leg r (Err fault) h k = tt
paid-holds domains known variables fixing date leg r (Ok raw) h k = hold-on domains known r.known variables fixing h k.1

-- what holds after one branch holds after either
known-left : (a b : Bool) (fixing : Option ℤ) → IsKnown a fixing → IsKnown (a && b) fixing
known-left true b fixing h k = h refl
known-left false b fixing h k = cc

known-right : (a b : Bool) (fixing : Option ℤ) → IsKnown b fixing → IsKnown (a && b) fixing
known-right true b fixing h k = h k
known-right false b fixing h k = cc

both-left : (fixing : Option ℤ) (a b : Facts) (e : Result Effect FaultKind) → AreDomains a.domains → AreDomains b.domains → HoldAfter fixing a e
    → HoldAfter fixing (both_facts a b) e
both-left fixing a b (Err fault) da db h = tt
both-left fixing a b (Ok left) da db h = record {
  values = λ name. (sets-sound (a.domains name) (b.domains name) (lookup left.variables name) (proper (a.domains name) (da name))
      (proper (b.domains name) (db name))).united_left (h.values name);
  spot = known-left a.known b.known fixing h.spot;
  limits = h.limits;
}

both-right : (fixing : Option ℤ) (a b : Facts) (e : Result Effect FaultKind) → AreDomains a.domains → AreDomains b.domains → HoldAfter fixing b e
    → HoldAfter fixing (both_facts a b) e
both-right fixing a b (Err fault) da db h = tt
both-right fixing a b (Ok left) da db h = record {
  values = λ name. (sets-sound (a.domains name) (b.domains name) (lookup left.variables name) (proper (a.domains name) (da name))
      (proper (b.domains name) (db name))).united_right (h.values name);
  spot = known-right a.known b.known fixing h.spot;
  limits = h.limits;
}

-- the branch that a condition chooses, where it is decided, or after both
chosen-holds : (answer : Option Bool) (known : Bool) (fixing : Option ℤ) (u : Result Bool FaultKind) (a b : Facts) (e f : Result Effect FaultKind)
    → AreDomains a.domains → AreDomains b.domains → IfOk u (λ truth. Agrees answer truth × IsKnown known fixing)
    → (IsKnown known fixing → HoldAfter fixing a e) → (IsKnown known fixing → HoldAfter fixing b f)
    → HoldAfter fixing (after_branches answer a b) (chosen u e f)
chosen-holds answer known fixing (Err fault) a b e f da db h first second = tt
chosen-holds (Some true) known fixing (Ok true) a b e f da db h first second = first h.1
chosen-holds (Some true) known fixing (Ok false) a b e f da db h first second = let wrong : false ≡ true = h.0 in absurd cc
chosen-holds (Some false) known fixing (Ok true) a b e f da db h first second = let wrong : true ≡ false = h.0 in absurd cc
chosen-holds (Some false) known fixing (Ok false) a b e f da db h first second = second h.1
chosen-holds None known fixing (Ok true) a b e f da db h first second = both-left fixing a b e da db (first h.1)
chosen-holds None known fixing (Ok false) a b e f da db h first second = both-right fixing a b f da db (second h.1)

when-ok : (fixing : Option ℤ) (d : Decision) (u : Result Bool FaultKind) → IsDecided fixing d u
    → IfOk u (λ truth. Agrees d.answer truth × IsKnown d.known fixing)
when-ok fixing d (Err fault) h = tt
when-ok fixing d (Ok truth) h = h

-- what follows
after-holds : (fixing : Option ℤ) (facts : Facts) (p : List Payment) (e : Result Effect FaultKind) → HoldAfter fixing facts e
    → HoldAfter fixing facts (after_payments p e)
after-holds fixing facts p (Err fault) h = tt
after-holds fixing facts p (Ok left) h = h

followed-holds : (fixing : Option ℤ) (a b : Facts) (e : Result Effect FaultKind) (rest : Variables → Result Effect FaultKind) → HoldAfter fixing a e
    → ((variables : Variables) → Hold a.domains a.known variables fixing → HoldAfter fixing b (rest variables))
    → HoldAfter fixing b (followed_by e rest)
followed-holds fixing a b (Err fault) rest h k = tt
followed-holds fixing a b (Ok left) rest h k = after-holds fixing b left.payments (rest left.variables) (k left.variables h)

mutual
  one-holds : (s : Statement) (domains : Domains) (known : Bool) (event : Event) (variables : Variables) (fixing : Option ℤ)
      → AreDomains domains → Hold domains known variables fixing
      → HoldAfter fixing (after_one s domains known event) (effect_of s variables (at_fixing event fixing))
  one-holds (assign name number) domains known event variables fixing d h =
      assigned-holds domains known variables fixing name (range number domains known event) (value number variables (at_fixing event fixing)) h
      (ranges-sound number domains known event variables fixing d h)
  one-holds (pay leg number) domains known event variables fixing d h =
      paid-holds domains known variables fixing event.date leg (range number domains known event) (value number variables (at_fixing event fixing)) h
      (ranges-sound number domains known event variables fixing d h)
  one-holds (choose condition yes_part no_part) domains known event variables fixing d h =
      let found = decide condition domains known event in
      chosen-holds found.answer found.known fixing (truth condition variables (at_fixing event fixing))
      (after yes_part domains found.known event) (after no_part domains found.known event)
      (effect yes_part variables (at_fixing event fixing)) (effect no_part variables (at_fixing event fixing))
      (after-domains yes_part domains found.known event d) (after-domains no_part domains found.known event d)
      (when-ok fixing found (truth condition variables (at_fixing event fixing)) (decisions-sound condition domains known event variables fixing d h))
      (λ k. facts-hold yes_part domains found.known event variables fixing d (hold-on domains known found.known variables fixing h k))
      (λ k. facts-hold no_part domains found.known event variables fixing d (hold-on domains known found.known variables fixing h k))
  one-holds (group body) domains known event variables fixing d h = facts-hold body domains known event variables fixing d h

  pub facts-hold : FactsHoldAfter
  facts-hold done domains known event variables fixing d h = h
  facts-hold (next s rest) domains known event variables fixing d h =
      let first = after_one s domains known event in
      followed-holds fixing first (after rest first.domains first.known event) (effect_of s variables (at_fixing event fixing))
      (λ left. effect rest left (at_fixing event fixing)) (one-holds s domains known event variables fixing d h)
      (λ left k. facts-hold rest first.domains first.known event left fixing (one-domains s domains known event d) k)

-- an event, and those after it
event-holds : (date : Day) (fixing : Option ℤ) (facts : Facts) (last : Domains) (e : Result Effect FaultKind) (rest : Variables → Meaning)
    → HoldAfter fixing facts e → ((variables : Variables) → HoldValues facts.domains variables → HoldAtEnd last (rest variables).end)
    → HoldAtEnd last (event_then date e rest).end
event-holds date fixing facts last (Err fault) rest h k = tt
event-holds date fixing facts last (Ok left) rest h k = k left.variables h.values

pub hold-in-runs : FactsHoldInEveryRun
hold-in-runs [] domains variables fixings d h f = h
hold-in-runs (event ∷ rest) domains variables fixings d h f =
    event-holds event.date (fixing_at fixings event.date) (after event.body domains false event) (after_events rest (after_event event domains))
    (effect event.body variables (moment_of event fixings)) (λ left. meaning rest left fixings)
    (facts-hold event.body domains false event variables (fixing_at fixings event.date) d
    (record { values = h; spot = λ k. let wrong : false ≡ true = k in absurd cc; limits = f event }))
    (λ left k. hold-in-runs rest (after_event event domains) left fixings (after-domains event.body domains false event d) k f)

pub start-holds : StartHolds
start-holds variables name = point-held (lookup variables name)

events-domains : (events : List Event) (domains : Domains) → AreDomains domains → AreDomains (after_events events domains)
events-domains [] domains h = h
events-domains (event ∷ rest) domains h = events-domains rest (after_event event domains) (after-domains event.body domains false event h)

pub domains-stay : DomainsStay
domains-stay = record {
  of_range = range-domain;
  of_after = after-domains;
  of_events = events-domains;
  of_points = λ value name. point_domain (value name);
}
