-- The variables that an effect reads, and those that it leaves as they are.
use Rattle.std.proofs.Common.{◌≡◌, ℕ, Bool, true, false, not, cond, List, [], ◌∷◌, ◌++◌, Option, Some, None, Result, Ok, Err, IfOk, refl, sym, ap}
use Rattle.std.proofs.Common.{subst, ◌∙◌}
use Rattle.std.proofs.Common.{inl, inr, ℤ, pos, neg_ℤ, unwrap_or, unsigned_abs}
use Rattle.std.proofs.lemmas.Bool.{cases_Bool}
use Rattle.std.proofs.lemmas.Map.Lookups.{exact_bytes}
use Rattle.std.proofs.lemmas.Map.Views.{tells_apart}
use Rattle.std.specs.Ordering.{nat_cmp, eq_by_cmp}
use Rattle.std.specs.Cmp.Lexicographic.{slice_cmp, nat_list_cmp_total}
use Rattle.std.specs.FinMap.{insert, get, get-insert}
use Rattle.pay_dates.specs.declared.day.Day.{Day}
use Rattle.pay_meaning.specs.declared.fault.FaultKind.{FaultKind}
use Rattle.pay_meaning.specs.Language.{Number, literal, variable, spot, period, days, negative, absolute, binary, Condition, compare, negation}
use Rattle.pay_meaning.specs.Language.{conjunction, disjunction, settled, sure, Statement, assign, pay, choose, group, Body, done, next}
use Rattle.pay_meaning.specs.Parts.{Part, number_parts, condition_parts, statement_parts, body_parts, as_variable, name_in, with_name, names_in}
use Rattle.pay_meaning.specs.Meaning.{Variables, lookup, Moment, calculated, one, both, value, compared, both_hold, either_holds, truth, Payment, Effect}
use Rattle.pay_meaning.specs.Meaning.{assigned, paid, after_payments, followed_by, chosen, effect_of, effect}
use Rattle.pay_meaning.specs.Laws.{AgreeAt, AreAlike, IsNoneOf, variables_in, EffectReadsOwnVariables}

-- this holds of each name
abbrev Each : (List ℕ → Type 0) → List (List ℕ) → Type 0
Each P [] = Unit {0}
Each P (name ∷ rest) = P name × Each P rest

-- the same value in both maps
abbrev Agree : Variables → Variables → List ℕ → Type 0
Agree a b name = lookup a name ≡ lookup b name

each-agree : (a b : Variables) (names : List (List ℕ)) → AgreeAt names a b → Each (Agree a b) names
each-agree a b [] h = tt
each-agree a b (name ∷ rest) h = (h.0, each-agree a b rest h.1)

each-other : (name : List ℕ) (names : List (List ℕ)) → IsNoneOf names name → Each (λ first. ¬ (first ≡ name)) names
each-other name [] h = tt
each-other name (first ∷ rest) h = (h.0, each-other name rest h.1)

-- the variables that parts name
abbrev names : List Part → List (List ℕ)
names parts = names_in as_variable parts

-- what holds of all names in two lists of parts holds of those in each
each-with : (P : List ℕ → Type 0) (name : Option (List ℕ)) (rest : List (List ℕ)) → Each P (with_name name rest) → Each P (with_name name []) × Each P rest
each-with P None rest h = (tt, h)
each-with P (Some name) rest h = ((h.0, tt), h.1)

each-before : (P : List ℕ → Type 0) (name : Option (List ℕ)) (rest : List (List ℕ)) → Each P (with_name name []) → Each P rest → Each P (with_name name rest)
each-before P None rest h k = k
each-before P (Some name) rest h k = (h.0, k)

each-split : (P : List ℕ → Type 0) (ps qs : List Part) → Each P (names (ps ++ qs)) → Each P (names ps) × Each P (names qs)
each-split P [] qs h = (tt, h)
each-split P (part ∷ ps) qs h =
    let first = each-with P (name_in as_variable part) (names (ps ++ qs)) h in
    let rest = each-split P ps qs first.1 in
    (each-before P (name_in as_variable part) (names ps) first.0 rest.0, rest.1)

-- a number has one value under two maps that agree at its names
value-own : (n : Number) (a b : Variables) (at : Moment) → Each (Agree a b) (names (number_parts n)) → value n a at ≡ value n b at
value-own (literal raw) a b at h = refl
value-own (variable name) a b at h = ap Ok h.0
value-own spot a b at h = refl
value-own period a b at h = refl
value-own days a b at h = refl
value-own (negative side) a b at h = ap (one neg_ℤ) (value-own side a b at h)
value-own (absolute side) a b at h = ap (one (λ raw. pos (unsigned_abs raw))) (value-own side a b at h)
value-own (binary op left right) a b at h =
    let k = each-split (Agree a b) (number_parts left) (number_parts right) h in
    ap (λ x. both (calculated op) x (value right a at)) (value-own left a b at k.0)
    ∙ ap (both (calculated op) (value left b at)) (value-own right a b at k.1)

-- a condition has one truth under two maps that agree at its names
truth-own : (c : Condition) (a b : Variables) (at : Moment) → Each (Agree a b) (names (condition_parts c)) → truth c a at ≡ truth c b at
truth-own (compare op left right note) a b at h =
    let k = each-split (Agree a b) (number_parts left) (number_parts right) h in
    ap (λ x. both (λ v w. Ok (compared op v w)) x (value right a at)) (value-own left a b at k.0)
    ∙ ap (both (λ v w. Ok (compared op v w)) (value left b at)) (value-own right a b at k.1)
truth-own (negation side) a b at h = ap (one not) (truth-own side a b at h)
truth-own (conjunction left right) a b at h =
    let k = each-split (Agree a b) (condition_parts left) (condition_parts right) h in
    ap (λ x. both_hold x (truth right a at)) (truth-own left a b at k.0) ∙ ap (both_hold (truth left b at)) (truth-own right a b at k.1)
truth-own (disjunction left right) a b at h =
    let k = each-split (Agree a b) (condition_parts left) (condition_parts right) h in
    ap (λ x. either_holds x (truth right a at)) (truth-own left a b at k.0) ∙ ap (either_holds (truth left b at)) (truth-own right a b at k.1)
truth-own (settled answer) a b at h = refl
truth-own (sure answer side) a b at h = ap (one (λ other. answer)) (truth-own side a b at h)

-- what a name has after an assignment
default-cond : (b : Bool) (raw : ℤ) (old : Option ℤ) → unwrap_or (cond b (Some raw) old) (pos 0) ≡ cond b raw (unwrap_or old (pos 0))
default-cond true raw old = refl
default-cond false raw old = refl

lookup-inserted : (a : Variables) (name : List ℕ) (raw : ℤ) (other : List ℕ)
    → lookup (insert a name raw) other ≡ cond (eq_by_cmp (slice_cmp nat_cmp) other name) raw (lookup a other)
lookup-inserted a name raw other =
    ap (λ o. unwrap_or o (pos 0)) (get-insert nat_list_cmp_total a name raw other)
    ∙ default-cond (eq_by_cmp (slice_cmp nat_cmp) other name) raw (get a other)

agree-inserted : (all : List (List ℕ)) (a b : Variables) (name : List ℕ) (raw : ℤ) → AgreeAt all a b → AgreeAt all (insert a name raw) (insert b name raw)
agree-inserted [] a b name raw h = tt
agree-inserted (other ∷ rest) a b name raw h = (
  lookup-inserted a name raw other ∙ ap (cond (eq_by_cmp (slice_cmp nat_cmp) other name) raw) h.0 ∙ sym (lookup-inserted b name raw other),
  agree-inserted rest a b name raw h.1,
)

other-inserted : (a : Variables) (name : List ℕ) (raw : ℤ) (other : List ℕ) → ¬ (name ≡ other) → lookup (insert a name raw) other ≡ lookup a other
other-inserted a name raw other differ = elim (cases_Bool (eq_by_cmp (slice_cmp nat_cmp) other name)) [
  | inl hit ↦ absurd (differ (sym (tells_apart exact_bytes other name hit)))
  | inr miss ↦ lookup-inserted a name raw other ∙ ap (λ b. cond b raw (lookup a other)) miss
]

-- effects that are alike at all these names, step by step
assigned-alike : (all : List (List ℕ)) (a b : Variables) (name : List ℕ) (x : Result ℤ FaultKind) → AgreeAt all a b
    → AreAlike all (assigned a name x) (assigned b name x)
assigned-alike all a b name (Err fault) h = refl
assigned-alike all a b name (Ok raw) h = (refl, agree-inserted all a b name raw h)

paid-alike : (all : List (List ℕ)) (a b : Variables) (date : Day) (leg : List ℕ) (x : Result ℤ FaultKind) → AgreeAt all a b
    → AreAlike all (paid a date leg x) (paid b date leg x)
paid-alike all a b date leg (Err fault) h = refl
paid-alike all a b date leg (Ok raw) h = (refl, h)

chosen-alike : (all : List (List ℕ)) (x : Result Bool FaultKind) (e f g h : Result Effect FaultKind) → AreAlike all e f → AreAlike all g h
    → AreAlike all (chosen x e g) (chosen x f h)
chosen-alike all (Err fault) e f g h first second = refl
chosen-alike all (Ok true) e f g h first second = first
chosen-alike all (Ok false) e f g h first second = second

after-alike : (all : List (List ℕ)) (p q : List Payment) (e f : Result Effect FaultKind) → p ≡ q → AreAlike all e f
    → AreAlike all (after_payments p e) (after_payments q f)
after-alike all p q (Err fault) (Err other) same h = h
after-alike all p q (Err fault) (Ok other) same h = h
after-alike all p q (Ok left) (Err other) same h = h
after-alike all p q (Ok left) (Ok right) same h = (ap (λ x. x ++ left.payments) same ∙ ap (λ x. q ++ x) h.0, h.1)

followed-alike : (all : List (List ℕ)) (e f : Result Effect FaultKind) (rest : Variables → Result Effect FaultKind) → AreAlike all e f
    → ((a b : Variables) → AgreeAt all a b → AreAlike all (rest a) (rest b)) → AreAlike all (followed_by e rest) (followed_by f rest)
followed-alike all (Err fault) (Err other) rest h k = h
followed-alike all (Err fault) (Ok other) rest h k = absurd h
followed-alike all (Ok left) (Err other) rest h k = absurd h
followed-alike all (Ok left) (Ok right) rest h k =
    after-alike all left.payments right.payments (rest left.variables) (rest right.variables) h.0 (k left.variables right.variables h.1)

-- maps that agree at all these names agree at the names of these parts
abbrev Covers : List (List ℕ) → List Part → Type 0
Covers all parts = (a b : Variables) → AgreeAt all a b → Each (Agree a b) (names parts)

mutual
  statement-own : (all : List (List ℕ)) (s : Statement) (at : Moment) → Covers all (statement_parts s) → (a b : Variables) → AgreeAt all a b
      → AreAlike all (effect_of s a at) (effect_of s b at)
  statement-own all (assign name number) at cover a b h =
      subst (λ x. AreAlike all (assigned a name (value number a at)) (assigned b name x)) (value-own number a b at ((cover a b h).1))
      (assigned-alike all a b name (value number a at) h)
  statement-own all (pay leg number) at cover a b h =
      subst (λ x. AreAlike all (paid a at.date leg (value number a at)) (paid b at.date leg x)) (value-own number a b at (cover a b h))
      (paid-alike all a b at.date leg (value number a at) h)
  statement-own all (choose condition yes_part no_part) at cover a b h =
      let branches : Covers all (body_parts yes_part ++ body_parts no_part) =
      λ v w k. (each-split (Agree v w) (condition_parts condition) (body_parts yes_part ++ body_parts no_part) (cover v w k)).1 in
      subst (λ x. AreAlike all (effect_of (choose condition yes_part no_part) a at) (chosen x (effect yes_part b at) (effect no_part b at)))
      (truth-own condition a b at (each-split (Agree a b) (condition_parts condition) (body_parts yes_part ++ body_parts no_part) (cover a b h)).0)
      (chosen-alike all (truth condition a at) _ _ _ _
      (body-own all yes_part at (λ v w k. (each-split (Agree v w) (body_parts yes_part) (body_parts no_part) (branches v w k)).0) a b h)
      (body-own all no_part at (λ v w k. (each-split (Agree v w) (body_parts yes_part) (body_parts no_part) (branches v w k)).1) a b h))
  statement-own all (group body) at cover a b h = body-own all body at cover a b h

  body-own : (all : List (List ℕ)) (body : Body) (at : Moment) → Covers all (body_parts body) → (a b : Variables) → AgreeAt all a b
      → AreAlike all (effect body a at) (effect body b at)
  body-own all done at cover a b h = (refl, h)
  body-own all (next s rest) at cover a b h =
      followed-alike all (effect_of s a at) (effect_of s b at) (λ after. effect rest after at)
      (statement-own all s at (λ v w k. (each-split (Agree v w) (statement_parts s) (body_parts rest) (cover v w k)).0) a b h)
      (body-own all rest at (λ v w k. (each-split (Agree v w) (statement_parts s) (body_parts rest) (cover v w k)).1))

-- an effect has this value for this name, unless it faulted
abbrev Keeps : List ℕ → ℤ → Result Effect FaultKind → Type 0
Keeps name raw e = IfOk e (λ after. lookup after.variables name ≡ raw)

assigned-keeps : (v : Variables) (name other : List ℕ) (x : Result ℤ FaultKind) → ¬ (name ≡ other) → Keeps other (lookup v other) (assigned v name x)
assigned-keeps v name other (Err fault) differ = tt
assigned-keeps v name other (Ok raw) differ = other-inserted v name raw other differ

paid-keeps : (v : Variables) (date : Day) (leg other : List ℕ) (x : Result ℤ FaultKind) → Keeps other (lookup v other) (paid v date leg x)
paid-keeps v date leg other (Err fault) = tt
paid-keeps v date leg other (Ok raw) = refl

chosen-keeps : (name : List ℕ) (raw : ℤ) (x : Result Bool FaultKind) (e f : Result Effect FaultKind) → Keeps name raw e → Keeps name raw f
    → Keeps name raw (chosen x e f)
chosen-keeps name raw (Err fault) e f h k = tt
chosen-keeps name raw (Ok true) e f h k = h
chosen-keeps name raw (Ok false) e f h k = k

after-keeps : (name : List ℕ) (raw : ℤ) (p : List Payment) (e : Result Effect FaultKind) → Keeps name raw e → Keeps name raw (after_payments p e)
after-keeps name raw p (Err fault) h = tt
after-keeps name raw p (Ok left) h = h

followed-keeps : (name : List ℕ) (raw : ℤ) (e : Result Effect FaultKind) (rest : Variables → Result Effect FaultKind) → Keeps name raw e
    → ((v : Variables) → Keeps name (lookup v name) (rest v)) → Keeps name raw (followed_by e rest)
followed-keeps name raw (Err fault) rest h k = tt
followed-keeps name raw (Ok left) rest h k =
    after-keeps name raw left.payments (rest left.variables) (subst (λ x. Keeps name x (rest left.variables)) h (k left.variables))

-- none of the names of these parts is this one
abbrev IsOther : List ℕ → List Part → Type 0
IsOther name parts = Each (λ first. ¬ (first ≡ name)) (names parts)

mutual
  statement-keeps : (name : List ℕ) (s : Statement) (at : Moment) → IsOther name (statement_parts s) → (v : Variables)
      → Keeps name (lookup v name) (effect_of s v at)
  statement-keeps name (assign own number) at h v = assigned-keeps v own name (value number v at) h.0
  statement-keeps name (pay leg number) at h v = paid-keeps v at.date leg name (value number v at)
  statement-keeps name (choose condition yes_part no_part) at h v =
      let branches = each-split (λ first. ¬ (first ≡ name)) (condition_parts condition) (body_parts yes_part ++ body_parts no_part) h in
      let k = each-split (λ first. ¬ (first ≡ name)) (body_parts yes_part) (body_parts no_part) branches.1 in
      chosen-keeps name (lookup v name) (truth condition v at) (effect yes_part v at) (effect no_part v at)
      (body-keeps name yes_part at k.0 v) (body-keeps name no_part at k.1 v)
  statement-keeps name (group body) at h v = body-keeps name body at h v

  body-keeps : (name : List ℕ) (body : Body) (at : Moment) → IsOther name (body_parts body) → (v : Variables) → Keeps name (lookup v name) (effect body v at)
  body-keeps name done at h v = refl
  body-keeps name (next s rest) at h v =
      let k = each-split (λ first. ¬ (first ≡ name)) (statement_parts s) (body_parts rest) h in
      followed-keeps name (lookup v name) (effect_of s v at) (λ after. effect rest after at) (statement-keeps name s at k.0 v) (body-keeps name rest at k.1)

pub effect-own : EffectReadsOwnVariables
effect-own = record {
  reads = λ body a b at h. body-own (variables_in body) body at (λ v w k. each-agree v w (variables_in body) k) a b h;
  others = λ body v at name h. body-keeps name body at (each-other name (variables_in body) h) v;
}
