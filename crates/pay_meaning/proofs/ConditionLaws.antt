-- The truth of conditions, the branch of an `if`, and statements one after another.
use Rattle.std.proofs.Common.{◌≡◌, Bool, true, false, not, List, [], ◌++◌, Result, Ok, Err, refl, sym, ap, ◌∙◌, append_assoc, append-nil}
use Rattle.std.proofs.Common.{inl, inr, ℤ, ◌≤ℤ◌, ◌<ℤ◌, arith}
use Rattle.std.proofs.lemmas.Bool.{cases_Bool}
use Rattle.std.proofs.lemmas.Bool.Decides.{Decides-int_eq, Decides-not}
use Rattle.std.proofs.lemmas.Int.{ints}
use Rattle.std.specs.Bool.{Decides}
use Rattle.std.specs.Prelude.{int_lt, int_le}
use Rattle.std.specs.Ordering.{int_eq}
use Rattle.pay_meaning.specs.declared.fault.FaultKind.{FaultKind}
use Rattle.pay_meaning.specs.Language.{less, at_most, greater, at_least, equals, differs, done, next, and_then}
use Rattle.pay_meaning.specs.Meaning.{Variables, one, both, value, compared, both_hold, either_holds, truth, Payment, Effect, after_payments, followed_by, chosen, effect_of, effect}
use Rattle.pay_meaning.specs.Laws.{ComparisonIsTrueWhereItHolds, TruthOfSides, ChoiceIsOneBranch, LastStatementFollows}

-- what the tests of raws answer
lt-decides : (a b : ℤ) → Decides (int_lt a b) (a <ℤ b)
lt-decides a b = elim (cases_Bool (int_lt a b)) [
  | inl hit ↦ (λ h. grind (arith, ints), λ h. hit)
  | inr miss ↦ (λ h. cc, λ h. absurd (grind (arith, ints)))
]

le-decides : (a b : ℤ) → Decides (int_le a b) (a ≤ℤ b)
le-decides a b = elim (cases_Bool (int_le a b)) [
  | inl hit ↦ (λ h. grind (arith, ints), λ h. hit)
  | inr miss ↦ (λ h. cc, λ h. absurd (grind (arith, ints)))
]

pub compared-decides : ComparisonIsTrueWhereItHolds
compared-decides less a b = lt-decides a b
compared-decides at_most a b = le-decides a b
compared-decides greater a b = lt-decides b a
compared-decides at_least a b = le-decides b a
compared-decides equals a b = Decides-int_eq a b
compared-decides differs a b = Decides-not (int_eq a b) (Decides-int_eq a b)

-- `not` of two sides, and `not` twice
not-both : (x y : Result Bool FaultKind) → one not (both_hold x y) ≡ either_holds (one not x) (one not y)
not-both (Err fault) y = refl
not-both (Ok true) y = refl
not-both (Ok false) y = refl

not-either : (x y : Result Bool FaultKind) → one not (either_holds x y) ≡ both_hold (one not x) (one not y)
not-either (Err fault) y = refl
not-either (Ok true) y = refl
not-either (Ok false) y = refl

not-twice : (x : Result Bool FaultKind) → one not (one not x) ≡ x
not-twice (Err fault) = refl
not-twice (Ok true) = refl
not-twice (Ok false) = refl

pub truth-sides : TruthOfSides
truth-sides = record {
  and_skips = λ left right variables at h. ap (λ x. both_hold x (truth right variables at)) h;
  and_goes_on = λ left right variables at h. ap (λ x. both_hold x (truth right variables at)) h;
  or_skips = λ left right variables at h. ap (λ x. either_holds x (truth right variables at)) h;
  or_goes_on = λ left right variables at h. ap (λ x. either_holds x (truth right variables at)) h;
  and_faults = λ left right variables at fault h. ap (λ x. both_hold x (truth right variables at)) h;
  or_faults = λ left right variables at fault h. ap (λ x. either_holds x (truth right variables at)) h;
  comparison_faults = λ op left right note variables at fault h. ap (λ x. both (λ a b. Ok (compared op a b)) x (value right variables at)) h;
  not_and = λ left right variables at. not-both (truth left variables at) (truth right variables at);
  not_or = λ left right variables at. not-either (truth left variables at) (truth right variables at);
  not_not = λ side variables at. not-twice (truth side variables at);
}

pub choice-branch : ChoiceIsOneBranch
choice-branch = record {
  chosen_yes = λ condition yes_part no_part variables at h. ap (λ x. chosen x (effect yes_part variables at) (effect no_part variables at)) h;
  chosen_no = λ condition yes_part no_part variables at h. ap (λ x. chosen x (effect yes_part variables at) (effect no_part variables at)) h;
  neither = λ condition yes_part no_part variables at fault h. ap (λ x. chosen x (effect yes_part variables at) (effect no_part variables at)) h;
}

-- payments before an effect, one list after another
after-after : (p q : List Payment) (e : Result Effect FaultKind) → after_payments p (after_payments q e) ≡ after_payments (p ++ q) e
after-after p q (Err fault) = refl
after-after p q (Ok left) =
    ap (λ (xs : List Payment). let e : Effect = record { variables = left.variables; payments = xs } in Ok e) (sym (append_assoc p q left.payments))

after-followed : (p : List Payment) (e : Result Effect FaultKind) (rest : Variables → Result Effect FaultKind)
    → after_payments p (followed_by e rest) ≡ followed_by (after_payments p e) rest
after-followed p (Err fault) rest = refl
after-followed p (Ok left) rest = after-after p left.payments (rest left.variables)

followed-twice : (e : Result Effect FaultKind) (middle whole rest : Variables → Result Effect FaultKind)
    → ((v : Variables) → whole v ≡ followed_by (middle v) rest) → followed_by e whole ≡ followed_by (followed_by e middle) rest
followed-twice (Err fault) middle whole rest same = refl
followed-twice (Ok left) middle whole rest same =
    ap (after_payments left.payments) (same left.variables) ∙ after-followed left.payments (middle left.variables) rest

-- nothing follows, or nothing came before
followed-nothing : (e : Result Effect FaultKind) → followed_by e (λ after. Ok (record { variables = after; payments = [] })) ≡ e
followed-nothing (Err fault) = refl
followed-nothing (Ok left) =
    ap (λ (xs : List Payment). let e : Effect = record { variables = left.variables; payments = xs } in Ok e) (append-nil left.payments)

after-nothing : (e : Result Effect FaultKind) → e ≡ after_payments [] e
after-nothing (Err fault) = refl
after-nothing (Ok left) = refl

pub last-follows : LastStatementFollows
last-follows done last variables at = followed-nothing (effect_of last variables at) ∙ after-nothing (effect_of last variables at)
last-follows (next s rest) last variables at =
    followed-twice (effect_of s variables at) (λ after. effect rest after at) (λ after. effect (and_then rest last) after at)
    (λ after. effect_of last after at) (λ after. last-follows rest last after at)
