-- Things that are asked one after the other, each by its number and after the days of those before it: which is the first that is refused.
use Rattle.std.proofs.Common.{◌≡◌, ℕ, ◌+◌, Bool, true, false, ◌||◌, List, [], ◌∷◌, ◌++◌, length, Option, Some, None, refl, sym, ap, subst, ◌∙◌}
use Rattle.std.proofs.Common.{arith, inl, inr}
use Rattle.std.specs.List.{filter_map, cons_option}
use Rattle.std.specs.Ordering.{int_eq}
use Rattle.pay_dates.specs.Days.{day_number}
use Rattle.pay_dates.specs.declared.day.Day.{Day}
use Rattle.pay_roll.specs.Rolling.{first_of}
use Rattle.pay_tables.specs.declared.refusal.TableRefusal.{TableRefusal}
use Rattle.pay_tables.specs.Fields.{with_day}
use Rattle.pay_tables.specs.Tables.{is_among}
use Rattle.pay_tables.proofs.Refusals.{first_of-back, first_of-front, none-append, some-append}

-- the day of a thing, if it has one; what the thing of this number is refused for, after these days; and what things are refused for
pub record Asking (Thing : Type 0) : Type 0 where
  pub day : Thing → Option Day
  pub one : ℕ → List Day → Thing → List (Option TableRefusal)
  pub all : ℕ → List Day → List Thing → List (Option TableRefusal)
  pub none : (number : ℕ) (days : List Day) → all number days [] ≡ []
  pub more : (number : ℕ) (days : List Day) (thing : Thing) (rest : List Thing)
      → all number days (thing ∷ rest) ≡ one number days thing ++ all (number + 1) (with_day (day thing) days) rest

-- the days before, and those of these things
abbrev pub seen : {Thing : Type 0} → (Thing → Option Day) → List Day → List Thing → List Day
seen day days [] = days
seen day days (thing ∷ rest) = seen day (with_day (day thing) days) rest

-- the thing that is refused, and those before it, of which none is
pub record IsRefused {Thing : Type 0} (asking : Asking Thing) (number : ℕ) (days : List Day) (things : List Thing) (refusal : TableRefusal) : Type 0 where
  pub before : List Thing
  pub thing : Thing
  pub after : List Thing
  pub cut : things ≡ before ++ thing ∷ after
  pub accepted : first_of (asking.all number days before) ≡ None
  pub refused : first_of (asking.one (number + length before) (seen asking.day days before) thing) ≡ Some refusal

-- where things are refused, one of them is, and none before it
pub found : {Thing : Type 0} (asking : Asking Thing) (number : ℕ) (days : List Day) (things : List Thing) (refusal : TableRefusal)
    → first_of (asking.all number days things) ≡ Some refusal → IsRefused asking number days things refusal
found asking number days [] refusal is = let none = asking.none number days in cc
found asking number days (thing ∷ rest) refusal is =
    elim (some-append (asking.one number days thing) _ refusal (sym (ap first_of (asking.more number days thing rest)) ∙ is)) [
      | inl here ↦ record {
        before = [];
        thing = thing;
        after = rest;
        cut = refl;
        accepted = ap first_of (asking.none number days);
        refused = subst (λ count. first_of (asking.one count days thing) ≡ Some refusal) (omega arith) here;
      }
      | inr there ↦
          let next = found asking (number + 1) (with_day (asking.day thing) days) rest refusal there.1 in
          record {
            before = thing ∷ next.before;
            thing = next.thing;
            after = next.after;
            cut = ap (λ things. thing ∷ things) next.cut;
            accepted = ap first_of (asking.more number days thing next.before) ∙ first_of-back (asking.one number days thing) _ there.0 ∙ next.accepted;
            refused = subst (λ count. first_of (asking.one count (seen asking.day days (thing ∷ next.before)) next.thing) ≡ Some refusal)
                (omega arith) next.refused;
          }
    ]

-- where one thing is refused and none before it, things are refused for it
pub refused-first : {Thing : Type 0} (asking : Asking Thing) (number : ℕ) (days : List Day) (before : List Thing) (thing : Thing) (after : List Thing)
    (refusal : TableRefusal) → first_of (asking.all number days before) ≡ None
    → first_of (asking.one (number + length before) (seen asking.day days before) thing) ≡ Some refusal
    → first_of (asking.all number days (before ++ thing ∷ after)) ≡ Some refusal
refused-first asking number days [] thing after refusal accepted is =
    let counted = subst (λ count. first_of (asking.one count days thing) ≡ Some refusal) (omega arith) is in
    ap first_of (asking.more number days thing after) ∙ first_of-front (asking.one number days thing) _ refusal counted
refused-first asking number days (first ∷ before) thing after refusal accepted is =
    let parts = none-append (asking.one number days first) _ (sym (ap first_of (asking.more number days first before)) ∙ accepted) in
    let counted = subst (λ count. first_of (asking.one count (seen asking.day days (first ∷ before)) thing) ≡ Some refusal) (omega arith) is in
    ap first_of (asking.more number days first (before ++ thing ∷ after)) ∙ first_of-back (asking.one number days first) _ parts.0
    ∙ refused-first asking (number + 1) (with_day (asking.day first) days) before thing after refusal parts.1 counted

-- one of three tests, in another order
moved : (same old more : Bool) → ((same || old) || more) ≡ (old || (same || more))
moved true true more = refl
moved true false more = refl
moved false old more = refl

-- no test more
or_none : (old : Bool) → old ≡ (old || false)
or_none true = refl
or_none false = refl

-- a day is seen where it is one of those before, or of these things
among-seen : {Thing : Type 0} (day : Thing → Option Day) (date : Day) (days : List Day) (things : List Thing)
    → is_among date (seen day days things) ≡ (is_among date days || is_among date (filter_map day things))
among-seen day date days [] = or_none (is_among date days)
among-seen day date days (thing ∷ rest) = at (day thing) (λ before. among-seen day date before rest)
  where
    at : (found : Option Day)
        → ((before : List Day) → is_among date (seen day before rest) ≡ (is_among date before || is_among date (filter_map day rest)))
        → is_among date (seen day (with_day found days) rest) ≡ (is_among date days || is_among date (cons_option found (filter_map day rest)))
    at None more = more days
    at (Some other) more =
        more (other ∷ days) ∙ moved (int_eq (day_number other) (day_number date)) (is_among date days) (is_among date (filter_map day rest))

-- the days that are seen of things are theirs
pub seen-same : {Thing : Type 0} (day : Thing → Option Day) (things : List Thing) (date : Day)
    → is_among date (seen day [] things) ≡ is_among date (filter_map day things)
seen-same day things date = among-seen day date [] things
