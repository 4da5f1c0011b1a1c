-- Days that are read one after the other, each of them none of those before it.
use Rattle.std.proofs.Common.{◌≡◌, Bool, true, false, not, ◌&&◌, ◌||◌, List, [], ◌∷◌, refl, ap, ◌∙◌}
use Rattle.std.specs.List.{list_all}
use Rattle.std.specs.Ordering.{int_eq}
use Rattle.std.proofs.lemmas.Cmp.{int_eq_equiv}
use Rattle.pay_dates.specs.Days.{day_number}
use Rattle.pay_dates.specs.declared.day.Day.{Day}
use Rattle.pay_tables.specs.Tables.{is_among, are_distinct}

-- none of these days is one of those that came before all of them, or one before it
abbrev pub are_new : List Day → List Day → Bool
are_new before [] = true
are_new before (date ∷ dates) = not (is_among date before) && are_new (date ∷ before) dates

-- none of these days is one of those that came before
abbrev are_apart : List Day → List Day → Bool
are_apart before dates = list_all (λ date. not (is_among date before)) dates

-- where two days are tested, either may be asked first
moved : (same old apart found : Bool) → (not (same || old) && (apart && not found)) ≡ ((not old && apart) && not (same || found))
moved true true apart found = refl
moved true false true found = refl
moved true false false found = refl
moved false true apart found = refl
moved false false true found = refl
moved false false false found = refl

-- a day more came before
apart-cons : (date : Day) (before dates : List Day) → are_apart (date ∷ before) dates ≡ (are_apart before dates && not (is_among date dates))
apart-cons date before [] = refl
apart-cons date before (first ∷ rest) =
    rw (apart-cons date before rest, int_eq_equiv.symm (day_number first) (day_number date))
    (moved (int_eq (day_number date) (day_number first)) (is_among first before) (are_apart before rest) (is_among date rest))

-- four tests, in two groups
regrouped : (a b c d : Bool) → (a && ((b && c) && d)) ≡ ((a && b) && (c && d))
regrouped true true c d = refl
regrouped true false c d = refl
regrouped false b c d = refl

-- new days are apart from those that came before, and no two of them are one
new-apart : (before dates : List Day) → are_new before dates ≡ (are_apart before dates && are_distinct dates)
new-apart before [] = refl
new-apart before (date ∷ dates) =
    rw (new-apart (date ∷ before) dates, apart-cons date before dates)
    (regrouped (not (is_among date before)) (are_apart before dates) (not (is_among date dates)) (are_distinct dates))

-- where no day came before, all are apart
apart-nothing : (dates : List Day) → are_apart [] dates ≡ true
apart-nothing [] = refl
apart-nothing (date ∷ dates) = apart-nothing dates

-- where no day came before, days are new where no two of them are one
pub new-distinct : (dates : List Day) → are_new [] dates ≡ are_distinct dates
new-distinct dates = new-apart [] dates ∙ ap (λ apart. apart && are_distinct dates) (apart-nothing dates)
