-- The rolls of a schedule, period by period.
use Rattle.std.proofs.Common.{◌≡◌, ℕ, zero, suc, ◌+◌, ◌-◌, ◌*◌, ◌<◌, ◌≤◌, Bool, true, false, ℤ, pos, ◌≢◌, ◌+ℤ◌, ◌-ℤ◌, ◌<ℤ◌, ◌≤ℤ◌, int_lt, unsigned_abs, List, [], ◌∷◌, ◌++◌, length, refl, sym, ap, ◌∙◌, arith}
use Rattle.std.proofs.lemmas.Int.{by_lt_z, ints}
use Rattle.std.specs.Int.Signed.{le_z}
use Rattle.std.specs.Ordering.{int_cmp, is_lt}
use Rattle.jiff_core.proofs.SignedLemmas.{signed_arith}
use Rattle.pay_dates.specs.Days.{Date, IsDay, day_number}
use Rattle.pay_dates.specs.Rolls.{unadjusted, units_after, adjusted, moved, roll_at, is_given, with_roll, rolls_to, rolls_of, days_between}
use Rattle.pay_dates.specs.Steps.{IsStep}
use Rattle.pay_dates.specs.declared.roll.Roll.{Roll}
use Rattle.pay_dates.specs.declared.roll.Rule.{Rule}
use Rattle.pay_dates.specs.declared.roll.Unit.{Unit}
use Rattle.pay_dates.proofs.CountLemmas.{abs_is, day_numbered-day}
use Rattle.pay_dates.proofs.DayLemmas.{day_number-range}
use Rattle.pay_dates.proofs.StepLemmas.{no_units, units_grow, one_more_step, zero_step}

-- the test whether one number is before another
pub is_before : (a b : ℤ) → is_lt (int_cmp a b) ≡ true → a <ℤ b
is_before a b e = grind (arith, ints)

pub is_not_before : (a b : ℤ) → is_lt (int_cmp a b) ≡ false → b ≤ℤ a
is_not_before a b e = grind (arith, ints)

int_lt-yes : (a b : ℤ) → a <ℤ b → int_lt a b ≡ true
int_lt-yes a b h = grind (arith, ints)

int_lt-no : (a b : ℤ) → b ≤ℤ a → int_lt a b ≡ false
int_lt-no a b h = grind (arith, ints)

-- an unadjusted date is its sum where this is before the last date, and otherwise the last date
pub unadjusted-before : (first last : Date) (every : ℕ) (unit : Unit) (k : ℕ) → units_after first unit (k * every) <ℤ day_number last
    → unadjusted first last every unit k ≡ units_after first unit (k * every)
unfolding unadjusted
unadjusted-before first last every unit k h = rw (int_lt-yes _ _ h) refl

pub unadjusted-last : (first last : Date) (every : ℕ) (unit : Unit) (k : ℕ) → day_number last ≤ℤ units_after first unit (k * every)
    → unadjusted first last every unit k ≡ day_number last
unfolding unadjusted
unadjusted-last first last every unit k h = rw (int_lt-no _ _ h) refl

-- an adjusted date is where the rule moves the day that the unadjusted one is
adjusted-is : (first last : Date) (every : ℕ) (unit : Unit) (rule : Rule) (k : ℕ) (day : Date) → IsDay day → day_number day ≡ unadjusted first last every unit k
    → moved rule day ≡ adjusted first last every unit rule k
unfolding adjusted
adjusted-is first last every unit rule k day h e = rw (← e, day_numbered-day day h) refl

-- after k periods: the day is the k-th unadjusted date, `before` is the k-th adjusted one, and the rolls are those so far
pub record IsAt (first last : Date) (every : ℕ) (unit : Unit) (rule : Rule) (k : ℕ) (day before : Date) (rolls : List Roll) : Type 0 where
  pub day_is : day_number day ≡ unadjusted first last every unit k
  pub before_is : day_number before ≡ adjusted first last every unit rule k
  pub rolls_are : rolls ≡ rolls_to first last every unit rule k
  pub few : length rolls ≤ 4096
  pub far : (day_number first +ℤ pos k) ≤ℤ day_number day
  pub within : day_number day ≤ℤ day_number last
  pub step : IsStep unit (k * every)
  pub days : IsDay day × IsDay before
  pub ordered : day_number first <ℤ day_number last

-- before the first period
pub at_start : (first last : Date) (every : ℕ) (unit : Unit) (rule : Rule) (before : Date) → IsDay first → IsDay before → day_number first <ℤ day_number last
    → day_number before ≡ moved rule first → IsAt first last every unit rule 0 first before []
unfolding rolls_to
at_start first last every unit rule before h k lt e =
    let none : 0 * every ≡ 0 = omega arith in
    let zero : units_after first unit (0 * every) ≡ day_number first = rw none (no_units first unit) in
    let here : day_number first ≡ unadjusted first last every unit 0 = sym zero ∙ sym (unadjusted-before first last every unit 0 (omega (arith, signed_arith, zero, lt))) in
    record {
      day_is = here;
      before_is = e ∙ adjusted-is first last every unit rule 0 first h here;
      rolls_are = refl;
      few = omega arith;
      far = omega (arith, signed_arith);
      within = omega (arith, signed_arith, lt);
      step = rw none (zero_step unit);
      days = (h, k);
      ordered = lt;
    }

-- an unadjusted date before the last one is its sum
pub sum_of : (first last : Date) (every : ℕ) (unit : Unit) (k : ℕ) (z : ℤ) → z ≡ unadjusted first last every unit k → z <ℤ day_number last
    → z ≡ units_after first unit (k * every)
sum_of first last every unit k z e lt =
    by_lt_z (units_after first unit (k * every)) (day_number last)
    (λ before. e ∙ unadjusted-before first last every unit k before)
    (λ past. absurd (omega (arith, signed_arith, e, lt, unadjusted-last first last every unit k past)))

-- the sum of one that is the last date is not before it
sum_past : (first last : Date) (every : ℕ) (unit : Unit) (k : ℕ) → day_number last ≡ unadjusted first last every unit k
    → day_number last ≤ℤ units_after first unit (k * every)
sum_past first last every unit k e =
    by_lt_z (units_after first unit (k * every)) (day_number last)
    (λ before. omega (arith, signed_arith, e, unadjusted-before first last every unit k before))
    (λ past. past)

more_times : (k every : ℕ) → (k + 1) * every ≡ k * every + every
more_times k every = omega arith

-- so one more period can be counted
pub next_step : (first last : Date) (every : ℕ) (unit : Unit) (k : ℕ) (day : Date) → IsDay first → IsDay last → IsStep unit (k * every) → every ≤ 999
    → day_number day ≡ unadjusted first last every unit k → day_number day <ℤ day_number last → IsStep unit ((k + 1) * every)
next_step first last every unit k day h l small few e lt =
    let sum = sum_of first last every unit k (day_number day) e lt in
    let step = one_more_step first unit (k * every) every h (omega (arith, signed_arith, sum, lt, day_number-range last l)) few in
    rw (more_times k every) step

-- the next unadjusted date is later, and not past the last
pub next_later : (first last : Date) (every : ℕ) (unit : Unit) (k : ℕ) (day next : Date) → IsDay first → IsStep unit (k * every) → 1 ≤ every
    → day_number day ≡ unadjusted first last every unit k → day_number day <ℤ day_number last
    → day_number next ≡ unadjusted first last every unit (k + 1)
    → (day_number day <ℤ day_number next) × (day_number next ≤ℤ day_number last)
next_later first last every unit k day next h small low e lt e2 =
    let sum = sum_of first last every unit k (day_number day) e lt in
    let grow = units_grow first unit (k * every) ((k + 1) * every) h small (omega (arith, more_times k every)) in
    by_lt_z (units_after first unit ((k + 1) * every)) (day_number last)
    (λ before. let same = unadjusted-before first last every unit (k + 1) before in
    (omega (arith, signed_arith, sum, grow, e2, same), omega (arith, signed_arith, e2, same, before)))
    (λ past. let same = unadjusted-last first last every unit (k + 1) past in
    (omega (arith, signed_arith, e2, same, lt), omega (arith, signed_arith, e2, same)))

-- the roll of a period
pub roll_is : (first last : Date) (every : ℕ) (unit : Unit) (rule : Rule) (k : ℕ) (day date before : Date) → IsDay day → IsDay date
    → day_number day ≡ unadjusted first last every unit (k + 1) → day_number date ≡ moved rule day → day_number before ≡ adjusted first last every unit rule k
    → record { date = date; period = k + 1; days = unsigned_abs (day_number date -ℤ day_number before) } ≡ roll_at first last every unit rule (k + 1)
unfolding roll_at
roll_is first last every unit rule k day date before h m e moves was =
    let to : day_number date ≡ adjusted first last every unit rule (k + 1) = moves ∙ adjusted-is first last every unit rule (k + 1) day h e in
    let back : k + 1 - 1 ≡ k = omega arith in
    rw (back, ← to, ← was, day_numbered-day date m) refl

-- one period after k of them: `next` is its unadjusted date and `date` its adjusted one
pub record IsNext (first last : Date) (every : ℕ) (unit : Unit) (rule : Rule) (k : ℕ) (day before next date : Date) (rolls : List Roll) : Type 0 where
  pub at : IsAt first last every unit rule k day before rolls
  pub before_last : day_number day <ℤ day_number last
  pub low : 1 ≤ every
  pub high : every ≤ 999
  pub next_is : day_number next ≡ unadjusted first last every unit (k + 1)
  pub date_is : day_number date ≡ moved rule next
  pub first_day : IsDay first
  pub last_day : IsDay last
  pub next_day : IsDay next
  pub date_day : IsDay date

-- its roll
abbrev pub next_roll : ℕ → Date → Date → Roll
next_roll k before date = record { date = date; period = k + 1; days = unsigned_abs (day_number date -ℤ day_number before) }

-- the roll is given
abbrev pub gives : Roll → Bool
gives roll = is_given roll.period roll.days

pub plus_one : (k : ℕ) → k + 1 ≡ suc k
plus_one k = omega arith

pub rolls_to-next : (first last : Date) (every : ℕ) (unit : Unit) (rule : Rule) (k : ℕ)
    → rolls_to first last every unit rule (k + 1) ≡ with_roll (rolls_to first last every unit rule k) (roll_at first last every unit rule (k + 1))
unfolding rolls_to
rolls_to-next first last every unit rule k = rw (plus_one k) refl

pub with_roll-given : (rolls : List Roll) (roll : Roll) → gives roll ≡ true → with_roll rolls roll ≡ rolls ++ roll ∷ []
with_roll-given rolls roll e = rw e refl

pub with_roll-not : (rolls : List Roll) (roll : Roll) → gives roll ≡ false → with_roll rolls roll ≡ rolls
with_roll-not rolls roll e = rw e refl

-- the rolls after the next period
rolls_after : (first last : Date) (every : ℕ) (unit : Unit) (rule : Rule) (k : ℕ) (day before next date : Date) (rolls : List Roll)
    → IsNext first last every unit rule k day before next date rolls
    → rolls_to first last every unit rule (k + 1) ≡ with_roll rolls (next_roll k before date)
rolls_after first last every unit rule k day before next date rolls h =
    rolls_to-next first last every unit rule k
    ∙ ap (λ rs. with_roll rs (roll_at first last every unit rule (k + 1))) (sym h.at.rolls_are)
    ∙ ap (with_roll rolls) (sym (roll_is first last every unit rule k next date before h.next_day h.date_day h.next_is h.date_is h.at.before_is))

-- the next period leads to where k + 1 of them do
next_at : (first last : Date) (every : ℕ) (unit : Unit) (rule : Rule) (k : ℕ) (day before next date : Date) (rolls rolls₂ : List Roll)
    → IsNext first last every unit rule k day before next date rolls
    → with_roll rolls (next_roll k before date) ≡ rolls₂ → length rolls₂ ≤ 4096
    → IsAt first last every unit rule (k + 1) next date rolls₂
next_at first last every unit rule k day before next date rolls rolls₂ h e few =
    let later = next_later first last every unit k day next h.first_day h.at.step h.low h.at.day_is h.before_last h.next_is in
    record {
      day_is = h.next_is;
      before_is = h.date_is ∙ adjusted-is first last every unit rule (k + 1) next h.next_day h.next_is;
      rolls_are = sym (rolls_after first last every unit rule k day before next date rolls h ∙ e);
      few = few;
      far = omega (arith, signed_arith, later.0, h.at.far);
      within = later.1;
      step = next_step first last every unit k day h.first_day h.last_day h.at.step h.high h.at.day_is h.before_last;
      days = (h.next_day, h.date_day);
      ordered = h.at.ordered;
    }

length-one_more : (rolls : List Roll) (roll : Roll) → length (rolls ++ roll ∷ []) ≡ length rolls + 1
length-one_more [] roll = refl
length-one_more (x ∷ xs) roll = omega (arith, length-one_more xs roll)

-- a roll that is given, where there are fewer than the most
pub next_given : (first last : Date) (every : ℕ) (unit : Unit) (rule : Rule) (k : ℕ) (day before next date : Date) (rolls : List Roll)
    → IsNext first last every unit rule k day before next date rolls → gives (next_roll k before date) ≡ true → length rolls ≢ 4096
    → IsAt first last every unit rule (k + 1) next date (rolls ++ next_roll k before date ∷ [])
next_given first last every unit rule k day before next date rolls h given few =
    next_at first last every unit rule k day before next date rolls _ h (with_roll-given rolls (next_roll k before date) given)
    (omega (arith, length-one_more rolls (next_roll k before date), h.at.few, few))

-- and one that is not
pub next_not_given : (first last : Date) (every : ℕ) (unit : Unit) (rule : Rule) (k : ℕ) (day before next date : Date) (rolls : List Roll)
    → IsNext first last every unit rule k day before next date rolls → gives (next_roll k before date) ≡ false
    → IsAt first last every unit rule (k + 1) next date rolls
next_not_given first last every unit rule k day before next date rolls h not_given =
    next_at first last every unit rule k day before next date rolls rolls h (with_roll-not rolls (next_roll k before date) not_given) h.at.few

-- more periods have no fewer rolls
length-with_roll : (rolls : List Roll) (roll : Roll) (given : Bool) → gives roll ≡ given → length rolls ≤ length (with_roll rolls roll)
length-with_roll rolls roll true e = rw (with_roll-given rolls roll e) (omega (arith, length-one_more rolls roll))
length-with_roll rolls roll false e = rw (with_roll-not rolls roll e) (omega arith)

rolls_to-more : (first last : Date) (every : ℕ) (unit : Unit) (rule : Rule) (k more : ℕ)
    → length (rolls_to first last every unit rule k) ≤ length (rolls_to first last every unit rule (k + more))
rolls_to-more first last every unit rule k zero = let same : k + 0 ≡ k = omega arith in rw same (omega arith)
rolls_to-more first last every unit rule k (suc more) =
    let so_far = rolls_to-more first last every unit rule k more in
    let same : k + suc more ≡ k + more + 1 = omega arith in
    rw (same, rolls_to-next first last every unit rule (k + more))
    (omega (arith, so_far, length-with_roll (rolls_to first last every unit rule (k + more)) (roll_at first last every unit rule (k + more + 1)) _ refl))

-- as many periods as days lie between the dates have all the rolls
periods_in : (first last : Date) (k : ℕ) → (day_number first +ℤ pos k) ≤ℤ day_number last → (more : ℕ) × (days_between first last ≡ k + more)
periods_in first last k h =
    let days = abs_is (day_number last -ℤ day_number first) (omega (arith, signed_arith)) in
    (days_between first last - k, omega (arith, signed_arith, days, h))

-- one roll more than the most is too many
pub too_many : (first last : Date) (every : ℕ) (unit : Unit) (rule : Rule) (k : ℕ) (day before next date : Date) (rolls : List Roll)
    → IsNext first last every unit rule k day before next date rolls → gives (next_roll k before date) ≡ true → length rolls ≡ 4096
    → 4096 < length (rolls_of first last every unit rule)
unfolding rolls_of
too_many first last every unit rule k day before next date rolls h given full =
    let later = next_later first last every unit k day next h.first_day h.at.step h.low h.at.day_is h.before_last h.next_is in
    let more = periods_in first last (k + 1) (omega (arith, signed_arith, later, h.at.far)) in
    let same = rolls_after first last every unit rule k day before next date rolls h ∙ with_roll-given rolls (next_roll k before date) given in
    let so_many : length (rolls_to first last every unit rule (k + 1)) ≡ 4097 =
    ap (λ (rs : List Roll). length rs) same ∙ length-one_more rolls (next_roll k before date) ∙ rw full refl in
    rw more.1 (omega (arith, so_many, rolls_to-more first last every unit rule (k + 1) more.0))

-- where the last date is reached, further periods repeat it, and give no roll
later_last : (first last : Date) (every : ℕ) (unit : Unit) (k more : ℕ) → IsDay first → IsStep unit (k * every) → 1 ≤ every
    → day_number last ≡ unadjusted first last every unit k → unadjusted first last every unit (k + more) ≡ day_number last
later_last first last every unit k zero h small low e = let same : k + 0 ≡ k = omega arith in rw same (sym e)
later_last first last every unit k (suc more) h small low e =
    let past = sum_past first last every unit k e in
    let same : (k + suc more) * every ≡ k * every + (more * every + every) = omega arith in
    let grow = units_grow first unit (k * every) ((k + suc more) * every) h small (omega (arith, same)) in
    unadjusted-last first last every unit (k + suc more) (omega (arith, signed_arith, past, grow))

same_unadjusted : (first last : Date) (every : ℕ) (unit : Unit) (rule : Rule) (a b : ℕ) → unadjusted first last every unit a ≡ unadjusted first last every unit b
    → adjusted first last every unit rule a ≡ adjusted first last every unit rule b
unfolding adjusted
same_unadjusted first last every unit rule a b e = rw e refl

no_days : (z : ℤ) → unsigned_abs (z -ℤ z) ≡ 0
no_days z = let same : z -ℤ z ≡ pos 0 = omega (arith, signed_arith) in rw same refl

not_given : (period : ℕ) → 2 ≤ period → is_given period 0 ≡ false
not_given period h = grind arith

not_given_at : (first last : Date) (every : ℕ) (unit : Unit) (rule : Rule) (k : ℕ) → 1 ≤ k
    → adjusted first last every unit rule (k + 1) ≡ adjusted first last every unit rule k → gives (roll_at first last every unit rule (k + 1)) ≡ false
unfolding roll_at
not_given_at first last every unit rule k h e =
    let back : k + 1 - 1 ≡ k = omega arith in
    rw (back, e, no_days (adjusted first last every unit rule k)) (not_given (k + 1) (omega arith))

no_more : (first last : Date) (every : ℕ) (unit : Unit) (rule : Rule) (k more : ℕ) → IsDay first → IsStep unit (k * every) → 1 ≤ every → 1 ≤ k
    → day_number last ≡ unadjusted first last every unit k
    → rolls_to first last every unit rule (k + more) ≡ rolls_to first last every unit rule k
no_more first last every unit rule k zero h small low one e = let same : k + 0 ≡ k = omega arith in rw same refl
no_more first last every unit rule k (suc more) h small low one e =
    let same : k + suc more ≡ k + more + 1 = omega arith in
    let here = later_last first last every unit k more h small low e in
    let there = rw same at (later_last first last every unit k (suc more) h small low e) in
    let stays = same_unadjusted first last every unit rule (k + more + 1) (k + more) (there ∙ sym here) in
    let none = not_given_at first last every unit rule (k + more) (omega arith) stays in
    rw same (rolls_to-next first last every unit rule (k + more)
    ∙ with_roll-not (rolls_to first last every unit rule (k + more)) (roll_at first last every unit rule (k + more + 1)) none
    ∙ no_more first last every unit rule k more h small low one e)

-- the last date is not reached before the first period
one_period : (first last : Date) (every : ℕ) (unit : Unit) (rule : Rule) (k : ℕ) (day before : Date) (rolls : List Roll)
    → IsAt first last every unit rule k day before rolls → IsDay first → day_number first <ℤ day_number last → day_number day ≡ day_number last → 1 ≤ k
one_period first last every unit rule zero day before rolls h f lt e =
    let none : 0 * every ≡ 0 = omega arith in
    let start : units_after first unit (0 * every) ≡ day_number first = rw none (no_units first unit) in
    let here = unadjusted-before first last every unit 0 (omega (arith, signed_arith, start, lt)) in
    absurd (omega (arith, signed_arith, here, start, lt, e, h.day_is))
one_period first last every unit rule (suc k) day before rolls h f lt e = omega arith

-- so where the last date is reached, the rolls are all of them
pub all_rolls : (first last : Date) (every : ℕ) (unit : Unit) (rule : Rule) (k : ℕ) (day before : Date) (rolls : List Roll)
    → IsAt first last every unit rule k day before rolls → IsDay first → 1 ≤ every → day_number first <ℤ day_number last
    → day_number last ≤ℤ day_number day → rolls ≡ rolls_of first last every unit rule
unfolding rolls_of
all_rolls first last every unit rule k day before rolls h f low lt end =
    let there : day_number day ≡ day_number last = omega (arith, signed_arith, h.within, end) in
    let one : 1 ≤ k = one_period first last every unit rule k day before rolls h f lt there in
    let more = periods_in first last k (omega (arith, signed_arith, h.far, h.within)) in
    h.rolls_are ∙ sym (rw more.1 (no_more first last every unit rule k more.0 f h.step low one (sym there ∙ h.day_is)))

pub is_later : (a b : ℤ) → le_z a b ≡ false → b <ℤ a
is_later a b e = by_lt_z b a (λ lt. lt) (λ le. absurd (grind (arith, ints)))

-- the days to the last date grow fewer
pub fewer_days : (first last : Date) (every : ℕ) (unit : Unit) (rule : Rule) (k : ℕ) (day before next date : Date) (rolls : List Roll)
    → IsNext first last every unit rule k day before next date rolls
    → unsigned_abs (day_number last -ℤ day_number next) < unsigned_abs (day_number last -ℤ day_number day)
fewer_days first last every unit rule k day before next date rolls h =
    let later = next_later first last every unit k day next h.first_day h.at.step h.low h.at.day_is h.before_last h.next_is in
    let a = abs_is (day_number last -ℤ day_number next) (omega (arith, signed_arith, later)) in
    let b = abs_is (day_number last -ℤ day_number day) (omega (arith, signed_arith, later)) in
    omega (arith, signed_arith, a, b, later)
