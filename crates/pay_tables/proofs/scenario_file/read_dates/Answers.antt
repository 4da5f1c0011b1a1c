-- A date that is there once more, and one that is new.
use Rattle.std.proofs.Common.{◌≡◌, ◌<◌, ◌∷◌, ◌++◌, [], false, Some, List, length, get_or, reverse, ap, sym, ◌∙◌}
use Rattle.std.proofs.Common.{append_assoc, length-append, arith, rules}
use Rattle.std.specs.BTreeSet.{contains}
use Rattle.std.proofs.lemmas.Bool.{not-false, not-true}
use Rattle.std.proofs.lemmas.List.{reverse-append}
use Rattle.pay_dates.specs.Days.{day_cmp, day_in}
use Rattle.pay_dates.specs.declared.day.Day.{Day}
use Rattle.pay_tables.specs.Reader.{current}
use Rattle.pay_tables.specs.Tables.{is_among}
use Rattle.pay_tables.proofs.DayMaps.{HasDays, has_days-more}
use Rattle.pay_tables.proofs.TableLemmas.{date_refusals-same, date_refusals-more, dates_left-more}
use Rattle.pay_tables.proofs.scenario_file.read_dates.Goals as goal

pub returns-then-not-is_new-clause-refused : goal.returns-then-not-is_new-clause-refused
returns-then-not-is_new-clause-refused c =
    let date = c.in_ok-date.date in
    let fields = current c.args.records.now in
    let is : day_in (get_or fields c.loop-at.at []) ≡ Some date = search rules in
    let old = not-false (contains day_cmp c.loop-at.seen date) (sym c.in_ok-is_new.ensures.added ∙ c.if-not-is_new.true) in
    c.loop-at.invariant.refusals
    ∙ date_refusals-same _ c.loop-at.at (reverse c.loop-at.dates.items) fields date (omega arith) is (sym (c.loop-at.invariant.seen date) ∙ old)

pub loop-at-preserved : goal.loop-at-preserved
loop-at-preserved c =
    let seen = contains day_cmp c.loop-at.seen in
    let date = c.in_ok-date.date in
    let dates = c.loop-at.dates.items in
    let fields = current c.args.records.now in
    let is : day_in (get_or fields c.loop-at.at []) ≡ Some date = search rules in
    let small : c.loop-at.at < length fields = omega arith in
    let absent = not-true (seen date) (sym c.in_ok-is_new.ensures.added ∙ c.if-not-is_new.false) in
    let new : is_among date (reverse dates) ≡ false = sym (c.loop-at.invariant.seen date) ∙ absent in
    let pushed : c.push.new.self.items ≡ dates ++ date ∷ [] = search rules in
    let has : HasDays (contains day_cmp c.insert.new.self) (date ∷ reverse dates) =
    has_days-more seen _ date (reverse dates) c.loop-at.invariant.seen c.in_ok-is_new.ensures.updates.0 in
    let left = ap (λ (rest : List Day). dates ++ rest) (dates_left-more c.loop-at.at fields date small is) in
    rw pushed (record {
      refusals = c.loop-at.invariant.refusals ∙ date_refusals-more _ c.loop-at.at dates fields date small is new;
      dates = c.loop-at.invariant.dates ∙ left ∙ sym (append_assoc dates (date ∷ []) _);
      count = omega (arith, length-append dates (date ∷ []), c.loop-at.invariant.count);
      seen = rw (reverse-append dates (date ∷ [])) has;
    })
