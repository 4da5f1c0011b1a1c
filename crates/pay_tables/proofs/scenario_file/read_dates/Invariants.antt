-- The dates so far, and those of what is left.
use Rattle.std.proofs.Common.{◌≡◌, ◌+◌, ◌++◌, [], drop, length, reverse}
use Rattle.std.specs.BTreeSet.{contains}
use Rattle.std.specs.List.{filter_map}
use Rattle.pay_dates.specs.Days.{day_cmp, day_in}
use Rattle.pay_roll.specs.Rolling.{first_of}
use Rattle.pay_tables.specs.Reader.{current}
use Rattle.pay_tables.specs.ScenarioFile.{date_refusals}
use Rattle.pay_tables.proofs.DayMaps.{HasDays}
use Rattle.pay_tables.proofs.scenario_file.read_dates.Given as goal

-- what is refused of all fields is refused of those that are left, the dates are those so far and theirs, and the set has the days so far
abbrev pub invariant-loop-at : goal.invariant-loop-at
invariant-loop-at l = record {
  refusals : first_of (date_refusals 2 [] (drop 1 (current l.records)))
      ≡ first_of (date_refusals (l.at + 1) (reverse l.dates.items) (drop l.at (current l.records)));
  dates : filter_map day_in (drop 1 (current l.records)) ≡ l.dates.items ++ filter_map day_in (drop l.at (current l.records));
  count : length l.dates.items + 1 ≡ l.at;
  seen : HasDays (contains day_cmp l.seen) (reverse l.dates.items);
}
