-- The events of a good trade up to a date, with their choices filled in: they can be lowered, and pay the trade's own legs.
use Rattle.std.proofs.Common.{◌≡◌, ℕ, ◌+◌, ◌≤◌, nat_lt, List, [], ◌∷◌, ◌++◌, map, length, IsTrue, Option, refl, ap, ◌∙◌, arith}
use Rattle.std.proofs.lemmas.List.{length-map, length-append}
use Rattle.std.specs.List.{list_all}
use Rattle.pay_dates.specs.declared.day.Day.{Day}
use Rattle.pay_tree.specs.Owned.{EventTree}
use Rattle.pay_visit.specs.Showing.{TreePart}
use Rattle.pay_passes.specs.declared.trade.Trade.{Trade}
use Rattle.pay_passes.specs.Trades.{trees_of, parts_of_events, IsGood}
use Rattle.pay_runs.specs.Slots.{steps_within}
use Rattle.pay_code.specs.declared.op.Op.{Op}
use Rattle.pay_code.specs.Bounds.{legs_in, pays_in}
use Rattle.pay_code.specs.Filled.{AreFilled}
use Rattle.pay_code.specs.Flat.{flat_code}
use Rattle.pay_code.specs.Programs.{CanBeLowered}
use Rattle.pay_simplified.specs.Pruning.{filled_event}
use Rattle.pay_simplified.specs.PruningLaws.{AllCanBePruned, HaveOwnLegs}
use Rattle.pay_simplified.proofs.BoundLemmas.{and_both}
use Rattle.pay_simplified.proofs.GoodLemmas.{good_trades_can_be_pruned}
use Rattle.pay_simplified.proofs.PaidLemmas.{pays_are_legs}
use Rattle.pay_simplified.proofs.PaidLemmas as paid
use Rattle.pay_compile.specs.Compiling.{is_until}
use Rattle.pay_compile.specs.Prepared.{kept_until}
use Rattle.pay_compile.proofs.PlainLemmas.{events_are_smooth}
use Rattle.pay_compile.proofs.PartLemmas.{events_have}
use Rattle.pay_compile.proofs.LegLemmas.{legs_of_parts, legs_both, events_pay, legs_are_own, each_is_one, paying_are_legs}
use Rattle.pay_compile.proofs.UntilLemmas.{plain_until, fewer_until, events_until_fewer, apart_rise, rise_until}

-- the events of a trade up to a date, with their choices filled in
abbrev pub filled_until : Option Day → Trade → List EventTree
filled_until until trade = map filled_event (kept_until until (trees_of trade))

-- they can be pruned, and their choices are filled
pub can_be_pruned : (until : Option Day) (trade : Trade) → IsGood trade
    → AllCanBePruned (length trade.names.items) (filled_until until trade) × AreFilled (filled_until until trade)
can_be_pruned until trade good = good_trades_can_be_pruned.plain trade (λ event. is_until until event.date) good

all_within : (variables : ℕ) (events : List EventTree) → AllCanBePruned variables events
    → IsTrue (list_all (λ event. steps_within variables event.steps) events)
all_within variables [] all = refl
all_within variables (event ∷ rest) all =
    and_both (steps_within variables event.steps) (list_all (λ event. steps_within variables event.steps) rest) all.0.within
    (all_within variables rest all.1)

-- they can be lowered over the trade's variables
pub filled_lowered : (until : Option Day) (trade : Trade) → IsGood trade → CanBeLowered (filled_until until trade) (length trade.names.items)
filled_lowered until trade good =
    let events : List EventTree = kept_until until (trees_of trade) in
    let variables : ℕ = length trade.names.items in
    let legs : ℕ = length trade.legs.items in
    let parts = fewer_until length (λ front back. length-append front back) until (trees_of trade) in
    record {
      rise = rise_until until (trees_of trade) (apart_rise trade.names.items trade.legs.items (trees_of trade) good.apart);
      within = all_within variables (filled_until until trade) (can_be_pruned until trade good).0;
      few_variables = good.few_names;
      filled = (can_be_pruned until trade good).1;
      smooth = events_are_smooth variables legs events (plain_until variables legs until (trees_of trade) good.plain);
      few_events = omega (arith, length-map events filled_event, events_until_fewer until (trees_of trade), good.few_events);
      few_parts = omega (arith, events_have events, parts, good.few_parts);
    }

-- their code pays the legs of their parts
code_pays : (until : Option Day) (trade : Trade)
    → legs_in (flat_code (filled_until until trade)) ≡ legs_of_parts (parts_of_events (kept_until until (trees_of trade)))
code_pays until trade = paid.events_pay (filled_until until trade) 0 0 ∙ events_pay (kept_until until (trees_of trade))

-- these are legs of the trade
pub filled_legs : (until : Option Day) (trade : Trade) → IsGood trade → HaveOwnLegs (length trade.legs.items) (filled_until until trade)
filled_legs until trade good =
    let variables : ℕ = length trade.names.items in
    let legs : ℕ = length trade.legs.items in
    ap (list_all (λ leg. nat_lt leg legs)) (code_pays until trade)
    ∙ legs_are_own variables legs (parts_of_events (kept_until until (trees_of trade))) (plain_until variables legs until (trees_of trade) good.plain)

legs_counted : (front back : List TreePart) → length (legs_of_parts (front ++ back)) ≡ length (legs_of_parts front) + length (legs_of_parts back)
legs_counted front back = ap length (legs_both front back) ∙ length-append (legs_of_parts front) (legs_of_parts back)

-- and their code has at most 16,384 payments
pub filled_pays : (until : Option Day) (trade : Trade) → IsGood trade → pays_in (flat_code (filled_until until trade)) ≤ 16_384
filled_pays until trade good =
    let code : List Op = flat_code (filled_until until trade) in
    let pays = pays_are_legs code ∙ each_is_one (legs_in code) ∙ ap length (code_pays until trade) in
    let fewer = fewer_until (λ parts. length (legs_of_parts parts)) legs_counted until (trees_of trade) in
    omega (arith, pays, fewer, paying_are_legs (parts_of_events (trees_of trade)), good.few_payments)
