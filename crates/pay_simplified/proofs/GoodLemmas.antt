-- The events of a good trade can be pruned.
use Rattle.std.proofs.Common.{◌≡◌, ℕ, Bool, false, ◌||◌, List, [], ◌∷◌, ◌++◌, map, length, IsTrue, refl, sym, ap, ◌∙◌, inl, inr}
use Rattle.std.proofs.Common.{subst}
use Rattle.std.proofs.lemmas.Bool.{cases_Bool, and_parts, ne_eqb}
use Rattle.std.proofs.lemmas.List.Folds.{list_all-append}
use Rattle.std.specs.List.{filter, list_all}
use Rattle.pay_tree.specs.Owned.{NumberTree, literal_at, slot_at, spot_at, unary_at, binary_at, TestTree, truth_at, compare_at, not_at, and_at, or_at}
use Rattle.pay_tree.specs.Owned.{StepTree, assigning, paying, choosing, grouping, StepsTree, no_steps, step_then, EventTree, steps_places}
use Rattle.pay_visit.specs.Showing.{TreePart, a_number_at, a_test_at, a_step_of, parts_of_number, parts_of_test, parts_of_step, parts_of_steps}
use Rattle.pay_passes.specs.declared.trade.Trade.{Trade}
use Rattle.pay_passes.specs.Changes.{filled_steps}
use Rattle.pay_passes.specs.Folding.{folded_steps}
use Rattle.pay_passes.specs.Trades.{AreDistinct, IsNotIn, HaveOwnPlaces, is_plain, parts_of_events, trees_of, IsGood}
use Rattle.pay_runs.specs.Slots.{number_within, test_within, step_within, steps_within}
use Rattle.pay_code.specs.Filled.{is_among, IsEachOnce, AreFilled}
use Rattle.pay_simplified.specs.Pruning.{folded_event, filled_event}
use Rattle.pay_simplified.specs.PruningLaws.{CanBePruned, AllCanBePruned, GoodTradesCanBePruned}
use Rattle.pay_simplified.proofs.ShrinkLemmas.{folded_keeps}
use Rattle.pay_simplified.proofs.BoundLemmas.{and_both, within_shrinks, places_shrink}
use Rattle.pay_simplified.proofs.FillingLemmas.{filled_within, filled_places, steps_are_filled}
use Rattle.pay_simplified.proofs.LoweringLemmas.{places_once}

-- parts are plain
abbrev ArePlain : ℕ → ℕ → List TreePart → Type 0
ArePlain variables legs parts = IsTrue (list_all (is_plain variables legs) parts)

plain_both : (variables legs : ℕ) (front back : List TreePart) → ArePlain variables legs (front ++ back)
    → ArePlain variables legs front × ArePlain variables legs back
plain_both variables legs front back h =
    and_parts (list_all (is_plain variables legs) front) (list_all (is_plain variables legs) back)
    (sym (list_all-append (is_plain variables legs) front back) ∙ h)

plain_first : (variables legs : ℕ) (part : TreePart) (rest : List TreePart) → ArePlain variables legs (part ∷ rest)
    → IsTrue (is_plain variables legs part) × ArePlain variables legs rest
plain_first variables legs part rest h = and_parts (is_plain variables legs part) (list_all (is_plain variables legs) rest) h

module _ (variables legs : ℕ) where
  number-within : (number : NumberTree) → ArePlain variables legs (parts_of_number number) → IsTrue (number_within variables number)
  number-within (literal_at id raw) plain = refl
  number-within (slot_at id slot) plain = (plain_first variables legs (a_number_at (slot_at id slot)) [] plain).0
  number-within (spot_at id) plain = refl
  number-within (unary_at id op side) plain =
      number-within side (plain_first variables legs (a_number_at (unary_at id op side)) (parts_of_number side) plain).1
  number-within (binary_at id op left right) plain =
      let sides = plain_both variables legs (parts_of_number left) (parts_of_number right)
      (plain_first variables legs (a_number_at (binary_at id op left right)) (parts_of_number left ++ parts_of_number right) plain).1 in
      and_both _ _ (number-within left sides.0) (number-within right sides.1)

  test-within : (test : TestTree) → ArePlain variables legs (parts_of_test test) → IsTrue (test_within variables test)
  test-within (truth_at id told answer) plain = refl
  test-within (compare_at id told op left right smooth) plain =
      let sides = plain_both variables legs (parts_of_number left) (parts_of_number right)
      (plain_first variables legs (a_test_at (compare_at id told op left right smooth)) (parts_of_number left ++ parts_of_number right) plain).1 in
      and_both _ _ (number-within left sides.0) (number-within right sides.1)
  test-within (not_at id told side) plain = test-within side (plain_first variables legs (a_test_at (not_at id told side)) (parts_of_test side) plain).1
  test-within (and_at id told left right) plain =
      let sides = plain_both variables legs (parts_of_test left) (parts_of_test right)
      (plain_first variables legs (a_test_at (and_at id told left right)) (parts_of_test left ++ parts_of_test right) plain).1 in
      and_both _ _ (test-within left sides.0) (test-within right sides.1)
  test-within (or_at id told left right) plain =
      let sides = plain_both variables legs (parts_of_test left) (parts_of_test right)
      (plain_first variables legs (a_test_at (or_at id told left right)) (parts_of_test left ++ parts_of_test right) plain).1 in
      and_both _ _ (test-within left sides.0) (test-within right sides.1)

  mutual
    step-within : (step : StepTree) → ArePlain variables legs (parts_of_step step) → IsTrue (step_within variables step)
    step-within (assigning slot value) plain =
        let parts = plain_first variables legs (a_step_of (assigning slot value)) (parts_of_number value) plain in
        and_both _ _ parts.0 (number-within value parts.1)
    step-within (paying leg amount) plain =
        number-within amount (plain_first variables legs (a_step_of (paying leg amount)) (parts_of_number amount) plain).1
    step-within (choosing test yes_part no_part changes) plain =
        let parts = plain_both variables legs (parts_of_test test) (parts_of_steps yes_part ++ parts_of_steps no_part)
        (plain_first variables legs (a_step_of (choosing test yes_part no_part changes))
        (parts_of_test test ++ (parts_of_steps yes_part ++ parts_of_steps no_part)) plain).1 in
        let branches = plain_both variables legs (parts_of_steps yes_part) (parts_of_steps no_part) parts.1 in
        and_both _ _ (test-within test parts.0) (and_both _ _ (steps-within yes_part branches.0) (steps-within no_part branches.1))
    step-within (grouping steps) plain = steps-within steps (plain_first variables legs (a_step_of (grouping steps)) (parts_of_steps steps) plain).1

    -- the variables of plain steps are among those of the trade
    pub steps-within : (steps : StepsTree) → ArePlain variables legs (parts_of_steps steps) → IsTrue (steps_within variables steps)
    steps-within no_steps plain = refl
    steps-within (step_then step rest) plain =
        let parts = plain_both variables legs (parts_of_step step) (parts_of_steps rest) plain in
        and_both _ _ (step-within step parts.0) (steps-within rest parts.1)

-- places that are distinct are there once each
not_among : (places : List ℕ) (place : ℕ) → IsNotIn places place → is_among place places ≡ false
not_among [] place out = refl
not_among (first ∷ rest) place out =
    ap (λ b. b || is_among place rest) (ne_eqb place first (λ same. out.0 (sym same))) ∙ not_among rest place out.1

distinct_once : (places : List ℕ) → AreDistinct places → IsEachOnce places
distinct_once [] distinct = tt
distinct_once (first ∷ rest) distinct = (not_among rest first distinct.0, distinct_once rest distinct.1)

-- steps that can be pruned can be pruned folded, and filled
fold_can : (variables : ℕ) (steps : StepsTree) → CanBePruned variables steps → CanBePruned variables (folded_steps steps)
fold_can variables steps can = record {
  within = folded_keeps (within_shrinks variables) steps can.within;
  places = places_once (steps_places (folded_steps steps)) (steps_places steps) (λ f. folded_keeps (places_shrink f) steps) can.places;
}

fill_can : (variables : ℕ) (steps : StepsTree) → CanBePruned variables steps → CanBePruned variables (filled_steps steps)
fill_can variables steps can = record {
  within = filled_within variables steps ∙ can.within;
  places = subst IsEachOnce (sym (filled_places steps)) can.places;
}

all_fold : (variables : ℕ) (events : List EventTree) → AllCanBePruned variables events → AllCanBePruned variables (map folded_event events)
all_fold variables [] can = tt
all_fold variables (event ∷ rest) can = (fold_can variables event.steps can.0, all_fold variables rest can.1)

all_fill : (variables : ℕ) (events : List EventTree) → AllCanBePruned variables events → AllCanBePruned variables (map filled_event events)
all_fill variables [] can = tt
all_fill variables (event ∷ rest) can = (fill_can variables event.steps can.0, all_fill variables rest can.1)

all_filled : (events : List EventTree) → AreFilled (map filled_event events)
all_filled [] = tt
all_filled (event ∷ rest) = (steps_are_filled event.steps, all_filled rest)

-- those of plain events with places of their own that are kept
kept_can : (variables legs : ℕ) (keep : EventTree → Bool) (events : List EventTree) → ArePlain variables legs (parts_of_events events)
    → HaveOwnPlaces events → AllCanBePruned variables (filter keep events)
kept_can variables legs keep [] plain places = tt
kept_can variables legs keep (event ∷ rest) plain places =
    let parts = plain_both variables legs (parts_of_steps event.steps) (parts_of_events rest) plain in
    let more : AllCanBePruned variables (filter keep rest) = kept_can variables legs keep rest parts.1 places.1 in
    let here : CanBePruned variables event.steps =
    record { within = steps-within variables legs event.steps parts.0; places = distinct_once (steps_places event.steps) places.0.0 } in
    elim (cases_Bool (keep event)) [
      | inl hit ↦ rw hit (here, more)
      | inr miss ↦ rw miss more
    ]

trade_can : (trade : Trade) (keep : EventTree → Bool) → IsGood trade → AllCanBePruned (length trade.names.items) (filter keep (trees_of trade))
trade_can trade keep good =
    kept_can (length trade.names.items) (length trade.legs.items) keep (trees_of trade) good.plain good.places

pub good_trades_can_be_pruned : GoodTradesCanBePruned
good_trades_can_be_pruned = record {
  plain = λ trade keep good. (
    all_fill (length trade.names.items) (filter keep (trees_of trade)) (trade_can trade keep good),
    all_filled (filter keep (trees_of trade)),
  );
  folded = λ trade keep good. (
    all_fill (length trade.names.items) (map folded_event (filter keep (trees_of trade)))
        (all_fold (length trade.names.items) (filter keep (trees_of trade)) (trade_can trade keep good)),
    all_filled (map folded_event (filter keep (trees_of trade))),
  );
}
