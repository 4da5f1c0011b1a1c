-- The prepared events of a good trade stand for its simplified script, can be lowered, and mean what the trade's events mean.
use Rattle.std.proofs.Common.{◌≡◌, ℕ, zero, suc, ◌≤◌, pos, List, [], ◌∷◌, map, length, Option, unwrap_or}
use Rattle.std.proofs.Common.{refl, sym, ap, ◌∙◌, inl, inr, arith}
use Rattle.std.proofs.lemmas.Bool.{cases_Bool}
use Rattle.std.proofs.lemmas.List.{length-map}
use Rattle.std.specs.Ordering.{nat_cmp}
use Rattle.std.specs.Cmp.Lexicographic.{slice_cmp}
use Rattle.std.specs.FinMap.{get-empty}
use Rattle.pay_dates.specs.declared.day.Day.{Day}
use Rattle.pay_meaning.specs.Meaning.{Fixings, meaning, no_variables}
use Rattle.pay_domains.specs.Pieces.{point}
use Rattle.pay_facts.specs.Facts.{no_facts}
use Rattle.pay_facts.specs.Holding.{AreFixings}
use Rattle.pay_facts.specs.SlotFacts.{slot_domain}
use Rattle.pay_facts.specs.SlotLaws.{DomainsStandFor}
use Rattle.pay_tree.specs.Owned.{EventTree, name_at, spelled_event}
use Rattle.pay_passes.specs.declared.trade.Trade.{Trade}
use Rattle.pay_passes.specs.Trades.{trees_of, spelled_trade, AreDistinct, IsNotIn, IsGood}
use Rattle.pay_runs.specs.RunLaws.{AreApart, IsNotAmong, StandFor}
use Rattle.pay_runs.specs.Slots.{slot_value}
use Rattle.pay_code.specs.Bounds.{pays_in}
use Rattle.pay_code.specs.Flat.{flat_code}
use Rattle.pay_code.specs.Programs.{CanBeLowered}
use Rattle.pay_simplified.specs.Pruning.{pruned}
use Rattle.pay_simplified.specs.PruningLaws.{HaveOwnLegs, PrunedIsSimplified}
use Rattle.pay_simplified.specs.Simplified.{simplified}
use Rattle.pay_simplified.proofs.EffectLemmas.{simplified_pays_the_same}
use Rattle.pay_simplified.proofs.FillingLemmas.{filling_keeps_pruned}
use Rattle.pay_simplified.proofs.LoweringLemmas.{pruned_can_be_lowered}
use Rattle.pay_compile.specs.Compiling.{is_until, events_until}
use Rattle.pay_compile.specs.CompileLaws.{PreparedIsSimplified}
use Rattle.pay_compile.specs.Prepared.{prepared, kept_until, no_values, zero_domains}
use Rattle.pay_compile.proofs.FilledLemmas.{filled_until, can_be_pruned, filled_lowered, filled_legs, filled_pays}

not_among : (names : List (List ℕ)) (name : List ℕ) → IsNotIn names name → IsNotAmong names name
not_among [] name out = tt
not_among (first ∷ rest) name out = (out.0, not_among rest name out.1)

-- names that are distinct are apart
pub names_apart : (names : List (List ℕ)) → AreDistinct names → AreApart names
names_apart [] distinct = tt
names_apart (first ∷ rest) distinct = (not_among rest first distinct.0, names_apart rest distinct.1)

-- the events that are kept stand for the events until the date
pub kept_are_spelled : (names legs : List (List ℕ)) (until : Option Day) (trees : List EventTree)
    → map (spelled_event names legs) (kept_until until trees) ≡ events_until until (map (spelled_event names legs) trees)
kept_are_spelled names legs until [] = refl
kept_are_spelled names legs until (event ∷ rest) = elim (cases_Bool (is_until until event.date)) [
  | inl hit ↦ rw hit (ap (λ events. spelled_event names legs event ∷ events) (kept_are_spelled names legs until rest))
  | inr miss ↦ rw miss (kept_are_spelled names legs until rest)
]

-- values that are 0 are the points of variables that are 0
pub zero_points : (names : List (List ℕ)) → map point (no_values names) ≡ zero_domains names
zero_points [] = refl
zero_points (name ∷ rest) = ap (λ domains. point (pos 0) ∷ domains) (zero_points rest)

zero_slot : (names : List (List ℕ)) (slot : ℕ) → slot_domain (zero_domains names) slot ≡ point (pos 0)
zero_slot [] slot = refl
zero_slot (name ∷ rest) zero = refl
zero_slot (name ∷ rest) (suc slot) = zero_slot rest slot

-- variables that are 0 by number are 0 by name
zeros_stand : (names : List (List ℕ)) → DomainsStandFor names (zero_domains names) no_facts
zeros_stand names = record { one_each = length-map names (λ name. point (pos 0)); same = λ slot below. zero_slot names slot }

-- the prepared events stand for the simplified script
pub prepared_simplified : PrunedIsSimplified → PreparedIsSimplified
prepared_simplified law until trade good =
    let names : List (List ℕ) = trade.names.items in
    let legs : List (List ℕ) = trade.legs.items in
    let kept : List EventTree = kept_until until (trees_of trade) in
    filling_keeps_pruned.afterwards names legs (pruned (filled_until until trade) (zero_domains names))
    ∙ law names legs (filled_until until trade) (zero_domains names) no_facts (names_apart names good.names)
    (can_be_pruned until trade good).0 (zeros_stand names)
    ∙ ap (λ events. simplified events no_facts)
    (filling_keeps_pruned.afterwards names legs kept ∙ kept_are_spelled names legs until (trees_of trade))

-- the prepared events mean what the trade's events mean, under fixings within their limit
pub keeps_meaning : PreparedIsSimplified → (until : Option Day) (trade : Trade) (fixings : Fixings) → IsGood trade → AreFixings fixings
    → meaning (map (spelled_event trade.names.items trade.legs.items) (prepared until trade)) no_variables fixings
    ≡ meaning (events_until until (spelled_trade trade)) no_variables fixings
keeps_meaning law until trade fixings good fixed =
    ap (λ events. meaning events no_variables fixings) (law until trade good)
    ∙ simplified_pays_the_same.fresh (events_until until (spelled_trade trade)) fixings fixed

-- they can be lowered over the trade's variables
pub can_be_lowered : (until : Option Day) (trade : Trade) → IsGood trade → CanBeLowered (prepared until trade) (length trade.names.items)
can_be_lowered until trade good =
    pruned_can_be_lowered.lowered (filled_until until trade) (zero_domains trade.names.items) (length trade.names.items) (filled_lowered until trade good)

-- the legs of their code are legs of the trade
pub own_legs : (until : Option Day) (trade : Trade) → IsGood trade → HaveOwnLegs (length trade.legs.items) (prepared until trade)
own_legs until trade good =
    pruned_can_be_lowered.legs (filled_until until trade) (zero_domains trade.names.items) (length trade.legs.items) (filled_legs until trade good)

-- their code has at most 16,384 payments
pub few_pays : (until : Option Day) (trade : Trade) → IsGood trade → pays_in (flat_code (prepared until trade)) ≤ 16_384
few_pays until trade good =
    omega (arith, pruned_can_be_lowered.pays (filled_until until trade) (zero_domains trade.names.items), filled_pays until trade good)

zero_at : (names : List (List ℕ)) (slot : ℕ) → slot_value (no_values names) slot ≡ pos 0
zero_at [] slot = refl
zero_at (first ∷ rest) zero = refl
zero_at (first ∷ rest) (suc slot) = zero_at rest slot

-- values that are 0 stand for variables of which none was assigned
pub fresh_stands : (names : List (List ℕ)) → StandFor names (no_values names) no_variables
fresh_stands names = record {
  one_each = length-map names (λ name. pos 0);
  same = λ slot below. zero_at names slot ∙ sym (ap (λ found. unwrap_or found (pos 0)) (get-empty (slice_cmp nat_cmp) (name_at names slot)));
}
