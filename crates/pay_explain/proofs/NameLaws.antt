-- What is said by the numbers of variables is said by their names, and holds in every run.
use Rattle.std.proofs.Common.{◌≡◌, ℕ, zero, suc, ◌<◌, Bool, true, false, List, [], ◌∷◌, ◌++◌, map, filter, take, length, IsTrue, refl, sym, ap, ◌∙◌}
use Rattle.std.proofs.Common.{subst, pos, arith, inl, append_assoc, append-nil}
use Rattle.std.proofs.lemmas.Bool.{and_parts}
use Rattle.std.proofs.lemmas.Int.{ints}
use Rattle.std.specs.FinMap.{get-empty}
use Rattle.std.specs.List.{list_all}
use Rattle.std.specs.Prelude.{unwrap_or}
use Rattle.std.specs.Ordering.{nat_cmp}
use Rattle.std.specs.Cmp.Lexicographic.{slice_cmp}
use Rattle.pay_meaning.specs.Language.{Event}
use Rattle.pay_meaning.specs.Meaning.{lookup, no_variables}
use Rattle.pay_tree.specs.Owned.{StepsTree, EventTree, name_at, spelled_steps, spelled_event}
use Rattle.pay_text.specs.Text.{item_indent}
use Rattle.pay_domains.specs.Pieces.{Held, point}
use Rattle.pay_facts.specs.Facts.{Domains, no_facts}
use Rattle.pay_facts.specs.After.{after, after_event, after_events}
use Rattle.pay_facts.specs.FactLaws.{HoldAtEnd}
use Rattle.pay_facts.specs.Holding.{HoldValues}
use Rattle.pay_facts.specs.SlotFacts.{SlotDomains, slot_domain, after_steps, after_slot_events}
use Rattle.pay_facts.specs.SlotLaws.{DomainsStandFor, FactsStandFor}
use Rattle.pay_facts.proofs.SlotFactLemmas.{slots_are_names, slot_events_are_names}
use Rattle.pay_facts.proofs.AfterLemmas.{hold-in-runs, domains-stay}
use Rattle.pay_passes.specs.declared.trade.Trade.{Trade}
use Rattle.pay_passes.specs.Changes.{filled_steps}
use Rattle.pay_passes.specs.Trades.{AreDistinct, IsGood, IsNotIn, spelled_trade, trees_of}
use Rattle.pay_passes.proofs.ChangesLemmas.{filled_spell, fill_once}
use Rattle.pay_runs.specs.RunLaws.{AreApart, IsNotAmong}
use Rattle.pay_runs.specs.Slots.{steps_within}
use Rattle.pay_simplified.specs.Simplified.{simple_body}
use Rattle.pay_simplified.specs.Pruning.{marks_of, pruned_steps, filled_event}
use Rattle.pay_simplified.specs.PruningLaws.{CanBePruned, AllCanBePruned, PrunedStepsAreSimple}
use Rattle.pay_simplified.proofs.BoundLemmas.{and_both, within_shrinks}
use Rattle.pay_simplified.proofs.ShrinkLemmas.{pruned_keeps}
use Rattle.pay_simplified.proofs.FillingLemmas.{filled_within}
use Rattle.pay_simplified.proofs.GoodLemmas.{good_trades_can_be_pruned}
use Rattle.pay_print.specs.StepText.{step_text}
use Rattle.pay_print.specs.TreeText as trees
use Rattle.pay_print.proofs.TextLaws.{tree-texts-are-step-texts}
use Rattle.pay_explain.specs.Explaining.{domain_lines, tree_heading, tree_text, left_steps, explain_text, explain_trees, zero_domains, after_tree}
use Rattle.pay_explain.specs.ExplainLaws.{ExplainedByName, EndsAreShown, ShownDomainsHold}
use Rattle.pay_explain.proofs.ExplainLemmas.{zero_length, zero_slot}

not_among : (names : List (List ℕ)) (name : List ℕ) → IsNotIn names name → IsNotAmong names name
not_among [] name out = tt
not_among (first ∷ rest) name out = (out.0, not_among rest name out.1)

-- names that are distinct are apart
names_apart : (names : List (List ℕ)) → AreDistinct names → AreApart names
names_apart [] distinct = tt
names_apart (first ∷ rest) distinct = (not_among rest first distinct.0, names_apart rest distinct.1)

-- all of some are all
all_kept : {A : Type 0} (items : List A) → filter (λ item. true) items ≡ items
all_kept [] = refl
all_kept (first ∷ rest) = ap (λ more. first ∷ more) (all_kept rest)

-- the events of a good trade can be pruned
can_be_pruned : (trade : Trade) → IsGood trade → AllCanBePruned (length trade.names.items) (map filled_event (trees_of trade))
can_be_pruned trade good =
    subst (λ events. AllCanBePruned (length trade.names.items) (map filled_event events)) (all_kept (trees_of trade))
    (good_trades_can_be_pruned.plain trade (λ event. true) good).0

-- the variables of steps that can be pruned are among so many
steps_are_within : (count : ℕ) (steps : StepsTree) → CanBePruned count (filled_steps steps) → IsTrue (steps_within count steps)
steps_are_within count steps can = sym (filled_within count steps) ∙ can.within

events_are_within : (count : ℕ) (events : List EventTree) → AllCanBePruned count (map filled_event events)
    → IsTrue (list_all (λ event. steps_within count event.steps) events)
events_are_within count [] can = refl
events_are_within count (event ∷ rest) can = and_both _ _ (steps_are_within count event.steps can.0) (events_are_within count rest can.1)

-- raws by number are those of the names in their order
in_order : (names : List (List ℕ)) (slots : SlotDomains) (domains : Domains) → length slots ≡ length names
    → ((slot : ℕ) → slot < length names → slot_domain slots slot ≡ domains (name_at names slot)) → slots ≡ map domains names
in_order [] [] domains one_each same = refl
in_order [] (pieces ∷ slots) domains one_each same = absurd (omega (arith, one_each))
in_order (name ∷ names) [] domains one_each same = absurd (omega (arith, one_each))
in_order (name ∷ names) (pieces ∷ slots) domains one_each same =
    let rest : slots ≡ map domains names = in_order names slots domains (omega (arith, one_each)) (λ slot below. same (suc slot) (omega arith)) in
    λ i. same 0 (omega arith) i ∷ rest i

-- what is left of the steps of an event stands for its simplified statements
left_stands : PrunedStepsAreSimple → (names legs : List (List ℕ)) (event : EventTree) (slots : SlotDomains) (domains : Domains) → AreApart names
    → CanBePruned (length names) (filled_steps event.steps) → DomainsStandFor names slots domains
    → spelled_steps names legs (left_steps event.steps slots)
    ≡ simple_body (spelled_steps names legs event.steps) domains false (spelled_event names legs event)
left_stands simple names legs event slots domains apart can stand =
    filled_spell names legs (pruned_steps (filled_steps event.steps) slots false)
    ∙ simple names legs (filled_steps event.steps) slots domains false (spelled_event names legs event) apart can.within can.places stand
    ∙ ap (λ body. simple_body body domains false (spelled_event names legs event)) (filled_spell names legs event.steps)

-- and has its text
left_text : PrunedStepsAreSimple → (names legs : List (List ℕ)) (event : EventTree) (slots : SlotDomains) (domains : Domains) → AreApart names
    → CanBePruned (length names) (filled_steps event.steps) → DomainsStandFor names slots domains
    → trees.tree_text names legs (left_steps event.steps slots)
    ≡ step_text names (simple_body (spelled_steps names legs event.steps) domains false (spelled_event names legs event))
left_text simple names legs event slots domains apart can stand =
    let pruned : StepsTree = pruned_steps (filled_steps event.steps) slots false in
    let within : IsTrue (steps_within (length names) (filled_steps pruned)) =
    filled_within (length names) pruned
    ∙ pruned_keeps (within_shrinks (length names)) (marks_of (filled_steps event.steps) slots false) (filled_steps event.steps) can.within
    in
    tree-texts-are-step-texts names legs item_indent (filled_steps pruned) apart within (fill_once pruned)
    ∙ ap (step_text names) (left_stands simple names legs event slots domains apart can stand)

-- what is said of events by number is said by name, where the raws before them are those of the names
said_same : PrunedStepsAreSimple → (names legs : List (List ℕ)) → AreApart names → (events : List EventTree)
    → AllCanBePruned (length names) (map filled_event events) → (slots : SlotDomains) (domains : Domains) → DomainsStandFor names slots domains
    → explain_trees names legs events slots ≡ explain_text names (map (spelled_event names legs) events) domains
said_same simple names legs apart [] can slots domains stand = refl
said_same simple names legs apart (event ∷ rest) can slots domains stand =
    let at : Event = spelled_event names legs event in
    let left : FactsStandFor names (after_steps event.steps slots false) (after (spelled_steps names legs event.steps) domains false at) =
    slots_are_names.facts names legs event.steps slots domains false at apart (steps_are_within (length names) event.steps can.0) stand
    in
    let own : (after_steps event.steps slots false).domains ≡ map (after_event at domains) names =
    in_order names (after_steps event.steps slots false).domains (after_event at domains) left.domains.one_each left.domains.same
    in
    let steps = left_text simple names legs event slots domains apart can.0 stand in
    let onward = said_same simple names legs apart rest can.1 (after_steps event.steps slots false).domains (after_event at domains) left.domains in
    λ i. (tree_heading event ++ (steps i ++ domain_lines names (own i))) ++ onward i

-- variables that are 0 by number are 0 by name
fresh_stands : (names : List (List ℕ)) → DomainsStandFor names (zero_domains names) no_facts
fresh_stands names = record { one_each = zero_length names; same = λ slot below. zero_slot names slot }

pub explained_by_name : PrunedStepsAreSimple → ExplainedByName
explained_by_name simple trade good =
    let names : List (List ℕ) = trade.names.items in
    said_same simple names trade.legs.items (names_apart names good.names) (trees_of trade) (can_be_pruned trade good) (zero_domains names) no_facts
    (fresh_stands names)

pub ends_are_shown : EndsAreShown
ends_are_shown names legs [] event domains = append-nil (tree_text names legs event domains)
ends_are_shown names legs (first ∷ earlier) event domains =
    ap (λ rest. tree_text names legs first domains ++ rest) (ends_are_shown names legs earlier event (after_tree first domains))
    ∙ sym (append_assoc (tree_text names legs first domains) (explain_trees names legs earlier (after_tree first domains)) _)

-- no variable was assigned: each is 0
fresh_hold : HoldValues no_facts no_variables
fresh_hold name =
    let zero : lookup no_variables name ≡ pos 0 = ap (λ found. unwrap_or found (pos 0)) (get-empty (slice_cmp nat_cmp) name) in
    subst (λ raw. Held raw (point (pos 0))) (sym zero) (inl (record { low = omega (arith, ints); high = omega (arith, ints) }))

-- the first events of those that are within are within
first_within : {A : Type 0} (test : A → Bool) (items : List A) (count : ℕ) → IsTrue (list_all test items) → IsTrue (list_all test (take count items))
first_within test items zero all = refl
first_within test [] (suc count) all = refl
first_within test (x ∷ items) (suc count) all =
    let parts = and_parts (test x) (list_all test items) all in
    and_both (test x) (list_all test (take count items)) parts.0 (first_within test items count parts.1)

map_first : {A B : Type 0} (f : A → B) (items : List A) (count : ℕ) → map f (take count items) ≡ take count (map f items)
map_first f items zero = refl
map_first f [] (suc count) = refl
map_first f (x ∷ items) (suc count) = ap (λ rest. f x ∷ rest) (map_first f items count)

pub shown_hold : ShownDomainsHold
shown_hold trade count variables fixings slot good fixed ends below =
    let names : List (List ℕ) = trade.names.items in
    let first : List Event = take count (spelled_trade trade) in
    let values : HoldValues (after_events first no_facts) variables =
    subst (HoldAtEnd (after_events first no_facts)) ends
    (hold-in-runs first no_facts no_variables fixings (domains-stay.of_points (λ name. pos 0)) fresh_hold fixed)
    in
    let within = first_within (λ event. steps_within (length names) event.steps) (trees_of trade) count
    (events_are_within (length names) (trees_of trade) (can_be_pruned trade good)) in
    let stand : DomainsStandFor names (after_slot_events (take count (trees_of trade)) (zero_domains names)) (after_events first no_facts) =
    subst (λ events. DomainsStandFor names (after_slot_events (take count (trees_of trade)) (zero_domains names)) (after_events events no_facts))
    (map_first (spelled_event names trade.legs.items) (trees_of trade) count)
    (slot_events_are_names names trade.legs.items (take count (trees_of trade)) (zero_domains names) no_facts (names_apart names good.names) within
    (fresh_stands names))
    in
    subst (Held (lookup variables (name_at names slot))) (sym (stand.same slot below)) (values (name_at names slot))
