-- What is said of the events of a script, put one after the other.
use Rattle.std.proofs.Common.{◌≡◌, ℕ, ◌≤◌, List, [], ◌++◌, length, drop, map, Result, Ok, Err, OnOk, Option, sym, ap, subst, ◌∙◌, append-nil}
use Rattle.std.proofs.lemmas.List.{length-map, drop_all}
use Rattle.pay_edge.specs.Edge.{appended, AppendsFront}
use Rattle.pay_explain.specs.ExplainLaws.{ExplainedByName}
use Rattle.pay_explain.specs.Explaining.{explain_trees, zero_domains}
use Rattle.pay_facts.specs.SlotFacts.{SlotDomains}
use Rattle.pay_inputs.specs.TradeViews.{trade}
use Rattle.pay_passes.specs.declared.trade.Trade.{Trade}
use Rattle.pay_passes.specs.Trades.{IsGood, trees_of}
use Rattle.pay_tree.specs.Owned.{EventTree}
use Rattle.pay_tree.specs.OwnedViews.{event_tree}
use Rattle.pay_scenarios.specs.Puts.{HasPut}
use Rattle.pay_tool.specs.ScriptTexts.{explained_text}
use Rattle.pay_scenarios.proofs.Pieces.{put_more, put_part}

-- a good trade has few events
pub few_events : (found : Trade) → IsGood found → length found.events.items ≤ 4096
few_events found good = rw (sym (length-map found.events.items event_tree)) good.few_events

-- what is said of the trees of a good trade, from zeros, is the text
pub said : ExplainedByName → (found : Trade) (domains : SlotDomains) → IsGood found → domains ≡ zero_domains found.names.items
    → explain_trees found.names.items found.legs.items (trees_of found) domains ≡ explained_text (trade found)
said by_name found domains good zero =
    ap (explain_trees found.names.items found.legs.items (trees_of found)) zero ∙ by_name found good

pub explained_trees : ExplainedByName → {A E : Type 0} (r : Result A E) (old new : Option (List ℕ)) (found : Trade) (domains : SlotDomains)
    → IsGood found → domains ≡ zero_domains found.names.items
    → OnOk r (new ≡ appended old (explain_trees found.names.items found.legs.items (trees_of found) domains)) → OnOk r (new ≡ appended old (explained_text (trade found)))
explained_trees by_name (Ok a) old new found domains good zero put = put ∙ ap (appended old) (said by_name found domains good zero)
explained_trees by_name (Err e) old new found domains good zero put = put

pub explained_front : ExplainedByName → (old new : Option (List ℕ)) (found : Trade) (domains : SlotDomains) → IsGood found → domains ≡ zero_domains found.names.items
    → AppendsFront old new (explain_trees found.names.items found.legs.items (trees_of found) domains) → AppendsFront old new (explained_text (trade found))
explained_front by_name old new found domains good zero front = subst (AppendsFront old new) (said by_name found domains good zero) front

-- where no event is left the whole was put
pub events_put : (old now : Option (List ℕ)) (names legs : List (List ℕ)) (events : List EventTree) (domains : SlotDomains) (i : ℕ) (whole : List ℕ)
    → length events ≤ i → HasPut old now (explain_trees names legs (drop i events) domains) whole → now ≡ appended old whole
events_put old now names legs events domains i whole h put =
    put.text
    ∙ ap (appended old) (sym (append-nil put.front)
    ∙ ap (λ (left : List EventTree). put.front ++ explain_trees names legs left domains) (sym (drop_all i events h)) ∙ put.split)

-- what is said of an event was put
pub event_put : (old now new : Option (List ℕ)) (piece left remaining whole : List ℕ) → HasPut old now left whole → left ≡ piece ++ remaining
    → new ≡ appended now piece → HasPut old new remaining whole
event_put old now new piece left remaining whole put onward same =
    put_more old now new piece remaining whole (subst (λ (xs : List ℕ). HasPut old now xs whole) onward put) same

-- a front of it was put
pub event_part : (old now new : Option (List ℕ)) (piece left remaining whole : List ℕ) → HasPut old now left whole → left ≡ piece ++ remaining
    → AppendsFront now new piece → AppendsFront old new whole
event_part old now new piece left remaining whole put onward front =
    put_part old now new piece remaining whole (subst (λ (xs : List ℕ). HasPut old now xs whole) onward put) front
