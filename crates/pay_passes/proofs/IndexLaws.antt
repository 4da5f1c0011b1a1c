-- Trades of scripts: their names, their refusals, and that they are good.
use Rattle.std.proofs.Common.{◌≡◌, ℕ, ◌≤◌, true, List, length, map, Some, None, refl, sym, ap, ◌∙◌, arith}
use Rattle.std.proofs.lemmas.Bool.Decides.{nat_tests}
use Rattle.std.proofs.lemmas.List.{length-map}
use Rattle.std.specs.Prelude.{nat_le}
use Rattle.pay_meaning.specs.Language.{Event, Script}
use Rattle.pay_meaning.specs.Events.{all_events, events_of}
use Rattle.pay_meaning.specs.Parts.{Role, as_variable, as_leg, event_parts, names_in, names_of, script_parts}
use Rattle.pay_roll.specs.Rolling.{roll_refusal}
use Rattle.pay_roll.proofs.RollLaws.{accepted-rolled}
use Rattle.pay_roll.specs.declared.refusal.What.{What}
use Rattle.pay_roll.specs.declared.refusal.What.TheVariants.{Variables, Legs}
use Rattle.pay_tree.specs.Owned.{spelled_event}
use Rattle.pay_passes.specs.declared.trade.Trade.{Trade}
use Rattle.pay_passes.specs.declared.trade.IndexRefusal.{IndexRefusal}
use Rattle.pay_passes.specs.declared.trade.IndexRefusal.TheVariants.{TooMany, NoMemory}
use Rattle.pay_passes.specs.Indexing.{refusal_beyond, index_refusal, IsRefusalOf}
use Rattle.pay_passes.specs.Numbering.{HaveOwnNumbers, numbered_event, are_written, events_use_own}
use Rattle.pay_passes.specs.Terms.{at_own_terms}
use Rattle.pay_passes.specs.Trades.{trees_of, spelled_trade, AreDistinct, AreCounted, IsGood}
use Rattle.pay_passes.proofs.EventForms.{events_stand, events_counted, events_plain, events_parts, events_pay, events_places, still_apart, ordered_length}
use Rattle.pay_passes.proofs.OwnNames.{own_names}
use Rattle.pay_passes.proofs.OwnNumbers.{distinct_numbers, once_distinct}

-- the names of a script have their places as their numbers
pub names_numbered : (role : Role) (script : Script) (names : List (List ℕ)) → names ≡ names_of role script → HaveOwnNumbers names
names_numbered role script names named = rw named (distinct_numbers (names_of role script) (once_distinct (names_in role (script_parts script))))

names_distinct : (role : Role) (script : Script) (names : List (List ℕ)) → names ≡ names_of role script → AreDistinct names
names_distinct role script names named = rw named (once_distinct (names_in role (script_parts script)))

-- the events of a script that is accepted have no more parts than there may be
pub events_room : (script : Script) (events : List Event) → roll_refusal script ≡ None → events ≡ events_of script → length (event_parts events) ≤ 262_144
events_room script events none rolled = rw rolled (accepted-rolled script none).nodes

-- no refusal where there are no more than so many
few_beyond : (what : What) (limit count : ℕ) → count ≤ limit → refusal_beyond what limit count ≡ None
few_beyond what limit count few = let within : nat_le count limit ≡ true = grind (arith, nat_tests) in rw within refl

-- with few variables and few legs there is no refusal
pub few_accepted : (script : Script) → length (names_of as_variable script) ≤ 1024 → length (names_of as_leg script) ≤ 256 → index_refusal script ≡ None
unfolding index_refusal
few_accepted script few few_legs = rw (few_beyond Variables 1024 _ few, few_beyond Legs 256 _ few_legs) refl

-- the refusal of too many variables is the script's
pub variables_refused : (script : Script) (refusal : IndexRefusal) → refusal_beyond Variables 1024 (length (names_of as_variable script)) ≡ Some refusal
    → IsRefusalOf script refusal
unfolding index_refusal
variables_refused script (TooMany what limit) refused = rw refused refl
variables_refused script NoMemory refused = tt

-- and so is that of too many legs where the variables are few
pub legs_refused : (script : Script) (refusal : IndexRefusal) → length (names_of as_variable script) ≤ 1024
    → refusal_beyond Legs 256 (length (names_of as_leg script)) ≡ Some refusal → IsRefusalOf script refusal
unfolding index_refusal
legs_refused script (TooMany what limit) few refused = rw (few_beyond Variables 1024 _ few, refused) refl
legs_refused script NoMemory few refused = tt

-- a trade that was made of a script and its events
pub record IsMadeOf (script : Script) (trade : Trade) : Type 0 where
  pub names : trade.names.items ≡ names_of as_variable script
  pub legs : trade.legs.items ≡ names_of as_leg script
  pub events : trees_of trade ≡ map (numbered_event trade.names.items trade.legs.items) (events_of script)
  pub written : are_written (events_of script) ≡ true

-- a trade of these names, whose events are these with their numbers
pub made_of : (script : Script) (trade : Trade) (events : List Event) → trade.names.items ≡ names_of as_variable script
    → trade.legs.items ≡ names_of as_leg script → events ≡ events_of script
    → trees_of trade ≡ map (numbered_event trade.names.items trade.legs.items) events → are_written events ≡ true → IsMadeOf script trade
made_of script trade events names legs rolled trees written = record {
  names = names;
  legs = legs;
  events = trees ∙ ap (map (numbered_event trade.names.items trade.legs.items)) rolled;
  written = sym (ap are_written rolled) ∙ written;
}

-- the events use these names alone
uses_names : (script : Script) (trade : Trade) → IsMadeOf script trade → events_use_own as_variable trade.names.items (events_of script) ≡ true
uses_names script trade made = ap (λ names. events_use_own as_variable names (events_of script)) made.names ∙ own_names as_variable script

uses_legs : (script : Script) (trade : Trade) → IsMadeOf script trade → events_use_own as_leg trade.legs.items (events_of script) ≡ true
uses_legs script trade made = ap (λ legs. events_use_own as_leg legs (events_of script)) made.legs ∙ own_names as_leg script

-- its events stand for those of the script
pub made_stands : (script : Script) (trade : Trade) → IsMadeOf script trade → spelled_trade trade ≡ map at_own_terms (events_of script)
made_stands script trade made =
    ap (map (spelled_event trade.names.items trade.legs.items)) made.events
    ∙ events_stand trade.names.items trade.legs.items (events_of script) (uses_names script trade made) (uses_legs script trade made) made.written

-- its places are counted
pub made_counted : (script : Script) (trade : Trade) → IsMadeOf script trade → AreCounted (trees_of trade)
made_counted script trade made = rw made.events (events_counted trade.names.items trade.legs.items (events_of script))

-- it is good where its names are few and the script is accepted
pub made_good : (script : Script) (trade : Trade) → IsMadeOf script trade → roll_refusal script ≡ None → length trade.names.items ≤ 1024
    → length trade.legs.items ≤ 256 → IsGood trade
made_good script trade made none few few_legs =
    let rolled = accepted-rolled script none in
    let names = trade.names.items in
    let legs = trade.legs.items in
    let events = events_of script in
    record {
      names = names_distinct as_variable script names made.names;
      few_names = few;
      legs = names_distinct as_leg script legs made.legs;
      few_legs = few_legs;
      apart = rw (made_stands script trade made) (still_apart events rolled.apart);
      few_events =
          let count = ap length made.events ∙ length-map events (numbered_event names legs) ∙ ordered_length (all_events script) in
          rw count rolled.events;
      few_parts = rw (made.events, events_parts names legs events made.written) rolled.nodes;
      few_payments = rw (made.events, events_pay names legs events made.written) rolled.payments;
      plain = rw made.events (events_plain names legs events (uses_names script trade made) (uses_legs script trade made) made.written);
      places = rw made.events (events_places names legs events rolled.nodes);
    }
