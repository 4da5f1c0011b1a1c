-- A script is accepted, and refused, exactly for its causes.
use Rattle.std.proofs.Common.{◌≡◌, ℕ, ◌≤◌, nat_le, Bool, inl, inr, true, false, List, ◌∷◌, length, Option, Some, None, Result, Ok}
use Rattle.std.proofs.Common.{Err, if◌then◌else◌, ℤ, ◌≤ℤ◌, refl, sym, ap, subst, arith, ◌∙◌}
use Rattle.std.proofs.lemmas.Bool.{cases_Bool, leb-true, leb-false, le-leb, lt-leb}
use Rattle.std.proofs.lemmas.Int.{ints}
use Rattle.std.specs.Option.{option_map}
use Rattle.pay_dates.specs.Days.{day_number}
use Rattle.pay_dates.specs.declared.day.Day.{Day}
use Rattle.pay_dates.proofs.DayLemmas.{same_day}
use Rattle.pay_lexer.specs.declared.token.Token.{Token}
use Rattle.pay_lexer.specs.declared.token.TokenKind.{TokenKind}
use Rattle.pay_lexer.specs.Spelling.{SpellsTokens, IsCause}
use Rattle.pay_lexer.specs.declared.fault.LexFault.{LexFault}
use Rattle.pay_lexer.specs.declared.fault.LexFault.TheVariants as lexing
use Rattle.pay_lexer.specs.Lexing.{tokens_in, kinds}
use Rattle.pay_lexer.proofs.LawLemmas.{tokens_are_spelled, spelled_tokens_are_read, bad_place_is_first, first_bad_place_is_read}
use Rattle.pay_meaning.specs.Language.{Event, Script}
use Rattle.pay_meaning.specs.Events.{all_events, events_of, in_order, shared_date, IsShared, IsEarliestShared}
use Rattle.pay_meaning.proofs.EventLaws.{shared-earliest}
use Rattle.pay_grammar.specs.Grammar.{SpellsScript}
use Rattle.pay_grammar.specs.Reading.{script_in}
use Rattle.pay_grammar.specs.TokenLimits.{first_too_large, first_too_deep, IsWithin}
use Rattle.pay_parser.specs.Parsing.{start_of, judged, parsed, IsFaultOf}
use Rattle.pay_parser.specs.declared.parse_fault.ParseFault.{ParseFault}
use Rattle.pay_parser.specs.declared.parse_fault.ParseFault.TheVariants as parsing
use Rattle.pay_grammar.proofs.ScriptSound.{script_is_spelled}
use Rattle.pay_grammar.proofs.ScriptComplete.{spelled_script_is_read}
use Rattle.pay_roll.specs.declared.refusal.What.{What}
use Rattle.pay_roll.specs.declared.refusal.What.TheVariants.{Events}
use Rattle.pay_roll.specs.Rolling.{first_bad, first_of}
use Rattle.pay_inputs.specs.declared.refusal.Refusal.{Refusal}
use Rattle.pay_inputs.specs.declared.refusal.Refusal.TheVariants.{BadSchedule, SameDate, TooMany}
use Rattle.pay_inputs.specs.Limits.{event_limit, refusal_beyond, part_refusals, HasGoodSchedules, KeepsLimits}
use Rattle.pay_inputs.specs.Trades.{Trade, trade_of}
use Rattle.pay_inputs.specs.Inputs.{Input, not_there, bad, good, unless, parsed_input, lexed_input, checked_script}
use Rattle.pay_inputs.specs.CheckLaws.{Spells, SpellsFew, HasDistinctDates, IsScriptText, IsScriptFault, bad_byte, too_large, too_deep, no_script}
use Rattle.pay_inputs.specs.CheckLaws.{bad_schedule, too_many_events, same_date, too_many_parts, ScriptAcceptanceHasCause}
use Rattle.pay_inputs.specs.CheckLaws.{ScriptRefusalHasCause}
use Rattle.pay_inputs.specs.Stops.{Stops, StopsScript, stop_of_lexing, stop_of_parsing}
use Rattle.pay_inputs.proofs.Rolled.{own, own_refusals, none_bad, all_good}

-- a script's input has its cause in the bytes
abbrev ScriptCause : List ℕ → Input Trade → Type 0
ScriptCause bytes not_there = ⊥
ScriptCause bytes (bad refusal) = IsScriptFault bytes refusal
ScriptCause bytes (good trade) = IsScriptText bytes trade

-- where nothing is refused no count is beyond its limit
within_of : (what : What) (limit count : ℕ) (rest : List (Option Refusal)) → first_of (refusal_beyond what limit count ∷ rest) ≡ None
    → (count ≤ limit) × (first_of rest ≡ None)
within_of what limit count rest e = elim (cases_Bool (nat_le count limit)) [
  | inl hit ↦ (leb-true count limit hit, rw hit at e)
  | inr miss ↦ absurd (let found : Some (TooMany what limit) ≡ None = rw miss at e in cc)
]

-- a count that is not beyond its limit is no refusal
none_beyond : (what : What) (limit count : ℕ) (rest : List (Option Refusal)) → count ≤ limit
    → first_of (refusal_beyond what limit count ∷ rest) ≡ first_of rest
none_beyond what limit count rest h = rw (le-leb count limit h) refl

-- a script keeps its limits where none of its parts is refused
keeps_of : (script : Script) → first_of (part_refusals script) ≡ None → KeepsLimits script
keeps_of script e =
    let nodes = within_of _ _ _ _ e in
    let payments = within_of _ _ _ _ nodes.1 in
    let variables = within_of _ _ _ _ payments.1 in
    let legs = within_of _ _ _ _ variables.1 in
    record { nodes = nodes.0; payments = payments.0; variables = variables.0; legs = legs.0 }

-- and none is refused where it keeps them
none_refused : (script : Script) → KeepsLimits script → first_of (part_refusals script) ≡ None
none_refused script k =
    none_beyond _ _ _ _ k.nodes ∙ none_beyond _ _ _ _ k.payments ∙ none_beyond _ _ _ _ k.variables ∙ none_beyond _ _ _ _ k.legs

-- the input that a script gives, from its parts and its names
from_parts : (bytes : List ℕ) (tokens : List Token) (script : Script) → SpellsFew bytes tokens script → HasDistinctDates script
    → (found : Option Refusal) → first_of (part_refusals script) ≡ found → ScriptCause bytes (unless found (trade_of script))
from_parts bytes tokens script s dates (Some refusal) e = too_many_parts tokens script refusal s dates e
from_parts bytes tokens script s dates None e = record {
  tokens = tokens;
  script = script;
  spells = s.spells;
  schedules = s.schedules;
  few_events = s.few_events;
  dates = dates;
  keeps = keeps_of script e;
  has = refl;
}

-- from its dates
from_dates : (bytes : List ℕ) (tokens : List Token) (script : Script) → SpellsFew bytes tokens script
    → (shared : Option Day) → shared_date (events_of script) ≡ shared
    → ScriptCause bytes (unless (first_of (option_map (λ date. SameDate date) shared ∷ part_refusals script)) (trade_of script))
from_dates bytes tokens script s (Some date) e = same_date tokens script date s (shared-earliest.found (all_events script) date e)
from_dates bytes tokens script s None e =
    from_parts bytes tokens script s (shared-earliest.none (all_events script) e) (first_of (part_refusals script)) refl

-- from its number of events
from_events : (bytes : List ℕ) (tokens : List Token) (script : Script) → Spells bytes tokens script → HasGoodSchedules script
    → (few : Bool) → nat_le (length (all_events script)) event_limit ≡ few
    → ScriptCause bytes (unless (first_of ((if few then None else Some (TooMany Events event_limit))
    ∷ option_map (λ date. SameDate date) (shared_date (events_of script)) ∷ part_refusals script)) (trade_of script))
from_events bytes tokens script s good' true e =
    from_dates bytes tokens script (record { spells = s; schedules = good'; few_events = leb-true _ _ e }) (shared_date (events_of script)) refl
from_events bytes tokens script s good' false e = too_many_events tokens script s good' (leb-false _ _ e)

-- from its schedules
from_schedules : (bytes : List ℕ) (tokens : List Token) (script : Script) → Spells bytes tokens script
    → (found : Option ℕ) → first_bad 1 script ≡ found
    → ScriptCause bytes (unless (first_of (option_map (λ item. BadSchedule item) found ∷ refusal_beyond Events event_limit (length (all_events script))
    ∷ option_map (λ date. SameDate date) (shared_date (events_of script)) ∷ part_refusals script)) (trade_of script))
from_schedules bytes tokens script s (Some item) e = bad_schedule tokens script item s e
from_schedules bytes tokens script s None e =
    from_events bytes tokens script s (none_bad 1 script e) (nat_le (length (all_events script)) event_limit) refl

-- from the grammar
from_grammar : (bytes : List ℕ) (tokens : List Token) → SpellsTokens bytes tokens → IsWithin tokens → (read : Option Script) → script_in (kinds tokens) ≡ read
    → ScriptCause bytes (parsed_input (judged None None read))
from_grammar bytes tokens t within (Some script) e =
    let s : Spells bytes tokens script = record { spells_tokens = t; within = within; spells_script = script_is_spelled (kinds tokens) script e } in
    subst (λ (refusals : List (Option Refusal)). ScriptCause bytes (unless (first_of refusals) (trade_of script))) (sym (own script))
    (from_schedules bytes tokens script s (first_bad 1 script) refl)
from_grammar bytes tokens t within None e =
    no_script tokens t within (λ script spelled.
    let read = spelled_script_is_read (kinds tokens) script spelled in absurd (let found : None ≡ Some script = sym e ∙ read in cc))

-- from the depths of tokens
from_depths : (bytes : List ℕ) (tokens : List Token) → SpellsTokens bytes tokens → first_too_large tokens ≡ None
    → (found : Option Token) → first_too_deep tokens ≡ found
    → ScriptCause bytes (parsed_input (judged None (start_of found) (script_in (kinds tokens))))
from_depths bytes tokens t large (Some deep) e = too_deep tokens deep t large e
from_depths bytes tokens t large None e = from_grammar bytes tokens t (record { sizes = large; depths = e }) (script_in (kinds tokens)) refl

-- from the sizes of tokens
from_sizes : (bytes : List ℕ) (tokens : List Token) → SpellsTokens bytes tokens → (found : Option Token) → first_too_large tokens ≡ found
    → ScriptCause bytes (parsed_input (judged (start_of found) (start_of (first_too_deep tokens)) (script_in (kinds tokens))))
from_sizes bytes tokens t (Some large) e = too_large tokens large t e
from_sizes bytes tokens t None e = from_depths bytes tokens t e (first_too_deep tokens) refl

-- from the tokens
from_tokens : (bytes : List ℕ) (read : Result (List Token) ℕ) → tokens_in bytes ≡ read → ScriptCause bytes (lexed_input read)
unfolding parsed
from_tokens bytes (Err place) e = bad_byte place (bad_place_is_first bytes place e)
from_tokens bytes (Ok tokens) e = from_sizes bytes tokens (tokens_are_spelled bytes tokens e) (first_too_large tokens) refl

-- a text has the cause of what it gives
script_cause : (bytes : List ℕ) → ScriptCause bytes (checked_script bytes)
unfolding checked_script
script_cause bytes = from_tokens bytes (tokens_in bytes) refl

-- so its file is there
pub script_there : (bytes : List ℕ) → checked_script bytes ≡ not_there → ⊥
script_there bytes e = subst (ScriptCause bytes) e (script_cause bytes)

-- no date is found where none is shared
none_found : (events : List Event) (found : Option Day) → shared_date (in_order events) ≡ found → ((number : ℤ) → ¬ IsShared number events) → found ≡ None
none_found events None e none = refl
none_found events (Some date) e none = absurd (none _ (shared-earliest.found events date e).shared)

-- and the earliest that is shared is the one that is found
found_date : (events : List Event) (date : Day) (found : Option Day) → shared_date (in_order events) ≡ found → IsEarliestShared events date → found ≡ Some date
found_date events date None e earliest = absurd (shared-earliest.none events e (day_number date) earliest.shared)
found_date events date (Some found) e earliest =
    let other = shared-earliest.found events found e in
    let low : day_number found ≤ℤ day_number date = other.earliest (day_number date) earliest.shared in
    let high : day_number date ≤ℤ day_number found = earliest.earliest (day_number found) other.shared in
    let equal : day_number found ≡ day_number date = omega (arith, ints) in
    ap (λ day. Some day) (same_day found date equal)

-- no script is read where none is spelled
none_read : (kinds : List TokenKind) (read : Option Script) → script_in kinds ≡ read → ((script : Script) → ¬ SpellsScript kinds script) → read ≡ None
none_read kinds None e none = refl
none_read kinds (Some script) e none = absurd (none script (script_is_spelled kinds script e))

-- what a script that is spelled gives
spelled_gives : (bytes : List ℕ) (tokens : List Token) (script : Script) → Spells bytes tokens script → checked_script bytes ≡ parsed_input (Ok script)
unfolding checked_script parsed
spelled_gives bytes tokens script s =
    let t = spelled_tokens_are_read bytes tokens s.spells_tokens in
    let r = spelled_script_is_read (kinds tokens) script s.spells_script in
    rw (t, s.within.sizes, s.within.depths, r) refl

-- the same, by the refusals in their order
spelled_judged : (bytes : List ℕ) (tokens : List Token) (script : Script) → Spells bytes tokens script
    → checked_script bytes ≡ unless (first_of (own_refusals script)) (trade_of script)
spelled_judged bytes tokens script s =
    spelled_gives bytes tokens script s ∙ ap (λ (refusals : List (Option Refusal)). unless (first_of refusals) (trade_of script)) (own script)

-- a script that keeps its limits is accepted
script_accepted : (bytes : List ℕ) (trade : Trade) → IsScriptText bytes trade → checked_script bytes ≡ good trade
script_accepted bytes trade k =
    let schedules = all_good 1 k.script k.schedules in
    let few = le-leb _ _ k.few_events in
    let dates = none_found (all_events k.script) (shared_date (events_of k.script)) refl k.dates in
    let parts = none_refused k.script k.keeps in
    spelled_judged bytes k.tokens k.script k.spells ∙ rw (schedules, few, dates, parts) (ap good k.has)

-- and one with a fault is refused for it
script_refused : (bytes : List ℕ) (refusal : Refusal) → IsScriptFault bytes refusal → checked_script bytes ≡ bad refusal
unfolding checked_script parsed
script_refused bytes _ (bad_byte place h) = rw (first_bad_place_is_read bytes place h) refl
script_refused bytes _ (too_large tokens t s e) = rw (spelled_tokens_are_read bytes tokens s, e) refl
script_refused bytes _ (too_deep tokens t s large e) = rw (spelled_tokens_are_read bytes tokens s, large, e) refl
script_refused bytes _ (no_script tokens s within none) =
    let r = none_read (kinds tokens) (script_in (kinds tokens)) refl none in
    rw (spelled_tokens_are_read bytes tokens s, within.sizes, within.depths, r) refl
script_refused bytes _ (bad_schedule tokens script item s found) = spelled_judged bytes tokens script s ∙ rw found refl
script_refused bytes _ (too_many_events tokens script s schedules many) =
    spelled_judged bytes tokens script s ∙ rw (all_good 1 script schedules, lt-leb _ _ many) refl
script_refused bytes _ (same_date tokens script date s earliest) =
    let found = found_date (all_events script) date (shared_date (events_of script)) refl earliest in
    spelled_judged bytes tokens script s.spells ∙ rw (all_good 1 script s.schedules, le-leb _ _ s.few_events, found) refl
script_refused bytes _ (too_many_parts tokens script refusal s dates e) =
    let none = none_found (all_events script) (shared_date (events_of script)) refl dates in
    spelled_judged bytes tokens script s.spells ∙ rw (all_good 1 script s.schedules, le-leb _ _ s.few_events, none, e) refl

-- a script is accepted exactly where it keeps its limits
pub script_acceptance : ScriptAcceptanceHasCause
script_acceptance bytes trade = ((λ e. subst (ScriptCause bytes) e (script_cause bytes)), script_accepted bytes trade)

-- and refused exactly for its fault
pub script_refusal : ScriptRefusalHasCause
script_refusal bytes refusal = ((λ e. subst (ScriptCause bytes) e (script_cause bytes)), script_refused bytes refusal)

-- a text that was not cut into tokens stops its check
pub lexing_stops : (text : List ℕ) (fault : LexFault) → IsCause text fault → StopsScript text (stop_of_lexing fault)
unfolding checked_script
lexing_stops text (lexing.BadByte at) cause = rw (first_bad_place_is_read text at cause) refl
lexing_stops text lexing.NoMemory cause = tt

-- and so do tokens that were not read as a script
pub parsing_stops : (tokens : List Token) (fault : ParseFault) → IsFaultOf tokens fault → Stops (parsed_input (parsed tokens)) (stop_of_parsing fault)
parsing_stops tokens (parsing.TooLarge at) fault = ap parsed_input fault
parsing_stops tokens (parsing.TooDeep at) fault = ap parsed_input fault
parsing_stops tokens parsing.NotScript fault = ap parsed_input fault
parsing_stops tokens parsing.NoMemory fault = tt
