-- What a script is refused for, by what the compiler answers.
use Rattle.std.proofs.Common.{◌≡◌, ℕ, ◌+◌, nat_le, inl, inr, List, [], ◌∷◌, map, length, Option, Some, None, refl, ap, ◌∙◌}
use Rattle.std.proofs.lemmas.Bool.{cases_Bool}
use Rattle.std.specs.Option.{option_map, option_and_then}
use Rattle.pay_dates.specs.declared.day.Day.{Day}
use Rattle.pay_meaning.specs.Language.{Script}
use Rattle.pay_meaning.specs.Events.{all_events, events_of, shared_date}
use Rattle.pay_meaning.specs.Parts.{as_variable, as_leg, event_parts, names_of, payment_count}
use Rattle.pay_roll.specs.Rolling.{is_bad, first_bad, first_of}
use Rattle.pay_roll.specs.Rolling as roll
use Rattle.pay_roll.specs.declared.refusal.RollRefusal.TheVariants as rolling
use Rattle.pay_passes.specs.Indexing as index
use Rattle.pay_compile.specs.Preparing.{refusal_of_roll, refusal_of_index, compile_refusals, compile_refusal, IsRefusalOf}
use Rattle.pay_compile.specs.declared.refusal.CompileRefusal.{CompileRefusal}
use Rattle.pay_compile.specs.declared.refusal.CompileRefusal.TheVariants.{BadSchedule, SameDate, TooMany, NoMemory}
use Rattle.pay_roll.specs.declared.refusal.What.{What}
use Rattle.pay_roll.specs.declared.refusal.What.TheVariants.{Events, Nodes, Pays, Variables, Legs}
use Rattle.pay_inputs.specs.declared.refusal.Refusal.{Refusal}
use Rattle.pay_inputs.specs.declared.refusal.Refusal.TheVariants as tool
use Rattle.pay_inputs.specs.Trades.{trade_of}
use Rattle.pay_inputs.specs.Limits.{refusal_of_compile, refusal_beyond, script_refusals, event_limit, HasGoodSchedules, part_refusals}
use Rattle.pay_inputs.specs.Inputs.{bad, good, unless, prepared}
use Rattle.pay_inputs.specs.Stops.{Stops, stop_of_compiling}

-- the first of refusals in the words of the tool
first_refused : (found : List (Option CompileRefusal)) (refusal : CompileRefusal) (reason : Refusal) → first_of found ≡ Some refusal
    → refusal_of_compile refusal ≡ Some reason → first_of (map (option_and_then refusal_of_compile) found) ≡ Some reason
first_refused [] refusal reason e is = cc
first_refused (None ∷ found) refusal reason e is = first_refused found refusal reason e is
first_refused (Some first ∷ found) refusal reason e is =
    let same : first ≡ refusal = cc in
    let f : refusal_of_compile first ≡ Some reason = ap refusal_of_compile same ∙ is in
    rw f refl

none_refused : (found : List (Option CompileRefusal)) → first_of found ≡ None → first_of (map (option_and_then refusal_of_compile) found) ≡ None
none_refused [] e = refl
none_refused (None ∷ found) e = none_refused found e
none_refused (Some first ∷ found) e = cc

refused_for : (script : Script) (refusal : CompileRefusal) (reason : Refusal) → compile_refusal script ≡ Some refusal
    → refusal_of_compile refusal ≡ Some reason → prepared script ≡ bad reason
unfolding compile_refusal
refused_for script refusal reason e is =
    ap (λ found. unless found (trade_of script)) (first_refused (compile_refusals script) refusal reason e is)

-- a script that is no trade stops its check
pub preparing_stops : (script : Script) (refusal : CompileRefusal) → IsRefusalOf script refusal → Stops (prepared script) (stop_of_compiling refusal)
preparing_stops script (BadSchedule item) e = refused_for script _ _ e refl
preparing_stops script (SameDate date) e = refused_for script _ _ e refl
preparing_stops script (TooMany what limit) e = refused_for script _ _ e refl
preparing_stops script NoMemory e = tt

-- a script that is not refused is accepted
pub prepared_good : (script : Script) → compile_refusal script ≡ None → prepared script ≡ good (trade_of script)
unfolding compile_refusal
prepared_good script e = ap (λ found. unless found (trade_of script)) (none_refused (compile_refusals script) e)

-- the same refusals in the words of the tool
abbrev pub own_refusals : Script → List (Option Refusal)
own_refusals script =
    option_map (λ item. tool.BadSchedule item) (first_bad 1 script) ∷ refusal_beyond Events event_limit (length (all_events script))
    ∷ option_map (λ date. tool.SameDate date) (shared_date (events_of script)) ∷ part_refusals script

own_schedule : (found : Option ℕ)
    → option_and_then refusal_of_compile (option_and_then refusal_of_roll (option_map (λ item. rolling.BadSchedule item) found))
    ≡ option_map (λ item. tool.BadSchedule item) found
own_schedule None = refl
own_schedule (Some item) = refl

own_date : (found : Option Day)
    → option_and_then refusal_of_compile (option_and_then refusal_of_roll (option_map (λ date. rolling.SameDate date) found))
    ≡ option_map (λ date. tool.SameDate date) found
own_date None = refl
own_date (Some date) = refl

own_beyond : (what : What) (limit count : ℕ)
    → option_and_then refusal_of_compile (option_and_then refusal_of_roll (roll.refusal_beyond what limit count)) ≡ refusal_beyond what limit count
own_beyond what limit count = elim (cases_Bool (nat_le count limit)) [
  | inl few ↦ rw few refl
  | inr many ↦ rw many refl
]

own_names : (what : What) (limit count : ℕ)
    → option_and_then refusal_of_compile (option_and_then refusal_of_index (index.refusal_beyond what limit count)) ≡ refusal_beyond what limit count
own_names what limit count = elim (cases_Bool (nat_le count limit)) [
  | inl few ↦ rw few refl
  | inr many ↦ rw many refl
]

pub own : (script : Script) → script_refusals script ≡ own_refusals script
own script =
    rw (
      own_schedule (first_bad 1 script),
      own_beyond Events 4096 (length (all_events script)),
      own_date (shared_date (events_of script)),
      own_beyond Nodes 262_144 (length (event_parts (events_of script))),
      own_beyond Pays 16_384 (payment_count (event_parts (events_of script))),
      own_names Variables 1024 (length (names_of as_variable script)),
      own_names Legs 256 (length (names_of as_leg script)),
    ) refl

-- no schedule is bad where none is found
pub none_bad : (number : ℕ) (script : Script) → first_bad number script ≡ None → HasGoodSchedules script
none_bad number [] e = tt
none_bad number (item ∷ rest) e = elim (cases_Bool (is_bad item)) [
  | inl bad' ↦ absurd (let found : Some number ≡ None = rw bad' at e in cc)
  | inr fine ↦ (fine, none_bad (number + 1) rest (rw fine at e))
]

pub all_good : (number : ℕ) (script : Script) → HasGoodSchedules script → first_bad number script ≡ None
all_good number [] h = refl
all_good number (item ∷ rest) h = rw h.0 (all_good (number + 1) rest h.1)
