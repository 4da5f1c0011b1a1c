-- The inputs of a run: what is accepted of them, and the answer by the next one.
use mathlib.Core.Path.{fun_ext}
use Rattle.std.proofs.Common.{◌≡◌, ℕ, List, [], ◌∷◌, ◌++◌, Option, Some, None, IfSome, refl, sym, ap, subst, ◌∙◌}
use Rattle.pay_dates.specs.declared.day.Day.{Day}
use Rattle.pay_edge.specs.Edge.{Files}
use Rattle.pay_meaning.specs.Language.{Event}
use Rattle.pay_meaning.specs.Meaning.{Past}
use Rattle.pay_scenarios.specs.RunTexts.{run_text}
use Rattle.pay_tables.specs.Tables.{Table}
use Rattle.pay_tool.specs.declared.exit.Exit.{Exit}
use Rattle.pay_inputs.specs.declared.input.InputStop.{InputStop}
use Rattle.pay_inputs.specs.Trades.{Trade}
use Rattle.pay_words.specs.Requests.{PastWords, RunWords, run}
use Rattle.pay_inputs.specs.Inputs.{Input, good, script_of, past_of, table_of}
use Rattle.pay_tool.specs.Answers.{report, answer_by, answer_by_past, answer_to}
use Rattle.pay_tool.specs.Causes.{script_input, past_input, past_inputs, table_input}
use Rattle.pay_tool.specs.Exits.{exit_at}
use Rattle.pay_inputs.specs.InputStops.{StopsAt}
use Rattle.pay_tool.specs.Reading.{Seen, HaveRead, HasRead, ArePastAsked, StopsAtPast, IsCausedEarly}
use Rattle.pay_tool.proofs.Inputs.{AreAccepted, read_more, request_read, stopped_at, stopped_first}
use Rattle.pay_inputs.specs.OwnTerms.{input_at_terms}
use Rattle.pay_tool.proofs.OwnTermLemmas.{by_terms, taken, run_at_terms}
use Rattle.pay_tool.proofs.PastOrder.{run_same}

-- what follows from two facts of files that are told
if_both : (told : Option Files) {P Q R : Files → Type 0} → ((files : Files) → P files → Q files → R files) → IfSome told P → IfSome told Q → IfSome told R
if_both None follows p q = tt
if_both (Some files) follows p q = follows files p q

-- the past fixings that are asked for are accepted
past_accepted : (files : Files) (asked : Option PastWords) (past : Option Past) → ArePastAsked files asked past → AreAccepted (past_inputs asked) files
past_accepted files None None are = tt
past_accepted files None (Some past) are = absurd are
past_accepted files (Some words) None are = absurd are
past_accepted files (Some words) (Some past) are = (rw are.1.1 refl, tt)

-- the answer by the table, where past fixings were accepted
answer_by_table : (files : Files) (asked : Option PastWords) (past : Option Past) (events : List Event) (name : List ℕ) (table : Input Table)
    → ArePastAsked files asked past
    → answer_by_past files asked (λ known. answer_by name table (λ value. report (run_text events known value)))
    ≡ answer_by name table (λ value. report (run_text events past value))
answer_by_table files None None events name table are = refl
answer_by_table files None (Some past) events name table are = absurd are
answer_by_table files (Some words) None events name table are = absurd are
answer_by_table files (Some words) (Some past) events name table are =
    rw are.1.1 (ap (λ (text : Table → List ℕ). answer_by name table (λ value. report (text value)))
    (fun_ext (λ value. sym (run_same events words.asof are.1.0 past.cells value are.1.2)
    ∙ ap (λ (asof : Day). run_text events (Some (record { asof = asof; cells = past.cells })) value) (sym are.0))))

-- the answer to a run by its past fixings and its table, where its script was accepted
run_by_script : (words : RunWords) (trade : Trade) (files : Files) → input_at_terms (script_of files words.script) ≡ good trade
    → answer_to (run words) files
    ≡ answer_by_past files words.past
    (λ past. answer_by words.scenarios (table_of files words.scenarios) (λ table. report (run_text trade.events past table)))
run_by_script words trade files script =
    by_terms words.script (script_of files words.script) trade
    (λ t. answer_by_past files words.past
    (λ past. answer_by words.scenarios (table_of files words.scenarios) (λ table. report (run_text t.events past table)))) script
    (λ t. ap (λ (text : Option Past → Table → List ℕ). answer_by_past files words.past
    (λ past. answer_by words.scenarios (table_of files words.scenarios) (λ table. report (text past table))))
    (fun_ext (λ past. fun_ext (λ table. run_at_terms t.events past table))))

-- the answer to a run by its table, where its script and past fixings were accepted
run_by_table : (words : RunWords) (trade : Trade) (past : Option Past) (files : Files) → input_at_terms (script_of files words.script) ≡ good trade
    → ArePastAsked files words.past past
    → answer_to (run words) files ≡ answer_by words.scenarios (table_of files words.scenarios) (λ table. report (run_text trade.events past table))
run_by_table words trade past files script are =
    run_by_script words trade files script ∙ answer_by_table files words.past past trade.events words.scenarios (table_of files words.scenarios) are

-- a run that its script stopped
pub script_stops : (words : RunWords) (old new : Seen) (stop : InputStop)
    → StopsAt old.files (λ files. script_of files words.script) (old.reads words.script) (new.reads words.script) stop
    → IsCausedEarly (run words) old new (exit_at words.script stop)
script_stops words old new stop stops =
    stopped_first (run words) (script_input words.script) (past_inputs words.past ++ table_input words.scenarios ∷ []) old new
    (λ files. script_of files words.script)
    (λ files trade. answer_by_past files words.past
    (λ past. answer_by words.scenarios (table_of files words.scenarios) (λ table. report (run_text trade.events past table))))
    stop refl (λ files. refl) stops

-- a run whose script was accepted read no more than its script and its past fixings
pub past_read : (script scenarios : List ℕ) (asked : Option PastWords) (trade : Trade) (old middle new : Seen) (exit : Exit)
    → IfSome old.files (λ files. input_at_terms (script_of files script) ≡ good trade) → HaveRead (script_input script ∷ []) old middle
    → HaveRead (past_inputs asked) middle new → StopsAtPast asked middle new exit
    → HasRead (run (record { script = script; scenarios = scenarios; past = asked })) old new
past_read script scenarios None trade old middle new exit is read more stops = absurd stops
past_read script scenarios (Some words) trade old middle new exit is read more stops =
    request_read (run (record { script = script; scenarios = scenarios; past = Some words })) (script_input script ∷ []) (past_input words)
    (table_input scenarios ∷ []) old new refl (if_both old.files (λ files e same. (taken (script_of files script) trade e, tt)) is is)
    (read_more (script_input script ∷ []) (past_input words ∷ []) old middle new read more)

-- a run that its past fixings stopped, after its script was accepted
pub past_stops : (script scenarios : List ℕ) (asked : Option PastWords) (trade : Trade) (old middle new : Seen) (exit : Exit)
    → IfSome old.files (λ files. input_at_terms (script_of files script) ≡ good trade) → HaveRead (script_input script ∷ []) old middle
    → StopsAtPast asked middle new exit → IsCausedEarly (run (record { script = script; scenarios = scenarios; past = asked })) old new exit
past_stops script scenarios None trade old middle new exit is read stops = absurd stops
past_stops script scenarios (Some words) trade old middle new exit is read stops =
    subst (IsCausedEarly (run (record { script = script; scenarios = scenarios; past = Some words })) old new) (sym stops.1)
    (stopped_at (run (record { script = script; scenarios = scenarios; past = Some words })) (script_input script ∷ []) (past_input words)
    (table_input scenarios ∷ []) old middle new (λ files. past_of files words.file)
    (λ files cells. answer_by scenarios (table_of files scenarios)
    (λ table. report (run_text trade.events (Some (record { asof = words.asof; cells = cells })) table)))
    stops.0 refl (if_both old.files (λ files e same. (taken (script_of files script) trade e, tt)) is is)
    (if_both old.files (λ files e same. run_by_script (record { script = script; scenarios = scenarios; past = Some words }) trade files e) is is)
    read stops.2)

-- What is known of the inputs before the table: the script and the past fixings were accepted, one after the other.
pub record Before (words : RunWords) (trade : Trade) (past : Option Past) (old middle : Seen) : Type 0 where
  pub has : IfSome old.files (λ files. input_at_terms (script_of files words.script) ≡ good trade)
  pub knows : IfSome old.files (λ files. ArePastAsked files words.past past)
  pub read : HaveRead (script_input words.script ∷ past_inputs words.past) old middle

pub before_table : (words : RunWords) (trade : Trade) (past : Option Past) (old first middle : Seen)
    → IfSome old.files (λ files. input_at_terms (script_of files words.script) ≡ good trade) → HaveRead (script_input words.script ∷ []) old first
    → IfSome first.files (λ files. ArePastAsked files words.past past) → HaveRead (past_inputs words.past) first middle
    → Before words trade past old middle
before_table words trade past old first middle is script_read are past_read = record {
  has = is;
  knows = subst (λ (told : Option Files). IfSome told (λ files. ArePastAsked files words.past past)) script_read.files are;
  read = read_more (script_input words.script ∷ []) (past_inputs words.past) old first middle script_read past_read;
}

-- these inputs are accepted
accepted_before : (words : RunWords) (trade : Trade) (past : Option Past) (old middle : Seen) → Before words trade past old middle
    → IfSome old.files (AreAccepted (script_input words.script ∷ past_inputs words.past))
accepted_before words trade past old middle before =
    if_both old.files (λ files script known. (taken (script_of files words.script) trade script, past_accepted files words.past past known)) before.has before.knows

-- a run read no more than its inputs
pub inputs_read : (words : RunWords) (trade : Trade) (past : Option Past) (old middle new : Seen) → Before words trade past old middle
    → HaveRead (table_input words.scenarios ∷ []) middle new → HasRead (run words) old new
inputs_read words trade past old middle new before read =
    request_read (run words) (script_input words.script ∷ past_inputs words.past) (table_input words.scenarios) [] old new refl
    (accepted_before words trade past old middle before)
    (read_more (script_input words.script ∷ past_inputs words.past) (table_input words.scenarios ∷ []) old middle new before.read read)

-- a run that its table stopped
pub table_stops : (words : RunWords) (trade : Trade) (past : Option Past) (old middle new : Seen) (stop : InputStop) → Before words trade past old middle
    → StopsAt middle.files (λ files. table_of files words.scenarios) (middle.reads words.scenarios) (new.reads words.scenarios) stop
    → IsCausedEarly (run words) old new (exit_at words.scenarios stop)
table_stops words trade past old middle new stop before stops =
    stopped_at (run words) (script_input words.script ∷ past_inputs words.past) (table_input words.scenarios) [] old middle new
    (λ files. table_of files words.scenarios) (λ files table. report (run_text trade.events past table)) stop refl
    (accepted_before words trade past old middle before) (if_both old.files (run_by_table words trade past) before.has before.knows) before.read stops

-- the answer by the scenarios is that of the table that they are
by_its_table : (words : RunWords) (text : Table → List ℕ) (table : Table) (files : Files)
    → answer_to (run words) files ≡ answer_by words.scenarios (table_of files words.scenarios) (λ t. report (text t))
    → table_of files words.scenarios ≡ good table → answer_to (run words) files ≡ report (text table)
by_its_table words text table files answer value =
    subst (λ (input : Input Table). answer_to (run words) files ≡ answer_by words.scenarios input (λ t. report (text t))) value answer

-- the answer to a run whose inputs are accepted
pub run_answer : (words : RunWords) (trade : Trade) (past : Option Past) (table : Table) (old middle : Seen) → Before words trade past old middle
    → IfSome middle.files (λ files. table_of files words.scenarios ≡ good table)
    → IfSome old.files (λ files. answer_to (run words) files ≡ report (run_text trade.events past table))
run_answer words trade past table old middle before found =
    if_both old.files (by_its_table words (run_text trade.events past) table)
    (if_both old.files (run_by_table words trade past) before.has before.knows)
    (subst (λ (told : Option Files). IfSome told (λ files. table_of files words.scenarios ≡ good table)) before.read.files found)
