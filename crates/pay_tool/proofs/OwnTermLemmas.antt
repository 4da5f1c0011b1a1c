-- What is said of a script whose `period()` and `days()` are numbers is said of the script itself.
use mathlib.Core.Path.{fun_ext}
use Rattle.std.proofs.Common.{◌≡◌, ℕ, List, [], ◌++◌, map, Option, Some, None, IfSome, IsTrue, refl, sym, ap, ◌∙◌}
use Rattle.std.specs.List.{flat_map}
use Rattle.std.proofs.lemmas.List.{length-map}
use Rattle.std.proofs.lemmas.List.Folds.{flat_map-map}
use Rattle.pay_meaning.specs.Language.{Event}
use Rattle.pay_meaning.specs.Meaning.{Past, fixings_of, no_variables}
use Rattle.pay_passes.specs.Terms.{at_own_terms}
use Rattle.pay_passes.proofs.TermLaws.{terms-keep}
use Rattle.pay_edge.specs.Edge.{Files}
use Rattle.pay_tree.specs.Owned.{spelled_event}
use Rattle.pay_tree.specs.OwnedViews.{event_tree}
use Rattle.pay_tree.specs.declared.owned.Event.{Event as Event'}
use Rattle.pay_report.specs.Detail.{header_line, nodes_line, report_text, row_lines, scenario_lines}
use Rattle.pay_tables.specs.Tables.{Row, Table, cells_of}
use Rattle.pay_inputs.specs.Trades.{Trade}
use Rattle.pay_explain.proofs.TermLaws.{explained_at_terms}
use Rattle.pay_facts.specs.Facts.{no_facts}
use Rattle.pay_simplified.proofs.TermLemmas.{terms_keep_simplified}
use Rattle.pay_scenarios.specs.RunTexts.{nodes_in, row_nodes, sum_over, run_text}
use Rattle.pay_tool.specs.ScriptTexts.{check_text, event_line, events_text, explained_text}
use Rattle.pay_inputs.specs.Inputs.{Input, not_there, bad, good, script_of}
use Rattle.pay_tool.specs.Answers.{Answer, report, answer_by, answer_to}
use Rattle.pay_words.specs.Requests.{check_of, list_of, explain_of}
use Rattle.pay_tool.specs.Causes.{is_accepted}
use Rattle.pay_inputs.specs.OwnTerms.{at_terms, input_at_terms}

-- an input that is accepted is that of a script, and the value is what it has, with the numbers
pub record IsOf (input : Input Trade) (value : Trade) : Type 0 where
  pub trade : Trade
  pub is : input ≡ good trade
  pub terms : value ≡ at_terms trade

pub terms_of : (input : Input Trade) (value : Trade) → input_at_terms input ≡ good value → IsOf input value
terms_of not_there value e = cc
terms_of (bad refusal) value e = cc
terms_of (good trade) value e = record { trade = trade; is = refl; terms = let same : at_terms trade ≡ value = cc in sym same }

-- such an input is accepted
pub taken : (input : Input Trade) (value : Trade) → input_at_terms input ≡ good value → IsTrue (is_accepted input)
taken not_there value e = absurd (let found : not_there ≡ good value = e in cc)
taken (bad refusal) value e = absurd (let found : bad refusal ≡ good value = e in cc)
taken (good trade) value e = refl

row_same : (events : List Event) (past : Option Past) (table : Table) (row : Row)
    → row_lines (map at_own_terms events) past table row ≡ row_lines events past table row
row_same events past table row = ap (scenario_lines row.label) (terms-keep events no_variables (fixings_of past (cells_of table row)))

-- as many nodes are evaluated
nodes_same : (events : List Event) (past : Option Past) (table : Table) → nodes_in (map at_own_terms events) past table ≡ nodes_in events past table
nodes_same events past table =
    ap (λ (simple : List Event). sum_over (row_nodes simple past table) table.rows) (terms_keep_simplified events no_facts)

-- the text of a run is that of the events themselves
pub run_at_terms : (events : List Event) (past : Option Past) (table : Table) → run_text (map at_own_terms events) past table ≡ run_text events past table
run_at_terms events past table =
    ap (λ (lines : Row → List ℕ). header_line ++ (flat_map lines table.rows ++ nodes_line (nodes_in (map at_own_terms events) past table)))
    (fun_ext (row_same events past table))
    ∙ ap (report_text events past table) (nodes_same events past table)

-- and so are the texts of `check`, of `events` and of `explain`
pub check_at_terms : (trade : Trade) → check_text (at_terms trade) ≡ check_text trade
check_at_terms trade = rw (length-map trade.events at_own_terms) refl

pub events_at_terms : (trade : Trade) → events_text (at_terms trade) ≡ events_text trade
events_at_terms trade = rw (flat_map-map event_line at_own_terms trade.events) refl

pub explained_terms : (trade : Trade) → explained_text (at_terms trade) ≡ explained_text trade
explained_terms trade = explained_at_terms trade.variables trade.events

-- an answer that is the same of a script with the numbers is by the value
pub by_terms : (name : List ℕ) (input : Input Trade) (value : Trade) (rest : Trade → Answer) → input_at_terms input ≡ good value
    → ((trade : Trade) → rest (at_terms trade) ≡ rest trade) → answer_by name input rest ≡ rest value
by_terms name input value rest e same =
    let of = terms_of input value e in
    ap (λ (i : Input Trade). answer_by name i rest) of.is ∙ sym (same of.trade) ∙ ap rest (sym of.terms)

-- the answer about a script
pub check_answer : (name : List ℕ) (input : Input Trade) (value : Trade) → input_at_terms input ≡ good value
    → answer_by name input (λ trade. report (check_text trade)) ≡ report (check_text value)
check_answer name input value e =
    by_terms name input value (λ trade. report (check_text trade)) e (λ trade. ap report (check_at_terms trade))

pub events_answer : (name : List ℕ) (input : Input Trade) (value : Trade) → input_at_terms input ≡ good value
    → answer_by name input (λ trade. report (events_text trade)) ≡ report (events_text value)
events_answer name input value e =
    by_terms name input value (λ trade. report (events_text trade)) e (λ trade. ap report (events_at_terms trade))

-- the same where the files are told
pub events_answered : (told : Option Files) (name : List ℕ) (value : Trade) → IfSome told (λ files. input_at_terms (script_of files name) ≡ good value)
    → IfSome told (λ files. answer_to (list_of name) files ≡ report (events_text value))
events_answered None name value e = tt
events_answered (Some files) name value e = events_answer name (script_of files name) value e

pub check_answered : (told : Option Files) (name : List ℕ) (value : Trade) → IfSome told (λ files. input_at_terms (script_of files name) ≡ good value)
    → IfSome told (λ files. answer_to (check_of name) files ≡ report (check_text value))
check_answered None name value e = tt
check_answered (Some files) name value e = check_answer name (script_of files name) value e

pub explained_answer : (name : List ℕ) (input : Input Trade) (value : Trade) → input_at_terms input ≡ good value
    → answer_by name input (λ trade. report (explained_text trade)) ≡ report (explained_text value)
explained_answer name input value e =
    by_terms name input value (λ trade. report (explained_text trade)) e (λ trade. ap report (explained_terms trade))

pub explained_answered : (told : Option Files) (name : List ℕ) (value : Trade)
    → IfSome told (λ files. input_at_terms (script_of files name) ≡ good value)
    → IfSome told (λ files. answer_to (explain_of name) files ≡ report (explained_text value))
explained_answered None name value e = tt
explained_answered (Some files) name value e = explained_answer name (script_of files name) value e

-- the lines of events say nothing of names
pub lines_unnamed : (names legs : List (List ℕ)) (events : List Event')
    → flat_map (λ event. event_line (spelled_event [] [] (event_tree event))) events
    ≡ flat_map event_line (map (spelled_event names legs) (map event_tree events))
lines_unnamed names legs events =
    sym (flat_map-map event_line (spelled_event names legs) (map event_tree events)
    ∙ flat_map-map (λ tree. event_line (spelled_event names legs tree)) event_tree events)
