-- A report that was given is what the script means in each scenario.
use Rattle.std.proofs.Common.{◌≡◌, ℕ, ◌≤◌, List, ◌++◌, length, Option, Some, None, IfSome, sym, ap, subst, ◌∙◌}
use Rattle.pay_edge.specs.Edge.{Files}
use Rattle.pay_meaning.specs.Meaning.{Past}
use Rattle.pay_report.specs.Detail.{report_text}
use Rattle.pay_scenarios.specs.RunTexts.{nodes_in, run_text}
use Rattle.pay_tables.specs.Tables.{Table}
use Rattle.pay_inputs.specs.declared.refusal.Refusal.{Refusal}
use Rattle.pay_inputs.specs.Trades.{Trade}
use Rattle.pay_words.specs.Requests.{PastWords, RunWords, run, request_of}
use Rattle.pay_inputs.specs.Inputs.{good}
use Rattle.pay_tool.specs.Answers.{Answer, answer_of}
use Rattle.pay_tool.specs.Causes.{IsGiven}
use Rattle.pay_tool.specs.Headline.{AsksRun, KnowsPast, knows_none, knows, PaysAsMeant}
use Rattle.pay_tool.specs.ToolLaws.{IsInput, with_value, IsScriptInput, IsTableInput, GivesPast, gives_none, gives_past, AsksAbout, about_counts}
use Rattle.pay_tool.specs.ToolLaws.{about_events, about_domains, IsAnswer, without_request, script_absent, script_refused, past_absent, past_refused, scenarios_absent}
use Rattle.pay_tool.specs.ToolLaws.{scenarios_refused, accepted, about_absent, about_refused, about_accepted}
use Rattle.pay_tool.proofs.OneAnswer.{one_answer}

-- a good input is a file whose bytes give the value
file_of : {A : Type 0} (Gives : List ℕ → A → Type 0) (HasFault : List ℕ → Refusal → Type 0) (limit : ℕ) (file : Option (List ℕ)) (value : A)
    → IsInput Gives HasFault limit file (good value) → (bytes : List ℕ) × (file ≡ Some bytes) × (length bytes ≤ limit) × Gives bytes value
file_of Gives HasFault limit file _ (with_value bytes value is small gives) = (bytes, is, small, gives)

-- the past fixings that files give are those that a run knows
past_known : (files : Files) (asked : Option PastWords) (past : Option Past) → GivesPast files asked past → KnowsPast files asked past
past_known files _ _ gives_none = knows_none
past_known files _ _ (gives_past words cells input) =
    let file = file_of _ _ _ _ cells input in
    knows words file.0 cells file.1 file.2 file.3

-- the parts of the headline
paid_of : (words : List (List ℕ)) (files : Files) (before after : List ℕ) (asked : RunWords) (trade : Trade) (past : Option Past) (table : Table)
    → request_of words ≡ Some (run asked) → IsScriptInput files asked.script (good trade) → GivesPast files asked.past past
    → IsTableInput files asked.scenarios (good table) → after ≡ before ++ run_text trade.events past table → PaysAsMeant words files before after
paid_of words files before after asked trade past table asks script_input gives table_input text =
    let script_file = file_of _ _ _ _ trade script_input in
    let table_file = file_of _ _ _ _ table table_input in
    let read = script_file.3 in
    record {
      asked = asked;
      asks = asks;
      script_bytes = script_file.0;
      script_file = script_file.1;
      table_bytes = table_file.0;
      table_file = table_file.1;
      tokens = read.tokens;
      spells_tokens = read.spells.spells_tokens;
      script = read.script;
      spells_script = read.spells.spells_script;
      schedules = read.schedules;
      dates = read.dates;
      past = past;
      knows_past = past_known files asked.past past gives;
      table = table;
      spells_table = table_file.3;
      nodes = nodes_in trade.events past table;
      text = text ∙ ap (λ (x : Trade). before ++ report_text x.events past table (nodes_in trade.events past table)) (sym read.has);
    }

-- words that ask about a script ask for no run
no_run : (words : List (List ℕ)) (name : List ℕ) (text : Trade → List ℕ) → AsksAbout words name text → AsksRun (request_of words) → ⊥
no_run words _ _ (about_counts name asks) runs = subst AsksRun asks runs
no_run words _ _ (about_events name asks) runs = subst AsksRun asks runs
no_run words _ _ (about_domains name asks) runs = subst AsksRun asks runs

-- an answer to a run that was given is the report of accepted inputs
paid_by : (words : List (List ℕ)) (files : Files) (before after : List ℕ) (answer : Answer) → IsAnswer words files answer → AsksRun (request_of words)
    → IsGiven answer (Some before) (Some after) → PaysAsMeant words files before after
paid_by words files before after _ (without_request asks) runs given = absurd given
paid_by words files before after _ (script_absent asked asks script) runs given = absurd given
paid_by words files before after _ (script_refused asked refusal asks script) runs given = absurd given
paid_by words files before after _ (past_absent asked trade past asks script is input) runs given = absurd given
paid_by words files before after _ (past_refused asked trade past refusal asks script is input) runs given = absurd given
paid_by words files before after _ (scenarios_absent asked trade past asks script gives table) runs given = absurd given
paid_by words files before after _ (scenarios_refused asked trade past refusal asks script gives table) runs given = absurd given
paid_by words files before after _ (accepted asked trade past table asks script gives input) runs given =
    paid_of words files before after asked trade past table asks script gives input cc
paid_by words files before after _ (about_absent name text asks script) runs given = absurd given
paid_by words files before after _ (about_refused name text refusal asks script) runs given = absurd given
paid_by words files before after _ (about_accepted name text trade asks script) runs given = absurd (no_run words name text asks runs)

-- what was given, where the files and the text are told
pub paid : (words : List (List ℕ)) (files : Option Files) (text text' : Option (List ℕ)) → AsksRun (request_of words)
    → IfSome files (λ told. IsGiven (answer_of (request_of words) told) text text')
    → IfSome files (λ told. IfSome text (λ before. IfSome text' (λ after. PaysAsMeant words told before after)))
paid words None text text' runs given = tt
paid words (Some told) None text' runs given = tt
paid words (Some told) (Some before) None runs given = tt
paid words (Some told) (Some before) (Some after) runs given =
    paid_by words told before after (answer_of (request_of words) told) (one_answer words told).given runs given
