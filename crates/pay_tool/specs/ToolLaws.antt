-- Which answers there are to words and files, in the words of the grammar, and that there is one.
use Rattle.std.specs.Prelude.{◌≡◌, ℕ, ◌≤◌, ◌<◌, List, length, Option, Some, None}
use Rattle.std.specs.FinMap.{get}
use Rattle.pay_edge.specs.Edge.{Files}
use Rattle.pay_inputs.specs.declared.refusal.Refusal.{Refusal}
use Rattle.pay_inputs.specs.declared.refusal.Refusal.TheVariants.{TooLong}
use Rattle.pay_meaning.specs.Meaning.{Cells, Past}
use Rattle.pay_tables.specs.Tables.{Table}
use Rattle.pay_inputs.specs.Trades.{Trade}
use Rattle.pay_scenarios.specs.RunTexts.{run_text}
use Rattle.pay_tool.specs.ScriptTexts.{check_text, events_text, explained_text}
use Rattle.pay_words.specs.Requests.{PastWords, RunWords, run, check_of, list_of, explain_of, request_of}
use Rattle.pay_inputs.specs.Inputs.{Input, not_there, bad, good, script_limit, fixings_limit, table_limit}
use Rattle.pay_tool.specs.Answers.{Answer, no_request, absent, refused, report, answer_of}
use Rattle.pay_inputs.specs.CheckLaws.{IsScriptText, IsScriptFault, IsTableText, IsTableFault, IsPastText, IsPastFault}

-- What a file is as an input, where these bytes give a value and those have a fault: it is not there; or it is longer than its limit; or its
-- bytes have a fault; or they give a value.
pub data IsInput {A : Type 0} (Gives : List ℕ → A → Type 0) (HasFault : List ℕ → Refusal → Type 0)
    (limit : ℕ) (file : Option (List ℕ)) : Input A → Type 0 where
  no_file : file ≡ None → IsInput Gives HasFault limit file not_there
  too_long : (bytes : List ℕ) → file ≡ Some bytes → limit < length bytes → IsInput Gives HasFault limit file (bad (TooLong limit))
  with_fault : (bytes : List ℕ) (refusal : Refusal) → file ≡ Some bytes → length bytes ≤ limit → HasFault bytes refusal
      → IsInput Gives HasFault limit file (bad refusal)
  with_value : (bytes : List ℕ) (value : A) → file ≡ Some bytes → length bytes ≤ limit → Gives bytes value → IsInput Gives HasFault limit file (good value)

-- the file of this name as a script, as past fixings, and as a table
abbrev pub IsScriptInput : Files → List ℕ → Input Trade → Type 0
IsScriptInput files name input = IsInput IsScriptText IsScriptFault script_limit (get files name) input

abbrev pub IsPastInput : Files → List ℕ → Input Cells → Type 0
IsPastInput files name input = IsInput IsPastText IsPastFault fixings_limit (get files name) input

abbrev pub IsTableInput : Files → List ℕ → Input Table → Type 0
IsTableInput files name input = IsInput IsTableText IsTableFault table_limit (get files name) input

-- no past fixings are asked for; or their file gives these, which count up to their as-of date
pub data GivesPast (files : Files) : Option PastWords → Option Past → Type 0 where
  gives_none : GivesPast files None None
  gives_past : (words : PastWords) (cells : Cells) → IsPastInput files words.file (good cells)
      → GivesPast files (Some words) (Some (record { asof = words.asof; cells = cells }))

-- the words ask about the script of this name, with this text of what it has
pub data AsksAbout (words : List (List ℕ)) : List ℕ → (Trade → List ℕ) → Type 0 where
  about_counts : (script : List ℕ) → request_of words ≡ Some (check_of script) → AsksAbout words script check_text
  about_events : (script : List ℕ) → request_of words ≡ Some (list_of script) → AsksAbout words script events_text
  about_domains : (script : List ℕ) → request_of words ≡ Some (explain_of script) → AsksAbout words script explained_text

-- The words are no request; or they ask for a run, and its script is not there, or is refused; or it is accepted, and the past fixings that are
-- asked for are not there, or are refused; or these are accepted too, and the scenarios are not there, or are refused; or all are accepted, and
-- the answer is their report. Or they ask about a script, which is not there, or is refused, or is accepted, and the answer is the text of what it has.
pub data IsAnswer (words : List (List ℕ)) (files : Files) : Answer → Type 0 where
  without_request : request_of words ≡ None → IsAnswer words files no_request
  script_absent : (asked : RunWords) → request_of words ≡ Some (run asked) → IsScriptInput files asked.script not_there
      → IsAnswer words files (absent asked.script)
  script_refused : (asked : RunWords) (refusal : Refusal) → request_of words ≡ Some (run asked)
      → IsScriptInput files asked.script (bad refusal) → IsAnswer words files (refused asked.script refusal)
  past_absent : (asked : RunWords) (trade : Trade) (past : PastWords) → request_of words ≡ Some (run asked)
      → IsScriptInput files asked.script (good trade) → asked.past ≡ Some past → IsPastInput files past.file not_there
      → IsAnswer words files (absent past.file)
  past_refused : (asked : RunWords) (trade : Trade) (past : PastWords) (refusal : Refusal) → request_of words ≡ Some (run asked)
      → IsScriptInput files asked.script (good trade) → asked.past ≡ Some past → IsPastInput files past.file (bad refusal)
      → IsAnswer words files (refused past.file refusal)
  scenarios_absent : (asked : RunWords) (trade : Trade) (past : Option Past) → request_of words ≡ Some (run asked)
      → IsScriptInput files asked.script (good trade) → GivesPast files asked.past past → IsTableInput files asked.scenarios not_there
      → IsAnswer words files (absent asked.scenarios)
  scenarios_refused : (asked : RunWords) (trade : Trade) (past : Option Past) (refusal : Refusal) → request_of words ≡ Some (run asked)
      → IsScriptInput files asked.script (good trade) → GivesPast files asked.past past → IsTableInput files asked.scenarios (bad refusal)
      → IsAnswer words files (refused asked.scenarios refusal)
  accepted : (asked : RunWords) (trade : Trade) (past : Option Past) (table : Table) → request_of words ≡ Some (run asked)
      → IsScriptInput files asked.script (good trade) → GivesPast files asked.past past → IsTableInput files asked.scenarios (good table)
      → IsAnswer words files (report (run_text trade.events past table))
  about_absent : (script : List ℕ) (text : Trade → List ℕ) → AsksAbout words script text → IsScriptInput files script not_there
      → IsAnswer words files (absent script)
  about_refused : (script : List ℕ) (text : Trade → List ℕ) (refusal : Refusal) → AsksAbout words script text
      → IsScriptInput files script (bad refusal) → IsAnswer words files (refused script refusal)
  about_accepted : (script : List ℕ) (text : Trade → List ℕ) (trade : Trade) → AsksAbout words script text
      → IsScriptInput files script (good trade) → IsAnswer words files (report (text trade))

-- this is an answer, and there is no other
pub record IsOnlyAnswer (words : List (List ℕ)) (files : Files) (answer : Answer) : Type 0 where
  pub given : IsAnswer words files answer
  pub only : (other : Answer) → IsAnswer words files other → other ≡ answer

-- words and files have one answer, the one that `answer_of` gives
abbrev pub OneAnswer : Type 0
OneAnswer = (words : List (List ℕ)) (files : Files) → IsOnlyAnswer words files (answer_of (request_of words) files)
