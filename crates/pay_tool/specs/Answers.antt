-- The answer to words and files.
use Rattle.std.specs.Prelude.{ℕ, List, Option, Some, None}
use Rattle.pay_edge.specs.Edge.{Files}
use Rattle.pay_meaning.specs.Meaning.{Past}
use Rattle.pay_words.specs.Requests.{Asked, PastWords, run, check_of, list_of, explain_of}
use Rattle.pay_inputs.specs.declared.refusal.Refusal.{Refusal}
use Rattle.pay_inputs.specs.Inputs.{Input, not_there, bad, good, script_of, past_of, table_of}
use Rattle.pay_scenarios.specs.RunTexts.{run_text}
use Rattle.pay_tool.specs.ScriptTexts.{check_text, events_text, explained_text}

-- The answer: the words are no request; or the first input that isn't accepted is this file, which isn't there;
-- or it is this file, which is refused; or else a report with this text.
pub data Answer : Type 0 where
  no_request : Answer
  absent : List ℕ → Answer
  refused : List ℕ → Refusal → Answer
  report : List ℕ → Answer

-- the answer by the input of this name: its file is not there; or it is refused; or it is accepted, and the answer is by its value
abbrev pub answer_by : {A : Type 0} → List ℕ → Input A → (A → Answer) → Answer
answer_by name not_there rest = absent name
answer_by name (bad refusal) rest = refused name refusal
answer_by name (good value) rest = rest value

-- the answer by the past fixings that are asked for, up to their as-of date; or without any
abbrev pub answer_by_past : Files → Option PastWords → (Option Past → Answer) → Answer
answer_by_past files None rest = rest None
answer_by_past files (Some words) rest =
    answer_by words.file (past_of files words.file) (λ cells. rest (Some (record { asof = words.asof; cells = cells })))

-- the answer to a request: by the script file first, and for `run` then by the fixings file, if there is one, and by the scenario file
abbrev pub answer_to : Asked → Files → Answer
answer_to (run words) files =
    answer_by words.script (script_of files words.script) (λ trade.
    answer_by_past files words.past (λ past.
    answer_by words.scenarios (table_of files words.scenarios) (λ table. report (run_text trade.events past table))))
answer_to (check_of script) files = answer_by script (script_of files script) (λ trade. report (check_text trade))
answer_to (list_of script) files = answer_by script (script_of files script) (λ trade. report (events_text trade))
answer_to (explain_of script) files = answer_by script (script_of files script) (λ trade. report (explained_text trade))

abbrev pub answer_of : Option Asked → Files → Answer
answer_of None files = no_request
answer_of (Some asked) files = answer_to asked files
