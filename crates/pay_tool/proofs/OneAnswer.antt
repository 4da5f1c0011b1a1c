-- Words and files have one answer.
use Rattle.std.proofs.Common.{◌≡◌, ℕ, ◌≤◌, nat_le, Bool, true, false, List, length, Option, Some, None, if◌then◌else◌, refl, sym, subst, ◌∙◌}
use Rattle.std.proofs.lemmas.Bool.{leb-true, leb-false, le-leb, lt-leb}
use Rattle.std.specs.Prelude.{◌↔◌}
use Rattle.std.specs.FinMap.{get}
use Rattle.pay_edge.specs.Edge.{Files, Long, Bytes, whole_from}
use Rattle.pay_meaning.specs.Meaning.{Cells, Past}
use Rattle.pay_scenarios.specs.RunTexts.{run_text}
use Rattle.pay_tables.specs.Tables.{Table}
use Rattle.pay_inputs.specs.declared.refusal.Refusal.{Refusal}
use Rattle.pay_inputs.specs.Trades.{Trade}
use Rattle.pay_tool.specs.ScriptTexts.{check_text, events_text, explained_text}
use Rattle.pay_words.specs.Requests.{Asked, PastWords, RunWords, run, check_of, list_of, explain_of, request_of}
use Rattle.pay_inputs.specs.Inputs.{Input, not_there, bad, good, input_of, checked_script, checked_fixings, checked_table, script_limit, fixings_limit}
use Rattle.pay_inputs.specs.Inputs.{table_limit, script_of, past_of, table_of}
use Rattle.pay_tool.specs.Answers.{Answer, report, answer_by, answer_by_past, answer_of}
use Rattle.pay_inputs.specs.CheckLaws.{IsScriptText, IsScriptFault, IsPastText, IsPastFault, IsTableText, IsTableFault}
use Rattle.pay_tool.specs.ToolLaws.{IsInput, no_file, too_long, with_fault, with_value, IsScriptInput, IsPastInput, IsTableInput, GivesPast, gives_none}
use Rattle.pay_tool.specs.ToolLaws.{gives_past, AsksAbout, about_counts, about_events, about_domains, IsAnswer, without_request, script_absent, script_refused}
use Rattle.pay_tool.specs.ToolLaws.{past_absent, past_refused, scenarios_absent, scenarios_refused, accepted, about_absent, about_refused}
use Rattle.pay_tool.specs.ToolLaws.{about_accepted, OneAnswer}
use Rattle.pay_inputs.proofs.Checks.{script_acceptance, script_refusal, script_there}
use Rattle.pay_inputs.proofs.TableChecks.{table_acceptance, table_refusal, table_there, past_acceptance, past_refusal, past_there}

-- a check that gives a value exactly where bytes have it, and a refusal exactly where they have its fault
record IsCheck {A : Type 0} (Gives : List ℕ → A → Type 0) (HasFault : List ℕ → Refusal → Type 0) (check : List ℕ → Input A) : Type 0 where
  gives : (bytes : List ℕ) (value : A) → (check bytes ≡ good value) ↔ Gives bytes value
  refuses : (bytes : List ℕ) (refusal : Refusal) → (check bytes ≡ bad refusal) ↔ HasFault bytes refusal
  there : (bytes : List ℕ) → check bytes ≡ not_there → ⊥

module _ {A : Type 0} (Gives : List ℕ → A → Type 0) (HasFault : List ℕ → Refusal → Type 0) (check : List ℕ → Input A)
    (is : IsCheck Gives HasFault check) (limit : ℕ) where
  -- the input of bytes that are not too long
  from_check : (bytes : List ℕ) (input : Input A) → length bytes ≤ limit → check bytes ≡ input → IsInput Gives HasFault limit (Some bytes) input
  from_check bytes not_there small e = absurd (is.there bytes e)
  from_check bytes (bad refusal) small e = with_fault bytes refusal refl small ((is.refuses bytes refusal).0 e)
  from_check bytes (good value) small e = with_value bytes value refl small ((is.gives bytes value).0 e)

  -- the input of bytes
  from_length : (bytes : List ℕ) (small : Bool) → nat_le (length bytes) limit ≡ small
      → IsInput Gives HasFault limit (Some bytes) (input_of limit check (if small then Bytes bytes else Long))
  from_length bytes true e = from_check bytes (check bytes) (leb-true _ _ e) refl
  from_length bytes false e = too_long bytes refl (leb-false _ _ e)

  -- a file is the input that its check gives
  from_file : (file : Option (List ℕ)) → IsInput Gives HasFault limit file (input_of limit check (whole_from file limit))
  from_file None = no_file refl
  from_file (Some bytes) = from_length bytes (nat_le (length bytes) limit) refl

  -- and no other
  only_input : (file : Option (List ℕ)) (input : Input A) → IsInput Gives HasFault limit file input → input_of limit check (whole_from file limit) ≡ input
  only_input file _ (no_file e) = rw e refl
  only_input file _ (too_long bytes e long) = rw (e, lt-leb _ _ long) refl
  only_input file _ (with_fault bytes refusal e small fault) = rw (e, le-leb _ _ small) ((is.refuses bytes refusal).1 fault)
  only_input file _ (with_value bytes value e small gives) = rw (e, le-leb _ _ small) ((is.gives bytes value).1 gives)

-- the three checks
script_check : IsCheck IsScriptText IsScriptFault checked_script
script_check = record { gives = script_acceptance; refuses = script_refusal; there = script_there }

past_check : IsCheck IsPastText IsPastFault checked_fixings
past_check = record { gives = past_acceptance; refuses = past_refusal; there = past_there }

table_check : IsCheck IsTableText IsTableFault checked_table
table_check = record { gives = table_acceptance; refuses = table_refusal; there = table_there }

-- a name has the input that its check gives
script_input : (files : Files) (name : List ℕ) → IsScriptInput files name (script_of files name)
script_input files name = from_file IsScriptText IsScriptFault checked_script script_check script_limit (get files name)

past_input : (files : Files) (name : List ℕ) → IsPastInput files name (past_of files name)
past_input files name = from_file IsPastText IsPastFault checked_fixings past_check fixings_limit (get files name)

table_input : (files : Files) (name : List ℕ) → IsTableInput files name (table_of files name)
table_input files name = from_file IsTableText IsTableFault checked_table table_check table_limit (get files name)

-- and no other
only_script : (files : Files) (name : List ℕ) (input : Input Trade) → IsScriptInput files name input → script_of files name ≡ input
only_script files name input h = only_input IsScriptText IsScriptFault checked_script script_check script_limit (get files name) input h

only_past : (files : Files) (name : List ℕ) (input : Input Cells) → IsPastInput files name input → past_of files name ≡ input
only_past files name input h = only_input IsPastText IsPastFault checked_fixings past_check fixings_limit (get files name) input h

only_table : (files : Files) (name : List ℕ) (input : Input Table) → IsTableInput files name input → table_of files name ≡ input
only_table files name input h = only_input IsTableText IsTableFault checked_table table_check table_limit (get files name) input h

-- the answer to a run of an accepted script under these past fixings, by its scenarios
abbrev run_answer : RunWords → Trade → Option Past → Input Table → Answer
run_answer asked trade past scenarios = answer_by asked.scenarios scenarios (λ table. report (run_text trade.events past table))

-- the answer to a run of an accepted script, by the past fixings that are asked for
abbrev past_answer : Files → RunWords → Trade → Option PastWords → Answer
past_answer files asked trade words = answer_by_past files words (λ past. run_answer asked trade past (table_of files asked.scenarios))

module _ (words : List (List ℕ)) (files : Files) where
  module _ (asked : RunWords) (asks : request_of words ≡ Some (run asked)) where
    module _ (trade : Trade) (script : IsScriptInput files asked.script (good trade)) where
      -- the answer by the scenarios
      from_table : (past : Option Past) (scenarios : Input Table) → GivesPast files asked.past past → IsTableInput files asked.scenarios scenarios
          → IsAnswer words files (run_answer asked trade past scenarios)
      from_table past not_there gives table = scenarios_absent asked trade past asks script gives table
      from_table past (bad refusal) gives table = scenarios_refused asked trade past refusal asks script gives table
      from_table past (good value) gives table = accepted asked trade past value asks script gives table

      -- by the fixings file
      from_fixings : (past : PastWords) (fixings : Input Cells) → asked.past ≡ Some past → IsPastInput files past.file fixings
          → IsAnswer words files
          (answer_by past.file fixings (λ cells. run_answer asked trade (Some (record { asof = past.asof; cells = cells })) (table_of files asked.scenarios)))
      from_fixings past not_there given input = past_absent asked trade past asks script given input
      from_fixings past (bad refusal) given input = past_refused asked trade past refusal asks script given input
      from_fixings past (good cells) given input =
          let gives = subst (λ known. GivesPast files known (Some (record { asof = past.asof; cells = cells }))) (sym given) (gives_past past cells input) in
          from_table _ (table_of files asked.scenarios) gives (table_input files asked.scenarios)

      -- and by the past fixings that are asked for
      from_past : (past : Option PastWords) → asked.past ≡ past → IsAnswer words files (past_answer files asked trade past)
      from_past None given =
          let gives = subst (λ known. GivesPast files known None) (sym given) gives_none in
          from_table None (table_of files asked.scenarios) gives (table_input files asked.scenarios)
      from_past (Some past) given = from_fixings past (past_of files past.file) given (past_input files past.file)

    -- by the script
    from_script : (script : Input Trade) → IsScriptInput files asked.script script
        → IsAnswer words files (answer_by asked.script script (λ trade. past_answer files asked trade asked.past))
    from_script not_there input = script_absent asked asks input
    from_script (bad refusal) input = script_refused asked refusal asks input
    from_script (good trade) input = from_past trade input asked.past refl

  -- the answer about a script
  about : (name : List ℕ) (text : Trade → List ℕ) (script : Input Trade) → AsksAbout words name text → IsScriptInput files name script
      → IsAnswer words files (answer_by name script (λ trade. report (text trade)))
  about name text not_there asks input = about_absent name text asks input
  about name text (bad refusal) asks input = about_refused name text refusal asks input
  about name text (good trade) asks input = about_accepted name text trade asks input

  -- the answer is one of those that there are
  from_request : (asked : Option Asked) → request_of words ≡ asked → IsAnswer words files (answer_of asked files)
  from_request None asks = without_request asks
  from_request (Some (run asked)) asks = from_script asked asks (script_of files asked.script) (script_input files asked.script)
  from_request (Some (check_of name)) asks = about name check_text (script_of files name) (about_counts name asks) (script_input files name)
  from_request (Some (list_of name)) asks = about name events_text (script_of files name) (about_events name asks) (script_input files name)
  from_request (Some (explain_of name)) asks =
      about name explained_text (script_of files name) (about_domains name asks) (script_input files name)

  -- the answer to a run of an accepted script is by the past fixings that are asked for
  to_past : (asked : RunWords) (trade : Trade) → request_of words ≡ Some (run asked) → IsScriptInput files asked.script (good trade)
      → answer_of (request_of words) files ≡ past_answer files asked trade asked.past
  to_past asked trade asks script = rw (asks, only_script files asked.script _ script) refl

  -- and where these are given, by the scenarios
  by_past : (asked : RunWords) (trade : Trade) (given : Option PastWords) (past : Option Past) → GivesPast files given past
      → past_answer files asked trade given ≡ run_answer asked trade past (table_of files asked.scenarios)
  by_past asked trade _ _ gives_none = refl
  by_past asked trade _ _ (gives_past past cells input) = rw (only_past files past.file _ input) refl

  -- the answer about a script is by its input
  asked_about : (name : List ℕ) (text : Trade → List ℕ) → AsksAbout words name text
      → answer_of (request_of words) files ≡ answer_by name (script_of files name) (λ trade. report (text trade))
  asked_about _ _ (about_counts name asks) = rw asks refl
  asked_about _ _ (about_events name asks) = rw asks refl
  asked_about _ _ (about_domains name asks) = rw asks refl

  -- there is no other answer
  only : (other : Answer) → IsAnswer words files other → other ≡ answer_of (request_of words) files
  only _ (without_request asks) = rw asks refl
  only _ (script_absent asked asks script) = rw (asks, only_script files asked.script _ script) refl
  only _ (script_refused asked refusal asks script) = rw (asks, only_script files asked.script _ script) refl
  only _ (past_absent asked trade past asks script given input) =
      sym (to_past asked trade asks script ∙ rw (given, only_past files past.file _ input) refl)
  only _ (past_refused asked trade past refusal asks script given input) =
      sym (to_past asked trade asks script ∙ rw (given, only_past files past.file _ input) refl)
  only _ (scenarios_absent asked trade past asks script gives table) =
      sym (to_past asked trade asks script ∙ by_past asked trade asked.past past gives ∙ rw (only_table files asked.scenarios _ table) refl)
  only _ (scenarios_refused asked trade past refusal asks script gives table) =
      sym (to_past asked trade asks script ∙ by_past asked trade asked.past past gives ∙ rw (only_table files asked.scenarios _ table) refl)
  only _ (accepted asked trade past value asks script gives table) =
      sym (to_past asked trade asks script ∙ by_past asked trade asked.past past gives ∙ rw (only_table files asked.scenarios _ table) refl)
  only _ (about_absent name text asks script) = sym (asked_about name text asks ∙ rw (only_script files name _ script) refl)
  only _ (about_refused name text refusal asks script) = sym (asked_about name text asks ∙ rw (only_script files name _ script) refl)
  only _ (about_accepted name text trade asks script) = sym (asked_about name text asks ∙ rw (only_script files name _ script) refl)

-- there is one answer
pub one_answer : OneAnswer
one_answer words files = record { given = from_request words files (request_of words) refl; only = only words files }
