-- The answer to a script of the grammar, a table and past fixings is a report.
use Rattle.std.proofs.Common.{ℕ, List, Option, Some, None, IsSomeAnd, refl, subst}
use Rattle.pay_edge.specs.Edge.{Files}
use Rattle.pay_meaning.specs.Meaning.{Past}
use Rattle.pay_inputs.specs.Trades.{trade_of}
use Rattle.pay_words.specs.Requests.{PastWords, request_of}
use Rattle.pay_tool.specs.Answers.{answer_of}
use Rattle.pay_tool.specs.Causes.{IsReport}
use Rattle.pay_inputs.specs.CheckLaws.{IsScriptText}
use Rattle.pay_tool.specs.Headline.{KnowsPast, knows_none, knows, IsPayable}
use Rattle.pay_tool.specs.ToolLaws.{with_value, GivesPast, gives_none, gives_past, accepted}
use Rattle.pay_tool.proofs.OneAnswer.{one_answer}

-- the script of words and files that ask for a report
payable_script : (words : List (List ℕ)) (files : Files) (p : IsPayable words files) → IsScriptText p.script_bytes (trade_of p.script)
payable_script words files p = record {
  tokens = p.tokens;
  script = p.script;
  spells = record { spells_tokens = p.spells_tokens; within = p.within; spells_script = p.spells_script };
  schedules = p.schedules;
  few_events = p.few_events;
  dates = p.dates;
  keeps = p.keeps;
  has = refl;
}

-- the past fixings that a run knows are given by the files
past_given : (files : Files) (asked : Option PastWords) (past : Option Past) → KnowsPast files asked past → GivesPast files asked past
past_given files _ _ knows_none = gives_none
past_given files _ _ (knows words bytes cells file short spells) = gives_past words cells (with_value bytes cells file short spells)

-- so the answer is a report
payable_report : (words : List (List ℕ)) (files : Files) → IsPayable words files → IsReport (answer_of (request_of words) files)
payable_report words files p =
    let script = with_value p.script_bytes (trade_of p.script) p.script_file p.script_short (payable_script words files p) in
    let table = with_value p.table_bytes p.table p.table_file p.table_short p.spells_table in
    let answer = accepted p.asked (trade_of p.script) p.past p.table p.asks script (past_given files p.asked.past p.past p.knows_past) table in
    subst IsReport ((one_answer words files).only _ answer) tt

-- the same where the files are told
pub payable_reports : (words : List (List ℕ)) (told : Option Files) → IsSomeAnd told (λ files. IsPayable words files)
    → IsSomeAnd told (λ files. IsReport (answer_of (request_of words) files))
payable_reports words None p = p
payable_reports words (Some files) p = payable_report words files p
