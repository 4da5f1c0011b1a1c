-- The inputs of a run, one after the other.
use Rattle.std.proofs.Common.{[], refl}
use Rattle.std.proofs.lemmas.Result.{err_from_is_err_and}
use Rattle.pay_tables.specs.Views.{table}
use Rattle.pay_tool.specs.Causes.{script_input, table_input}
use Rattle.pay_inputs.specs.PastViews.{known_past}
use Rattle.pay_tool.specs.Reading.{seen_of}
use Rattle.pay_words.specs.Requests.{run}
use Rattle.pay_words.specs.RequestViews.{run_words}
use Rattle.pay_inputs.specs.TradeViews.{trade}
use Rattle.pay_tool.proofs.Inputs.{none_accepted, one_read, request_read}
use Rattle.pay_tool.proofs.RunInputs.{before_table, script_stops, past_read, past_stops, inputs_read, table_stops, run_answer}
use Rattle.pay_tool.proofs.run.read_inputs.Goals as goal

pub returns-in-Err-clause-inputs : goal.returns-in-Err-clause-inputs
returns-in-Err-clause-inputs g c =
    let script = one_read _ _ _ g.D.Depot.fetches (script_input c.args.words.script) _ c.args.depot.now c.read_script.new.depot c.as_str.ensures.value
    c.read_script.ensures.reads c.read_script.ensures.other_names c.read_script.ensures.fetches in
    request_read (run (run_words c.args.words)) [] (script_input c.args.words.script) _ _ _ refl (none_accepted _) script

pub returns-in-Err-clause-stopped : goal.returns-in-Err-clause-stopped
returns-in-Err-clause-stopped g c =
    let seen = seen_of g.D.Depot.files g.D.Depot.read_faults g.D.Depot.fetches in
    rw c.exit_at.ensures (script_stops (run_words c.args.words) (seen c.args.depot.now) (seen c.read_script.new.depot) c.in-Err.stop
    (rw c.as_str.ensures.value at c.in-Err.ensures.stopped))

pub returns-in_err-past-clause-stopped : goal.returns-in_err-past-clause-stopped
returns-in_err-past-clause-stopped g c =
    let seen = seen_of g.D.Depot.files g.D.Depot.read_faults g.D.Depot.fetches in
    let script = one_read _ _ _ g.D.Depot.fetches (script_input c.args.words.script) _ c.args.depot.now c.read_script.new.depot c.as_str.ensures.value
    c.read_script.ensures.reads c.read_script.ensures.other_names c.read_script.ensures.fetches in
    let exit = err_from_is_err_and c.from_residual.result c.from_residual.ensures.1 in
    rw (exit.1, exit.2) (past_stops c.args.words.script c.args.words.scenarios (run_words c.args.words).past (trade c.in-Ok.found)
    (seen c.args.depot.now) (seen c.read_script.new.depot) (seen c.read_given_past.new.depot) _
    (rw c.as_str.ensures.value at c.in-Ok.ensures.accepted) script c.in_err-past.ensures.stopped)

pub returns-in_err-past-clause-inputs : goal.returns-in_err-past-clause-inputs
returns-in_err-past-clause-inputs g c =
    let seen = seen_of g.D.Depot.files g.D.Depot.read_faults g.D.Depot.fetches in
    let script = one_read _ _ _ g.D.Depot.fetches (script_input c.args.words.script) _ c.args.depot.now c.read_script.new.depot c.as_str.ensures.value
    c.read_script.ensures.reads c.read_script.ensures.other_names c.read_script.ensures.fetches in
    past_read c.args.words.script c.args.words.scenarios (run_words c.args.words).past (trade c.in-Ok.found)
    (seen c.args.depot.now) (seen c.read_script.new.depot) (seen c.read_given_past.new.depot) _
    (rw c.as_str.ensures.value at c.in-Ok.ensures.accepted) script c.read_given_past.ensures.inputs c.in_err-past.ensures.stopped

pub returns-in-Err-read_table-clause-inputs : goal.returns-in-Err-read_table-clause-inputs
returns-in-Err-read_table-clause-inputs g c =
    let seen = seen_of g.D.Depot.files g.D.Depot.read_faults g.D.Depot.fetches in
    let script = one_read _ _ _ g.D.Depot.fetches (script_input c.args.words.script) _ c.args.depot.now c.read_script.new.depot c.as_str.ensures.value
    c.read_script.ensures.reads c.read_script.ensures.other_names c.read_script.ensures.fetches in
    let before = before_table (run_words c.args.words) (trade c.in-Ok.found) (known_past c.in_ok-past.past) (seen c.args.depot.now)
    (seen c.read_script.new.depot) (seen c.read_given_past.new.depot) (rw c.as_str.ensures.value at c.in-Ok.ensures.accepted) script
    c.in_ok-past.ensures.accepted c.read_given_past.ensures.inputs in
    let table_read = one_read _ _ _ g.D.Depot.fetches (table_input c.args.words.scenarios) _ c.read_given_past.new.depot c.read_table.new.depot
    c.as_str-2.ensures.value c.read_table.ensures.reads c.read_table.ensures.other_names c.read_table.ensures.fetches in
    inputs_read (run_words c.args.words) _ _ _ _ _ before table_read

pub returns-in-Err-read_table-clause-stopped : goal.returns-in-Err-read_table-clause-stopped
returns-in-Err-read_table-clause-stopped g c =
    let seen = seen_of g.D.Depot.files g.D.Depot.read_faults g.D.Depot.fetches in
    let script = one_read _ _ _ g.D.Depot.fetches (script_input c.args.words.script) _ c.args.depot.now c.read_script.new.depot c.as_str.ensures.value
    c.read_script.ensures.reads c.read_script.ensures.other_names c.read_script.ensures.fetches in
    let before = before_table (run_words c.args.words) (trade c.in-Ok.found) (known_past c.in_ok-past.past) (seen c.args.depot.now)
    (seen c.read_script.new.depot) (seen c.read_given_past.new.depot) (rw c.as_str.ensures.value at c.in-Ok.ensures.accepted) script
    c.in_ok-past.ensures.accepted c.read_given_past.ensures.inputs in
    rw c.exit_at-in-Err-read_table.ensures (table_stops (run_words c.args.words) _ _ _ _ (seen c.read_table.new.depot) c.in-Err-read_table.stop before
    (rw c.as_str-2.ensures.value at c.in-Err-read_table.ensures.stopped))

pub returns-clause-inputs : goal.returns-clause-inputs
returns-clause-inputs g c =
    let seen = seen_of g.D.Depot.files g.D.Depot.read_faults g.D.Depot.fetches in
    let script = one_read _ _ _ g.D.Depot.fetches (script_input c.args.words.script) _ c.args.depot.now c.read_script.new.depot c.as_str.ensures.value
    c.read_script.ensures.reads c.read_script.ensures.other_names c.read_script.ensures.fetches in
    let before = before_table (run_words c.args.words) (trade c.in-Ok.found) (known_past c.in_ok-past.past) (seen c.args.depot.now)
    (seen c.read_script.new.depot) (seen c.read_given_past.new.depot) (rw c.as_str.ensures.value at c.in-Ok.ensures.accepted) script
    c.in_ok-past.ensures.accepted c.read_given_past.ensures.inputs in
    let table_read = one_read _ _ _ g.D.Depot.fetches (table_input c.args.words.scenarios) _ c.read_given_past.new.depot c.read_table.new.depot
    c.as_str-2.ensures.value c.read_table.ensures.reads c.read_table.ensures.other_names c.read_table.ensures.fetches in
    inputs_read (run_words c.args.words) _ _ _ _ _ before table_read

pub returns-clause-accepted : goal.returns-clause-accepted
returns-clause-accepted g c =
    let seen = seen_of g.D.Depot.files g.D.Depot.read_faults g.D.Depot.fetches in
    let script = one_read _ _ _ g.D.Depot.fetches (script_input c.args.words.script) _ c.args.depot.now c.read_script.new.depot c.as_str.ensures.value
    c.read_script.ensures.reads c.read_script.ensures.other_names c.read_script.ensures.fetches in
    let before = before_table (run_words c.args.words) (trade c.in-Ok.found) (known_past c.in_ok-past.past) (seen c.args.depot.now)
    (seen c.read_script.new.depot) (seen c.read_given_past.new.depot) (rw c.as_str.ensures.value at c.in-Ok.ensures.accepted) script
    c.in_ok-past.ensures.accepted c.read_given_past.ensures.inputs in
    run_answer (run_words c.args.words) _ _ (table c.in-Ok-read_table.table) _ _ before (rw c.as_str-2.ensures.value at c.in-Ok-read_table.ensures.accepted)
