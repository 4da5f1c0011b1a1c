-- What was given is what the script means, and it is given for each script of the grammar; and the line is one that the status tells.
use Rattle.std.proofs.Common.{rules, map, sym, ◌∙◌, string_bytes}
use Rattle.pay_tool.proofs.Ended.{done_given, exit_tells}
use Rattle.pay_tool.proofs.Paid.{paid}
use Rattle.pay_tool.proofs.Payable.{payable_reports}
use Rattle.pay_tool.proofs.tool.run_tool.Goals as goal

pub returns-clause-line : goal.returns-clause-line
returns-clause-line g c = λ calm. record {
  line = _;
  tells = rw c.status_of.ensures (exit_tells _ _ _ c.serve_and_tell-exit.ensures.caused);
  put = c.serve_and_tell-exit.ensures.line calm;
}

pub returns-clause-complete : goal.returns-clause-complete
returns-clause-complete g c = search rules

pub returns-clause-pays_as_meant : goal.returns-clause-pays_as_meant
returns-clause-pays_as_meant g c =
    λ zero runs. paid (map string_bytes c.args.words.now.items) _ _ _ runs
    (done_given _ _ _ (sym c.status_of.ensures ∙ zero) c.serve_and_tell-exit.ensures.caused)

pub returns-clause-pays_each_script : goal.returns-clause-pays_each_script
returns-clause-pays_each_script g c = λ payable. returns-clause-complete g c (payable_reports (map string_bytes c.args.words.now.items) _ payable)
