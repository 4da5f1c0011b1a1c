-- A record of four fields that need no quotes is a line of the report.
use Rattle.std.proofs.Common.{◌≡◌, ◌≢◌, Result, Ok, Err, OnOk}
use Rattle.std.specs.Result.{is_ok}
use Rattle.csv.specs.Writing.{writer_setup}
use Rattle.csv.specs.declared.writer.QuoteStyle.TheVariants as style
use Rattle.pay_report.proofs.Plain.{plain_line}
use Rattle.pay_report.proofs.lines.write_line.Goals as goal

-- what follows from what holds where a call went well, for a result that is good exactly where the call's is
on_ok_both : {T E U F P Q : Type 0} (first : Result T E) (second : Result U F)
    → is_ok second ≡ is_ok first → (P → Q) → OnOk first P → OnOk second Q
on_ok_both (Ok value) (Ok other) same step h = step h
on_ok_both (Err fault) (Ok other) same step h = cc same
on_ok_both first (Err fault) same step h = tt

pub returns-clause-lines : goal.returns-clause-lines
returns-clause-lines c =
    let plain = plain_line c.args.scenario.now c.args.date.now c.args.leg.now c.args.amount.now
    c.requires.scenario c.requires.date c.requires.leg c.requires.amount in
    let necessary : (writer_setup c.args.writer.now).style ≢ style.NonNumeric = rw c.requires.ready.setup (λ e. cc e) in
    on_ok_both c.write_fields.result c.map_err.result c.map_err.ensures.variant
    (λ bytes. rw (c.requires.ready.setup, plain) at (bytes c.requires.ready.no_fields c.requires.ready.at_start necessary)) c.write_fields.ensures.bytes
