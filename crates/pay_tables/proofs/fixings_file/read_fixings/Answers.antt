use Rattle.std.proofs.Common.{refl, sym, ◌∙◌}
use Rattle.std.proofs.lemmas.Result.{err_from_is_err_and}
use Rattle.pay_tables.proofs.PastLemmas.{file_refused, rows_refused, rows_read}
use Rattle.pay_tables.proofs.fixings_file.read_fixings.Goals as goal

pub returns-in_err-read_header-clause-refused : goal.returns-in_err-read_header-clause-refused
returns-in_err-read_header-clause-refused c =
    let p = err_from_is_err_and c.from_residual.result c.from_residual.ensures.1 in
    rw (p.1, p.2) (file_refused c.args.bytes.now _ _ c.new-records.ensures c.in_err-read_header.ensures.refused)

pub returns-in_err-fixings-clause-refused : goal.returns-in_err-fixings-clause-refused
returns-in_err-fixings-clause-refused c =
    let p = err_from_is_err_and c.from_residual-in_err-fixings.result c.from_residual-in_err-fixings.ensures.1 in
    let records = sym c.in_ok-read_header.ensures.first ∙ c.new-records.ensures in
    rw (p.1, p.2) (rows_refused c.args.bytes.now _ _ _ records c.in_ok-read_header.ensures.header c.in_err-fixings.ensures.refused)

pub returns-clause-read : goal.returns-clause-read
returns-clause-read c =
    let records = sym c.in_ok-read_header.ensures.first ∙ c.new-records.ensures in
    let read = rows_read c.args.bytes.now _ _ records c.in_ok-read_header.ensures.header c.in_ok-fixings.ensures.accepted in
    rw (read, c.in_ok-in_order.ensures) (c.in_ok-fixings.ensures.read, refl)
