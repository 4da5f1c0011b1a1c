use Rattle.std.proofs.Common.{◌≡◌, ◌+◌, ◌<◌, ◌∷◌, length, drop, refl, sym, ap, ◌∙◌, arith}
use Rattle.std.proofs.lemmas.List.{drop_all, drop_more}
use Rattle.pay_machine.proofs.EventLemmas.{both_made, faulted_given, past_given}
use Rattle.pay_machine.proofs.work.Work.ending.Goals as goal

pub returns-in_default-clause-gives : goal.returns-in_default-clause-gives
returns-in_default-clause-gives c = λ row. rw c.in_default.is (record {
  payments = both_made c.args.payments.now.kept c.args.payments.now.fresh;
  end = refl;
  values = refl;
  nodes = refl;
})

pub returns-then-self-events-clause-gives : goal.returns-then-self-events-clause-gives
returns-then-self-events-clause-gives c = λ row. rw (c.in-Err.is, c.forget.ensures)
    (past_given c.args.self.now c.args.payments.now c.args.program.now.dates row c.in-Err.kind
    (drop_all c.args.self.now.event c.args.program.now.dates (omega arith)))

pub returns-clause-gives : goal.returns-clause-gives
returns-clause-gives c = λ row.
    let under : c.args.self.now.event < length c.args.program.now.dates = omega arith in
    let left : drop c.args.self.now.event c.args.program.now.dates
    ≡ c.date_of.result ∷ drop (c.args.self.now.event + 1) c.args.program.now.dates =
    drop_more c.args.program.now.dates c.args.self.now.event c.date_of.result under
    ∙ ap (λ date. date ∷ drop (c.args.self.now.event + 1) c.args.program.now.dates) (sym c.date_of.ensures) in
    rw (c.in-Err.is, c.forget.ensures)
    (faulted_given c.args.self.now c.args.payments.now c.args.program.now.dates row c.in-Err.kind c.date_of.result
    (drop (c.args.self.now.event + 1) c.args.program.now.dates) left)
