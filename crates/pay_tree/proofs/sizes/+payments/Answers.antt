use Rattle.std.proofs.Common.{◌≡◌, ap, sym, ◌∙◌}
use Rattle.pay_meaning.specs.Parts.{payment_count, statement_parts, body_parts}
use Rattle.pay_tree.specs.Sizes.{up_to}
use Rattle.pay_tree.specs.Views as view
use Rattle.pay_tree.proofs.SizeLemmas.{assign_pays_nothing, pay_pays_once, choose_pays, both_capped}
use Rattle.pay_tree.proofs.TreeLemmas.{statement-assign, statement-pay, statement-choose}
use Rattle.pay_tree.proofs.sizes.+payments.Goals as goal

pub statement_payments-returns-in-Assign : goal.statement_payments-returns-in-Assign
statement_payments-returns-in-Assign t c =
    let seen = ap view.statement c.in-Assign.is ∙ statement-assign c.in-Assign.name c.in-Assign.value in
    sym (ap (λ s. up_to 16_384 (payment_count (statement_parts s))) seen
    ∙ ap (up_to 16_384) (assign_pays_nothing c.in-Assign.name (view.number c.in-Assign.value)))

pub statement_payments-returns-in-Pay : goal.statement_payments-returns-in-Pay
statement_payments-returns-in-Pay t c =
    let seen = ap view.statement c.in-Pay.is ∙ statement-pay c.in-Pay.leg c.in-Pay.amount in
    sym (ap (λ s. up_to 16_384 (payment_count (statement_parts s))) seen
    ∙ ap (up_to 16_384) (pay_pays_once c.in-Pay.leg (view.number c.in-Pay.amount)))

pub statement_payments-returns-in-If : goal.statement_payments-returns-in-If
statement_payments-returns-in-If t c =
    let seen = ap view.statement c.in-If.is ∙ statement-choose c.in-If.cond c.in-If.yes c.in-If.no in
    let branches = choose_pays (view.condition c.in-If.cond) (view.body c.in-If.yes.items) (view.body c.in-If.no.items) in
    c.sum.ensures
    ∙ both_capped 16_384 _ _ (payment_count (body_parts (view.body c.in-If.yes.items))) (payment_count (body_parts (view.body c.in-If.no.items)))
    (rw c.deref.ensures.value at c.body_payments.ensures) (rw c.deref-in-If.ensures.value at c.body_payments-in-If.ensures)
    ∙ sym (ap (λ s. up_to 16_384 (payment_count (statement_parts s))) seen ∙ ap (up_to 16_384) branches)
