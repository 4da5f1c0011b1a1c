use Rattle.std.proofs.Common.{map, string_bytes, sym, ◌∙◌}
use Rattle.pay_words.specs.OptionViews.{values}
use Rattle.pay_words.proofs.OptionLemmas.{read-joined, joined-none, joined-next, joined-end}
use Rattle.pay_words.proofs.options.RunOptions.read.Goals as goal

pub loop-front-init : goal.loop-front-init
loop-front-init c = read-joined (map string_bytes c.args.words.now)

pub returns-in_err-options : goal.returns-in_err-options
returns-in_err-options c =
    let none = rw (c.as_str.ensures.value, c.as_str-in-Some.ensures.value) at c.in_err-options.ensures in
    let next = joined-next string_bytes c.loop-front.rest.now c.in-Some.front.now c.in-Some.field-0-1.now _ _ _ _ c.in-Some.ensures.cases none in
    rw c.from_residual.ensures (sym (c.loop-front.invariant ∙ next ∙ joined-none (map string_bytes c.in-Some.front.now)))

pub loop-front-preserved : goal.loop-front-preserved
loop-front-preserved c =
    let some = rw (c.as_str.ensures.value, c.as_str-in-Some.ensures.value) at c.in_ok-options.ensures in
    c.loop-front.invariant ∙ joined-next string_bytes c.loop-front.rest.now c.in-Some.front.now c.in-Some.field-0-1.now _ _ _ _ c.in-Some.ensures.cases some

pub returns : goal.returns
returns c =
    rw (c.then_some.ensures, c.is_empty.ensures)
    (joined-end string_bytes values c.loop-front.rest.now c.loop-front.options c.in_default.ensures.cases ∙ sym c.loop-front.invariant)
