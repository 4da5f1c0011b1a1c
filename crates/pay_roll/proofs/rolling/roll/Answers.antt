use Rattle.std.proofs.Common.{◌≡◌, None, map, sym, ◌∙◌}
use Rattle.pay_meaning.specs.Events.{all_events, in_order}
use Rattle.pay_roll.specs.Plans.{planned}
use Rattle.pay_roll.specs.Rolling.{first_bad, IsRefusalOf}
use Rattle.pay_tree.specs.Views as view
use Rattle.pay_roll.proofs.RefusalLemmas.{is_of_fault, refusal_is, refusal_of_bad, refusal_of_planned, refusal_of_plan}
use Rattle.pay_roll.proofs.rolling.roll.Goals as goal

pub returns-in-Some-clause-refused : goal.returns-in-Some-clause-refused
returns-in-Some-clause-refused c = refusal_of_bad (view.script c.args.script.now) c.in-Some.item (sym (rw c.deref.ensures.value at c.in-Some.ensures))

pub returns-in_err-events-clause-refused : goal.returns-in_err-events-clause-refused
returns-in_err-events-clause-refused c =
    let script = view.script c.args.script.now in
    let good : first_bad 1 script ≡ None = sym (rw c.deref.ensures.value at c.in_default.ensures) in
    let refused = rw c.deref-2.ensures.value at c.in_err-events.ensures.refused in
    is_of_fault (IsRefusalOf script) c.in_err-events.field-0.0 c.from_residual.result c.from_residual.ensures.1 (refusal_of_plan script c.in_err-events.field-0.0 good refused)

pub returns-in-Some-refusal_of-clause-refused : goal.returns-in-Some-refusal_of-clause-refused
returns-in-Some-refusal_of-clause-refused c =
    let script = view.script c.args.script.now in
    let good : first_bad 1 script ≡ None = sym (rw c.deref.ensures.value at c.in_default.ensures) in
    let all : map planned c.in_ok-events.events.items ≡ all_events script = rw c.deref-2.ensures.value at c.in_ok-events.ensures.events in
    let sorted : map planned c.deref-3.result.now ≡ in_order (map planned c.in_ok-events.events.items) = rw (sym c.deref-3.ensures.value) at c.in_ok-sort_by_date.ensures in
    refusal_is script c.in-Some-refusal_of.refusal (refusal_of_planned script _ _ good c.in_ok-events.ensures.few all sorted ∙ sym c.in-Some-refusal_of.ensures)

pub returns-clause-accepted : goal.returns-clause-accepted
returns-clause-accepted c =
    let script = view.script c.args.script.now in
    let good : first_bad 1 script ≡ None = sym (rw c.deref.ensures.value at c.in_default.ensures) in
    let all : map planned c.in_ok-events.events.items ≡ all_events script = rw c.deref-2.ensures.value at c.in_ok-events.ensures.events in
    let sorted : map planned c.deref-3.result.now ≡ in_order (map planned c.in_ok-events.events.items) = rw (sym c.deref-3.ensures.value) at c.in_ok-sort_by_date.ensures in
    refusal_of_planned script _ _ good c.in_ok-events.ensures.few all sorted ∙ sym c.in_default-refusal_of.ensures
