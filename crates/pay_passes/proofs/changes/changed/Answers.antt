use Rattle.std.proofs.Common.{◌≡◌, [], ap, ◌∙◌}
use Rattle.std.proofs.lemmas.Result.{IfOk-weaker}
use Rattle.pay_tree.specs.OwnedViews.{steps_tree}
use Rattle.pay_visit.specs.Showing.{parts_of_steps}
use Rattle.pay_passes.specs.Changes.{changed_by, rising}
use Rattle.pay_passes.specs.Gathering.{has}
use Rattle.pay_passes.proofs.GatheringLemmas.{shown_both}
use Rattle.pay_passes.proofs.changes.changed.Goals as goal

pub returns : goal.returns
returns c =
    let yes_part = steps_tree c.args.yes.now in
    let no_part = steps_tree c.args.no.now in
    let keys = c.observe_steps-2.new.with.slots.keys in
    let first = c.in_ok-observe_steps.ensures.ok [] (λ slot. ap (λ first. has first slot) c.none_assigned-seen.ensures) in
    let same = c.in_ok-observe_steps-2.ensures.ok (parts_of_steps yes_part) first in
    IfOk-weaker c.in_order.result (λ slots. slots.items ≡ rising keys) (λ slots. slots.items ≡ changed_by yes_part no_part)
    (λ slots is. is ∙ shown_both keys yes_part no_part same) c.in_order.ensures
