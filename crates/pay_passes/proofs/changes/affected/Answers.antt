use Rattle.std.proofs.Common.{◌≡◌, [], ap, ◌∙◌}
use Rattle.std.proofs.lemmas.Result.{IfOk-weaker}
use Rattle.pay_tree.specs.OwnedViews.{steps_tree}
use Rattle.pay_passes.specs.Changes.{affected_of, rising}
use Rattle.pay_passes.specs.Gathering.{has}
use Rattle.pay_passes.proofs.GatheringLemmas.{shown_all}
use Rattle.pay_passes.proofs.changes.affected.Goals as goal

pub returns : goal.returns
returns c =
    let steps = steps_tree c.args.steps.now in
    let keys = c.observe_steps.new.with.slots.keys in
    let same = c.in_ok-observe_steps.ensures.ok [] (λ slot. ap (λ first. has first slot) c.none_assigned-seen.ensures) in
    IfOk-weaker c.in_order.result (λ slots. slots.items ≡ rising keys) (λ slots. slots.items ≡ affected_of steps)
    (λ slots is. is ∙ shown_all keys steps same) c.in_order.ensures
