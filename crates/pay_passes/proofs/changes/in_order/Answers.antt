use Rattle.std.proofs.Common.{◌≡◌, ◌∙◌}
use Rattle.std.proofs.lemmas.Result.{IfOk-weaker}
use Rattle.pay_passes.specs.Changes.{rising}
use Rattle.pay_passes.proofs.GatheringLemmas.{keys_rising}
use Rattle.pay_passes.proofs.changes.in_order.Goals as goal

pub returns : goal.returns
returns c =
    IfOk-weaker c.listed.result (λ list. list.items ≡ c.args.assigned.slots.keys) (λ list. list.items ≡ rising c.args.assigned.slots.keys)
    (λ list same. same ∙ keys_rising c.args.assigned.slots.keys c.listed.ensures.rise) c.listed.ensures.listed
