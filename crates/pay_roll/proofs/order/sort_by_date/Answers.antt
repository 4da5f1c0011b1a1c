use Rattle.std.proofs.Common.{rules}
use Rattle.std.proofs.lemmas.List.Sorted.{answers_always}
use Rattle.pay_roll.specs.Plans.{date_number}
use Rattle.pay_roll.proofs.SortLemmas.{sorted-in_order}
use Rattle.pay_roll.proofs.order.sort_by_date.Goals as goal

pub returns : goal.returns
returns c =
    let keys = answers_always _ _ _ (λ f a r g h. search rules) in
    sorted-in_order c.args.events.now.items c.sort_by_key.new.self.items (c.in_ok-sort_by_key.ensures.sorted date_number keys) (c.sort_by_key.ensures.stable date_number keys)
