use Rattle.std.proofs.Common.{rules}
use Rattle.std.proofs.lemmas.List.Sorted.{answers_always}
use Rattle.pay_domains.proofs.SortLemmas.{low_of, order-from_sort, held-from_sort}
use Rattle.pay_domains.proofs.normal.sort_pieces.Goals as goal

pub returns-clause-order : goal.returns-clause-order
returns-clause-order c =
    let keys = answers_always _ _ _ (λ f a r g h. search rules) in
    order-from_sort c.args.pieces.now.items _ c.requires c.sort_unstable_by_key.ensures.permutation (c.sort_unstable_by_key.ensures.sorted low_of keys)

pub returns-clause-held : goal.returns-clause-held
returns-clause-held c = λ x. held-from_sort x _ _ c.sort_unstable_by_key.ensures.permutation
