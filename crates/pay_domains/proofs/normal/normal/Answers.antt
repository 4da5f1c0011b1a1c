use Rattle.std.proofs.Common.{◌≡◌, ℤ, pos, ◌↔◌, ◌∙◌, subst}
use Rattle.std.specs.Prelude.{IfOk}
use Rattle.pay_domains.specs.Pieces.{Held, from_to}
use Rattle.pay_domains.specs.Merging.{AreInOrder}
use Rattle.pay_domains.proofs.MergeLemmas.{none_normal, some_normal}
use Rattle.pay_domains.proofs.normal.normal.Goals as goal

pub returns-in-empty : goal.returns-in-empty
returns-in-empty c =
    let ys = c.as_slice.result.now in
    let order : AreInOrder ys = rw c.as_slice.ensures.value c.sort_pieces.ensures.order in
    let held : (x : ℤ) → Held x ys ↔ Held x c.args.pieces.now.items = rw c.as_slice.ensures.value c.sort_pieces.ensures.held in
    c.new.ensures.items ∙ none_normal c.args.pieces.now.items ys c.requires order held c.in-empty.len_below

pub returns-in-len1-up : goal.returns-in-len1-up
returns-in-len1-up c =
    let ys = c.as_slice.result.now in
    let order : AreInOrder ys = rw c.as_slice.ensures.value c.sort_pieces.ensures.order in
    let held : (x : ℤ) → Held x ys ↔ Held x c.args.pieces.now.items = rw c.as_slice.ensures.value c.sort_pieces.ensures.held in
    let same = some_normal c.args.pieces.now.items ys (from_to (pos 0) (pos 0)) c.requires order held c.in-len1-up.len_at_least in
    subst (λ v. IfOk c.merged.result (λ domain. domain.items ≡ v)) same c.merged.ensures
