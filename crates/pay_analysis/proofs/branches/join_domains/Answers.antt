use Rattle.std.proofs.Common.{◌≡◌, ◌∷◌, ◌+◌, ◌<◌, pos, length, drop, ap, sym, subst, ◌∙◌, arith}
use Rattle.pay_analysis.proofs.SlotLemmas.{drop_next, other_default}
use Rattle.pay_domains.specs.Pieces.{point, AreRaws}
use Rattle.pay_analysis.specs.Walking.{all_joined_with}
use Rattle.pay_analysis.proofs.branches.join_domains.Goals as goal

pub loop-index-preserved : goal.loop-index-preserved
loop-index-preserved c =
    let domains = c.loop-index.domains.items in
    let changes = c.args.changes.now in
    let kept = c.args.kept.now in
    let i = c.loop-index.index in
    let item = c.index-kept-index.result in
    let slots = drop_next changes i 0 c.loop-index-test.true in
    let below : i < length kept = omega (arith, c.loop-index-test.true, c.loop-index.invariant.one_each) in
    let others : drop i kept ≡ item ∷ drop (i + 1) kept =
    drop_next kept i item below ∙ ap (λ x. x ∷ drop (i + 1) kept) (sym c.index-kept-index.is) in
    record {
      domains = c.loop-index.invariant.domains ∙ (λ j. all_joined_with domains (slots j) (others j))
          ∙ ap (λ new. all_joined_with new (drop (i + 1) changes) (drop (i + 1) kept)) (sym c.in_ok-join_domain.ensures.same);
      limits = λ h k. c.in_ok-join_domain.ensures.limits (c.loop-index.invariant.limits h k)
          (subst AreRaws (other_default kept i (point (pos 0)) item below ∙ sym c.index-kept-index.is) (k i));
      one_each = c.loop-index.invariant.one_each;
    }
