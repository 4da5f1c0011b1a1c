use Rattle.std.proofs.Common.{rules, ◌≡◌, ◌++◌, length, min, ap, sym, ◌∙◌, append-nil}
use Rattle.std.proofs.lemmas.Slice.Zip.{zip_end}
use Rattle.pay_explain.proofs.ExplainLemmas.{lines_end}
use Rattle.pay_explain.proofs.text.write_domain_lines.Goals as goal

pub returns : goal.returns
returns c =
    let ends : length c.loop-name.yielded ≡ min (length c.args.names.now) (length c.args.domains.now) =
    zip_end c.args.names.now c.args.domains.now c.loop-name.yielded c.into_iter-name-iterator.result c.loop-name.name-iterator c.next.new.self c.next.result
    (search rules) (search rules) c.loop-name.yielded_by c.in-None.is c.next.ensures.steps
    in
    sym (c.loop-name.invariant ∙ ap (λ rest. c.loop-name.text.items ++ rest) (lines_end c.args.names.now c.args.domains.now (length c.loop-name.yielded) ends)
    ∙ append-nil c.loop-name.text.items)
