use Rattle.std.proofs.Common.{◌≡◌, sym, subst, arith}
use Rattle.std.proofs.lemmas.Grind.{common_steps}
use Rattle.pay_explain.specs.Explaining.{zero_domains}
use Rattle.pay_explain.specs.Known.{AreKnown}
use Rattle.pay_explain.proofs.ExplainLemmas.{zero_known, zero_none}
use Rattle.pay_explain.proofs.explain.fresh_facts.Goals as goal

pub returns-clause-known : goal.returns-clause-known
returns-clause-known c =
    let all : c.loop.domains.items ≡ zero_domains c.args.trade.now.names.items = grind (arith, zero_none, common_steps) in
    subst (AreKnown c.args.trade.now.names.items) (sym all) (zero_known c.args.trade.now.names.items)
