use Rattle.std.proofs.Common.{false, length, ap, sym, subst, ◌∙◌}
use Rattle.pay_tree.specs.OwnedViews.{steps_tree}
use Rattle.pay_analysis.specs.Walking.{AreDomains}
use Rattle.pay_analysis.proofs.BranchLemmas.{steps_count, steps_domains}
use Rattle.pay_analysis.proofs.walk_steps.walk_event.Goals as goal

pub returns-clause-count : goal.returns-clause-count
returns-clause-count c =
    let steps = steps_tree c.args.event.now.steps.items in
    let before = c.args.facts.now.domains.items in
    ap (λ facts. length facts.domains) c.in_ok-walk_steps.ensures.facts ∙ steps_count steps before false

pub returns-clause-domains : goal.returns-clause-domains
returns-clause-domains c =
    let steps = steps_tree c.args.event.now.steps.items in
    let before = c.args.facts.now.domains.items in
    subst AreDomains (sym (ap (λ facts. facts.domains) c.in_ok-walk_steps.ensures.facts)) (steps_domains steps before false c.requires.domains)
