use Rattle.std.proofs.Common.{rules, ◌∙◌, w32, SFits}
use Rattle.std.proofs.lemmas.Int.{to_z-of_z}
use Rattle.pay_scenarios.proofs.columns.at_date.Goals as goal

pub returns : goal.returns
returns g c =
    let fits : SFits w32 c.number.result = search rules in
    let found = rw (to_z-of_z w32 c.number.result fits) at c.get.ensures.value in
    rw (← c.number.ensures.number) (c.copied.ensures ∙ found)
