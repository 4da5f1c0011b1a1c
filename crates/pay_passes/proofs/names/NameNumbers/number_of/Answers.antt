use Rattle.std.proofs.Common.{sym}
use Rattle.pay_passes.proofs.OwnNumbers.{number_at_place, number_of_other}
use Rattle.pay_passes.proofs.names.NameNumbers.number_of.Goals as goal

pub returns-in-Some : goal.returns-in-Some
returns-in-Some c =
    let numbers = c.args.self.now in
    number_at_place numbers.names.now c.args.name.now c.in-Some.number.now numbers.distinct
    (numbers.numbered.places c.args.name.now c.in-Some.number.now (sym c.in-Some.ensures.value))

pub returns-in-None : goal.returns-in-None
returns-in-None c =
    let numbers = c.args.self.now in
    number_of_other numbers.names.now c.args.name.now (numbers.numbered.others c.args.name.now (sym c.in-None.ensures.value))
