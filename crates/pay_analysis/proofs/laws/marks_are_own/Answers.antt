use Rattle.pay_analysis.proofs.MarkLaw.{marks-own}
use Rattle.pay_analysis.proofs.laws.marks_are_own.Goals as goal

pub returns : goal.returns
returns c = marks-own
