use Rattle.pay_meaning.proofs.FixingLaws.{past-or-row}
use Rattle.pay_meaning.proofs.laws.fixing_is_past_or_the_rows.Goals as goal

pub returns : goal.returns
returns c = past-or-row
