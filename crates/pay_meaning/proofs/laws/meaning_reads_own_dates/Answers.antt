use Rattle.pay_meaning.proofs.MeaningLaws.{meaning-own}
use Rattle.pay_meaning.proofs.laws.meaning_reads_own_dates.Goals as goal

pub returns : goal.returns
returns c = meaning-own
