use Rattle.pay_meaning.proofs.MeaningLaws.{meaning-parts}
use Rattle.pay_meaning.proofs.laws.meaning_of_parts.Goals as goal

pub returns : goal.returns
returns c = meaning-parts
