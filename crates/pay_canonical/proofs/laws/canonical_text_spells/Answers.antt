use Rattle.pay_canonical.proofs.Canonical.{canonical_text_spells}
use Rattle.pay_canonical.proofs.laws.canonical_text_spells.Goals as goal

pub returns : goal.returns
returns c = canonical_text_spells
