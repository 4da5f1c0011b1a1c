use Rattle.pay_fixed.proofs.Text.{fewest-places}
use Rattle.pay_fixed.proofs.laws.decimal_has_fewest_places.Goals as goal

pub returns : goal.returns
returns c = fewest-places
