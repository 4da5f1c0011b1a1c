use Rattle.std.proofs.Common.{FitsSigned, w32, rules}
use Rattle.std.proofs.lemmas.Int.{to_z-of_z}
use Rattle.pay_fixed.specs.declared.NumberFault.TheVariants.{TooLarge}
use Rattle.pay_fixed.specs.Parts.{reading}
use Rattle.pay_fixed.proofs.Value.{read-value}
use Rattle.pay_fixed.proofs.read.rounded.Goals as goal

-- the first digits say what the raw is
pub returns : goal.returns
returns c =
    let fits : FitsSigned w32 c.args.parts.exponent = search rules in
    read-value TooLarge (reading c.args.parts).decimal _ _ _ c.requires.0 c.requires.1
    (simp to_z-of_z at c.places-count.ensures) c.first_digits-tenths.ensures c.signed_number.ensures
