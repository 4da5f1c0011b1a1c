-- What is known of flat code.
use Rattle.pay_code.specs.BoundLaws.{FlatCodeIsBounded}
use Rattle.pay_code.proofs.AheadLaw.{targets_ahead}
use Rattle.pay_code.proofs.SavesLaw.{code_saves}

pub flat_code_is_bounded : FlatCodeIsBounded
flat_code_is_bounded = record { ahead = targets_ahead; saves = code_saves }
