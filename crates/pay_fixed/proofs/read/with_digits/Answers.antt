use Rattle.std.proofs.Common.{◌<◌, ◌+◌, length, get_or, drop, drop-cons, add-one, arith, ◌∙◌}
use Rattle.pay_fixed.proofs.Capped.{capped_step}
use Rattle.pay_fixed.proofs.read.with_digits.Goals as goal

-- the digit that was read stands before those that are left
pub loop-digit-preserved : goal.loop-digit-preserved
loop-digit-preserved c =
    let ds = c.args.digits.now in
    let i = c.loop-digit.digit-index in
    let lt : i < length ds = omega arith in (
      omega arith,
      rw c.with_digit-value.ensures
          (capped_step c.loop-digit.value (get_or ds i 0) (drop (i + 1) ds) ∙ rw add-one (rw (drop-cons ds i 0 lt) at c.loop-digit.invariant.1)),
    )
