-- The choices that have begun, as code has them.
use Rattle.pay_code.specs.Execution.{alone, true_branch, false_branch}
use Rattle.pay_code.specs.Execution as code
use Rattle.pay_machine.specs.declared.frame.Frame.{Frame}
use Rattle.pay_machine.specs.declared.frame.Frame.TheVariants.{Alone, TrueBranch, FalseBranch}

-- a choice that has begun
abbrev pub begun : Frame → code.Frame
begun Alone = alone
begun (TrueBranch weight before from) = true_branch weight before from
begun (FalseBranch weight before between from) = false_branch weight before between from
