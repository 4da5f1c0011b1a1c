use Rattle.std.proofs.Common.{◌≡◌, length}
use Rattle.pay_tables.specs.Records.{before_blanks}
use Rattle.pay_tables.proofs.records.before_blanks.Given as goal

abbrev pub invariant-loop-head : goal.invariant-loop-head
invariant-loop-head l = before_blanks l.rest ≡ before_blanks l.text

abbrev pub decreases-loop-head : goal.decreases-loop-head
decreases-loop-head l = length l.rest
