use Rattle.pay_tree.specs.Assigned.{assigned_in}
use Rattle.pay_passes.specs.Changes.{affected_of}
use Rattle.pay_passes.proofs.RisingLemmas.{rising_less, has_rising, together_in, had_together, one_rising}
use Rattle.pay_passes.proofs.laws.affected_are_assigned.Goals as goal

pub returns : goal.returns
returns c = record {
  rise = λ steps. rising_less (assigned_in steps);
  same = λ steps slot. together_in (affected_of steps) (assigned_in steps) slot (has_rising (assigned_in steps) slot);
  one_list = λ slots others h k same. one_rising slots others h k (λ slot. had_together slots others slot (same slot));
}
