-- Worked examples of what is simplified.
use Rattle.std.specs.Prelude.{◌≡◌, pos, true, false}
use Rattle.pay_meaning.specs.Language.{multiply, Number, literal, variable, spot, binary, equals, greater, bare}
use Rattle.pay_meaning.specs.Language.{Condition, compare, negation, conjunction, disjunction, settled, sure}
use Rattle.pay_meaning.specs.Language.{assign, choose, group, Body, done, next, Event}
use Rattle.pay_facts.specs.Facts.{no_facts}
use Rattle.pay_facts.specs.Examples.{x_name, never}
use Rattle.pay_simplified.specs.Simplified.{simple_condition, simple_body}

-- 0 and 1
abbrev pub zero_raw : Number
zero_raw = literal (pos 0)

abbrev pub one_raw : Number
one_raw = literal (pos 10_000)

-- `spot() > 1`, which is open
abbrev pub above_one : Condition
above_one = compare greater spot one_raw bare

-- `spot() * 0 = 0`, which is true wherever the fixing is there
abbrev pub vanishes : Condition
vanishes = compare equals (binary multiply spot zero_raw) zero_raw bare

-- `x = 1` and `x = 0`
abbrev pub to_one : Body
to_one = next (assign x_name one_raw) done

abbrev pub to_zero : Body
to_zero = next (assign x_name zero_raw) done

-- what these definitions give for a few conditions and statements of an event that begins with every variable at 0
pub record ExamplesCompute (event : Event) : Type 0 where
  -- an `if` that is never taken leaves nothing
  pub never_taken : simple_body never no_facts false event ≡ next (assign x_name zero_raw) (next (group done) done)
  -- one that is always taken is asked for its fault alone, while there can be one
  pub kept_for_its_fault : simple_body (next (choose vanishes to_one to_zero) done) no_facts false event
      ≡ next (choose (sure true vanishes) to_one done) done
  -- and is not asked once the fixing is known to be there
  pub not_asked : simple_body (next (choose vanishes to_one to_zero) done) no_facts true event ≡ next (group to_one) done
  -- an open `if` keeps its condition, and both branches
  pub open_choice : simple_body (next (choose above_one to_one to_zero) done) no_facts false event ≡ next (choose above_one to_one to_zero) done
  -- a variable that has one raw is that literal
  pub known_variable : simple_body (next (assign x_name one_raw) (next (assign x_name (binary multiply (variable x_name) spot)) done)) no_facts false event
      ≡ next (assign x_name one_raw) (next (assign x_name (binary multiply one_raw spot)) done)
  -- `and` and `or` without a side that adds nothing
  pub true_after : simple_condition (conjunction above_one (settled true)) no_facts false event ≡ above_one
  pub true_before : simple_condition (conjunction (settled true) above_one) no_facts false event ≡ above_one
  pub false_after : simple_condition (disjunction above_one (settled false)) no_facts false event ≡ above_one
  pub false_before : simple_condition (disjunction (settled false) above_one) no_facts false event ≡ above_one
  -- a left side that settles them is all that is left of them; a right side that settles them is not, where the left one can fault
  pub settled_before : simple_condition (disjunction vanishes above_one) no_facts false event ≡ sure true vanishes
  pub settled_after : simple_condition (conjunction above_one (settled false)) no_facts false event
      ≡ sure false (conjunction above_one (settled false))
  pub settled_faultless : simple_condition (conjunction above_one (settled false)) no_facts true event ≡ settled false
  -- `not` of what is sure is sure of the opposite
  pub opposite : simple_condition (negation vanishes) no_facts false event ≡ sure false vanishes

-- for whatever event
abbrev pub Examples : Type 0
Examples = (event : Event) → ExamplesCompute event
