-- The count and the unit of a schedule's step are read from the tokens that spell them.
use Rattle.std.proofs.Common.{◌≡◌, ℕ, ◌*◌, lit<, List, Some, refl, ap, ◌∙◌}
use Rattle.std.specs.Prelude.{pos}
use Rattle.std.proofs.Math.Nat.{mul-mod_left, mul-div_cancel}
use Rattle.pay_dates.specs.declared.roll.Unit.{Unit as StepUnit}
use Rattle.pay_dates.specs.declared.roll.Unit.TheVariants.{Days, Weeks, Months, Years}
use Rattle.pay_fixed.proofs.AsSpelled.{spelled-raw}
use Rattle.pay_meaning.specs.Words.{unit_word}
use Rattle.pay_grammar.specs.Grammar.{SpellsCount}
use Rattle.pay_grammar.specs.Reading.{whole_of, counted, count_in, unit_in}

-- a raw of so many whole ones is that count
whole_count : (count : ℕ) → whole_of (pos (count * 10_000)) ≡ Some count
whole_count count = rw (mul-mod_left count 10_000) (ap Some (mul-div_cancel count (lit< tt)))

-- the count that a number token spells is read from it
pub count_read : (digits : List ℕ) (count : ℕ) → SpellsCount digits count → count_in digits ≡ Some count
count_read digits count k = rw k.no_point (ap counted (spelled-raw digits (pos (count * 10_000)) k.value) ∙ whole_count count)

-- the unit that a word stands for is read from it
pub unit_read : (unit : StepUnit) → unit_in (unit_word unit) ≡ Some unit
unit_read Days = refl
unit_read Weeks = refl
unit_read Months = refl
unit_read Years = refl
