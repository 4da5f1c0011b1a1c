-- Worked examples of facts.
use Rattle.std.specs.Prelude.{◌≡◌, ℕ, pos, neg_ℤ, true, false, List, [], ◌∷◌}
use Rattle.pay_meaning.specs.Language.{multiply, divide, least, literal, variable, spot, greater, bare, compare, assign, choose, Body, done, next, Event}
use Rattle.pay_domains.specs.Pieces.{from_to, point}
use Rattle.pay_domains.specs.Operators.{no_flags, reach}
use Rattle.pay_facts.specs.Facts.{no_facts}
use Rattle.pay_facts.specs.Ranges.{result_of, range}
use Rattle.pay_facts.specs.After.{after}

-- the name x
abbrev pub x_name : List ℕ
x_name = 120 ∷ []

-- `x = 0`, and then `if spot() > 1 then x = 1 endif`
abbrev pub knock : Body
knock =
    next (assign x_name (literal (pos 0)))
    (next (choose (compare greater spot (literal (pos 10_000)) bare) (next (assign x_name (literal (pos 10_000))) done) done) done)

-- `x = 0`, and then `if x > 1 then x = 1 endif`
abbrev pub never : Body
never =
    next (assign x_name (literal (pos 0)))
    (next (choose (compare greater (variable x_name) (literal (pos 10_000)) bare) (next (assign x_name (literal (pos 10_000))) done) done) done)

-- what these definitions give for a few scripts and pieces
pub record ExamplesCompute (event : Event) : Type 0 where
  -- after an open `if` a variable has the raws of both branches, and the fixing is known to be there
  pub open_branches : (after knock no_facts false event).domains x_name ≡ from_to (pos 0) (pos 0) ∷ from_to (pos 10_000) (pos 10_000) ∷ []
  pub asked : (after knock no_facts false event).known ≡ true
  -- where the condition is decided the other branch leaves nothing
  pub decided_branch : (after never no_facts false event).domains x_name ≡ from_to (pos 0) (pos 0) ∷ []
  -- the first `spot()` can find its fixing missing, and one after it can't
  pub first_spot : (range spot no_facts false event).flags.missing ≡ true
  pub later_spot : (range spot no_facts (range spot no_facts false event).known event).flags.missing ≡ false
  -- the product of -1 to 2 and -3 to 4 is -6 to 8
  pub product_of_pieces : reach multiply (from_to (neg_ℤ (pos 10_000)) (pos 20_000) ∷ []) (from_to (neg_ℤ (pos 30_000)) (pos 40_000) ∷ [])
      ≡ (record { domain = from_to (neg_ℤ (pos 60_000)) (pos 80_000) ∷ []; flags = no_flags })
  -- 1 by the raws from -1 to 2 is -10,000, or between 5,000 and 10,000; or the divisor is 0
  pub quotient_round_zero : reach divide (from_to (pos 10_000) (pos 10_000) ∷ []) (from_to (neg_ℤ (pos 1)) (pos 2) ∷ [])
      ≡ (record {
        domain = from_to (neg_ℤ (pos 100_000_000)) (neg_ℤ (pos 100_000_000)) ∷ from_to (pos 50_000_000) (pos 100_000_000) ∷ [];
        flags = record { overflow = false; zero = true; missing = false };
      })
  -- of raws beyond the limit of a number the lesser is one of them, with no fault, and `reach` has no raw of them
  pub lesser_beyond : result_of least (point (pos 2_000_000_000_000_000_000)) (point (pos 2_000_000_000_000_000_000))
      ≡ (record { domain = point (pos 2_000_000_000_000_000_000); flags = no_flags })
  pub reach_beyond : (reach least (point (pos 2_000_000_000_000_000_000)) (point (pos 2_000_000_000_000_000_000))).domain ≡ []

-- the examples, at each event
abbrev pub Examples : Type 0
Examples = (event : Event) → ExamplesCompute event
