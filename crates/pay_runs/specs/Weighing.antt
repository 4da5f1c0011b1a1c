-- What a script means where comparisons are smoothed: a condition has a weight in place of a truth, and an `if` whose condition weighs something in
-- between runs both branches. In a crisp run no smoothing is read, so each weight is that of true or of false.
use Rattle.std.specs.Prelude.{ℕ, ◌+◌, ◌-◌, ◌*ℤ◌, ◌-ℤ◌, ℤ, pos, unsigned_abs, Bool, true, false, List, [], ◌++◌, map, Result, Ok, Err, nat_eq}
use Rattle.std.specs.Prelude.{if◌then◌else◌}
use Rattle.std.specs.FinMap.{from_entries, keys}
use Rattle.pay_fixed.specs.declared.smooth.Smooth.{Smooth}
use Rattle.pay_fixed.specs.Round.{round}
use Rattle.pay_fixed.specs.Weights.{whole as full, weight_of, blended, scaled}
use Rattle.pay_meaning.specs.declared.fault.FaultKind.{FaultKind}
use Rattle.pay_meaning.specs.Language.{Comparison, less, at_most, greater, at_least, equals, differs, Note, bare, smoothed, Condition, compare}
use Rattle.pay_meaning.specs.Language.{negation, conjunction, disjunction, settled, sure, Statement, assign, pay, choose, group, Body, done, next, Event}
use Rattle.pay_meaning.specs.Meaning.{Variables, lookup, Moment, one, both, value, compared, Payment, Effect, assigned, paid, followed_by, Fixings}
use Rattle.pay_meaning.specs.Meaning.{Meaning, meaning_by}

-- whether a run is fuzzy: whether it reads the smoothings of comparisons
abbrev pub IsFuzzy : Type 0
IsFuzzy = Bool

-- the weight of what is true, or of what is false
abbrev pub certain : Bool → ℕ
certain true = full
certain false = 0

-- how far one number lies from the other, counted so that a greater gap speaks for the comparison
abbrev pub gap : Comparison → ℤ → ℤ → ℤ
gap less a b = b -ℤ a
gap at_most a b = b -ℤ a
gap greater a b = a -ℤ b
gap at_least a b = a -ℤ b
gap equals a b = a -ℤ b
gap differs a b = a -ℤ b

-- the weight of a smoothed comparison at a gap; `!=` has what `=` leaves
abbrev pub smooth_weight : Comparison → Smooth → ℤ → ℕ
smooth_weight differs smooth x = full - weight_of smooth x
smooth_weight op smooth x = weight_of smooth x

-- the weight of a comparison of two raws
abbrev pub compared_weight : IsFuzzy → Comparison → Note → ℤ → ℤ → ℕ
compared_weight true op (smoothed smooth) a b = smooth_weight op smooth (gap op a b)
compared_weight false op (smoothed smooth) a b = certain (compared op a b)
compared_weight fuzzy op bare a b = certain (compared op a b)

-- the weight of two conditions that both weigh something
abbrev pub joint : ℕ → ℕ → ℕ
joint a b = unsigned_abs (round (pos a *ℤ pos b) (pos full))

-- the weight of one of two conditions
abbrev pub either : ℕ → ℕ → ℕ
either a b = (a + b) - joint a b

-- `and`: nothing after a left side that weighs nothing, else both
abbrev pub and_weight : Result ℕ FaultKind → Result ℕ FaultKind → Result ℕ FaultKind
and_weight (Err fault) right = Err fault
and_weight (Ok a) right = if nat_eq a 0 then Ok 0 else one (joint a) right

-- `or`: the whole weight after a left side that has it, else one of both
abbrev pub or_weight : Result ℕ FaultKind → Result ℕ FaultKind → Result ℕ FaultKind
or_weight (Err fault) right = Err fault
or_weight (Ok a) right = if nat_eq a full then Ok full else one (either a) right

-- the weight of a condition, or the first fault from left to right
abbrev pub weight : IsFuzzy → Condition → Variables → Moment → Result ℕ FaultKind
weight fuzzy (compare op left right note) variables at =
    both (λ a b. Ok (compared_weight fuzzy op note a b)) (value left variables at) (value right variables at)
weight fuzzy (negation side) variables at = one (λ w. full - w) (weight fuzzy side variables at)
weight fuzzy (conjunction left right) variables at = and_weight (weight fuzzy left variables at) (weight fuzzy right variables at)
weight fuzzy (disjunction left right) variables at = or_weight (weight fuzzy left variables at) (weight fuzzy right variables at)
weight fuzzy (settled answer) variables at = Ok (certain answer)
weight fuzzy (sure answer side) variables at = one (λ w. certain answer) (weight fuzzy side variables at)

-- the variables of two branches, each the blend of its two values
abbrev pub blended_variables : ℕ → Variables → Variables → Variables
blended_variables w yes_part no_part =
    from_entries (map (λ name. (name, blended w (lookup yes_part name) (lookup no_part name))) (keys yes_part ++ keys no_part))

-- a payment of a branch of this weight
abbrev pub scaled_payment : ℕ → Payment → Payment
scaled_payment w payment = record { date = payment.date; leg = payment.leg; amount = scaled w payment.amount }

-- the payments of two branches, each scaled by the weight of its branch
abbrev pub scaled_payments : ℕ → List Payment → List Payment → List Payment
scaled_payments w yes_part no_part = map (scaled_payment w) yes_part ++ map (scaled_payment (full - w)) no_part

-- both branches, from the same variables; a fault of the true branch comes first
abbrev pub blended_effect : ℕ → Result Effect FaultKind → Result Effect FaultKind → Result Effect FaultKind
blended_effect w (Err fault) no_part = Err fault
blended_effect w (Ok yes_part) (Err fault) = Err fault
blended_effect w (Ok yes_part) (Ok no_part) = Ok (record {
  variables = blended_variables w yes_part.variables no_part.variables;
  payments = scaled_payments w yes_part.payments no_part.payments;
})

-- the branch that a weight chooses, or both
abbrev pub split : Result ℕ FaultKind → Result Effect FaultKind → Result Effect FaultKind → Result Effect FaultKind
split (Err fault) yes_part no_part = Err fault
split (Ok w) yes_part no_part = if nat_eq w 0 then no_part else (if nat_eq w full then yes_part else blended_effect w yes_part no_part)

abbrev mutual
  -- the effect of a statement with weights
  pub weighed_statement : IsFuzzy → Statement → Variables → Moment → Result Effect FaultKind
  weighed_statement fuzzy (assign name number) variables at = assigned variables name (value number variables at)
  weighed_statement fuzzy (pay leg number) variables at = paid variables at.date leg (value number variables at)
  weighed_statement fuzzy (choose condition yes_part no_part) variables at =
      split (weight fuzzy condition variables at) (weighed fuzzy yes_part variables at) (weighed fuzzy no_part variables at)
  weighed_statement fuzzy (group body) variables at = weighed fuzzy body variables at

  -- the effect of statements in order with weights
  pub weighed : IsFuzzy → Body → Variables → Moment → Result Effect FaultKind
  weighed fuzzy done variables at = Ok (record { variables = variables; payments = [] })
  weighed fuzzy (next statement rest) variables at =
      followed_by (weighed_statement fuzzy statement variables at) (λ after. weighed fuzzy rest after at)

-- the meaning of events with weights
abbrev pub weighed_meaning : IsFuzzy → List Event → Variables → Fixings → Meaning
weighed_meaning fuzzy events variables fixings = meaning_by (weighed fuzzy) events variables fixings
