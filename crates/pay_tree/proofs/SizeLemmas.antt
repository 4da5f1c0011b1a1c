-- Counts up to one more than a limit, and the payments among parts.
use Rattle.std.proofs.Common.{◌≡◌, ℕ, ◌+◌, Bool, true, false, List, [], ◌∷◌, ◌++◌, length, filter, if◌then◌else◌, arith, ◌∙◌, refl}
use Rattle.pay_meaning.specs.Language.{Number, literal, variable, spot, period, days, negative, absolute, binary, Condition, compare, negation}
use Rattle.pay_meaning.specs.Language.{conjunction, disjunction, settled, sure, assign, pay, choose, Body}
use Rattle.pay_meaning.specs.Parts.{Part, a_statement, is_payment, payment_count, number_parts, condition_parts, statement_parts, body_parts}
use Rattle.pay_tree.specs.Sizes.{up_to}

-- a count that was capped already may be capped again after more is added
pub capped_left : (most left right : ℕ) → up_to most (up_to most left + right) ≡ up_to most (left + right)
capped_left most left right = grind arith

pub capped_right : (most left right : ℕ) → up_to most (left + up_to most right) ≡ up_to most (left + right)
capped_right most left right = grind arith

pub capped_twice : (most count : ℕ) → up_to most (up_to most count) ≡ up_to most count
capped_twice most count = grind arith

-- two counts that were capped give the sum, capped
pub both_capped : (most first second left right : ℕ) → first ≡ up_to most left → second ≡ up_to most right
    → up_to most (first + second) ≡ up_to most (left + right)
both_capped most first second left right one other = rw (one, other) (capped_left most left (up_to most right) ∙ capped_right most left right)

pub ruleset capped = (capped_left, capped_right, capped_twice)

counted_at : (b : Bool) (part : Part) (rest : List Part) → length (if b then part ∷ rest else rest) ≡ (if b then 1 else 0) + length rest
counted_at true part rest = omega arith
counted_at false part rest = omega arith

-- one part more is one payment more where it is one
payments_more : (part : Part) (rest : List Part) → payment_count (part ∷ rest) ≡ (if is_payment part then 1 else 0) + payment_count rest
payments_more part rest = counted_at (is_payment part) part (filter is_payment rest)

-- the payments of two lists of parts
pub payments_of_both : (front back : List Part) → payment_count (front ++ back) ≡ payment_count front + payment_count back
payments_of_both [] back = omega arith
payments_of_both (part ∷ rest) back =
    let first = payments_more part (rest ++ back) in
    let second = payments_more part rest in
    let third = payments_of_both rest back in
    grind arith

-- no number is a payment
pub number_pays_nothing : (number : Number) → payment_count (number_parts number) ≡ 0
number_pays_nothing (literal raw) = refl
number_pays_nothing (variable name) = refl
number_pays_nothing spot = refl
number_pays_nothing period = refl
number_pays_nothing days = refl
number_pays_nothing (negative side) = number_pays_nothing side
number_pays_nothing (absolute side) = number_pays_nothing side
number_pays_nothing (binary op left right) =
    let both = payments_of_both (number_parts left) (number_parts right) in
    let first = number_pays_nothing left in
    let second = number_pays_nothing right in
    grind arith

-- and no condition
pub condition_pays_nothing : (condition : Condition) → payment_count (condition_parts condition) ≡ 0
condition_pays_nothing (compare op left right note) =
    let both = payments_of_both (number_parts left) (number_parts right) in
    let first = number_pays_nothing left in
    let second = number_pays_nothing right in
    grind arith
condition_pays_nothing (negation side) = condition_pays_nothing side
condition_pays_nothing (conjunction left right) =
    let both = payments_of_both (condition_parts left) (condition_parts right) in
    let first = condition_pays_nothing left in
    let second = condition_pays_nothing right in
    grind arith
condition_pays_nothing (disjunction left right) =
    let both = payments_of_both (condition_parts left) (condition_parts right) in
    let first = condition_pays_nothing left in
    let second = condition_pays_nothing right in
    grind arith
condition_pays_nothing (settled answer) = refl
condition_pays_nothing (sure answer side) = condition_pays_nothing side

-- an assignment is no payment
pub assign_pays_nothing : (name : List ℕ) (number : Number) → payment_count (statement_parts (assign name number)) ≡ 0
assign_pays_nothing name number = number_pays_nothing number

-- a payment is one
pub pay_pays_once : (leg : List ℕ) (number : Number) → payment_count (statement_parts (pay leg number)) ≡ 1
pay_pays_once leg number =
    let more = payments_more (a_statement (pay leg number)) (number_parts number) in
    let none = number_pays_nothing number in
    grind arith

-- an `if` has the payments of its branches
pub choose_pays : (condition : Condition) (yes_part no_part : Body)
    → payment_count (statement_parts (choose condition yes_part no_part)) ≡ payment_count (body_parts yes_part) + payment_count (body_parts no_part)
choose_pays condition yes_part no_part =
    let all = payments_of_both (condition_parts condition) (body_parts yes_part ++ body_parts no_part) in
    let branches = payments_of_both (body_parts yes_part) (body_parts no_part) in
    let none = condition_pays_nothing condition in
    grind arith
