-- What numbered bodies stand for, their places, and their parts.
use Rattle.std.proofs.Common.{◌≡◌, ℕ, ◌+◌, ◌≤◌, zero, suc, Bool, true, false, ◌&&◌, List, [], ◌∷◌, ◌++◌, length, map, refl, sym, ap, ◌∙◌, arith}
use Rattle.std.proofs.lemmas.Bool.{and_parts, and_from}
use Rattle.std.proofs.lemmas.Bool.Decides.{nat_tests}
use Rattle.std.proofs.lemmas.List.{length-append, map-append}
use Rattle.std.proofs.lemmas.List.Folds.{list_all-append}
use Rattle.std.specs.List.{list_all}
use Rattle.std.specs.Prelude.{nat_lt}
use Rattle.pay_meaning.specs.Language.{Operator, add, subtract, multiply, divide, least, greatest, Number, literal, variable, spot, period, days, negative}
use Rattle.pay_meaning.specs.Language.{absolute, binary, Comparison, less, at_most, greater, at_least, equals, differs, bare, smoothed, Condition, compare}
use Rattle.pay_meaning.specs.Language.{negation, conjunction, disjunction, settled, sure, Statement, assign, pay, choose, group, Body, done, next}
use Rattle.pay_meaning.specs.Parts.{as_variable, as_leg, number_parts, condition_parts, statement_parts, body_parts}
use Rattle.pay_meaning.specs.Parts.{is_payment}
use Rattle.pay_tree.specs.Owned.{spelled_number, spelled_test, spelled_step, spelled_steps, number_places, test_places}
use Rattle.pay_tree.specs.Owned.{step_places, steps_places}
use Rattle.pay_tree.specs.Views.{operator, comparison}
use Rattle.pay_visit.specs.Showing.{parts_of_number, parts_of_test, parts_of_step, parts_of_steps}
use Rattle.pay_passes.specs.Numbering.{number_in, is_one_of, binary_of, compare_of, after_number, after_condition, after_statement, after_body}
use Rattle.pay_passes.specs.Numbering.{numbered_number, numbered_condition, numbered_statement, numbered_body, is_written_condition}
use Rattle.pay_passes.specs.Numbering.{is_written_statement, is_written, use_own}
use Rattle.pay_passes.specs.Terms.{number_at, condition_at, statement_at, body_at}
use Rattle.pay_passes.specs.Trades.{counted_from, is_plain, is_paying}
use Rattle.pay_passes.proofs.OwnNumbers.{stands_there}
use Rattle.pay_passes.proofs.OwnNames.{own_parts}

-- an operator is that of the operator of a tree that it is
operator_back : (op : Operator) → operator (binary_of op) ≡ op
operator_back add = refl
operator_back subtract = refl
operator_back multiply = refl
operator_back divide = refl
operator_back least = refl
operator_back greatest = refl

comparison_back : (op : Comparison) → comparison (compare_of op) ≡ op
comparison_back less = refl
comparison_back at_most = refl
comparison_back greater = refl
comparison_back at_least = refl
comparison_back equals = refl
comparison_back differs = refl

-- a number whose variables are among the names stands for itself with its period and days
pub number_stands : (names : List (List ℕ)) (p d first : ℕ) (number : Number) → use_own as_variable names (number_parts number) ≡ true
    → spelled_number names (numbered_number names p d first number) ≡ number_at p d number
number_stands names p d first (literal raw) own = refl
number_stands names p d first (variable name) own = ap variable (stands_there names name (and_parts (is_one_of names name) true own).0).1
number_stands names p d first spot own = refl
number_stands names p d first period own = refl
number_stands names p d first days own = refl
number_stands names p d first (negative side) own = ap negative (number_stands names p d (first + 1) side own)
number_stands names p d first (absolute side) own = ap absolute (number_stands names p d (first + 1) side own)
number_stands names p d first (binary op left right) own =
    let each = own_parts as_variable names (number_parts left) (number_parts right) own in
    rw (operator_back op, number_stands names p d (first + 1) left each.0, number_stands names p d (after_number (first + 1) left) right each.1) refl

-- and so does a condition that is written
pub condition_stands : (names : List (List ℕ)) (p d first : ℕ) (condition : Condition) → use_own as_variable names (condition_parts condition) ≡ true
    → is_written_condition condition ≡ true → spelled_test names (numbered_condition names p d first condition) ≡ condition_at p d condition
condition_stands names p d first (compare op left right bare) own written =
    let each = own_parts as_variable names (number_parts left) (number_parts right) own in
    rw (comparison_back op, number_stands names p d (first + 1) left each.0, number_stands names p d (after_number (first + 1) left) right each.1) refl
condition_stands names p d first (compare op left right (smoothed smooth)) own written = cc
condition_stands names p d first (negation side) own written = ap negation (condition_stands names p d (first + 1) side own written)
condition_stands names p d first (conjunction left right) own written =
    let each = own_parts as_variable names (condition_parts left) (condition_parts right) own in
    let both = and_parts (is_written_condition left) (is_written_condition right) written in
    rw (condition_stands names p d (first + 1) left each.0 both.0, condition_stands names p d (after_condition (first + 1) left) right each.1 both.1) refl
condition_stands names p d first (disjunction left right) own written =
    let each = own_parts as_variable names (condition_parts left) (condition_parts right) own in
    let both = and_parts (is_written_condition left) (is_written_condition right) written in
    rw (condition_stands names p d (first + 1) left each.0 both.0, condition_stands names p d (after_condition (first + 1) left) right each.1 both.1) refl
condition_stands names p d first (settled answer) own written = cc
condition_stands names p d first (sure answer side) own written = cc

mutual
  -- and a statement whose legs are among the legs
  pub statement_stands : (names legs : List (List ℕ)) (p d first : ℕ) (statement : Statement) → use_own as_variable names (statement_parts statement) ≡ true
      → use_own as_leg legs (statement_parts statement) ≡ true → is_written_statement statement ≡ true
      → spelled_step names legs (numbered_statement names legs p d first statement) ≡ statement_at p d statement
  statement_stands names legs p d first (assign name number) own own_legs written =
      let each = and_parts (is_one_of names name) (use_own as_variable names (number_parts number)) own in
      rw ((stands_there names name each.0).1, number_stands names p d first number each.1) refl
  statement_stands names legs p d first (pay leg number) own own_legs written =
      let each = and_parts (is_one_of legs leg) (use_own as_leg legs (number_parts number)) own_legs in
      rw ((stands_there legs leg each.0).1, number_stands names p d first number own) refl
  statement_stands names legs p d first (choose condition yes_part no_part) own own_legs written =
      let here = own_parts as_variable names (condition_parts condition) (body_parts yes_part ++ body_parts no_part) own in
      let each = own_parts as_variable names (body_parts yes_part) (body_parts no_part) here.1 in
      let legs_here = own_parts as_leg legs (condition_parts condition) (body_parts yes_part ++ body_parts no_part) own_legs in
      let legs_each = own_parts as_leg legs (body_parts yes_part) (body_parts no_part) legs_here.1 in
      let forms = and_parts (is_written_condition condition && is_written yes_part) (is_written no_part) written in
      let front = and_parts (is_written_condition condition) (is_written yes_part) forms.0 in
      rw (
        condition_stands names p d first condition here.0 front.0,
        body_stands names legs p d (after_condition first condition) yes_part each.0 legs_each.0 front.1,
        body_stands names legs p d (after_body (after_condition first condition) yes_part) no_part each.1 legs_each.1 forms.1,
      ) refl
  statement_stands names legs p d first (group body) own own_legs written = cc

  -- and so do the statements of a body
  pub body_stands : (names legs : List (List ℕ)) (p d first : ℕ) (body : Body) → use_own as_variable names (body_parts body) ≡ true
      → use_own as_leg legs (body_parts body) ≡ true → is_written body ≡ true
      → spelled_steps names legs (numbered_body names legs p d first body) ≡ body_at p d body
  body_stands names legs p d first done own own_legs written = refl
  body_stands names legs p d first (next statement rest) own own_legs written =
      let each = own_parts as_variable names (statement_parts statement) (body_parts rest) own in
      let legs_each = own_parts as_leg legs (statement_parts statement) (body_parts rest) own_legs in
      let both = and_parts (is_written_statement statement) (is_written rest) written in
      rw (
        statement_stands names legs p d first statement each.0 legs_each.0 both.0,
        body_stands names legs p d (after_statement first statement) rest each.1 legs_each.1 both.1,
      ) refl

-- so many numbers, and then some more, are counted in one go
counted_on : (first count more : ℕ) → counted_from first count ++ counted_from (first + count) more ≡ counted_from first (count + more)
counted_on first zero more =
    let same : first + 0 ≡ first = omega arith in
    let none : 0 + more ≡ more = omega arith in
    rw (same, none) refl
counted_on first (suc count) more =
    let on : first + suc count ≡ (first + 1) + count = omega arith in
    let all : suc count + more ≡ suc (count + more) = omega arith in
    rw (on, all) (ap (λ rest. first ∷ rest) (counted_on (first + 1) count more))

-- places that are counted from the first one up to the one after them
abbrev AreUpTo : ℕ → ℕ → List ℕ → Type 0
AreUpTo first past places = (places ≡ counted_from first (length places)) × (past ≡ first + length places)

-- places after others are counted on
up_to_both : (first middle past : ℕ) (left right : List ℕ) → AreUpTo first middle left → AreUpTo middle past right → AreUpTo first past (left ++ right)
up_to_both first middle past left right one two =
    let count = length-append left right in
    let on : right ≡ counted_from (first + length left) (length right) = two.0 ∙ ap (λ start. counted_from start (length right)) one.1 in (
      ap (λ front. front ++ right) one.0 ∙ ap (λ back. counted_from first (length left) ++ back) on ∙ counted_on first (length left) (length right)
          ∙ ap (counted_from first) (sym count),
      let past_left = one.1 in let past_right = two.1 in omega (arith, count, past_left, past_right),
    )

-- a place before those of the sides
up_to_more : (first past : ℕ) (places : List ℕ) → AreUpTo (first + 1) past places → AreUpTo first past (first ∷ places)
up_to_more first past places sides =
    (ap (λ rest. first ∷ rest) sides.0, let past_sides = sides.1 in omega (arith, past_sides))

-- one place
up_to_one : (first : ℕ) → AreUpTo first (first + 1) (first ∷ [])
up_to_one first = (refl, refl)

-- no place
up_to_none : (first : ℕ) → AreUpTo first first []
up_to_none first = (refl, omega arith)

-- the places of a number are counted
number_counted : (names : List (List ℕ)) (p d first : ℕ) (number : Number)
    → AreUpTo first (after_number first number) (number_places (numbered_number names p d first number))
number_counted names p d first (literal raw) = up_to_one first
number_counted names p d first (variable name) = up_to_one first
number_counted names p d first spot = up_to_one first
number_counted names p d first period = up_to_one first
number_counted names p d first days = up_to_one first
number_counted names p d first (negative side) = up_to_more first _ _ (number_counted names p d (first + 1) side)
number_counted names p d first (absolute side) = up_to_more first _ _ (number_counted names p d (first + 1) side)
number_counted names p d first (binary op left right) =
    up_to_more first _ _ (up_to_both (first + 1) (after_number (first + 1) left) _ _ _ (number_counted names p d (first + 1) left)
    (number_counted names p d (after_number (first + 1) left) right))

-- and those of a condition
condition_counted : (names : List (List ℕ)) (p d first : ℕ) (condition : Condition)
    → AreUpTo first (after_condition first condition) (test_places (numbered_condition names p d first condition))
condition_counted names p d first (compare op left right note) =
    up_to_more first _ _ (up_to_both (first + 1) (after_number (first + 1) left) _ _ _ (number_counted names p d (first + 1) left)
    (number_counted names p d (after_number (first + 1) left) right))
condition_counted names p d first (negation side) = up_to_more first _ _ (condition_counted names p d (first + 1) side)
condition_counted names p d first (conjunction left right) =
    up_to_more first _ _ (up_to_both (first + 1) (after_condition (first + 1) left) _ _ _ (condition_counted names p d (first + 1) left)
    (condition_counted names p d (after_condition (first + 1) left) right))
condition_counted names p d first (disjunction left right) =
    up_to_more first _ _ (up_to_both (first + 1) (after_condition (first + 1) left) _ _ _ (condition_counted names p d (first + 1) left)
    (condition_counted names p d (after_condition (first + 1) left) right))
condition_counted names p d first (settled answer) = up_to_one first
condition_counted names p d first (sure answer side) = condition_counted names p d first side

mutual
  -- and those of a statement
  statement_counted : (names legs : List (List ℕ)) (p d first : ℕ) (statement : Statement)
      → AreUpTo first (after_statement first statement) (step_places (numbered_statement names legs p d first statement))
  statement_counted names legs p d first (assign name number) = number_counted names p d first number
  statement_counted names legs p d first (pay leg number) = number_counted names p d first number
  statement_counted names legs p d first (choose condition yes_part no_part) =
      up_to_both first (after_condition first condition) _ _ _ (condition_counted names p d first condition)
      (up_to_both (after_condition first condition) (after_body (after_condition first condition) yes_part) _ _ _
      (body_counted names legs p d (after_condition first condition) yes_part)
      (body_counted names legs p d (after_body (after_condition first condition) yes_part) no_part))
  statement_counted names legs p d first (group body) = body_counted names legs p d first body

  -- and those of a body
  pub body_counted : (names legs : List (List ℕ)) (p d first : ℕ) (body : Body)
      → AreUpTo first (after_body first body) (steps_places (numbered_body names legs p d first body))
  body_counted names legs p d first done = up_to_none first
  body_counted names legs p d first (next statement rest) =
      up_to_both first (after_statement first statement) _ _ _ (statement_counted names legs p d first statement)
      (body_counted names legs p d (after_statement first statement) rest)

-- a test of two lists holds of both together
pub all_both : {A : Type 0} (test : A → Bool) (xs ys : List A) → list_all test xs ≡ true → list_all test ys ≡ true → list_all test (xs ++ ys) ≡ true
all_both test xs ys one two = list_all-append test xs ys ∙ and_from (list_all test xs) (list_all test ys) one two

-- a name that is one of these has a number below their count
own_below : (names : List (List ℕ)) (name : List ℕ) → is_one_of names name ≡ true → nat_lt (number_in names name) (length names) ≡ true
own_below names name own = let there = (stands_there names name own).0 in grind (arith, nat_tests)

-- the parts of a number whose variables are among the names are plain
number_plain : (names : List (List ℕ)) (legs p d first : ℕ) (number : Number) → use_own as_variable names (number_parts number) ≡ true
    → list_all (is_plain (length names) legs) (parts_of_number (numbered_number names p d first number)) ≡ true
number_plain names legs p d first (literal raw) own = refl
number_plain names legs p d first (variable name) own =
    and_from _ true (own_below names name (and_parts (is_one_of names name) true own).0) refl
number_plain names legs p d first spot own = refl
number_plain names legs p d first period own = refl
number_plain names legs p d first days own = refl
number_plain names legs p d first (negative side) own = number_plain names legs p d (first + 1) side own
number_plain names legs p d first (absolute side) own = number_plain names legs p d (first + 1) side own
number_plain names legs p d first (binary op left right) own =
    let each = own_parts as_variable names (number_parts left) (number_parts right) own in
    all_both (is_plain (length names) legs) (parts_of_number (numbered_number names p d (first + 1) left))
    (parts_of_number (numbered_number names p d (after_number (first + 1) left) right)) (number_plain names legs p d (first + 1) left each.0)
    (number_plain names legs p d (after_number (first + 1) left) right each.1)

-- and those of a condition
condition_plain : (names : List (List ℕ)) (legs p d first : ℕ) (condition : Condition) → use_own as_variable names (condition_parts condition) ≡ true
    → list_all (is_plain (length names) legs) (parts_of_test (numbered_condition names p d first condition)) ≡ true
condition_plain names legs p d first (compare op left right note) own =
    let each = own_parts as_variable names (number_parts left) (number_parts right) own in
    all_both (is_plain (length names) legs) (parts_of_number (numbered_number names p d (first + 1) left))
    (parts_of_number (numbered_number names p d (after_number (first + 1) left) right)) (number_plain names legs p d (first + 1) left each.0)
    (number_plain names legs p d (after_number (first + 1) left) right each.1)
condition_plain names legs p d first (negation side) own = condition_plain names legs p d (first + 1) side own
condition_plain names legs p d first (conjunction left right) own =
    let each = own_parts as_variable names (condition_parts left) (condition_parts right) own in
    all_both (is_plain (length names) legs) (parts_of_test (numbered_condition names p d (first + 1) left))
    (parts_of_test (numbered_condition names p d (after_condition (first + 1) left) right)) (condition_plain names legs p d (first + 1) left each.0)
    (condition_plain names legs p d (after_condition (first + 1) left) right each.1)
condition_plain names legs p d first (disjunction left right) own =
    let each = own_parts as_variable names (condition_parts left) (condition_parts right) own in
    all_both (is_plain (length names) legs) (parts_of_test (numbered_condition names p d (first + 1) left))
    (parts_of_test (numbered_condition names p d (after_condition (first + 1) left) right)) (condition_plain names legs p d (first + 1) left each.0)
    (condition_plain names legs p d (after_condition (first + 1) left) right each.1)
condition_plain names legs p d first (settled answer) own = refl
condition_plain names legs p d first (sure answer side) own = condition_plain names legs p d first side own

mutual
  -- and those of a statement that is written, whose legs are among the legs
  statement_plain : (names legs : List (List ℕ)) (p d first : ℕ) (statement : Statement) → use_own as_variable names (statement_parts statement) ≡ true
      → use_own as_leg legs (statement_parts statement) ≡ true → is_written_statement statement ≡ true
      → list_all (is_plain (length names) (length legs)) (parts_of_step (numbered_statement names legs p d first statement)) ≡ true
  statement_plain names legs p d first (assign name number) own own_legs written =
      let each = and_parts (is_one_of names name) (use_own as_variable names (number_parts number)) own in
      and_from _ _ (own_below names name each.0) (number_plain names (length legs) p d first number each.1)
  statement_plain names legs p d first (pay leg number) own own_legs written =
      let each = and_parts (is_one_of legs leg) (use_own as_leg legs (number_parts number)) own_legs in
      and_from _ _ (own_below legs leg each.0) (number_plain names (length legs) p d first number own)
  statement_plain names legs p d first (choose condition yes_part no_part) own own_legs written =
      let here = own_parts as_variable names (condition_parts condition) (body_parts yes_part ++ body_parts no_part) own in
      let each = own_parts as_variable names (body_parts yes_part) (body_parts no_part) here.1 in
      let legs_here = own_parts as_leg legs (condition_parts condition) (body_parts yes_part ++ body_parts no_part) own_legs in
      let legs_each = own_parts as_leg legs (body_parts yes_part) (body_parts no_part) legs_here.1 in
      let forms = and_parts (is_written_condition condition && is_written yes_part) (is_written no_part) written in
      let front = and_parts (is_written_condition condition) (is_written yes_part) forms.0 in
      let between = after_condition first condition in
      let plain_part = is_plain (length names) (length legs) in
      let yes_steps = parts_of_steps (numbered_body names legs p d between yes_part) in
      let no_steps = parts_of_steps (numbered_body names legs p d (after_body between yes_part) no_part) in
      all_both plain_part (parts_of_test (numbered_condition names p d first condition)) (yes_steps ++ no_steps)
      (condition_plain names (length legs) p d first condition here.0)
      (all_both plain_part yes_steps no_steps (body_plain names legs p d between yes_part each.0 legs_each.0 front.1)
      (body_plain names legs p d (after_body between yes_part) no_part each.1 legs_each.1 forms.1))
  statement_plain names legs p d first (group body) own own_legs written = cc

  -- and those of a body
  pub body_plain : (names legs : List (List ℕ)) (p d first : ℕ) (body : Body) → use_own as_variable names (body_parts body) ≡ true
      → use_own as_leg legs (body_parts body) ≡ true → is_written body ≡ true
      → list_all (is_plain (length names) (length legs)) (parts_of_steps (numbered_body names legs p d first body)) ≡ true
  body_plain names legs p d first done own own_legs written = refl
  body_plain names legs p d first (next statement rest) own own_legs written =
      let each = own_parts as_variable names (statement_parts statement) (body_parts rest) own in
      let legs_each = own_parts as_leg legs (statement_parts statement) (body_parts rest) own_legs in
      let both = and_parts (is_written_statement statement) (is_written rest) written in
      all_both (is_plain (length names) (length legs)) (parts_of_step (numbered_statement names legs p d first statement))
      (parts_of_steps (numbered_body names legs p d (after_statement first statement) rest))
      (statement_plain names legs p d first statement each.0 legs_each.0 both.0)
      (body_plain names legs p d (after_statement first statement) rest each.1 legs_each.1 both.1)

-- two lists are marked alike where their fronts and their rests are
marks_of_both : {A B : Type 0} (f : A → Bool) (g : B → Bool) (xs ys : List A) (us vs : List B) → map f xs ≡ map g us → map f ys ≡ map g vs
    → map f (xs ++ ys) ≡ map g (us ++ vs)
marks_of_both f g xs ys us vs one two = map-append f xs ys ∙ ap (λ front. front ++ map f ys) one ∙ ap (λ back. map g us ++ back) two ∙ sym (map-append g us vs)

-- one part more that is no payment
more_marks : (old new : List Bool) → old ≡ new → ◌≡◌ {A = List Bool} (false ∷ old) (false ∷ new)
more_marks old new same = ap (λ rest. false ∷ rest) same

-- the parts of a number are as many, and no payments
number_marks : (names : List (List ℕ)) (p d first : ℕ) (number : Number)
    → map is_paying (parts_of_number (numbered_number names p d first number)) ≡ map is_payment (number_parts number)
number_marks names p d first (literal raw) = refl
number_marks names p d first (variable name) = refl
number_marks names p d first spot = refl
number_marks names p d first period = refl
number_marks names p d first days = refl
number_marks names p d first (negative side) = more_marks _ _ (number_marks names p d (first + 1) side)
number_marks names p d first (absolute side) = more_marks _ _ (number_marks names p d (first + 1) side)
number_marks names p d first (binary op left right) =
    more_marks _ _ (marks_of_both is_paying is_payment (parts_of_number (numbered_number names p d (first + 1) left)) _ (number_parts left) _
    (number_marks names p d (first + 1) left) (number_marks names p d (after_number (first + 1) left) right))

-- and those of a condition that is written
condition_marks : (names : List (List ℕ)) (p d first : ℕ) (condition : Condition) → is_written_condition condition ≡ true
    → map is_paying (parts_of_test (numbered_condition names p d first condition)) ≡ map is_payment (condition_parts condition)
condition_marks names p d first (compare op left right note) written =
    more_marks _ _ (marks_of_both is_paying is_payment (parts_of_number (numbered_number names p d (first + 1) left)) _ (number_parts left) _
    (number_marks names p d (first + 1) left) (number_marks names p d (after_number (first + 1) left) right))
condition_marks names p d first (negation side) written = more_marks _ _ (condition_marks names p d (first + 1) side written)
condition_marks names p d first (conjunction left right) written =
    let both = and_parts (is_written_condition left) (is_written_condition right) written in
    more_marks _ _ (marks_of_both is_paying is_payment (parts_of_test (numbered_condition names p d (first + 1) left)) _ (condition_parts left) _
    (condition_marks names p d (first + 1) left both.0) (condition_marks names p d (after_condition (first + 1) left) right both.1))
condition_marks names p d first (disjunction left right) written =
    let both = and_parts (is_written_condition left) (is_written_condition right) written in
    more_marks _ _ (marks_of_both is_paying is_payment (parts_of_test (numbered_condition names p d (first + 1) left)) _ (condition_parts left) _
    (condition_marks names p d (first + 1) left both.0) (condition_marks names p d (after_condition (first + 1) left) right both.1))
condition_marks names p d first (settled answer) written = cc
condition_marks names p d first (sure answer side) written = cc

mutual
  -- the parts of a statement that is written are as many, and payments where those of the statement are
  statement_marks : (names legs : List (List ℕ)) (p d first : ℕ) (statement : Statement) → is_written_statement statement ≡ true
      → map is_paying (parts_of_step (numbered_statement names legs p d first statement)) ≡ map is_payment (statement_parts statement)
  statement_marks names legs p d first (assign name number) written = more_marks _ _ (number_marks names p d first number)
  statement_marks names legs p d first (pay leg number) written = ap (λ (rest : List Bool). true ∷ rest) (number_marks names p d first number)
  statement_marks names legs p d first (choose condition yes_part no_part) written =
      let forms = and_parts (is_written_condition condition && is_written yes_part) (is_written no_part) written in
      let front = and_parts (is_written_condition condition) (is_written yes_part) forms.0 in
      let between = after_condition first condition in
      more_marks _ _ (marks_of_both is_paying is_payment (parts_of_test (numbered_condition names p d first condition)) _ (condition_parts condition) _
      (condition_marks names p d first condition front.0)
      (marks_of_both is_paying is_payment (parts_of_steps (numbered_body names legs p d between yes_part)) _ (body_parts yes_part) _
      (body_marks names legs p d between yes_part front.1) (body_marks names legs p d (after_body between yes_part) no_part forms.1)))
  statement_marks names legs p d first (group body) written = cc

  -- and those of a body
  pub body_marks : (names legs : List (List ℕ)) (p d first : ℕ) (body : Body) → is_written body ≡ true
      → map is_paying (parts_of_steps (numbered_body names legs p d first body)) ≡ map is_payment (body_parts body)
  body_marks names legs p d first done written = refl
  body_marks names legs p d first (next statement rest) written =
      let both = and_parts (is_written_statement statement) (is_written rest) written in
      marks_of_both is_paying is_payment (parts_of_step (numbered_statement names legs p d first statement)) _ (statement_parts statement) _
      (statement_marks names legs p d first statement both.0) (body_marks names legs p d (after_statement first statement) rest both.1)

-- a number has as many places as parts
number_within : (first : ℕ) (number : Number) → after_number first number ≡ first + length (number_parts number)
number_within first (literal raw) = refl
number_within first (variable name) = refl
number_within first spot = refl
number_within first period = refl
number_within first days = refl
number_within first (negative side) = let sides = number_within (first + 1) side in omega (arith, sides)
number_within first (absolute side) = let sides = number_within (first + 1) side in omega (arith, sides)
number_within first (binary op left right) =
    let one = number_within (first + 1) left in
    let two = number_within (after_number (first + 1) left) right in
    let count = length-append (number_parts left) (number_parts right) in
    omega (arith, one, two, count)

-- and so has a condition
condition_within : (first : ℕ) (condition : Condition) → after_condition first condition ≡ first + length (condition_parts condition)
condition_within first (compare op left right note) =
    let one = number_within (first + 1) left in
    let two = number_within (after_number (first + 1) left) right in
    let count = length-append (number_parts left) (number_parts right) in
    omega (arith, one, two, count)
condition_within first (negation side) = let sides = condition_within (first + 1) side in omega (arith, sides)
condition_within first (conjunction left right) =
    let one = condition_within (first + 1) left in
    let two = condition_within (after_condition (first + 1) left) right in
    let count = length-append (condition_parts left) (condition_parts right) in
    omega (arith, one, two, count)
condition_within first (disjunction left right) =
    let one = condition_within (first + 1) left in
    let two = condition_within (after_condition (first + 1) left) right in
    let count = length-append (condition_parts left) (condition_parts right) in
    omega (arith, one, two, count)
condition_within first (settled answer) = refl
condition_within first (sure answer side) = condition_within first side

mutual
  -- a statement has no more places than parts
  statement_within : (first : ℕ) (statement : Statement) → after_statement first statement ≤ first + length (statement_parts statement)
  statement_within first (assign name number) = let all = number_within first number in omega (arith, all)
  statement_within first (pay leg number) = let all = number_within first number in omega (arith, all)
  statement_within first (choose condition yes_part no_part) =
      let one = condition_within first condition in
      let two = body_within (after_condition first condition) yes_part in
      let three = body_within (after_body (after_condition first condition) yes_part) no_part in
      let count = length-append (condition_parts condition) (body_parts yes_part ++ body_parts no_part) in
      let branches = length-append (body_parts yes_part) (body_parts no_part) in
      omega (arith, one, two, three, count, branches)
  statement_within first (group body) = body_within first body

  -- and a body
  pub body_within : (first : ℕ) (body : Body) → after_body first body ≤ first + length (body_parts body)
  body_within first done = omega arith
  body_within first (next statement rest) =
      let one = statement_within first statement in
      let two = body_within (after_statement first statement) rest in
      let count = length-append (statement_parts statement) (body_parts rest) in
      omega (arith, one, two, count)
