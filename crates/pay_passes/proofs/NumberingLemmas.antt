-- What becomes of the forms of trees, and places that only grow.
use Rattle.std.proofs.Common.{◌≡◌, ℕ, ◌+◌, ◌≤◌, ◌<◌, suc, List, [], ◌∷◌, ◌++◌, length, get_or, drop, refl, sym, ap, ◌∙◌, arith, drop-cons}
use Rattle.std.proofs.lemmas.List.{drop_all}
use Rattle.pay_meaning.specs.Language.{Number, literal, variable, spot, period, days, negative, absolute, binary, Condition, compare, negation}
use Rattle.pay_meaning.specs.Language.{conjunction, disjunction, settled, sure, Statement, assign, pay, choose, group, Body, done, next}
use Rattle.pay_passes.specs.Numbering.{binary_of, compare_of, after_number, after_condition, after_statement, after_body, numbered_number}
use Rattle.pay_tree.specs.declared.tree.Binary.{Binary}
use Rattle.pay_tree.specs.declared.tree.Binary.TheVariants.{Add, Sub, Mul, Div, Min, Max}
use Rattle.pay_tree.specs.declared.tree.Unary.{Unary}
use Rattle.pay_tree.specs.declared.tree.Unary.TheVariants.{Neg, Abs}
use Rattle.pay_tree.specs.declared.tree.Compare.{Compare}
use Rattle.pay_tree.specs.declared.tree.Compare.TheVariants.{Less, LessEq, More, MoreEq, Same, Differs}
use Rattle.pay_tree.specs.Owned.{unary_at, StepTree, StepsTree, no_steps, step_then}
use Rattle.pay_tree.specs.OwnedViews.{steps_of}
use Rattle.pay_tree.specs.declared.tree.Stmt.{Stmt}
use Rattle.pay_tree.specs.Views.{operator, signed, comparison, statement, body}

-- an operator of a tree is that of the operator that it is
pub binary_back : (op : Binary) → binary_of (operator op) ≡ op
binary_back Add = refl
binary_back Sub = refl
binary_back Mul = refl
binary_back Div = refl
binary_back Min = refl
binary_back Max = refl

-- and so is a comparison
pub compare_back : (op : Compare) → compare_of (comparison op) ≡ op
compare_back Less = refl
compare_back LessEq = refl
compare_back More = refl
compare_back MoreEq = refl
compare_back Same = refl
compare_back Differs = refl

-- a number under an operator of a tree
pub numbered_signed : (op : Unary) (names : List (List ℕ)) (p d first : ℕ) (side : Number)
    → numbered_number names p d first (signed op side) ≡ unary_at first op (numbered_number names p d (first + 1) side)
numbered_signed Neg names p d first side = refl
numbered_signed Abs names p d first side = refl

pub after_signed : (op : Unary) (first : ℕ) (side : Number) → after_number first (signed op side) ≡ after_number (first + 1) side
after_signed Neg first side = refl
after_signed Abs first side = refl

-- the place after a number comes after its own
pub number_grows : (first : ℕ) (number : Number) → first ≤ after_number first number
number_grows first (literal raw) = omega arith
number_grows first (variable name) = omega arith
number_grows first spot = omega arith
number_grows first period = omega arith
number_grows first days = omega arith
number_grows first (negative side) = let grows = number_grows (first + 1) side in omega (arith, grows)
number_grows first (absolute side) = let grows = number_grows (first + 1) side in omega (arith, grows)
number_grows first (binary op left right) =
    let one = number_grows (first + 1) left in
    let two = number_grows (after_number (first + 1) left) right in
    omega (arith, one, two)

-- the same of a condition
pub condition_grows : (first : ℕ) (condition : Condition) → first ≤ after_condition first condition
condition_grows first (compare op left right note) =
    let one = number_grows (first + 1) left in
    let two = number_grows (after_number (first + 1) left) right in
    omega (arith, one, two)
condition_grows first (negation side) = let grows = condition_grows (first + 1) side in omega (arith, grows)
condition_grows first (conjunction left right) =
    let one = condition_grows (first + 1) left in
    let two = condition_grows (after_condition (first + 1) left) right in
    omega (arith, one, two)
condition_grows first (disjunction left right) =
    let one = condition_grows (first + 1) left in
    let two = condition_grows (after_condition (first + 1) left) right in
    omega (arith, one, two)
condition_grows first (settled answer) = omega arith
condition_grows first (sure answer side) = condition_grows first side

mutual
  -- the same of a statement
  pub statement_grows : (first : ℕ) (statement : Statement) → first ≤ after_statement first statement
  statement_grows first (assign name number) = number_grows first number
  statement_grows first (pay leg number) = number_grows first number
  statement_grows first (choose condition yes_part no_part) =
      let one = condition_grows first condition in
      let two = body_grows (after_condition first condition) yes_part in
      let three = body_grows (after_body (after_condition first condition) yes_part) no_part in
      omega (arith, one, two, three)
  statement_grows first (group body) = body_grows first body

  -- and of a body
  pub body_grows : (first : ℕ) (body : Body) → first ≤ after_body first body
  body_grows first done = omega arith
  body_grows first (next statement rest) =
      let one = statement_grows first statement in
      let two = body_grows (after_statement first statement) rest in
      omega (arith, one, two)

-- steps before others
abbrev pub before_steps : List StepTree → StepsTree → StepsTree
before_steps [] steps = steps
before_steps (first ∷ rest) steps = step_then first (before_steps rest steps)

-- one more step at the end of those before is the first of the others
pub one_more_before : (front : List StepTree) (step : StepTree) (rest : StepsTree)
    → before_steps (front ++ step ∷ []) rest ≡ before_steps front (step_then step rest)
one_more_before [] step rest = refl
one_more_before (first ∷ front) step rest = ap (step_then first) (one_more_before front step rest)

-- steps before none are all steps
pub before_none : (front : List StepTree) → before_steps front no_steps ≡ steps_of front
before_none [] = refl
before_none (first ∷ front) = ap (step_then first) (before_none front)

-- the first of the statements that are left, and those after it
pub body_next : (stmts items : List Stmt) (i : ℕ) (one : Stmt) → items ≡ stmts → i < length items → one ≡ get_or items i one
    → body (drop i stmts) ≡ next (statement one) (body (drop (i + 1) stmts))
body_next stmts items i one same less is =
    let one_more : suc i ≡ i + 1 = omega arith in
    ap (λ left. body (drop i left)) (sym same)
    ∙ ap body (drop-cons items i one less ∙ ap (λ first. first ∷ drop (suc i) items) (sym is) ∙ ap (λ n. one ∷ drop n items) one_more)
    ∙ ap (λ left. next (statement one) (body (drop (i + 1) left))) same

-- no statement is left
pub body_end : (stmts items : List Stmt) (i : ℕ) → items ≡ stmts → length items ≤ i → body (drop i stmts) ≡ done
body_end stmts items i same past = ap (λ left. body (drop i left)) (sym same) ∙ ap body (drop_all i items past)

-- the forms of trees, places that grow, and steps before others
pub ruleset numbering = (one_more_before, before_none, binary_back, compare_back, numbered_signed, after_signed, number_grows, condition_grows, statement_grows, body_grows)
