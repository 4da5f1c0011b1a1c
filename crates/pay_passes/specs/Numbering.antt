-- Bodies with their names by number, `period()` and `days()` as literals, and each number and condition with its place.
use Rattle.std.specs.Prelude.{◌≡◌, ℕ, ◌+◌, ◌<◌, suc, Bool, true, false, ◌&&◌, List, [], ◌∷◌, length, get_or, Some, None, if◌then◌else◌}
use Rattle.std.specs.Borrow.{Bor}
use Rattle.std.specs.BTreeMap.{BTreeMap, get_by}
use Rattle.std.specs.Cmp.Lexicographic.{slice_cmp}
use Rattle.std.specs.List.{list_all, list_any}
use Rattle.std.specs.Ordering.{nat_cmp}
use Rattle.std.specs.Str.{bytes_eq}
use Rattle.pay_meaning.specs.Language.{Operator, add, subtract, multiply, divide, least, greatest, Number, literal, variable, spot, period, days}
use Rattle.pay_meaning.specs.Language.{negative, absolute, binary, Comparison, less, at_most, greater, at_least, equals, differs, Note, bare, smoothed}
use Rattle.pay_meaning.specs.Language.{Condition, compare, negation, conjunction, disjunction, settled, sure, Statement, assign, pay, choose, group}
use Rattle.pay_meaning.specs.Language.{Body, done, next, Event}
use Rattle.pay_meaning.specs.Meaning.{whole}
use Rattle.pay_meaning.specs.Parts.{Part, Role, names_in, body_parts}
use Rattle.pay_tree.specs.declared.tree.Binary.{Binary}
use Rattle.pay_tree.specs.declared.tree.Binary.TheVariants.{Add, Sub, Mul, Div, Min, Max}
use Rattle.pay_tree.specs.declared.tree.Unary.TheVariants.{Neg, Abs}
use Rattle.pay_tree.specs.declared.tree.Compare.{Compare}
use Rattle.pay_tree.specs.declared.tree.Compare.TheVariants.{Less, LessEq, More, MoreEq, Same, Differs}
use Rattle.pay_tree.specs.Owned.{NumberTree, literal_at, slot_at, spot_at, unary_at, binary_at, TestTree, truth_at, compare_at, not_at, and_at}
use Rattle.pay_tree.specs.Owned.{or_at, StepTree, assigning, paying, choosing, grouping, StepsTree, no_steps, step_then, EventTree}

-- the number of a name: its place among these from 0, or how many they are where it is none of them
abbrev pub number_in : List (List ℕ) → List ℕ → ℕ
number_in [] name = 0
number_in (first ∷ rest) name = if bytes_eq first name then 0 else suc (number_in rest name)

-- a name is one of these
abbrev pub is_one_of : List (List ℕ) → List ℕ → Bool
is_one_of names name = list_any (λ other. bytes_eq other name) names

-- each of these names has its own place as its number
abbrev pub HaveOwnNumbers : List (List ℕ) → Type 0
HaveOwnNumbers names = (number : ℕ) → number < length names → number_in names (get_or names number []) ≡ number

-- a map of lent names has numbers that are the places of the names among these, and a name without a number is none of them
pub record AreNumbered (names : List (List ℕ)) (numbers : BTreeMap (Bor (List ℕ)) ℕ) : Type 0 where
  pub places : (name : List ℕ) (number : ℕ) → get_by (λ key. slice_cmp nat_cmp name key.now) numbers ≡ Some number
      → (number < length names) × (get_or names number [] ≡ name)
  pub others : (name : List ℕ) → get_by (λ key. slice_cmp nat_cmp name key.now) numbers ≡ None → is_one_of names name ≡ false

-- the operator of a tree that an operator is
abbrev pub binary_of : Operator → Binary
binary_of add = Add
binary_of subtract = Sub
binary_of multiply = Mul
binary_of divide = Div
binary_of least = Min
binary_of greatest = Max

-- the comparison of a tree that a comparison is
abbrev pub compare_of : Comparison → Compare
compare_of less = Less
compare_of at_most = LessEq
compare_of greater = More
compare_of at_least = MoreEq
compare_of equals = Same
compare_of differs = Differs

-- the place after those of a number, where its own is this one
abbrev pub after_number : ℕ → Number → ℕ
after_number first (negative side) = after_number (first + 1) side
after_number first (absolute side) = after_number (first + 1) side
after_number first (binary op left right) = after_number (after_number (first + 1) left) right
after_number first number = first + 1

-- a number with its places from this one on, where the variables have these names, and `period()` and `days()` are these
abbrev pub numbered_number : List (List ℕ) → ℕ → ℕ → ℕ → Number → NumberTree
numbered_number names p d first (literal raw) = literal_at first raw
numbered_number names p d first (variable name) = slot_at first (number_in names name)
numbered_number names p d first spot = spot_at first
numbered_number names p d first period = literal_at first (whole p)
numbered_number names p d first days = literal_at first (whole d)
numbered_number names p d first (negative side) = unary_at first Neg (numbered_number names p d (first + 1) side)
numbered_number names p d first (absolute side) = unary_at first Abs (numbered_number names p d (first + 1) side)
numbered_number names p d first (binary op left right) =
    binary_at first (binary_of op) (numbered_number names p d (first + 1) left) (numbered_number names p d (after_number (first + 1) left) right)

-- the place after those of a condition and its numbers
abbrev pub after_condition : ℕ → Condition → ℕ
after_condition first (compare op left right note) = after_number (after_number (first + 1) left) right
after_condition first (negation side) = after_condition (first + 1) side
after_condition first (conjunction left right) = after_condition (after_condition (first + 1) left) right
after_condition first (disjunction left right) = after_condition (after_condition (first + 1) left) right
after_condition first (settled answer) = first + 1
after_condition first (sure answer side) = after_condition first side

-- a condition with its places from this one on
abbrev pub numbered_condition : List (List ℕ) → ℕ → ℕ → ℕ → Condition → TestTree
numbered_condition names p d first (compare op left right note) =
    compare_at first None (compare_of op) (numbered_number names p d (first + 1) left) (numbered_number names p d (after_number (first + 1) left) right) None
numbered_condition names p d first (negation side) = not_at first None (numbered_condition names p d (first + 1) side)
numbered_condition names p d first (conjunction left right) =
    and_at first None (numbered_condition names p d (first + 1) left) (numbered_condition names p d (after_condition (first + 1) left) right)
numbered_condition names p d first (disjunction left right) =
    or_at first None (numbered_condition names p d (first + 1) left) (numbered_condition names p d (after_condition (first + 1) left) right)
numbered_condition names p d first (settled answer) = truth_at first None answer
numbered_condition names p d first (sure answer side) = numbered_condition names p d first side

abbrev mutual
  -- the place after those of a statement's numbers and conditions, where the first of them is this one
  pub after_statement : ℕ → Statement → ℕ
  after_statement first (assign name number) = after_number first number
  after_statement first (pay leg number) = after_number first number
  after_statement first (choose condition yes_part no_part) = after_body (after_body (after_condition first condition) yes_part) no_part
  after_statement first (group body) = after_body first body

  -- the place after those of a body
  pub after_body : ℕ → Body → ℕ
  after_body first done = first
  after_body first (next statement rest) = after_body (after_statement first statement) rest

abbrev mutual
  -- a statement with the places of its numbers and conditions from this one on, where the variables and the legs have these names
  pub numbered_statement : List (List ℕ) → List (List ℕ) → ℕ → ℕ → ℕ → Statement → StepTree
  numbered_statement names legs p d first (assign name number) = assigning (number_in names name) (numbered_number names p d first number)
  numbered_statement names legs p d first (pay leg number) = paying (number_in legs leg) (numbered_number names p d first number)
  numbered_statement names legs p d first (choose condition yes_part no_part) =
      choosing (numbered_condition names p d first condition) (numbered_body names legs p d (after_condition first condition) yes_part)
      (numbered_body names legs p d (after_body (after_condition first condition) yes_part) no_part) []
  numbered_statement names legs p d first (group body) = grouping (numbered_body names legs p d first body)

  -- the statements of a body so, one after the other
  pub numbered_body : List (List ℕ) → List (List ℕ) → ℕ → ℕ → ℕ → Body → StepsTree
  numbered_body names legs p d first done = no_steps
  numbered_body names legs p d first (next statement rest) =
      step_then (numbered_statement names legs p d first statement) (numbered_body names legs p d (after_statement first statement) rest)

-- an event with its places from 0 on, and its own period and days as literals
abbrev pub numbered_event : List (List ℕ) → List (List ℕ) → Event → EventTree
numbered_event names legs event =
    record { date = event.date; period = event.period; days = event.days; steps = numbered_body names legs event.period event.days 0 event.body }

-- a comparison carries nothing
abbrev pub is_bare : Note → Bool
is_bare bare = true
is_bare (smoothed smooth) = false

-- a condition has none of the forms that no script has
abbrev pub is_written_condition : Condition → Bool
is_written_condition (compare op left right note) = is_bare note
is_written_condition (negation side) = is_written_condition side
is_written_condition (conjunction left right) = is_written_condition left && is_written_condition right
is_written_condition (disjunction left right) = is_written_condition left && is_written_condition right
is_written_condition (settled answer) = false
is_written_condition (sure answer side) = false

abbrev mutual
  -- a statement has none of these forms
  pub is_written_statement : Statement → Bool
  is_written_statement (assign name number) = true
  is_written_statement (pay leg number) = true
  is_written_statement (choose condition yes_part no_part) = is_written_condition condition && is_written yes_part && is_written no_part
  is_written_statement (group body) = false

  -- the statements of a body have none of these forms
  pub is_written : Body → Bool
  is_written done = true
  is_written (next statement rest) = is_written_statement statement && is_written rest

-- the statements of events have none of these forms
abbrev pub are_written : List Event → Bool
are_written events = list_all (λ event. is_written event.body) events

-- the names that parts use so are among these
abbrev pub use_own : Role → List (List ℕ) → List Part → Bool
use_own role names parts = list_all (is_one_of names) (names_in role parts)

-- the names that events use so are among these
abbrev pub events_use_own : Role → List (List ℕ) → List Event → Bool
events_use_own role names events = list_all (λ event. use_own role names (body_parts event.body)) events
