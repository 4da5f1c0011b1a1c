-- The parts of a script in the order of the text: its statements, and the conditions and the numbers in them; and the names that they use.
use Rattle.std.specs.Prelude.{ℕ, Bool, true, false, not, List, [], ◌∷◌, ◌++◌, length, filter, Option, Some, None}
use Rattle.std.specs.List.{flat_map}
use Rattle.std.specs.Str.{bytes_eq}
use Rattle.pay_meaning.specs.Language.{Number, literal, variable, spot, period, days, negative, absolute, binary, Condition, compare, negation}
use Rattle.pay_meaning.specs.Language.{conjunction, disjunction, settled, sure, Statement, assign, pay, choose, group, Body, done, next}
use Rattle.pay_meaning.specs.Language.{Event, Item, plain, scheduled, Script}

-- a part of a script: a statement, a condition of one, or a number of one
pub data Part : Type 0 where
  a_number : Number → Part
  a_condition : Condition → Part
  a_statement : Statement → Part

-- a number, and then the parts of its sides from left to right
abbrev pub number_parts : Number → List Part
number_parts (literal raw) = a_number (literal raw) ∷ []
number_parts (variable name) = a_number (variable name) ∷ []
number_parts spot = a_number spot ∷ []
number_parts period = a_number period ∷ []
number_parts days = a_number days ∷ []
number_parts (negative side) = a_number (negative side) ∷ number_parts side
number_parts (absolute side) = a_number (absolute side) ∷ number_parts side
number_parts (binary op left right) = a_number (binary op left right) ∷ (number_parts left ++ number_parts right)

-- a condition, and then the parts of its sides from left to right; one that is sure is no part beside the one that it asks
abbrev pub condition_parts : Condition → List Part
condition_parts (compare op left right note) = a_condition (compare op left right note) ∷ (number_parts left ++ number_parts right)
condition_parts (negation side) = a_condition (negation side) ∷ condition_parts side
condition_parts (conjunction left right) = a_condition (conjunction left right) ∷ (condition_parts left ++ condition_parts right)
condition_parts (disjunction left right) = a_condition (disjunction left right) ∷ (condition_parts left ++ condition_parts right)
condition_parts (settled answer) = a_condition (settled answer) ∷ []
condition_parts (sure answer side) = condition_parts side

abbrev mutual
  -- a statement, and then the parts of its number, or of its condition and its branches; a group is no part beside its statements
  pub statement_parts : Statement → List Part
  statement_parts (assign name number) = a_statement (assign name number) ∷ number_parts number
  statement_parts (pay leg number) = a_statement (pay leg number) ∷ number_parts number
  statement_parts (choose condition yes_part no_part) =
      a_statement (choose condition yes_part no_part) ∷ (condition_parts condition ++ (body_parts yes_part ++ body_parts no_part))
  statement_parts (group body) = body_parts body

  pub body_parts : Body → List Part
  body_parts done = []
  body_parts (next statement rest) = statement_parts statement ++ body_parts rest

abbrev pub item_parts : Item → List Part
item_parts (plain date body) = body_parts body
item_parts (scheduled terms body) = body_parts body

-- the parts of a script, in the order of the text
abbrev pub script_parts : Script → List Part
script_parts script = flat_map item_parts script

-- the parts of events, one event after the other: statements that stand in several events are counted in each
abbrev pub event_parts : List Event → List Part
event_parts events = flat_map (λ event. body_parts event.body) events

-- a part that is a payment
abbrev pub is_payment : Part → Bool
is_payment (a_statement (pay leg number)) = true
is_payment part = false

-- how many payments there are among parts
abbrev pub payment_count : List Part → ℕ
payment_count parts = length (filter is_payment parts)

-- what a name is used for: a variable is assigned or read, a leg is paid
pub data Role : Type 0 where
  as_variable : Role
  as_leg : Role

-- the name that a part itself uses so, if it does
abbrev pub name_in : Role → Part → Option (List ℕ)
name_in as_variable (a_number (variable name)) = Some name
name_in as_variable (a_statement (assign name number)) = Some name
name_in as_variable part = None
name_in as_leg (a_statement (pay leg number)) = Some leg
name_in as_leg part = None

-- a list with this before it, where there is one
abbrev pub with_name : Option (List ℕ) → List (List ℕ) → List (List ℕ)
with_name None names = names
with_name (Some name) names = name ∷ names

-- the names that parts use so, in the order of the text, as often as they do
abbrev pub names_in : Role → List Part → List (List ℕ)
names_in role [] = []
names_in role (part ∷ rest) = with_name (name_in role part) (names_in role rest)

-- names, each at its first place alone
abbrev pub each_once : List (List ℕ) → List (List ℕ)
each_once [] = []
each_once (name ∷ rest) = name ∷ filter (λ other. not (bytes_eq name other)) (each_once rest)

-- the names that a script uses so, by their first appearance in its text
abbrev pub names_of : Role → Script → List (List ℕ)
names_of role script = each_once (names_in role (script_parts script))
