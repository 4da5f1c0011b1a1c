-- The script of tokens, by reading them one at a time: what is open, what is awaited, and which tokens lead on.
use Rattle.std.specs.Prelude.{ℕ, zero, suc, ◌/◌, ◌%◌, ◌==◌, ℤ, pos, negsuc, Bool, true, false, not, List, [], ◌∷◌, ◌++◌, Option, Some, None}
use Rattle.std.specs.Prelude.{Result, Ok, Err, if◌then◌else◌}
use Rattle.std.specs.List.{list_all}
use Rattle.std.specs.Option.{option_map, option_and_then}
use Rattle.std.specs.Str.{bytes_eq}
use Rattle.pay_dates.specs.declared.day.Day.{Day}
use Rattle.pay_dates.specs.declared.roll.Rule.{Rule}
use Rattle.pay_dates.specs.declared.roll.Rule.TheVariants as rules
use Rattle.pay_dates.specs.declared.roll.Unit.{Unit as StepUnit}
use Rattle.pay_dates.specs.declared.roll.Unit.TheVariants as units
use Rattle.pay_fixed.specs.declared.NumberFault.{NumberFault}
use Rattle.pay_fixed.specs.Decimal.{decimal_in}
use Rattle.pay_lexer.specs.declared.token.Key.TheVariants.{Schedule, From, To, Every, Following, Preceding, Modified, Do, End}
use Rattle.pay_lexer.specs.declared.token.Key.TheVariants.{If, Then, Else, Endif, Pays, Min, Max, Abs, Spot, Period, Days, Not, And, Or}
use Rattle.pay_lexer.specs.declared.token.Sign.TheVariants.{Plus, Minus, Star, Slash, ParenLeft, ParenRight, Comma, Semicolon, Equals, Differs}
use Rattle.pay_lexer.specs.declared.token.Sign.TheVariants.{Less, LessEq, More, MoreEq}
use Rattle.pay_lexer.specs.declared.token.TokenKind.{TokenKind}
use Rattle.pay_lexer.specs.declared.token.TokenKind.TheVariants as token
use Rattle.pay_meaning.specs.Language.{Operator, add, subtract, multiply, divide, least, greatest, Number, literal, variable, spot, period, days}
use Rattle.pay_meaning.specs.Language.{negative, absolute, binary, Comparison, less, at_most, greater, at_least, equals, differs, bare, Condition}
use Rattle.pay_meaning.specs.Language.{compare, negation, conjunction, disjunction, Statement, assign, pay, choose, Body, done, and_then, Terms}
use Rattle.pay_meaning.specs.Language.{plain, scheduled, Script}
use Rattle.pay_meaning.specs.Words.{is_name, unit_word}

-- what a statement does with its number: it gives it to a variable, or pays it to a leg
pub data Head : Type 0 where
  assigns : List ℕ → Head
  pays : List ℕ → Head

-- what stands left of a term in its number: nothing, or a number and `+`, or a number and `-`
pub data Sum : Type 0 where
  no_sum : Sum
  sum_plus : Number → Sum
  sum_minus : Number → Sum

-- what stands left of a factor in its term: nothing, or a term and `*`, or a term and `/`
pub data Product : Type 0 where
  no_product : Product
  product_times : Number → Product
  product_over : Number → Product

-- what stands left of an atom: the sum, the product, and how many minus signs
pub data Before : Type 0 where
  before : Sum → Product → ℕ → Before

-- what stands left of a comparison in its condition: a condition and `or`, if they do; a condition and `and`, if they do; and how many `not`s
pub data Logic : Type 0 where
  a_logic : Option Condition → Option Condition → ℕ → Logic

-- what opened a condition: an `if`, or a bracket that stands where a comparison may begin, which may turn out to be that of a number
pub data Opening : Type 0 where
  of_if : Opening
  of_bracket : Opening

-- What statements belong to: an item on a date; a schedule; the first branch of an `if` with this condition; or its second, with that and the
-- first branch.
pub data Owner : Type 0 where
  of_item : Day → Owner
  of_schedule : Terms → Owner
  of_yes : Condition → Owner
  of_no : Condition → Body → Owner

-- What is open: the script with its items so far; statements so far; a statement that awaits its number; a condition, by what opened it, with
-- what stands left of a comparison in it; a comparison that awaits its right number; a bracket of numbers, of `abs`, or of `min` or `max` with
-- the number that its arguments so far give.
pub data Frame : Type 0 where
  a_script : Script → Frame
  a_body : Owner → Body → Frame
  a_statement : Head → Frame
  a_condition : Opening → Logic → Frame
  a_comparison : Comparison → Number → Frame
  a_bracket : Before → Frame
  an_absolute : Before → Frame
  an_extreme : Operator → Before → Option Number → Frame

-- What is awaited in the terms of a schedule, after what is read of them: `from`, the first date, `to`, the last date, `every`, the count, the
-- unit, a rule or `do`, and `do`.
pub data Heading : Type 0 where
  from_next : Heading
  first_next : Heading
  to_next : Day → Heading
  last_next : Day → Heading
  every_next : Day → Day → Heading
  count_next : Day → Day → Heading
  unit_next : Day → Day → ℕ → Heading
  rule_next : Day → Day → ℕ → StepUnit → Heading
  do_next : Terms → Heading

-- What is awaited: a statement or an item; a word, a date or a count in the terms of a schedule; a statement, an item or a `;`, after `endif`; what
-- follows the name that begins a statement; a factor; what follows a factor, which ends this term after this sum; what follows this condition in
-- brackets; the bracket that opens this frame; the two brackets after a word that stands for this number.
pub data Mode : Type 0 where
  free : Mode
  heading : Heading → Mode
  after_endif : Mode
  named : List ℕ → Mode
  factor_next : Before → Mode
  after : Sum → Number → Mode
  after_condition : Condition → Mode
  bracket_next : Frame → Mode
  call_named : Number → Before → Mode
  call_opened : Number → Before → Mode

-- a place in a script: what is open, the innermost first, and what is awaited
pub data State : Type 0 where
  state : List Frame → Mode → State

-- before a script
abbrev pub start : State
start = state (a_script [] ∷ []) free

-- left of the first atom of a number
abbrev pub fresh : Before
fresh = before no_sum no_product 0

-- the number that a term ends, from what stands left of it
abbrev pub summed : Sum → Number → Number
summed no_sum term = term
summed (sum_plus left) term = binary add left term
summed (sum_minus left) term = binary subtract left term

-- the term that a factor ends, from what stands left of it
abbrev pub multiplied : Product → Number → Number
multiplied no_product factor = factor
multiplied (product_times left) factor = binary multiply left factor
multiplied (product_over left) factor = binary divide left factor

-- an atom with so many minus signs before it
abbrev pub signed_by : ℕ → Number → Number
signed_by zero atom = atom
signed_by (suc n) atom = signed_by n (negative atom)

-- after an atom
abbrev pub arrived : List Frame → Before → Number → State
arrived frames (before sum product signs) atom = state frames (after sum (multiplied product (signed_by signs atom)))

-- the statement with this number
abbrev pub headed : Head → Number → Statement
headed (assigns name) number = assign name number
headed (pays leg) number = pay leg number

-- left of the first comparison of a condition
abbrev pub no_logic : Logic
no_logic = a_logic None None 0

-- a comparison with so many `not`s before it
abbrev pub negated_by : ℕ → Condition → Condition
negated_by zero c = c
negated_by (suc n) c = negated_by n (negation c)

-- the conjunction that a condition ends, from the conditions left of it
abbrev pub conjoined : Option Condition → Condition → Condition
conjoined None c = c
conjoined (Some left) c = conjunction left c

-- the condition that a conjunction ends
abbrev pub disjoined : Option Condition → Condition → Condition
disjoined None c = c
disjoined (Some left) c = disjunction left c

-- the condition that a comparison ends
abbrev pub condition_of : Logic → Condition → Condition
condition_of (a_logic ors ands nots) c = disjoined ors (conjoined ands (negated_by nots c))

-- left of the next comparison after `and`, after `or` and after `not`
abbrev pub with_and : Logic → Condition → Logic
with_and (a_logic ors ands nots) c = a_logic ors (Some (conjoined ands (negated_by nots c))) 0

abbrev pub with_or : Logic → Condition → Logic
with_or (a_logic ors ands nots) c = a_logic (Some (disjoined ors (conjoined ands (negated_by nots c)))) None 0

abbrev pub with_not : Logic → Logic
with_not (a_logic ors ands nots) = a_logic ors ands (suc nots)

-- what is open, with one more statement among those that are
abbrev pub with_statement : List Frame → Statement → Option (List Frame)
with_statement (a_body owner body ∷ rest) statement = Some (a_body owner (and_then body statement) ∷ rest)
with_statement frames statement = None

-- what is open after the statement that this number ends
abbrev pub ended : List Frame → Number → Option (List Frame)
ended (a_statement head ∷ rest) number = with_statement rest (headed head number)
ended frames number = None

-- what is open after the `if` that ends here
abbrev pub chosen : List Frame → Option (List Frame)
chosen (a_body (of_yes c) body ∷ rest) = with_statement rest (choose c body done)
chosen (a_body (of_no c first) body ∷ rest) = with_statement rest (choose c first body)
chosen frames = None

-- the script that may end between statements
abbrev pub closed : List Frame → Option Script
closed (a_script items ∷ []) = Some items
closed (a_body (of_item date) body ∷ a_script items ∷ []) = Some (items ++ plain date body ∷ [])
closed frames = None

-- after the date of a new item
abbrev pub dated : Day → Script → State
dated date items = state (a_body (of_item date) done ∷ a_script items ∷ []) free

-- after `schedule`
abbrev pub step_schedule : List Frame → Option State
step_schedule frames = option_map (λ items. state (a_script items ∷ []) (heading from_next)) (closed frames)

-- after `end`, which ends a schedule
abbrev pub step_end : List Frame → Option State
step_end (a_body (of_schedule terms) body ∷ a_script items ∷ []) = Some (state (a_script (items ++ scheduled terms body ∷ []) ∷ []) free)
step_end frames = None

-- the count that a raw is, if it is a whole one
abbrev pub whole_of : ℤ → Option ℕ
whole_of (pos raw) = if raw % 10_000 == 0 then Some (raw / 10_000) else None
whole_of (negsuc n) = None

-- the count that was read of a number token
abbrev pub counted : Result ℤ NumberFault → Option ℕ
counted (Ok raw) = whole_of raw
counted (Err fault) = None

-- the count that a number token without a point is
abbrev pub count_in : List ℕ → Option ℕ
count_in digits = if list_all (λ byte. not (byte == 46)) digits then counted (decimal_in digits) else None

-- the unit that a word stands for
abbrev pub unit_in : List ℕ → Option StepUnit
unit_in word =
    if bytes_eq word (unit_word units.Days) then Some units.Days else (if bytes_eq word (unit_word units.Weeks) then Some units.Weeks
    else (if bytes_eq word (unit_word units.Months) then Some units.Months else (if bytes_eq word (unit_word units.Years) then Some units.Years else None)))

-- the terms of a schedule, by its parts
abbrev pub terms_of : Day → Day → ℕ → StepUnit → Rule → Terms
terms_of first last every unit rule = record { first = first; last = last; every = every; unit = unit; rule = rule }

-- before the first statement of a schedule
abbrev pub begun : List Frame → Terms → State
begun frames terms = state (a_body (of_schedule terms) done ∷ frames) free

-- in the terms of a schedule
abbrev pub step_heading : List Frame → Heading → TokenKind → Option State
step_heading frames from_next (token.Key From) = Some (state frames (heading first_next))
step_heading frames first_next (token.Date first) = Some (state frames (heading (to_next first)))
step_heading frames (to_next first) (token.Key To) = Some (state frames (heading (last_next first)))
step_heading frames (last_next first) (token.Date last) = Some (state frames (heading (every_next first last)))
step_heading frames (every_next first last) (token.Key Every) = Some (state frames (heading (count_next first last)))
step_heading frames (count_next first last) (token.Number digits) = option_map (λ every. state frames (heading (unit_next first last every))) (count_in digits)
step_heading frames (unit_next first last every) (token.Word letters) =
    option_map (λ unit. state frames (heading (rule_next first last every unit))) (unit_in letters)
step_heading frames (rule_next first last every unit) (token.Key Following) =
    Some (state frames (heading (do_next (terms_of first last every unit rules.Following))))
step_heading frames (rule_next first last every unit) (token.Key Preceding) =
    Some (state frames (heading (do_next (terms_of first last every unit rules.Preceding))))
step_heading frames (rule_next first last every unit) (token.Key Modified) =
    Some (state frames (heading (do_next (terms_of first last every unit rules.Modified))))
step_heading frames (rule_next first last every unit) (token.Key Do) = Some (begun frames (terms_of first last every unit rules.Stay))
step_heading frames (do_next terms) (token.Key Do) = Some (begun frames terms)
step_heading frames awaited t = None

-- after the word that begins a statement, which is a name
abbrev pub step_word : List Frame → List ℕ → Option State
step_word (a_body owner body ∷ rest) letters = if is_name letters then Some (state (a_body owner body ∷ rest) (named letters)) else None
step_word frames letters = None

-- after `if`
abbrev pub step_if : List Frame → Option State
step_if (a_body owner body ∷ rest) = Some (state (a_condition of_if no_logic ∷ a_body owner body ∷ rest) (factor_next fresh))
step_if frames = None

-- after `else`
abbrev pub step_else : List Frame → Option State
step_else (a_body (of_yes c) body ∷ rest) = Some (state (a_body (of_no c body) done ∷ rest) free)
step_else frames = None

-- after `endif`
abbrev pub step_endif : List Frame → Option State
step_endif frames = option_map (λ rest. state rest after_endif) (chosen frames)

-- between statements: the next item, the next statement, or the end of a branch or of a schedule
abbrev pub step_free : List Frame → TokenKind → Option State
step_free frames (token.Date date) = option_map (dated date) (closed frames)
step_free frames (token.Word letters) = step_word frames letters
step_free frames (token.Key Schedule) = step_schedule frames
step_free frames (token.Key End) = step_end frames
step_free frames (token.Key If) = step_if frames
step_free frames (token.Key Else) = step_else frames
step_free frames (token.Key Endif) = step_endif frames
step_free frames t = None

-- after `endif`: the same, or its `;`
abbrev pub step_after_endif : List Frame → TokenKind → Option State
step_after_endif frames (token.Sign Semicolon) = Some (state frames free)
step_after_endif frames t = step_free frames t

-- after the name of a statement: `=` or `pays`
abbrev pub step_named : List Frame → List ℕ → TokenKind → Option State
step_named frames name (token.Sign Equals) = Some (state (a_statement (assigns name) ∷ frames) (factor_next fresh))
step_named frames name (token.Key Pays) = Some (state (a_statement (pays name) ∷ frames) (factor_next fresh))
step_named frames name t = None

-- after a number token, by its value
abbrev pub step_literal : List Frame → Before → Result ℤ NumberFault → Option State
step_literal frames left (Ok raw) = Some (arrived frames left (literal raw))
step_literal frames left (Err fault) = None

-- after a word where an atom is awaited
abbrev pub step_variable : List Frame → Before → List ℕ → Option State
step_variable frames left letters = if is_name letters then Some (arrived frames left (variable letters)) else None

-- the same with one more minus sign
abbrev pub with_sign : Before → Before
with_sign (before sum product signs) = before sum product (suc signs)

-- nothing stands left of the atom
abbrev pub is_fresh : Before → Bool
is_fresh (before no_sum no_product zero) = true
is_fresh left = false

-- a comparison may begin here: it is the beginning of a number in a condition
abbrev pub may_compare : List Frame → Before → Bool
may_compare (a_condition opening logic ∷ rest) left = is_fresh left
may_compare frames left = false

-- after `(` where an atom is awaited
abbrev pub step_open : List Frame → Before → State
step_open frames left =
    if may_compare frames left then state (a_condition of_bracket no_logic ∷ frames) (factor_next fresh) else state (a_bracket left ∷ frames) (factor_next fresh)

-- after `not`
abbrev pub step_not : List Frame → Before → Option State
step_not (a_condition opening logic ∷ rest) left = if is_fresh left then Some (state (a_condition opening (with_not logic) ∷ rest) (factor_next fresh)) else None
step_not frames left = None

-- where a factor is awaited: a minus sign, what begins an atom, or `not`
abbrev pub step_factor : List Frame → Before → TokenKind → Option State
step_factor frames left (token.Number digits) = step_literal frames left (decimal_in digits)
step_factor frames left (token.Word letters) = step_variable frames left letters
step_factor frames left (token.Sign Minus) = Some (state frames (factor_next (with_sign left)))
step_factor frames left (token.Sign ParenLeft) = Some (step_open frames left)
step_factor frames left (token.Key Min) = Some (state frames (bracket_next (an_extreme least left None)))
step_factor frames left (token.Key Max) = Some (state frames (bracket_next (an_extreme greatest left None)))
step_factor frames left (token.Key Abs) = Some (state frames (bracket_next (an_absolute left)))
step_factor frames left (token.Key Spot) = Some (state frames (call_named spot left))
step_factor frames left (token.Key Period) = Some (state frames (call_named period left))
step_factor frames left (token.Key Days) = Some (state frames (call_named days left))
step_factor frames left (token.Key Not) = step_not frames left
step_factor frames left t = None

-- after `min`, `max` or `abs`: `(`
abbrev pub step_bracket : List Frame → Frame → TokenKind → Option State
step_bracket frames frame (token.Sign ParenLeft) = Some (state (frame ∷ frames) (factor_next fresh))
step_bracket frames frame t = None

-- after `spot`, `period` or `days`: `(`
abbrev pub step_call_named : List Frame → Number → Before → TokenKind → Option State
step_call_named frames number left (token.Sign ParenLeft) = Some (state frames (call_opened number left))
step_call_named frames number left t = None

-- and then `)`
abbrev pub step_call_opened : List Frame → Number → Before → TokenKind → Option State
step_call_opened frames number left (token.Sign ParenRight) = Some (arrived frames left number)
step_call_opened frames number left t = None

-- after `)`, which ends a bracket with the condition that this one ends
abbrev pub step_group : List Frame → Condition → Option State
step_group (a_condition of_bracket logic ∷ rest) c = Some (state rest (after_condition (condition_of logic c)))
step_group frames c = None

-- after `then`, which ends the condition of an `if`
abbrev pub step_then : List Frame → Condition → Option State
step_then (a_condition of_if logic ∷ rest) c = Some (state (a_body (of_yes (condition_of logic c)) done ∷ rest) free)
step_then frames c = None

-- after `and`
abbrev pub step_and : List Frame → Condition → Option State
step_and (a_condition opening logic ∷ rest) c = Some (state (a_condition opening (with_and logic c) ∷ rest) (factor_next fresh))
step_and frames c = None

-- after `or`
abbrev pub step_or : List Frame → Condition → Option State
step_or (a_condition opening logic ∷ rest) c = Some (state (a_condition opening (with_or logic c) ∷ rest) (factor_next fresh))
step_or frames c = None

-- after a comparison, or a condition in brackets: the condition goes on, or a bracket or the condition of an `if` ends
abbrev pub step_condition : List Frame → Condition → TokenKind → Option State
step_condition frames c (token.Sign ParenRight) = step_group frames c
step_condition frames c (token.Key Then) = step_then frames c
step_condition frames c (token.Key And) = step_and frames c
step_condition frames c (token.Key Or) = step_or frames c
step_condition frames c t = None

-- after the right number of a comparison
abbrev pub step_compared : List Frame → Number → TokenKind → Option State
step_compared (a_comparison op left ∷ rest) number t = step_condition rest (compare op left number bare) t
step_compared frames number t = None

-- after the sign of a comparison
abbrev pub step_comparison : List Frame → Number → Comparison → Option State
step_comparison (a_condition opening logic ∷ rest) number op = Some (state (a_comparison op number ∷ a_condition opening logic ∷ rest) (factor_next fresh))
step_comparison frames number op = None

-- after `)` and this number, in a condition that opened with a bracket: where the number is all of it, the bracket is that of a number
abbrev pub step_number_group : Opening → Logic → List Frame → Number → Option State
step_number_group of_bracket (a_logic None None zero) rest number = Some (arrived rest fresh number)
step_number_group opening logic rest number = None

-- after `)`, which ends the innermost bracket with this number
abbrev pub step_close : List Frame → Number → Option State
step_close (a_bracket left ∷ rest) number = Some (arrived rest left number)
step_close (an_absolute left ∷ rest) number = Some (arrived rest left (absolute number))
step_close (an_extreme op left (Some first) ∷ rest) number = Some (arrived rest left (binary op first number))
step_close (a_comparison op left ∷ rest) number = step_group rest (compare op left number bare)
step_close (a_condition opening logic ∷ rest) number = step_number_group opening logic rest number
step_close frames number = None

-- the number of the arguments so far, with one more
abbrev pub with_argument : Operator → Option Number → Number → Number
with_argument op None number = number
with_argument op (Some first) number = binary op first number

-- after `,`, which ends an argument of `min` or `max`
abbrev pub step_comma : List Frame → Number → Option State
step_comma (an_extreme op left first ∷ rest) number = Some (state (an_extreme op left (Some (with_argument op first number)) ∷ rest) (factor_next fresh))
step_comma frames number = None

-- after `;`, which ends a statement with this number
abbrev pub step_semicolon : List Frame → Number → Option State
step_semicolon frames number = option_map (λ rest. state rest free) (ended frames number)

-- where the next item or statement ends a statement with this number
abbrev pub step_ended : List Frame → Number → TokenKind → Option State
step_ended frames number t = option_and_then (λ rest. step_free rest t) (ended frames number)

-- after a factor: the term or the number goes on, a comparison or a condition does, or a bracket, an argument, a condition or a statement ends
abbrev pub step_after : List Frame → Sum → Number → TokenKind → Option State
step_after frames sum term (token.Sign Plus) = Some (state frames (factor_next (before (sum_plus (summed sum term)) no_product 0)))
step_after frames sum term (token.Sign Minus) = Some (state frames (factor_next (before (sum_minus (summed sum term)) no_product 0)))
step_after frames sum term (token.Sign Star) = Some (state frames (factor_next (before sum (product_times term) 0)))
step_after frames sum term (token.Sign Slash) = Some (state frames (factor_next (before sum (product_over term) 0)))
step_after frames sum term (token.Sign ParenRight) = step_close frames (summed sum term)
step_after frames sum term (token.Sign Comma) = step_comma frames (summed sum term)
step_after frames sum term (token.Sign Semicolon) = step_semicolon frames (summed sum term)
step_after frames sum term (token.Sign Less) = step_comparison frames (summed sum term) less
step_after frames sum term (token.Sign LessEq) = step_comparison frames (summed sum term) at_most
step_after frames sum term (token.Sign More) = step_comparison frames (summed sum term) greater
step_after frames sum term (token.Sign MoreEq) = step_comparison frames (summed sum term) at_least
step_after frames sum term (token.Sign Equals) = step_comparison frames (summed sum term) equals
step_after frames sum term (token.Sign Differs) = step_comparison frames (summed sum term) differs
step_after frames sum term (token.Date date) = step_ended frames (summed sum term) (token.Date date)
step_after frames sum term (token.Word letters) = step_ended frames (summed sum term) (token.Word letters)
step_after frames sum term (token.Key Schedule) = step_ended frames (summed sum term) (token.Key Schedule)
step_after frames sum term (token.Key End) = step_ended frames (summed sum term) (token.Key End)
step_after frames sum term (token.Key If) = step_ended frames (summed sum term) (token.Key If)
step_after frames sum term (token.Key Else) = step_ended frames (summed sum term) (token.Key Else)
step_after frames sum term (token.Key Endif) = step_ended frames (summed sum term) (token.Key Endif)
step_after frames sum term (token.Key Then) = step_compared frames (summed sum term) (token.Key Then)
step_after frames sum term (token.Key And) = step_compared frames (summed sum term) (token.Key And)
step_after frames sum term (token.Key Or) = step_compared frames (summed sum term) (token.Key Or)
step_after frames sum term t = None

-- by what is awaited
abbrev pub step_in : List Frame → Mode → TokenKind → Option State
step_in frames free t = step_free frames t
step_in frames (heading awaited) t = step_heading frames awaited t
step_in frames after_endif t = step_after_endif frames t
step_in frames (named name) t = step_named frames name t
step_in frames (factor_next left) t = step_factor frames left t
step_in frames (after sum term) t = step_after frames sum term t
step_in frames (after_condition c) t = step_condition frames c t
step_in frames (bracket_next frame) t = step_bracket frames frame t
step_in frames (call_named number left) t = step_call_named frames number left t
step_in frames (call_opened number left) t = step_call_opened frames number left t

-- the place after one more token, if the token can stand there
abbrev pub step : State → TokenKind → Option State
step (state frames mode) t = step_in frames mode t

-- the script that ends here, if one can
abbrev pub finish_in : List Frame → Mode → Option Script
finish_in frames free = closed frames
finish_in frames after_endif = closed frames
finish_in frames (after sum term) = option_and_then closed (ended frames (summed sum term))
finish_in frames mode = None

abbrev pub finish : State → Option Script
finish (state frames mode) = finish_in frames mode

-- the script that these tokens end, from here
abbrev pub read_on : State → List TokenKind → Option Script
read_on place [] = finish place
read_on place (t ∷ ts) = option_and_then (λ next. read_on next ts) (step place t)

-- the script that these tokens are, if they are one
unfoldable pub script_in : List TokenKind → Option Script
script_in tokens = read_on start tokens
