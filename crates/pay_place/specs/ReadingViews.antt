-- The parser's own state as the plain data of the reading.
use Rattle.std.specs.Prelude.{◌≡◌, ℕ, ◌∷◌, [], List, length, map, reverse, Option, Some, None, IsSome, Result, Ok, Err, Vec}
use Rattle.std.specs.Option.{option_map}
use Rattle.std.specs.Global.{Global}
use Rattle.pay_dates.specs.declared.day.Day.{Day}
use Rattle.pay_meaning.specs.Language.{Number, Comparison, compare, bare, Condition, Statement, Body, Terms, Script}
use Rattle.pay_tree.specs.declared.tree.Item.{Item as ItemTree}
use Rattle.pay_tree.specs.declared.tree.Stmt.{Stmt}
use Rattle.pay_tree.specs.declared.name.NameFault.{NameFault}
use Rattle.pay_tree.specs.declared.name.NameFault.TheVariants as name_fault
use Rattle.pay_tree.specs.Views.{operator, comparison, number, condition, body, item}
use Rattle.pay_place.specs.declared.step_fault.StepFault.{StepFault}
use Rattle.pay_place.specs.declared.step_fault.StepFault.TheVariants.{NotScript, NoMemory}
use Rattle.pay_place.specs.declared.place.Head.{Head as HeadTree}
use Rattle.pay_place.specs.declared.place.Head.TheVariants as head_tree
use Rattle.pay_place.specs.declared.place.Sum.{Sum as SumTree}
use Rattle.pay_place.specs.declared.place.Sum.TheVariants as sum_tree
use Rattle.pay_place.specs.declared.place.Product.{Product as ProductTree}
use Rattle.pay_place.specs.declared.place.Product.TheVariants as product_tree
use Rattle.pay_place.specs.declared.place.Before.{Before as BeforeTree}
use Rattle.pay_place.specs.declared.place.Logic.{Logic as LogicTree}
use Rattle.pay_place.specs.declared.place.Opening.{Opening as OpeningTree}
use Rattle.pay_place.specs.declared.place.Opening.TheVariants as opening_tree
use Rattle.pay_place.specs.declared.place.Tail.{Tail as TailTree}
use Rattle.pay_place.specs.declared.place.Tail.TheVariants as tail_tree
use Rattle.pay_place.specs.declared.place.Owner.{Owner as OwnerTree}
use Rattle.pay_place.specs.declared.place.Owner.TheVariants as owner_tree
use Rattle.pay_place.specs.declared.place.Frame.{Frame as FrameTree}
use Rattle.pay_place.specs.declared.place.Frame.TheVariants as frame_tree
use Rattle.pay_place.specs.declared.place.Stack.{Stack as StackTree}
use Rattle.pay_place.specs.declared.place.Innermost.{Innermost as InnermostTree}
use Rattle.pay_place.specs.declared.place.Innermost.TheVariants as innermost_tree
use Rattle.pay_place.specs.declared.place.Block.{Block as BlockTree}
use Rattle.pay_place.specs.declared.place.Unfinished.{Unfinished as UnfinishedTree}
use Rattle.pay_place.specs.declared.place.OpenCondition.{OpenCondition as OpenConditionTree}
use Rattle.pay_place.specs.declared.place.OpenStatement.{OpenStatement as OpenStatementTree}
use Rattle.pay_place.specs.declared.place.Heading.{Heading as HeadingTree}
use Rattle.pay_place.specs.declared.place.Heading.TheVariants as heading_tree
use Rattle.pay_place.specs.declared.place.Terms.{Terms as TermsTree}
use Rattle.pay_place.specs.declared.place.Mode.{Mode as ModeTree}
use Rattle.pay_place.specs.declared.place.Mode.TheVariants as mode_tree
use Rattle.pay_place.specs.declared.place.State.{State as StateTree}
use Rattle.pay_grammar.specs.Reading as reading
use Rattle.pay_grammar.specs.Reading.{Head, assigns, pays, Sum, no_sum, sum_plus, sum_minus, Product, no_product, product_times, product_over}
use Rattle.pay_grammar.specs.Reading.{Before, Logic, a_logic, Opening, of_if, of_bracket, Owner, of_item, of_schedule, of_yes, of_no, Frame, a_script, a_body}
use Rattle.pay_grammar.specs.Reading.{Heading, from_next, first_next, to_next, last_next, every_next, count_next, unit_next, rule_next, do_next}
use Rattle.pay_grammar.specs.Reading.{a_statement, a_condition, a_comparison, a_bracket, an_absolute, an_extreme, Mode, free, after_endif, named}
use Rattle.pay_grammar.specs.Reading.{factor_next, after, after_condition, bracket_next, call_named, call_opened, State, summed}
use Rattle.pay_grammar.specs.Reading.{with_statement, chosen, step_word, step_if, step_else, step_end, step_not, step_group, step_then, step_and, step_or}
use Rattle.pay_grammar.specs.Reading.{step_comparison, closed}

abbrev pub head : HeadTree → Head
head (head_tree.Assigns name) = assigns name
head (head_tree.Pays leg) = pays leg

abbrev pub sum : SumTree → Sum
sum sum_tree.Nothing = no_sum
sum (sum_tree.Plus left) = sum_plus (number left)
sum (sum_tree.Minus left) = sum_minus (number left)

abbrev pub product : ProductTree → Product
product product_tree.Nothing = no_product
product (product_tree.Times left) = product_times (number left)
product (product_tree.Over left) = product_over (number left)

abbrev pub before : BeforeTree → Before
before left = reading.before (sum left.sum) (product left.product) (length left.signs.items)

abbrev pub logic : LogicTree → Logic
logic left = a_logic (option_map condition left.ors) (option_map condition left.ands) (length left.nots.items)

abbrev pub opening : OpeningTree → Opening
opening opening_tree.If = of_if
opening opening_tree.Bracket = of_bracket

-- the condition that a condition so far ends in
abbrev pub tail : TailTree → Condition
tail (tail_tree.Made c) = condition c
tail (tail_tree.Compared op left s term) = compare (comparison op) (number left) (summed (sum s) (number term)) bare

-- statements so far
abbrev pub statements : Vec Stmt Global → Body
statements so_far = body so_far.items

abbrev pub terms : TermsTree → Terms
terms t = record { first = t.first; last = t.last; every = t.every; unit = t.unit; rule = t.rule }

abbrev pub heading : HeadingTree → Heading
heading heading_tree.From = from_next
heading heading_tree.First = first_next
heading (heading_tree.To first) = to_next first
heading (heading_tree.Last first) = last_next first
heading (heading_tree.Every first last) = every_next first last
heading (heading_tree.Count first last) = count_next first last
heading (heading_tree.Unit first last every) = unit_next first last every
heading (heading_tree.Rule first last every unit) = rule_next first last every unit
heading (heading_tree.Do t) = do_next (terms t)

abbrev pub owner : OwnerTree → Owner
owner (owner_tree.Item date) = of_item date
owner (owner_tree.Schedule t) = of_schedule (terms t)
owner (owner_tree.Yes c) = of_yes (condition c)
owner (owner_tree.No c first) = of_no (condition c) (statements first)

abbrev pub frame : FrameTree → Frame
frame (frame_tree.Body o so_far) = a_body (owner o) (statements so_far)
frame (frame_tree.Statement h) = a_statement (head h)
frame (frame_tree.Condition o left) = a_condition (opening o) (logic left)
frame (frame_tree.Comparison op left) = a_comparison (comparison op) (number left)
frame (frame_tree.Bracket left) = a_bracket (before left)
frame (frame_tree.Absolute left) = an_absolute (before left)
frame (frame_tree.Extreme op left first) = an_extreme (operator op) (before left) (option_map number first)

-- the items of a script so far
abbrev pub items : Vec ItemTree Global → Script
items so_far = map item so_far.items

-- frames with the innermost last, over a script: the innermost first
unfoldable pub frames_over : Script → List FrameTree → List Frame
frames_over script inner = reverse (a_script script ∷ map frame inner)

abbrev pub frames : StackTree → List Frame
frames stack = frames_over (items stack.items) stack.frames.items

abbrev pub innermost : InnermostTree → List Frame
innermost (innermost_tree.Script so_far) = a_script (items so_far) ∷ []
innermost (innermost_tree.Frame inner stack) = frame inner ∷ frames stack

-- statements so far, in what they stand in
abbrev pub block : BlockTree → List Frame
block open_one = a_body (owner open_one.owner) (statements open_one.body) ∷ frames open_one.outer

-- a statement that awaits its number, after the statements before it
abbrev pub unfinished : UnfinishedTree → List Frame
unfinished open_one = a_statement (head open_one.head) ∷ a_body (owner open_one.owner) (statements open_one.body) ∷ frames open_one.outer

-- a condition so far, in what it stands in
abbrev pub open_condition : OpenConditionTree → List Frame
open_condition open_one = a_condition (opening open_one.opening) (logic open_one.logic) ∷ frames open_one.outer

-- a statement that awaits its number, in what it stands in
abbrev pub open_statement : OpenStatementTree → List Frame
open_statement open_one = a_statement (head open_one.head) ∷ frames open_one.outer

-- a frame is innermost, and no script: an item can't end in it, nor a schedule
pub record HasFrame (open_ones : List Frame) : Type 0 where
  pub an_item : (date : Day) (b : Body) → closed (a_body (of_item date) b ∷ open_ones) ≡ None
  pub a_schedule : (t : Terms) (b : Body) → step_end (a_body (of_schedule t) b ∷ open_ones) ≡ None

-- no statements are innermost: nothing stands that only among them can
pub record HasNoBody (open_ones : List Frame) : Type 0 where
  pub statement : (s : Statement) → with_statement open_ones s ≡ None
  pub word : (letters : List ℕ) → step_word open_ones letters ≡ None
  pub an_if : step_if open_ones ≡ None
  pub an_else : step_else open_ones ≡ None
  pub an_endif : chosen open_ones ≡ None
  pub an_end : step_end open_ones ≡ None

-- no condition is innermost: nothing stands that only in one can
pub record HasNoCondition (open_ones : List Frame) : Type 0 where
  pub a_not : (left : Before) → step_not open_ones left ≡ None
  pub a_bracket : (c : Condition) → step_group open_ones c ≡ None
  pub a_then : (c : Condition) → step_then open_ones c ≡ None
  pub an_and : (c : Condition) → step_and open_ones c ≡ None
  pub an_or : (c : Condition) → step_or open_ones c ≡ None
  pub a_sign : (n : Number) (op : Comparison) → step_comparison open_ones n op ≡ None

abbrev pub mode : ModeTree → Mode
mode mode_tree.Free = free
mode (mode_tree.Heading awaited) = reading.heading (heading awaited)
mode mode_tree.AfterEndif = after_endif
mode (mode_tree.Named name) = named name
mode (mode_tree.FactorNext left) = factor_next (before left)
mode (mode_tree.After s term) = after (sum s) (number term)
mode (mode_tree.AfterCondition c) = after_condition (condition c)
mode (mode_tree.BracketNext inner) = bracket_next (frame inner)
mode (mode_tree.CallNamed called left) = call_named (number called) (before left)
mode (mode_tree.CallOpened called left) = call_opened (number called) (before left)

abbrev pub state : StateTree → State
state place = reading.state (frames place.stack) (mode place.mode)

-- What a function of the parser gives: what the definition gives, as a tree, and a refusal exactly where it gives nothing. Memory is wanted only
-- where it gives something.
abbrev pub Gives : {A B : Type 0} → (A → B) → Result A StepFault → Option B → Type 0
Gives view (Ok tree) given = given ≡ Some (view tree)
Gives view (Err NotScript) given = given ≡ None
Gives view (Err NoMemory) given = IsSome given

-- letters that are no name make the tokens no script
abbrev pub fault_of_name : NameFault → StepFault
fault_of_name name_fault.NotName = NotScript
fault_of_name name_fault.NoMemory = NoMemory
