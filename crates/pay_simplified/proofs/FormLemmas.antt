-- The simplified form of a condition shows how it is decided.
use Rattle.std.proofs.Common.{◌≡◌, Bool, true, false, not, Option, Some, None, refl, sym, ap, ◌∙◌, inl, inr, ◌⊎◌}
use Rattle.std.proofs.lemmas.Bool.{cases_Bool, false≢true}
use Rattle.std.proofs.lemmas.Option.{none-some, same_Some}
use Rattle.std.specs.Option.{option_map}
use Rattle.pay_meaning.specs.Language.{Condition, compare, negation, conjunction, disjunction, settled, sure, Event}
use Rattle.pay_domains.specs.declared.flags.Flags.{Flags}
use Rattle.pay_facts.specs.Facts.{Domains}
use Rattle.pay_facts.specs.Ranges.{range}
use Rattle.pay_facts.specs.Decisions.{Decision, and_by, or_by, decide}
use Rattle.pay_analysis.specs.Marks.{is_flagged}
use Rattle.pay_simplified.specs.Simplified.{literal_of, sure_of, with_sure, as_answered, as_decided, not_form, unless_true, unless_false, and_form, or_form}
use Rattle.pay_simplified.specs.Simplified.{simple_number, simple_not, simple_and, simple_or, simple_condition}
use Rattle.pay_simplified.specs.SimpleLaws.{FormsShowDecisions}

-- a condition that is sure of an answer
sure_with : (answer : Bool) (condition : Condition) → sure_of (with_sure answer condition) ≡ Some answer
sure_with answer (compare op left right note) = refl
sure_with answer (negation side) = refl
sure_with answer (conjunction left right) = refl
sure_with answer (disjunction left right) = refl
sure_with answer (settled other) = refl
sure_with answer (sure other side) = refl

no_literal_with : (answer : Bool) (condition : Condition) → literal_of (with_sure answer condition) ≡ None
no_literal_with answer (compare op left right note) = refl
no_literal_with answer (negation side) = refl
no_literal_with answer (conjunction left right) = refl
no_literal_with answer (disjunction left right) = refl
no_literal_with answer (settled other) = refl
no_literal_with answer (sure other side) = refl

-- what a decided condition is
as_literal : (d : Decision) (condition : Condition) (answer : Bool) → d.answer ≡ Some answer → is_flagged d.flags ≡ false
    → as_decided d condition ≡ settled answer
as_literal d condition answer is none = λ i. as_answered (is i) (none i) condition

as_sure : (d : Decision) (condition : Condition) (answer : Bool) → d.answer ≡ Some answer → is_flagged d.flags ≡ true
    → as_decided d condition ≡ with_sure answer condition
as_sure d condition answer is some = λ i. as_answered (is i) (some i) condition

as_open : (d : Decision) (condition : Condition) → d.answer ≡ None → as_decided d condition ≡ condition
as_open d condition is = λ i. as_answered (is i) (is_flagged d.flags) condition

literal_shown : (condition : Condition) (domains : Domains) (known : Bool) (event : Event) (answer : Bool)
    → (decide condition domains known event).answer ≡ Some answer → is_flagged (decide condition domains known event).flags ≡ false
    → simple_condition condition domains known event ≡ settled answer
literal_shown (compare op left right note) domains known event answer is none =
    as_literal (decide (compare op left right note) domains known event)
    (compare op (simple_number left domains known event) (simple_number right domains (range left domains known event).known event) note) answer is none
literal_shown (negation side) domains known event answer is none =
    as_literal (decide (negation side) domains known event) (simple_not (simple_condition side domains known event)) answer is none
literal_shown (conjunction left right) domains known event answer is none =
    as_literal (decide (conjunction left right) domains known event)
    (simple_and (simple_condition left domains known event) (simple_condition right domains (decide left domains known event).known event)) answer is none
literal_shown (disjunction left right) domains known event answer is none =
    as_literal (decide (disjunction left right) domains known event)
    (simple_or (simple_condition left domains known event) (simple_condition right domains (decide left domains known event).known event)) answer is none
literal_shown (settled other) domains known event answer is none = ap settled (same_Some other answer is)
literal_shown (sure other side) domains known event answer is none =
    as_literal (decide (sure other side) domains known event) (simple_condition side domains known event) answer is none

-- a condition that is decided and can fault is sure of its answer, whatever it is made of
sure_form : (d : Decision) (condition : Condition) (answer : Bool) → d.answer ≡ Some answer → is_flagged d.flags ≡ true
    → (literal_of (as_decided d condition) ≡ None) × (sure_of (as_decided d condition) ≡ Some answer)
sure_form d condition answer is some = (
  ap literal_of (as_sure d condition answer is some) ∙ no_literal_with answer condition,
  ap sure_of (as_sure d condition answer is some) ∙ sure_with answer condition,
)

sure_shown : (condition : Condition) (domains : Domains) (known : Bool) (event : Event) (answer : Bool)
    → (decide condition domains known event).answer ≡ Some answer → is_flagged (decide condition domains known event).flags ≡ true
    → (literal_of (simple_condition condition domains known event) ≡ None) × (sure_of (simple_condition condition domains known event) ≡ Some answer)
sure_shown (compare op left right note) domains known event answer is some =
    sure_form (decide (compare op left right note) domains known event)
    (compare op (simple_number left domains known event) (simple_number right domains (range left domains known event).known event) note) answer is some
sure_shown (negation side) domains known event answer is some =
    sure_form (decide (negation side) domains known event) (simple_not (simple_condition side domains known event)) answer is some
sure_shown (conjunction left right) domains known event answer is some =
    sure_form (decide (conjunction left right) domains known event)
    (simple_and (simple_condition left domains known event) (simple_condition right domains (decide left domains known event).known event)) answer is some
sure_shown (disjunction left right) domains known event answer is some =
    sure_form (decide (disjunction left right) domains known event)
    (simple_or (simple_condition left domains known event) (simple_condition right domains (decide left domains known event).known event)) answer is some
sure_shown (settled other) domains known event answer is some = absurd (false≢true some)
sure_shown (sure other side) domains known event answer is some =
    sure_form (decide (sure other side) domains known event) (simple_condition side domains known event) answer is some

-- a condition shows an answer: it is this truth literal, or sure of it
abbrev pub Shows : Condition → Bool → Type 0
Shows condition answer = (literal_of condition ≡ Some answer) ⊎ ((literal_of condition ≡ None) × (sure_of condition ≡ Some answer))

-- a decided condition shows its answer
pub decided_shows : (condition : Condition) (domains : Domains) (known : Bool) (event : Event) (answer : Bool)
    → (decide condition domains known event).answer ≡ Some answer → Shows (simple_condition condition domains known event) answer
decided_shows condition domains known event answer is = elim (cases_Bool (is_flagged (decide condition domains known event).flags)) [
  | inl some ↦ inr (sure_shown condition domains known event answer is some)
  | inr none ↦ inl (ap literal_of (literal_shown condition domains known event answer is none))
]

-- a condition shows no answer
abbrev IsOpen : Condition → Type 0
IsOpen condition = (literal_of condition ≡ None) × (sure_of condition ≡ None)

open_as : (d : Decision) (condition : Condition) → d.answer ≡ None → IsOpen condition → IsOpen (as_decided d condition)
open_as d condition is none =
    (ap literal_of (as_open d condition is) ∙ none.0, ap sure_of (as_open d condition is) ∙ none.1)

open_is : (condition other : Condition) → condition ≡ other → IsOpen other → IsOpen condition
open_is condition other same none = (ap literal_of same ∙ none.0, ap sure_of same ∙ none.1)

not_open : (side : Condition) → IsOpen side → IsOpen (simple_not side)
not_open side none = open_is (simple_not side) (negation side) (λ i. not_form (none.0 i) (none.1 i) side) (refl, refl)

-- `and` and `or` of an open left side
left_unless_true : (other : Option Bool) (left whole : Condition) → IsOpen left → IsOpen whole → IsOpen (unless_true other left whole)
left_unless_true None left whole h k = k
left_unless_true (Some true) left whole h k = h
left_unless_true (Some false) left whole h k = k

left_unless_false : (other : Option Bool) (left whole : Condition) → IsOpen left → IsOpen whole → IsOpen (unless_false other left whole)
left_unless_false None left whole h k = k
left_unless_false (Some true) left whole h k = k
left_unless_false (Some false) left whole h k = h

and_open_left : (left right : Condition) → IsOpen left → IsOpen (simple_and left right)
and_open_left left right none =
    open_is (simple_and left right) (unless_true (literal_of right) left (conjunction left right))
    (λ i. and_form (none.0 i) (none.1 i) (literal_of right) left right (conjunction left right))
    (left_unless_true (literal_of right) left (conjunction left right) none (refl, refl))

or_open_left : (left right : Condition) → IsOpen left → IsOpen (simple_or left right)
or_open_left left right none =
    open_is (simple_or left right) (unless_false (literal_of right) left (disjunction left right))
    (λ i. or_form (none.0 i) (none.1 i) (literal_of right) left right (disjunction left right))
    (left_unless_false (literal_of right) left (disjunction left right) none (refl, refl))

-- and of an open right side, after a left one that does not settle them
and_open_right : (left right : Condition) → Shows left true → IsOpen right → IsOpen (simple_and left right)
and_open_right left right (inl is) none =
    open_is (simple_and left right) right (λ i. and_form (is i) (sure_of left) (literal_of right) left right (conjunction left right)) none
and_open_right left right (inr is) none =
    open_is (simple_and left right) (conjunction left right)
    (λ i. and_form (is.0 i) (is.1 i) (none.0 i) left right (conjunction left right)) (refl, refl)

or_open_right : (left right : Condition) → Shows left false → IsOpen right → IsOpen (simple_or left right)
or_open_right left right (inl is) none =
    open_is (simple_or left right) right (λ i. or_form (is i) (sure_of left) (literal_of right) left right (disjunction left right)) none
or_open_right left right (inr is) none =
    open_is (simple_or left right) (disjunction left right)
    (λ i. or_form (is.0 i) (is.1 i) (none.0 i) left right (disjunction left right)) (refl, refl)

some_none : {A : Type 0} (x : A) → Some x ≡ None → ⊥
some_none x is = none-some x (sym is)

unturned : (answer : Option Bool) → option_map not answer ≡ None → answer ≡ None
unturned None is = refl
unturned (Some answer) is = absurd (some_none (not answer) is)

-- an open `and` has an open left side, or a true one and an open right one
and_open : (answer : Option Bool) (flags : Flags) (known : Bool) (b : Decision) (left right : Condition)
    → (and_by answer (record { answer = answer; flags = flags; known = known }) b).answer ≡ None
    → (answer ≡ None → IsOpen left) → ((shown : Bool) → answer ≡ Some shown → Shows left shown) → (b.answer ≡ None → IsOpen right)
    → IsOpen (simple_and left right)
and_open None flags known b left right is first shown second = and_open_left left right (first refl)
and_open (Some true) flags known b left right is first shown second = and_open_right left right (shown true refl) (second is)
and_open (Some false) flags known b left right is first shown second = absurd (some_none false is)

or_open : (answer : Option Bool) (flags : Flags) (known : Bool) (b : Decision) (left right : Condition)
    → (or_by answer (record { answer = answer; flags = flags; known = known }) b).answer ≡ None
    → (answer ≡ None → IsOpen left) → ((shown : Bool) → answer ≡ Some shown → Shows left shown) → (b.answer ≡ None → IsOpen right)
    → IsOpen (simple_or left right)
or_open None flags known b left right is first shown second = or_open_left left right (first refl)
or_open (Some false) flags known b left right is first shown second = or_open_right left right (shown false refl) (second is)
or_open (Some true) flags known b left right is first shown second = absurd (some_none true is)

open_shown : (condition : Condition) (domains : Domains) (known : Bool) (event : Event)
    → (decide condition domains known event).answer ≡ None → IsOpen (simple_condition condition domains known event)
open_shown (compare op left right note) domains known event is =
    open_as (decide (compare op left right note) domains known event)
    (compare op (simple_number left domains known event) (simple_number right domains (range left domains known event).known event) note) is (refl, refl)
open_shown (negation side) domains known event is =
    open_as (decide (negation side) domains known event) (simple_not (simple_condition side domains known event)) is
    (not_open (simple_condition side domains known event)
    (open_shown side domains known event (unturned (decide side domains known event).answer is)))
open_shown (conjunction left right) domains known event is =
    let d : Decision = decide left domains known event in
    let first : Condition = simple_condition left domains known event in
    let second : Condition = simple_condition right domains d.known event in
    open_as (decide (conjunction left right) domains known event) (simple_and first second) is
    (and_open d.answer d.flags d.known (decide right domains d.known event) first second is (open_shown left domains known event)
    (decided_shows left domains known event) (open_shown right domains d.known event))
open_shown (disjunction left right) domains known event is =
    let d : Decision = decide left domains known event in
    let first : Condition = simple_condition left domains known event in
    let second : Condition = simple_condition right domains d.known event in
    open_as (decide (disjunction left right) domains known event) (simple_or first second) is
    (or_open d.answer d.flags d.known (decide right domains d.known event) first second is (open_shown left domains known event)
    (decided_shows left domains known event) (open_shown right domains d.known event))
open_shown (settled answer) domains known event is = absurd (some_none answer is)
open_shown (sure answer side) domains known event is = absurd (some_none answer is)

pub forms_show_decisions : FormsShowDecisions
forms_show_decisions = record {
  literals = literal_shown;
  sure_ones = λ condition domains known event answer is some. (sure_shown condition domains known event answer is some).1;
  open_ones = open_shown;
}
