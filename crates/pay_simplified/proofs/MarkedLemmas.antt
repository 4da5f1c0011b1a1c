-- Numbers and tests that are pruned by the marks of their parts stand for what is simplified.
use Rattle.std.proofs.Common.{◌≡◌, ℕ, Bool, true, false, not, List, [], ◌∷◌, ◌++◌, length, Option, Some, None, IsTrue, refl, sym, ap, ◌∙◌, inl, inr, ℤ}
use Rattle.std.proofs.lemmas.Bool.{and_parts}
use Rattle.pay_meaning.specs.Language.{Number, negative, absolute, binary, Event}
use Rattle.pay_meaning.specs.Language.{Condition, compare, negation, conjunction, disjunction, settled, sure}
use Rattle.pay_tree.specs.declared.tree.Unary.TheVariants.{Neg, Abs}
use Rattle.pay_tree.specs.Views.{operator, comparison}
use Rattle.pay_tree.specs.Owned.{NumberTree, literal_at, slot_at, spot_at, unary_at, binary_at, TestTree, truth_at, compare_at, not_at, and_at, or_at}
use Rattle.pay_tree.specs.Owned.{spelled_number, spelled_test, surely, note_of}
use Rattle.pay_visit.specs.Rewriting.{rewritten_number, rewritten_test}
use Rattle.pay_runs.specs.Slots.{number_within, test_within}
use Rattle.pay_facts.specs.Facts.{Domains}
use Rattle.pay_facts.specs.Ranges.{Range, range}
use Rattle.pay_facts.specs.Decisions.{Decision, told_decision, decide}
use Rattle.pay_facts.specs.Reached.{Part, number_found, test_found, own_number, own_test, unless_false as not_false, unless_true as not_true}
use Rattle.pay_facts.specs.Reached.{number_parts, test_parts}
use Rattle.pay_facts.specs.SlotFacts.{SlotDomains, range_by_slots, surely_decision, decide_by_slots}
use Rattle.pay_facts.specs.SlotLaws.{DomainsStandFor}
use Rattle.pay_facts.proofs.SlotRangeLemmas.{range_same, decision_same}
use Rattle.pay_analysis.specs.declared.marks.Mark.{Mark}
use Rattle.pay_analysis.specs.Marks.{is_flagged, mark_of}
use Rattle.pay_analysis.specs.MarkLaws.{IsPartOf}
use Rattle.pay_simplified.specs.Simplified.{point_in, at_point, simple_number, literal_of, sure_of, with_sure, as_answered, as_decided, not_form}
use Rattle.pay_simplified.specs.Simplified.{and_form, or_form, simple_not, simple_and, simple_or, simple_condition}
use Rattle.pay_simplified.specs.Pruning.{number_at_point, pruned_number, sure_in, literal_in, told_test, not_test, tidy_test, test_answered}
use Rattle.pay_simplified.specs.Pruning.{marked_test, pruning}
use Rattle.pay_simplified.proofs.FormLemmas.{Shows, decided_shows}

-- each of these parts has its own mark
abbrev pub AreMarked : (ℕ → Mark) → List Part → Type 0
AreMarked marks parts = (part : Part) → IsPartOf part parts → marks part.id ≡ mark_of part.found

in_left : (part : Part) (a b : List Part) → IsPartOf part a → IsPartOf part (a ++ b)
in_left part [] b h = absurd h
in_left part (first ∷ rest) b (inl same) = inl same
in_left part (first ∷ rest) b (inr h) = inr (in_left part rest b h)

in_right : (part : Part) (a b : List Part) → IsPartOf part b → IsPartOf part (a ++ b)
in_right part [] b h = h
in_right part (first ∷ rest) b h = inr (in_right part rest b h)

pub marked_left : (marks : ℕ → Mark) (a b : List Part) → AreMarked marks (a ++ b) → AreMarked marks a
marked_left marks a b h part is = h part (in_left part a b is)

pub marked_right : (marks : ℕ → Mark) (a b : List Part) → AreMarked marks (a ++ b) → AreMarked marks b
marked_right marks a b h part is = h part (in_right part a b is)

-- what a number with a mark stands for
number_at_spelled : (names : List (List ℕ)) (point : Option ℤ) (number : NumberTree)
    → spelled_number names (number_at_point point number) ≡ at_point point (spelled_number names number)
number_at_spelled names None number = refl
number_at_spelled names (Some raw) number = refl

number_marked : (names : List (List ℕ)) (mark : Mark) (found here : Range) (number : NumberTree) (made : Number) → mark ≡ mark_of (number_found found)
    → found ≡ here → spelled_number names number ≡ made → spelled_number names (pruned_number mark number) ≡ at_point (point_in here) made
number_marked names mark found here number made is same spelled =
    ap (λ m. spelled_number names (pruned_number m number)) is ∙ number_at_spelled names (point_in found) number
    ∙ (λ i. at_point (point_in (same i)) (spelled i))

-- what a test that is told its answer stands for
told_spelled : (names : List (List ℕ)) (answer : Bool) (test : TestTree)
    → spelled_test names (told_test answer test) ≡ with_sure answer (spelled_test names test)
told_spelled names answer (truth_at id None other) = refl
told_spelled names answer (truth_at id (Some told) other) = refl
told_spelled names answer (compare_at id None op left right smooth) = refl
told_spelled names answer (compare_at id (Some told) op left right smooth) = refl
told_spelled names answer (not_at id None side) = refl
told_spelled names answer (not_at id (Some told) side) = refl
told_spelled names answer (and_at id None left right) = refl
told_spelled names answer (and_at id (Some told) left right) = refl
told_spelled names answer (or_at id None left right) = refl
told_spelled names answer (or_at id (Some told) left right) = refl

answered_spelled : (names : List (List ℕ)) (answer : Option Bool) (flagged : Bool) (test : TestTree)
    → spelled_test names (test_answered answer flagged test) ≡ as_answered answer flagged (spelled_test names test)
answered_spelled names None flagged test = refl
answered_spelled names (Some answer) false test = refl
answered_spelled names (Some answer) true test = told_spelled names answer test

-- the forms of tests are those of the conditions that they stand for
pub literal_spelled : (names : List (List ℕ)) (test : TestTree) → literal_in test ≡ literal_of (spelled_test names test)
literal_spelled names (truth_at id None other) = refl
literal_spelled names (truth_at id (Some told) other) = refl
literal_spelled names (compare_at id None op left right smooth) = refl
literal_spelled names (compare_at id (Some told) op left right smooth) = refl
literal_spelled names (not_at id None side) = refl
literal_spelled names (not_at id (Some told) side) = refl
literal_spelled names (and_at id None left right) = refl
literal_spelled names (and_at id (Some told) left right) = refl
literal_spelled names (or_at id None left right) = refl
literal_spelled names (or_at id (Some told) left right) = refl

pub sure_spelled : (names : List (List ℕ)) (test : TestTree) → sure_in test ≡ sure_of (spelled_test names test)
sure_spelled names (truth_at id None other) = refl
sure_spelled names (truth_at id (Some told) other) = refl
sure_spelled names (compare_at id None op left right smooth) = refl
sure_spelled names (compare_at id (Some told) op left right smooth) = refl
sure_spelled names (not_at id None side) = refl
sure_spelled names (not_at id (Some told) side) = refl
sure_spelled names (and_at id None left right) = refl
sure_spelled names (and_at id (Some told) left right) = refl
sure_spelled names (or_at id None left right) = refl
sure_spelled names (or_at id (Some told) left right) = refl

-- a test stands for a condition, up to what both are sure of where the test is told an answer
abbrev StandsUpTo : List (List ℕ) → Option Bool → TestTree → Condition → Type 0
StandsUpTo names None test condition = spelled_test names test ≡ condition
StandsUpTo names (Some told) test condition = (answer : Bool) → with_sure answer (spelled_test names test) ≡ with_sure answer condition

up_to_same : (names : List (List ℕ)) (told : Option Bool) (test : TestTree) (condition other : Condition) → StandsUpTo names told test condition
    → condition ≡ other → StandsUpTo names told test other
up_to_same names None test condition other stands same = stands ∙ same
up_to_same names (Some told) test condition other stands same = λ answer. stands answer ∙ ap (with_sure answer) same

-- what is chosen of three is chosen of what they become
and_mapped : {A B : Type 0} (f : A → B) (literal told other : Option Bool) (a b c : A)
    → f (and_form literal told other a b c) ≡ and_form literal told other (f a) (f b) (f c)
and_mapped f (Some true) told other a b c = refl
and_mapped f (Some false) told other a b c = refl
and_mapped f None (Some false) other a b c = refl
and_mapped f None (Some true) None a b c = refl
and_mapped f None (Some true) (Some true) a b c = refl
and_mapped f None (Some true) (Some false) a b c = refl
and_mapped f None None None a b c = refl
and_mapped f None None (Some true) a b c = refl
and_mapped f None None (Some false) a b c = refl

or_mapped : {A B : Type 0} (f : A → B) (literal told other : Option Bool) (a b c : A)
    → f (or_form literal told other a b c) ≡ or_form literal told other (f a) (f b) (f c)
or_mapped f (Some false) told other a b c = refl
or_mapped f (Some true) told other a b c = refl
or_mapped f None (Some true) other a b c = refl
or_mapped f None (Some false) None a b c = refl
or_mapped f None (Some false) (Some true) a b c = refl
or_mapped f None (Some false) (Some false) a b c = refl
or_mapped f None None None a b c = refl
or_mapped f None None (Some true) a b c = refl
or_mapped f None None (Some false) a b c = refl

-- what the sides of a test leave of it
compare_tidy : (names : List (List ℕ)) (told : Option Bool) (test : TestTree) (condition : Condition)
    → spelled_test names test ≡ surely told condition
    → ((answer other : Bool) → with_sure answer (sure other condition) ≡ with_sure answer condition) → StandsUpTo names told test condition
compare_tidy names None test condition spelled same = spelled
compare_tidy names (Some told) test condition spelled same = λ answer. ap (with_sure answer) spelled ∙ same answer told

not_tidy : (names : List (List ℕ)) (id : ℕ) (told literal sure_one : Option Bool) (side : TestTree)
    → StandsUpTo names told (not_test literal sure_one side (not_at id told side)) (not_form literal sure_one (spelled_test names side))
not_tidy names id None (Some answer) sure_one side = refl
not_tidy names id None None (Some answer) side = told_spelled names (not answer) side
not_tidy names id None None None side = refl
not_tidy names id (Some told) (Some answer) sure_one side = λ given. refl
not_tidy names id (Some told) None (Some answer) side = λ given. ap (with_sure given) (told_spelled names (not answer) side)
not_tidy names id (Some told) None None side = λ given. refl

not_stands : (names : List (List ℕ)) (id : ℕ) (told : Option Bool) (side : TestTree)
    → StandsUpTo names told (tidy_test (not_at id told side)) (simple_not (spelled_test names side))
not_stands names id told side =
    up_to_same names told (tidy_test (not_at id told side)) (not_form (literal_in side) (sure_in side) (spelled_test names side))
    (simple_not (spelled_test names side)) (not_tidy names id told (literal_in side) (sure_in side) side)
    (λ i. not_form (literal_spelled names side i) (sure_spelled names side i) (spelled_test names side))

and_tidy : (names : List (List ℕ)) (id : ℕ) (told literal sure_one other : Option Bool) (left right : TestTree)
    → StandsUpTo names told (and_form literal sure_one other left right (and_at id told left right))
    (and_form literal sure_one other (spelled_test names left) (spelled_test names right)
    (conjunction (spelled_test names left) (spelled_test names right)))
and_tidy names id None literal sure_one other left right = and_mapped (spelled_test names) literal sure_one other left right (and_at id None left right)
and_tidy names id (Some told) literal sure_one other left right = λ given.
    and_mapped (λ test. with_sure given (spelled_test names test)) literal sure_one other left right (and_at id (Some told) left right)
    ∙ sym (and_mapped (with_sure given) literal sure_one other (spelled_test names left) (spelled_test names right)
    (conjunction (spelled_test names left) (spelled_test names right)))

and_stands : (names : List (List ℕ)) (id : ℕ) (told : Option Bool) (left right : TestTree)
    → StandsUpTo names told (tidy_test (and_at id told left right)) (simple_and (spelled_test names left) (spelled_test names right))
and_stands names id told left right =
    let first : Condition = spelled_test names left in
    let second : Condition = spelled_test names right in
    up_to_same names told (tidy_test (and_at id told left right))
    (and_form (literal_in left) (sure_in left) (literal_in right) first second (conjunction first second)) (simple_and first second)
    (and_tidy names id told (literal_in left) (sure_in left) (literal_in right) left right)
    (λ i. and_form (literal_spelled names left i) (sure_spelled names left i) (literal_spelled names right i) first second (conjunction first second))

or_tidy : (names : List (List ℕ)) (id : ℕ) (told literal sure_one other : Option Bool) (left right : TestTree)
    → StandsUpTo names told (or_form literal sure_one other left right (or_at id told left right))
    (or_form literal sure_one other (spelled_test names left) (spelled_test names right)
    (disjunction (spelled_test names left) (spelled_test names right)))
or_tidy names id None literal sure_one other left right = or_mapped (spelled_test names) literal sure_one other left right (or_at id None left right)
or_tidy names id (Some told) literal sure_one other left right = λ given.
    or_mapped (λ test. with_sure given (spelled_test names test)) literal sure_one other left right (or_at id (Some told) left right)
    ∙ sym (or_mapped (with_sure given) literal sure_one other (spelled_test names left) (spelled_test names right)
    (disjunction (spelled_test names left) (spelled_test names right)))

or_stands : (names : List (List ℕ)) (id : ℕ) (told : Option Bool) (left right : TestTree)
    → StandsUpTo names told (tidy_test (or_at id told left right)) (simple_or (spelled_test names left) (spelled_test names right))
or_stands names id told left right =
    let first : Condition = spelled_test names left in
    let second : Condition = spelled_test names right in
    up_to_same names told (tidy_test (or_at id told left right))
    (or_form (literal_in left) (sure_in left) (literal_in right) first second (disjunction first second)) (simple_or first second)
    (or_tidy names id told (literal_in left) (sure_in left) (literal_in right) left right)
    (λ i. or_form (literal_spelled names left i) (sure_spelled names left i) (literal_spelled names right i) first second (disjunction first second))

-- a condition that is told an answer twice has the last one
with_twice : (answer other : Bool) (condition : Condition) → with_sure answer (with_sure other condition) ≡ with_sure answer condition
with_twice answer other (compare op left right note) = refl
with_twice answer other (negation side) = refl
with_twice answer other (conjunction left right) = refl
with_twice answer other (disjunction left right) = refl
with_twice answer other (settled told) = refl
with_twice answer other (sure told side) = refl

answered_twice : (answer : Bool) (inner : Option Bool) (flagged : Bool) (condition other : Condition)
    → ((given : Bool) → with_sure given condition ≡ with_sure given other)
    → as_answered (Some answer) flagged condition ≡ as_answered (Some answer) flagged (as_answered inner flagged other)
answered_twice answer inner false condition other same = refl
answered_twice answer None true condition other same = same answer
answered_twice answer (Some told) true condition other same = same answer ∙ sym (with_twice answer told other)

-- a condition that is told its answer, or isn't, once it is simplified
abbrev simple_told : Option Bool → Decision → Condition → Condition
simple_told None d condition = as_decided d condition
simple_told (Some answer) d condition = as_decided (told_decision answer d) (as_decided d condition)

test_marked : (names : List (List ℕ)) (told : Option Bool) (mark : Mark) (found here : Decision) (test : TestTree) (condition : Condition)
    → mark ≡ mark_of (test_found (surely_decision told found)) → found ≡ here → StandsUpTo names told test condition
    → spelled_test names (marked_test mark test) ≡ simple_told told here condition
test_marked names None mark found here test condition is same stands =
    ap (λ m. spelled_test names (marked_test m test)) is ∙ answered_spelled names found.answer (is_flagged found.flags) test
    ∙ (λ i. as_decided (same i) (stands i))
test_marked names (Some answer) mark found here test condition is same stands =
    ap (λ m. spelled_test names (marked_test m test)) is ∙ answered_spelled names (Some answer) (is_flagged found.flags) test
    ∙ answered_twice answer found.answer (is_flagged found.flags) (spelled_test names test) condition stands
    ∙ (λ i. as_decided (told_decision answer (same i)) (as_decided (same i) condition))

simple_surely : (told : Option Bool) (condition made : Condition) (domains : Domains) (known : Bool) (event : Event)
    → simple_condition condition domains known event ≡ as_decided (decide condition domains known event) made
    → simple_told told (decide condition domains known event) made ≡ simple_condition (surely told condition) domains known event
simple_surely None condition made domains known event is = sym is
simple_surely (Some answer) condition made domains known event is =
    sym (ap (as_decided (told_decision answer (decide condition domains known event))) is)

-- a right side that is not reached is dropped
and_dropped : (left right other : Condition) → Shows left false → simple_and left right ≡ simple_and left other
and_dropped left right other (inl is) =
    (λ i. and_form (is i) (sure_of left) (literal_of right) left right (conjunction left right))
    ∙ sym (λ i. and_form (is i) (sure_of left) (literal_of other) left other (conjunction left other))
and_dropped left right other (inr is) =
    (λ i. and_form (is.0 i) (is.1 i) (literal_of right) left right (conjunction left right))
    ∙ sym (λ i. and_form (is.0 i) (is.1 i) (literal_of other) left other (conjunction left other))

or_dropped : (left right other : Condition) → Shows left true → simple_or left right ≡ simple_or left other
or_dropped left right other (inl is) =
    (λ i. or_form (is i) (sure_of left) (literal_of right) left right (disjunction left right))
    ∙ sym (λ i. or_form (is i) (sure_of left) (literal_of other) left other (disjunction left other))
or_dropped left right other (inr is) =
    (λ i. or_form (is.0 i) (is.1 i) (literal_of right) left right (disjunction left right))
    ∙ sym (λ i. or_form (is.0 i) (is.1 i) (literal_of other) left other (disjunction left other))

-- the right side matters where it is reached
and_reached : (marks : ℕ → Mark) (answer : Option Bool) (parts : List Part) (left right other : Condition)
    → ((shown : Bool) → answer ≡ Some shown → Shows left shown) → AreMarked marks (not_false answer parts) → (AreMarked marks parts → right ≡ other)
    → simple_and left right ≡ simple_and left other
and_reached marks None parts left right other shows marked same = ap (simple_and left) (same marked)
and_reached marks (Some true) parts left right other shows marked same = ap (simple_and left) (same marked)
and_reached marks (Some false) parts left right other shows marked same = and_dropped left right other (shows false refl)

or_reached : (marks : ℕ → Mark) (answer : Option Bool) (parts : List Part) (left right other : Condition)
    → ((shown : Bool) → answer ≡ Some shown → Shows left shown) → AreMarked marks (not_true answer parts) → (AreMarked marks parts → right ≡ other)
    → simple_or left right ≡ simple_or left other
or_reached marks None parts left right other shows marked same = ap (simple_or left) (same marked)
or_reached marks (Some false) parts left right other shows marked same = ap (simple_or left) (same marked)
or_reached marks (Some true) parts left right other shows marked same = or_dropped left right other (shows true refl)

module _ (names : List (List ℕ)) (slots : SlotDomains) (domains : Domains) (event : Event) (stand : DomainsStandFor names slots domains)
    (marks : ℕ → Mark) where
  -- the mark of a number itself, after its sides
  number-own : (number : NumberTree) (id : ℕ) (known : Bool) (sides : List Part) → AreMarked marks (sides ++ own_number number slots known id)
      → marks id ≡ mark_of (number_found (range_by_slots number slots known))
  number-own number id known sides marked =
      let own : Part = record { id = id; found = number_found (range_by_slots number slots known) } in
      marked own (in_right own sides (own ∷ []) (inl refl))

  pub number_pruned : (number : NumberTree) → IsTrue (number_within (length names) number) → (known : Bool)
      → AreMarked marks (number_parts number slots known)
      → spelled_number names (rewritten_number (pruning marks) number) ≡ simple_number (spelled_number names number) domains known event
  number_pruned (literal_at id raw) within known marked =
      number_marked names (marks id) _ _ (literal_at id raw) _ (number-own (literal_at id raw) id known [] marked)
      (range_same names slots domains event stand (literal_at id raw) within known) refl
  number_pruned (slot_at id slot) within known marked =
      number_marked names (marks id) _ _ (slot_at id slot) _ (number-own (slot_at id slot) id known [] marked)
      (range_same names slots domains event stand (slot_at id slot) within known) refl
  number_pruned (spot_at id) within known marked =
      number_marked names (marks id) _ _ (spot_at id) _ (number-own (spot_at id) id known [] marked)
      (range_same names slots domains event stand (spot_at id) within known) refl
  number_pruned (unary_at id Neg side) within known marked =
      let parts : List Part = number_parts side slots known in
      let own : List Part = own_number (unary_at id Neg side) slots known id in
      number_marked names (marks id) _ _ (unary_at id Neg (rewritten_number (pruning marks) side)) _
      (number-own (unary_at id Neg side) id known parts marked)
      (range_same names slots domains event stand (unary_at id Neg side) within known)
      (ap negative (number_pruned side within known (marked_left marks parts own marked)))
  number_pruned (unary_at id Abs side) within known marked =
      let parts : List Part = number_parts side slots known in
      let own : List Part = own_number (unary_at id Abs side) slots known id in
      number_marked names (marks id) _ _ (unary_at id Abs (rewritten_number (pruning marks) side)) _
      (number-own (unary_at id Abs side) id known parts marked)
      (range_same names slots domains event stand (unary_at id Abs side) within known)
      (ap absolute (number_pruned side within known (marked_left marks parts own marked)))
  number_pruned (binary_at id op left right) within known marked =
      let both = and_parts (number_within (length names) left) (number_within (length names) right) within in
      let between : Bool = (range_by_slots left slots known).known in
      let first : List Part = number_parts left slots known in
      let second : List Part = number_parts right slots between in
      let own : List Part = own_number (binary_at id op left right) slots known id in
      let later : AreMarked marks (second ++ own) = marked_right marks first (second ++ own) marked in
      let left_same = number_pruned left both.0 known (marked_left marks first (second ++ own) marked) in
      let right_same = number_pruned right both.1 between (marked_left marks second own later)
      ∙ ap (λ r. simple_number (spelled_number names right) domains r.known event) (range_same names slots domains event stand left both.0 known) in
      number_marked names (marks id) _ _ (binary_at id op (rewritten_number (pruning marks) left) (rewritten_number (pruning marks) right)) _
      (number-own (binary_at id op left right) id known second later)
      (range_same names slots domains event stand (binary_at id op left right) within known)
      (λ i. binary (operator op) (left_same i) (right_same i))

  -- the mark of a test itself, after its sides
  test-own : (test : TestTree) (id : ℕ) (known : Bool) (sides : List Part) → AreMarked marks (sides ++ own_test test slots known id)
      → marks id ≡ mark_of (test_found (decide_by_slots test slots known))
  test-own test id known sides marked =
      let own : Part = record { id = id; found = test_found (decide_by_slots test slots known) } in
      marked own (in_right own sides (own ∷ []) (inl refl))

  -- a side that shows its answer by number shows it by name
  shows-same : (test : TestTree) → IsTrue (test_within (length names) test) → (known : Bool) (shown : Bool)
      → (decide_by_slots test slots known).answer ≡ Some shown → Shows (simple_condition (spelled_test names test) domains known event) shown
  shows-same test within known shown is =
      decided_shows (spelled_test names test) domains known event shown
      (sym (ap (λ d. d.answer) (decision_same names slots domains event stand test within known)) ∙ is)

  pub test_pruned : (test : TestTree) → IsTrue (test_within (length names) test) → (known : Bool) → AreMarked marks (test_parts test slots known)
      → spelled_test names (rewritten_test (pruning marks) test) ≡ simple_condition (spelled_test names test) domains known event
  test_pruned (truth_at id told answer) within known marked =
      test_marked names told (marks id) (decide (settled answer) domains known event) (decide (settled answer) domains known event)
      (truth_at id told answer) (settled answer) (test-own (truth_at id told answer) id known [] marked) refl
      (compare_tidy names told (truth_at id told answer) (settled answer) refl (λ given other. refl))
      ∙ simple_surely told (settled answer) (settled answer) domains known event refl
  test_pruned (compare_at id told op left right smooth) within known marked =
      let both = and_parts (number_within (length names) left) (number_within (length names) right) within in
      let between : Bool = (range_by_slots left slots known).known in
      let first : List Part = number_parts left slots known in
      let second : List Part = number_parts right slots between in
      let own : List Part = own_test (compare_at id told op left right smooth) slots known id in
      let later : AreMarked marks (second ++ own) = marked_right marks first (second ++ own) marked in
      let left_same = number_pruned left both.0 known (marked_left marks first (second ++ own) marked) in
      let right_same = number_pruned right both.1 between (marked_left marks second own later)
      ∙ ap (λ r. simple_number (spelled_number names right) domains r.known event) (range_same names slots domains event stand left both.0 known) in
      let made : Condition = compare (comparison op) (simple_number (spelled_number names left) domains known event)
      (simple_number (spelled_number names right) domains (range (spelled_number names left) domains known event).known event) (note_of smooth) in
      let new : TestTree = compare_at id told op (rewritten_number (pruning marks) left) (rewritten_number (pruning marks) right) smooth in
      test_marked names told (marks id) _ _ new made (test-own (compare_at id told op left right smooth) id known second later)
      (decision_same names slots domains event stand (compare_at id None op left right smooth) within known)
      (compare_tidy names told new made (λ i. surely told (compare (comparison op) (left_same i) (right_same i) (note_of smooth)))
      (λ given other. refl))
      ∙ simple_surely told (compare (comparison op) (spelled_number names left) (spelled_number names right) (note_of smooth)) made domains known event refl
  test_pruned (not_at id told side) within known marked =
      let parts : List Part = test_parts side slots known in
      let own : List Part = own_test (not_at id told side) slots known id in
      let same = test_pruned side within known (marked_left marks parts own marked) in
      let new : TestTree = rewritten_test (pruning marks) side in
      let made : Condition = simple_not (simple_condition (spelled_test names side) domains known event) in
      test_marked names told (marks id) _ _ (tidy_test (not_at id told new)) made (test-own (not_at id told side) id known parts marked)
      (decision_same names slots domains event stand (not_at id None side) within known)
      (up_to_same names told (tidy_test (not_at id told new)) (simple_not (spelled_test names new)) made (not_stands names id told new) (ap simple_not same))
      ∙ simple_surely told (negation (spelled_test names side)) made domains known event refl
  test_pruned (and_at id told left right) within known marked =
      let both = and_parts (test_within (length names) left) (test_within (length names) right) within in
      let d : Decision = decide_by_slots left slots known in
      let first : List Part = test_parts left slots known in
      let second : List Part = not_false d.answer (test_parts right slots d.known) in
      let own : List Part = own_test (and_at id told left right) slots known id in
      let later : AreMarked marks (second ++ own) = marked_right marks first (second ++ own) marked in
      let new_left : TestTree = rewritten_test (pruning marks) left in
      let new_right : TestTree = rewritten_test (pruning marks) right in
      let made_left : Condition = simple_condition (spelled_test names left) domains known event in
      let made_right : Condition =
      simple_condition (spelled_test names right) domains (decide (spelled_test names left) domains known event).known event in
      let left_same = test_pruned left both.0 known (marked_left marks first (second ++ own) marked) in
      let reached = and_reached marks d.answer (test_parts right slots d.known) made_left (spelled_test names new_right) made_right
      (shows-same left both.0 known) (marked_left marks second own later)
      (λ here. test_pruned right both.1 d.known here
      ∙ ap (λ e. simple_condition (spelled_test names right) domains e.known event) (decision_same names slots domains event stand left both.0 known)) in
      test_marked names told (marks id) _ _ (tidy_test (and_at id told new_left new_right)) (simple_and made_left made_right)
      (test-own (and_at id told left right) id known second later)
      (decision_same names slots domains event stand (and_at id None left right) within known)
      (up_to_same names told (tidy_test (and_at id told new_left new_right)) (simple_and (spelled_test names new_left) (spelled_test names new_right))
      (simple_and made_left made_right) (and_stands names id told new_left new_right)
      (ap (λ c. simple_and c (spelled_test names new_right)) left_same ∙ reached))
      ∙ simple_surely told (conjunction (spelled_test names left) (spelled_test names right)) (simple_and made_left made_right) domains known event refl
  test_pruned (or_at id told left right) within known marked =
      let both = and_parts (test_within (length names) left) (test_within (length names) right) within in
      let d : Decision = decide_by_slots left slots known in
      let first : List Part = test_parts left slots known in
      let second : List Part = not_true d.answer (test_parts right slots d.known) in
      let own : List Part = own_test (or_at id told left right) slots known id in
      let later : AreMarked marks (second ++ own) = marked_right marks first (second ++ own) marked in
      let new_left : TestTree = rewritten_test (pruning marks) left in
      let new_right : TestTree = rewritten_test (pruning marks) right in
      let made_left : Condition = simple_condition (spelled_test names left) domains known event in
      let made_right : Condition =
      simple_condition (spelled_test names right) domains (decide (spelled_test names left) domains known event).known event in
      let left_same = test_pruned left both.0 known (marked_left marks first (second ++ own) marked) in
      let reached = or_reached marks d.answer (test_parts right slots d.known) made_left (spelled_test names new_right) made_right
      (shows-same left both.0 known) (marked_left marks second own later)
      (λ here. test_pruned right both.1 d.known here
      ∙ ap (λ e. simple_condition (spelled_test names right) domains e.known event) (decision_same names slots domains event stand left both.0 known)) in
      test_marked names told (marks id) _ _ (tidy_test (or_at id told new_left new_right)) (simple_or made_left made_right)
      (test-own (or_at id told left right) id known second later)
      (decision_same names slots domains event stand (or_at id None left right) within known)
      (up_to_same names told (tidy_test (or_at id told new_left new_right)) (simple_or (spelled_test names new_left) (spelled_test names new_right))
      (simple_or made_left made_right) (or_stands names id told new_left new_right)
      (ap (λ c. simple_or c (spelled_test names new_right)) left_same ∙ reached))
      ∙ simple_surely told (disjunction (spelled_test names left) (spelled_test names right)) (simple_or made_left made_right) domains known event refl
