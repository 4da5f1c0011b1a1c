-- Ranges and decisions, by number and by name.
use Rattle.std.proofs.Common.{◌≡◌, ℕ, Bool, List, length, IsTrue, Option, Some, None, refl, ap, ◌∙◌}
use Rattle.std.proofs.lemmas.Bool.{and_parts, ltb-true}
use Rattle.pay_meaning.specs.Language.{Number, Condition, Event}
use Rattle.pay_domains.specs.declared.piece.Piece.{Piece}
use Rattle.pay_domains.specs.Operators.{no_flags, negated, magnitudes}
use Rattle.pay_tree.specs.declared.tree.Unary.TheVariants.{Neg, Abs}
use Rattle.pay_tree.specs.Views.{operator, comparison}
use Rattle.pay_tree.specs.Owned.{NumberTree, literal_at, slot_at, spot_at, unary_at, binary_at, TestTree, truth_at, compare_at, not_at, and_at}
use Rattle.pay_tree.specs.Owned.{or_at, spelled_number, spelled_test, surely}
use Rattle.pay_runs.specs.Slots.{number_within, test_within}
use Rattle.pay_facts.specs.Facts.{Domains}
use Rattle.pay_facts.specs.Ranges.{Range, range_of_one, range_of_both, range}
use Rattle.pay_facts.specs.Decisions.{Decision, comparison_decision, turned_decision, and_decision, or_decision, told_decision, decide}
use Rattle.pay_facts.specs.SlotFacts.{SlotDomains, range_by_slots, surely_decision, decide_by_slots}
use Rattle.pay_facts.specs.SlotLaws.{DomainsStandFor}

-- what comes after a part, by what was found there
after_range : (number : Number) (domains : Domains) (event : Event) (x a b : Range) → x ≡ range number domains a.known event → a ≡ b
    → x ≡ range number domains b.known event
after_range number domains event x a b first same = first ∙ ap (λ r. range number domains r.known event) same

after_decision : (condition : Condition) (domains : Domains) (event : Event) (x a b : Decision) → x ≡ decide condition domains a.known event → a ≡ b
    → x ≡ decide condition domains b.known event
after_decision condition domains event x a b first same = first ∙ ap (λ d. decide condition domains d.known event) same

-- a number has the range of what it stands for
pub range_same : (names : List (List ℕ)) (slots : SlotDomains) (domains : Domains) (event : Event) → DomainsStandFor names slots domains
    → (number : NumberTree) → IsTrue (number_within (length names) number) → (known : Bool)
    → range_by_slots number slots known ≡ range (spelled_number names number) domains known event
range_same names slots domains event stand (literal_at id raw) within known = refl
range_same names slots domains event stand (slot_at id slot) within known =
    let found : List Piece → Range = λ pieces. record { domain = pieces; flags = no_flags; known = known } in
    ap found (stand.same slot (ltb-true slot (length names) within))
range_same names slots domains event stand (spot_at id) within known = refl
range_same names slots domains event stand (unary_at id Neg side) within known =
    ap (range_of_one negated) (range_same names slots domains event stand side within known)
range_same names slots domains event stand (unary_at id Abs side) within known =
    ap (range_of_one magnitudes) (range_same names slots domains event stand side within known)
range_same names slots domains event stand (binary_at id op left right) within known =
    let parts = and_parts (number_within (length names) left) (number_within (length names) right) within in
    let first : range_by_slots left slots known ≡ range (spelled_number names left) domains known event =
    range_same names slots domains event stand left parts.0 known
    in
    let second : range_by_slots right slots (range_by_slots left slots known).known
    ≡ range (spelled_number names right) domains (range (spelled_number names left) domains known event).known event =
    after_range (spelled_number names right) domains event _ _ _
    (range_same names slots domains event stand right parts.1 (range_by_slots left slots known).known) first
    in
    λ i. range_of_both (operator op) (first i) (second i)

surely_same : (told : Option Bool) (condition : Condition) (domains : Domains) (known : Bool) (event : Event) (x : Decision)
    → x ≡ decide condition domains known event → surely_decision told x ≡ decide (surely told condition) domains known event
surely_same None condition domains known event x same = same
surely_same (Some answer) condition domains known event x same = ap (told_decision answer) same

-- a test has the decision of what it stands for
pub decision_same : (names : List (List ℕ)) (slots : SlotDomains) (domains : Domains) (event : Event) → DomainsStandFor names slots domains
    → (test : TestTree) → IsTrue (test_within (length names) test) → (known : Bool)
    → decide_by_slots test slots known ≡ decide (spelled_test names test) domains known event
decision_same names slots domains event stand (truth_at id told answer) within known = surely_same told _ domains known event _ refl
decision_same names slots domains event stand (compare_at id told op left right smooth) within known =
    let parts = and_parts (number_within (length names) left) (number_within (length names) right) within in
    let first : range_by_slots left slots known ≡ range (spelled_number names left) domains known event =
    range_same names slots domains event stand left parts.0 known
    in
    let second : range_by_slots right slots (range_by_slots left slots known).known
    ≡ range (spelled_number names right) domains (range (spelled_number names left) domains known event).known event =
    after_range (spelled_number names right) domains event _ _ _
    (range_same names slots domains event stand right parts.1 (range_by_slots left slots known).known) first
    in
    surely_same told _ domains known event _ (λ i. comparison_decision (comparison op) (first i) (second i))
decision_same names slots domains event stand (not_at id told side) within known =
    surely_same told _ domains known event _ (ap turned_decision (decision_same names slots domains event stand side within known))
decision_same names slots domains event stand (and_at id told left right) within known =
    let parts = and_parts (test_within (length names) left) (test_within (length names) right) within in
    let first : decide_by_slots left slots known ≡ decide (spelled_test names left) domains known event =
    decision_same names slots domains event stand left parts.0 known
    in
    let second : decide_by_slots right slots (decide_by_slots left slots known).known
    ≡ decide (spelled_test names right) domains (decide (spelled_test names left) domains known event).known event =
    after_decision (spelled_test names right) domains event _ _ _
    (decision_same names slots domains event stand right parts.1 (decide_by_slots left slots known).known) first
    in
    surely_same told _ domains known event _ (λ i. and_decision (first i) (second i))
decision_same names slots domains event stand (or_at id told left right) within known =
    let parts = and_parts (test_within (length names) left) (test_within (length names) right) within in
    let first : decide_by_slots left slots known ≡ decide (spelled_test names left) domains known event =
    decision_same names slots domains event stand left parts.0 known
    in
    let second : decide_by_slots right slots (decide_by_slots left slots known).known
    ≡ decide (spelled_test names right) domains (decide (spelled_test names left) domains known event).known event =
    after_decision (spelled_test names right) domains event _ _ _
    (decision_same names slots domains event stand right parts.1 (decide_by_slots left slots known).known) first
    in
    surely_same told _ domains known event _ (λ i. or_decision (first i) (second i))
