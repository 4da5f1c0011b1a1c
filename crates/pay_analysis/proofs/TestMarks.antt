-- The marks of the parts of a test.
use Rattle.std.proofs.Common.{◌≡◌, ℕ, Bool, true, false, List, [], ◌∷◌, ◌++◌, Option, Some, None, refl, ap, sym, ◌∙◌}
use Rattle.std.proofs.lemmas.Bool.{false≢true}
use Rattle.pay_fixed.specs.declared.smooth.Smooth.{Smooth}
use Rattle.pay_tree.specs.declared.tree.Compare.{Compare}
use Rattle.pay_tree.specs.Views.{comparison}
use Rattle.pay_tree.specs.Owned.{NumberTree, TestTree, compare_at, not_at, and_at, or_at}
use Rattle.pay_facts.specs.Ranges.{Range}
use Rattle.pay_facts.specs.Decisions.{Decision, comparison_decision, turned_decision, and_decision, or_decision, and_by, or_by}
use Rattle.pay_facts.specs.SlotFacts.{SlotDomains, range_by_slots, decide_by_slots, surely_decision}
use Rattle.pay_facts.specs.Reached.{Part, test_found, number_parts, test_parts, unless_false, unless_true}
use Rattle.pay_analysis.specs.declared.marks.Mark.{Mark}
use Rattle.pay_analysis.specs.Marks.{put_mark, marked, mark_of}
use Rattle.pay_analysis.specs.Walking.{is_false, is_true}
use Rattle.pay_analysis.proofs.MarkLemmas.{three_marked}

-- a test itself, after its sides
abbrev pub tested : ℕ → Decision → List Part
tested id decision = record { id = id; found = test_found decision } ∷ []

-- the marks of the parts of two sides, and then that of the test
pub sides_marked : (m0 m1 m2 m3 : ℕ → Mark) (id : ℕ) (decision : Decision) (a b parts : List Part) → parts ≡ a ++ (b ++ tested id decision)
    → m1 ≡ marked m0 a → m2 ≡ marked m1 b → m3 ≡ put_mark m2 id (mark_of (test_found decision)) → m3 ≡ marked m0 parts
sides_marked m0 m1 m2 m3 id decision a b parts whole first second last =
    last ∙ (λ i. put_mark (second i) id (mark_of (test_found decision))) ∙ (λ i. put_mark (marked (first i) b) id (mark_of (test_found decision)))
    ∙ three_marked m0 a b (record { id = id; found = test_found decision }) ∙ ap (marked m0) (sym whole)

-- the parts of a comparison
pub compare_parts : (t : TestTree) (id : ℕ) (told : Option Bool) (op : Compare) (left right : NumberTree) (smooth : Option Smooth) (domains : SlotDomains)
    (known : Bool) (x y : Range) (decision : Decision) → t ≡ compare_at id told op left right smooth → x ≡ range_by_slots left domains known
    → y ≡ range_by_slots right domains x.known → decision ≡ comparison_decision (comparison op) x y
    → test_parts t domains known ≡ number_parts left domains known ++ (number_parts right domains x.known ++ tested id (surely_decision told decision))
compare_parts t id told op left right smooth domains known x y decision is x_is y_is decided =
    let first = range_by_slots left domains known in
    let compared = comparison_decision (comparison op) in
    let whole : decision ≡ compared first (range_by_slots right domains first.known) =
    decided ∙ ap (compared x) y_is ∙ (λ i. compared (x_is i) (range_by_slots right domains (x_is i).known)) in
    ap (λ tree. test_parts tree domains known) is
    ∙ sym (λ i. number_parts left domains known ++ (number_parts right domains (x_is i).known ++ tested id (surely_decision told (whole i))))

-- the parts of `not`
pub not_parts : (t : TestTree) (id : ℕ) (told : Option Bool) (side : TestTree) (domains : SlotDomains) (known : Bool) (x decision : Decision)
    → t ≡ not_at id told side → x ≡ decide_by_slots side domains known → decision ≡ turned_decision x
    → test_parts t domains known ≡ test_parts side domains known ++ ([] ++ tested id (surely_decision told decision))
not_parts t id told side domains known x decision is x_is decided =
    ap (λ tree. test_parts tree domains known) is
    ∙ sym (ap (λ d. test_parts side domains known ++ ([] ++ tested id (surely_decision told d))) (decided ∙ ap turned_decision x_is))

-- what a side that is skipped leaves of `and`
skipped-by : (answer : Option Bool) (told : Option Bool) (id : ℕ) (x y : Decision) (parts : List Part) → is_false answer ≡ true
    → unless_false answer parts ++ tested id (surely_decision told (and_by answer x y)) ≡ [] ++ tested id (surely_decision told x)
skipped-by None told id x y parts h = absurd (false≢true h)
skipped-by (Some true) told id x y parts h = absurd (false≢true h)
skipped-by (Some false) told id x y parts h = refl

reached-by : (answer : Option Bool) (last parts : List Part) → is_false answer ≡ false → unless_false answer parts ++ last ≡ parts ++ last
reached-by None last parts h = refl
reached-by (Some true) last parts h = refl
reached-by (Some false) last parts h = absurd (false≢true (sym h))

-- what a side that is skipped leaves of `or`
passed-by : (answer : Option Bool) (told : Option Bool) (id : ℕ) (x y : Decision) (parts : List Part) → is_true answer ≡ true
    → unless_true answer parts ++ tested id (surely_decision told (or_by answer x y)) ≡ [] ++ tested id (surely_decision told x)
passed-by None told id x y parts h = absurd (false≢true h)
passed-by (Some true) told id x y parts h = refl
passed-by (Some false) told id x y parts h = absurd (false≢true h)

entered-by : (answer : Option Bool) (last parts : List Part) → is_true answer ≡ false → unless_true answer parts ++ last ≡ parts ++ last
entered-by None last parts h = refl
entered-by (Some true) last parts h = absurd (false≢true (sym h))
entered-by (Some false) last parts h = refl

-- the parts of `and` whose left side is false
pub and_skipped : (t : TestTree) (id : ℕ) (told : Option Bool) (left right : TestTree) (domains : SlotDomains) (known : Bool) (x : Decision)
    → t ≡ and_at id told left right → x ≡ decide_by_slots left domains known → is_false x.answer ≡ true
    → test_parts t domains known ≡ test_parts left domains known ++ ([] ++ tested id (surely_decision told x))
and_skipped t id told left right domains known x is x_is h =
    let there = decide_by_slots left domains known in
    ap (λ tree. test_parts tree domains known) is
    ∙ ap (λ last. test_parts left domains known ++ last)
    (skipped-by there.answer told id there (decide_by_slots right domains there.known) (test_parts right domains there.known)
    (sym (ap (λ d. is_false d.answer) x_is) ∙ h))
    ∙ sym (ap (λ d. test_parts left domains known ++ ([] ++ tested id (surely_decision told d))) x_is)

-- the parts of `and` whose left side is not false
pub and_entered : (t : TestTree) (id : ℕ) (told : Option Bool) (left right : TestTree) (domains : SlotDomains) (known : Bool) (x y decision : Decision)
    → t ≡ and_at id told left right → x ≡ decide_by_slots left domains known → is_false x.answer ≡ false
    → y ≡ decide_by_slots right domains x.known → decision ≡ and_decision x y
    → test_parts t domains known ≡ test_parts left domains known ++ (test_parts right domains x.known ++ tested id (surely_decision told decision))
and_entered t id told left right domains known x y decision is x_is h y_is decided =
    let there = decide_by_slots left domains known in
    let whole : decision ≡ and_decision there (decide_by_slots right domains there.known) =
    decided ∙ ap (and_decision x) y_is ∙ (λ i. and_decision (x_is i) (decide_by_slots right domains (x_is i).known)) in
    ap (λ tree. test_parts tree domains known) is
    ∙ ap (λ last. test_parts left domains known ++ last)
    (reached-by there.answer (tested id (surely_decision told (and_decision there (decide_by_slots right domains there.known))))
    (test_parts right domains there.known) (sym (ap (λ d. is_false d.answer) x_is) ∙ h))
    ∙ sym (λ i. test_parts left domains known ++ (test_parts right domains (x_is i).known ++ tested id (surely_decision told (whole i))))

-- the parts of `or` whose left side is true
pub or_skipped : (t : TestTree) (id : ℕ) (told : Option Bool) (left right : TestTree) (domains : SlotDomains) (known : Bool) (x : Decision)
    → t ≡ or_at id told left right → x ≡ decide_by_slots left domains known → is_true x.answer ≡ true
    → test_parts t domains known ≡ test_parts left domains known ++ ([] ++ tested id (surely_decision told x))
or_skipped t id told left right domains known x is x_is h =
    let there = decide_by_slots left domains known in
    ap (λ tree. test_parts tree domains known) is
    ∙ ap (λ last. test_parts left domains known ++ last)
    (passed-by there.answer told id there (decide_by_slots right domains there.known) (test_parts right domains there.known)
    (sym (ap (λ d. is_true d.answer) x_is) ∙ h))
    ∙ sym (ap (λ d. test_parts left domains known ++ ([] ++ tested id (surely_decision told d))) x_is)

-- the parts of `or` whose left side is not true
pub or_entered : (t : TestTree) (id : ℕ) (told : Option Bool) (left right : TestTree) (domains : SlotDomains) (known : Bool) (x y decision : Decision)
    → t ≡ or_at id told left right → x ≡ decide_by_slots left domains known → is_true x.answer ≡ false
    → y ≡ decide_by_slots right domains x.known → decision ≡ or_decision x y
    → test_parts t domains known ≡ test_parts left domains known ++ (test_parts right domains x.known ++ tested id (surely_decision told decision))
or_entered t id told left right domains known x y decision is x_is h y_is decided =
    let there = decide_by_slots left domains known in
    let whole : decision ≡ or_decision there (decide_by_slots right domains there.known) =
    decided ∙ ap (or_decision x) y_is ∙ (λ i. or_decision (x_is i) (decide_by_slots right domains (x_is i).known)) in
    ap (λ tree. test_parts tree domains known) is
    ∙ ap (λ last. test_parts left domains known ++ last)
    (entered-by there.answer (tested id (surely_decision told (or_decision there (decide_by_slots right domains there.known))))
    (test_parts right domains there.known) (sym (ap (λ d. is_true d.answer) x_is) ∙ h))
    ∙ sym (λ i. test_parts left domains known ++ (test_parts right domains (x_is i).known ++ tested id (surely_decision told (whole i))))
