-- The facts and the marks of a step whose test was walked.
use Rattle.std.proofs.Common.{◌≡◌, ℕ, zero, suc, Bool, ◌&&◌, List, [], ◌∷◌, ◌++◌, Option, None, length, Result, Ok, Err, refl, ap, sym, ◌∙◌}
use Rattle.std.specs.Result.{OnOk}
use Rattle.pay_tree.specs.Owned.{TestTree, StepTree, choosing, StepsTree, step_then}
use Rattle.pay_code.specs.Filled.{AreChanges}
use Rattle.pay_facts.specs.Decisions.{Decision}
use Rattle.pay_facts.specs.SlotFacts.{SlotDomains, decide_by_slots, SlotFacts, joined_slots, both_slot_facts, after_slot_branches, after_step, after_steps}
use Rattle.pay_facts.specs.Reached.{Part, test_parts, branch_parts, step_parts, steps_parts}
use Rattle.pay_analysis.specs.declared.marks.Mark.{Mark}
use Rattle.pay_analysis.specs.Marks.{marked}
use Rattle.pay_analysis.specs.Walking.{AreDomains, AreAllRaws, all_joined_with, all_put, domains_of, put_out}
use Rattle.pay_analysis.proofs.MarkLemmas.{marked_append}
use Rattle.pay_analysis.proofs.SlotLemmas.{no_raws}
use Rattle.pay_analysis.proofs.BranchLemmas.{all_taken, branches_restored, branches_joined, steps_count}

-- what two facts of a call that went well lead to
pub on_ok_two : {T E A B C : Type 0} (r : Result T E) → (A → B → C) → OnOk r A → OnOk r B → OnOk r C
on_ok_two (Ok x) f a b = f a b
on_ok_two (Err e) f a b = tt

-- the parts of a choice, by the decision of its test
choice-parts : (s : StepTree) (test : TestTree) (yes_part no_part : StepsTree) (changes : List ℕ) (domains : SlotDomains) (known : Bool) (d : Decision)
    (answer : Option Bool) → s ≡ choosing test yes_part no_part changes → d ≡ decide_by_slots test domains known → d.answer ≡ answer
    → step_parts s domains known
    ≡ test_parts test domains known ++ branch_parts answer (steps_parts yes_part domains d.known) (steps_parts no_part domains d.known)
choice-parts s test yes_part no_part changes domains known d answer is decided answered =
    ap (λ step. step_parts step domains known) is
    ∙ sym (λ i. test_parts test domains known
    ++ branch_parts (decided i).answer (steps_parts yes_part domains (decided i).known) (steps_parts no_part domains (decided i).known))
    ∙ ap (λ a. test_parts test domains known ++ branch_parts a (steps_parts yes_part domains d.known) (steps_parts no_part domains d.known)) answered

-- the marks of a choice whose test is decided
pub branch_marked : (s : StepTree) (test : TestTree) (yes_part no_part : StepsTree) (changes : List ℕ) (domains : SlotDomains) (known : Bool) (d : Decision)
    (answer : Option Bool) (parts : List Part) (m0 m1 m2 : ℕ → Mark) → s ≡ choosing test yes_part no_part changes → d ≡ decide_by_slots test domains known
    → d.answer ≡ answer → branch_parts answer (steps_parts yes_part domains d.known) (steps_parts no_part domains d.known) ≡ parts
    → m1 ≡ marked m0 (test_parts test domains known) → m2 ≡ marked m1 parts → m2 ≡ marked m0 (step_parts s domains known)
branch_marked s test yes_part no_part changes domains known d answer parts m0 m1 m2 is decided answered those first second =
    second ∙ ap (λ m. marked m parts) first ∙ sym (marked_append m0 (test_parts test domains known) parts)
    ∙ sym (ap (marked m0) (choice-parts s test yes_part no_part changes domains known d answer is decided answered
    ∙ ap (λ these. test_parts test domains known ++ these) those))

-- the marks of a choice whose test is open
pub both_marked : (s : StepTree) (test : TestTree) (yes_part no_part : StepsTree) (changes : List ℕ) (domains back : SlotDomains) (known there : Bool)
    (d : Decision) (m0 m1 m2 m3 : ℕ → Mark) → s ≡ choosing test yes_part no_part changes → d ≡ decide_by_slots test domains known → d.answer ≡ None
    → back ≡ domains → there ≡ d.known → m1 ≡ marked m0 (test_parts test domains known) → m2 ≡ marked m1 (steps_parts yes_part domains d.known)
    → m3 ≡ marked m2 (steps_parts no_part back there) → m3 ≡ marked m0 (step_parts s domains known)
both_marked s test yes_part no_part changes domains back known there d m0 m1 m2 m3 is decided answered restored here first second third =
    let a = steps_parts yes_part domains d.known in
    let b = steps_parts no_part domains d.known in
    branch_marked s test yes_part no_part changes domains known d None (a ++ b) m0 m1 m3 is decided answered refl first
    (third ∙ (λ i. marked (second i) (steps_parts no_part (restored i) (here i))) ∙ sym (marked_append m1 a b))

-- the domains that come back for the second branch
pub back_again : (changes one two : List ℕ) (yes_part no_part : StepsTree) (domains kept first back : SlotDomains) (known : Bool)
    → AreChanges changes yes_part no_part → AreDomains domains → one ≡ changes → two ≡ changes → kept ≡ domains_of domains one
    → first ≡ (after_steps yes_part domains known).domains → back ≡ all_put first two kept → back ≡ domains
back_again changes one two yes_part no_part domains kept first back known h good same_one same_two keeps walked is =
    is ∙ (λ i. all_put (walked i) (same_two i) ((keeps ∙ ap (domains_of domains) same_one) i))
    ∙ branches_restored changes yes_part no_part domains known h good

-- what is kept of the first branch
pub taken_out : (changes one two : List ℕ) (yes_part no_part : StepsTree) (domains kept first taken : SlotDomains) (known : Bool)
    → AreChanges changes yes_part no_part → one ≡ changes → two ≡ changes → kept ≡ domains_of domains one
    → first ≡ (after_steps yes_part domains known).domains → taken ≡ put_out first two kept → taken ≡ domains_of first changes
taken_out changes one two yes_part no_part domains kept first taken known h same_one same_two keeps walked is =
    is ∙ (λ i. put_out first (same_two i) ((keeps ∙ ap (domains_of domains) same_one) i))
    ∙ all_taken changes first domains (ap length walked ∙ steps_count yes_part domains known) h.each_once

-- the facts after a choice whose test is open
pub choice_facts : (s : StepTree) (test : TestTree) (yes_part no_part : StepsTree) (changes three : List ℕ) (domains back taken : SlotDomains)
    (known there took : Bool) (d : Decision) (first second last : SlotFacts) → s ≡ choosing test yes_part no_part changes
    → AreChanges changes yes_part no_part → AreDomains domains → d ≡ decide_by_slots test domains known → d.answer ≡ None
    → first ≡ after_steps yes_part domains d.known → back ≡ domains → there ≡ d.known → second ≡ after_steps no_part back there
    → taken ≡ domains_of first.domains changes → took ≡ first.known → three ≡ changes
    → last.domains ≡ all_joined_with second.domains three taken → last.known ≡ (took && second.known) → last ≡ after_step s domains known
choice_facts s test yes_part no_part changes three domains back taken known there took d first second last
    is h good decided answered walked restored here walked_too keeps knew same_three joins knows =
    let a = after_steps yes_part domains d.known in
    let b = after_steps no_part domains d.known in
    let again : second ≡ b = walked_too ∙ (λ i. after_steps no_part (restored i) (here i)) in
    let taken_is : taken ≡ domains_of a.domains changes = keeps ∙ ap (λ facts. domains_of facts.domains changes) walked in
    let joined : last.domains ≡ joined_slots a.domains b.domains =
    joins ∙ (λ i. all_joined_with (again i).domains (same_three i) (taken_is i)) ∙ branches_joined changes yes_part no_part domains d.known h good in
    let both : last.known ≡ (a.known && b.known) = knows ∙ (λ i. (knew ∙ ap (λ facts. facts.known) walked) i && (again i).known) in
    let facts : last ≡ both_slot_facts a b = λ i. record { domains = joined i; known = both i } in
    facts ∙ sym (ap (λ x. after_slot_branches x a b) answered)
    ∙ (λ i. after_slot_branches (decided i).answer (after_steps yes_part domains (decided i).known) (after_steps no_part domains (decided i).known))
    ∙ sym (ap (λ step. after_step step domains known) is)

-- what is kept lies within the limit
pub kept_raws : (domains : SlotDomains) (changes : List ℕ) → AreAllRaws domains → AreAllRaws (domains_of domains changes)
kept_raws domains [] h place = no_raws place
kept_raws domains (slot ∷ rest) h zero = h slot
kept_raws domains (slot ∷ rest) h (suc place) = kept_raws domains rest h place

-- the marks of the steps that are left, after the first of them
pub step_marked : (whole m next : ℕ → Mark) (left rest : StepsTree) (item : StepTree) (domains : SlotDomains) (known : Bool) (facts : SlotFacts)
    → whole ≡ marked m (steps_parts left domains known) → left ≡ step_then item rest → facts ≡ after_step item domains known
    → next ≡ marked m (step_parts item domains known) → whole ≡ marked next (steps_parts rest facts.domains facts.known)
step_marked whole m next left rest item domains known facts so_far opened stepped marks =
    let there = after_step item domains known in
    so_far ∙ ap (λ steps. marked m (steps_parts steps domains known)) opened
    ∙ marked_append m (step_parts item domains known) (steps_parts rest there.domains there.known)
    ∙ sym (λ i. marked (marks i) (steps_parts rest (stepped i).domains (stepped i).known))
