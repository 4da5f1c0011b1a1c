-- The domains of the variables after one branch and after the other: what a choice doesn't change is the same in both.
use Rattle.std.proofs.Common.{◌≡◌, ◌≢◌, ℕ, zero, suc, ℤ, pos, Bool, true, false, nat_eq, ◌||◌, List, [], ◌∷◌, ◌++◌, Option, Some, None, length}
use Rattle.std.proofs.Common.{◌⊎◌, inl, inr, get_or, set, refl, ap, sym, subst, ◌∙◌, arith}
use Rattle.std.proofs.lemmas.Bool.{cases_Bool, false≢true}
use Rattle.std.proofs.lemmas.Bool.Decides.{nat_tests}
use Rattle.std.proofs.lemmas.List.{get_or-set_other, length-set}
use Rattle.std.proofs.lemmas.Int.{ints}
use Rattle.pay_domains.specs.declared.piece.Piece.{Piece}
use Rattle.pay_domains.specs.Pieces.{Held, point, in_order, capped, normal, IsDomain}
use Rattle.pay_domains.specs.Operators.{united}
use Rattle.pay_domains.proofs.NormalLemmas.{in_order_held, in_order_ordered, joined-same}
use Rattle.pay_domains.proofs.NormalLaws.{domain-normal, canonical_proper}
use Rattle.pay_domains.proofs.OperatorLaws.{append_proper}
use Rattle.pay_domains.proofs.Results.{point_domain, negated_domain, magnitudes_domain, united_domain}
use Rattle.pay_facts.proofs.ResultLemmas.{result-domain}
use Rattle.pay_tree.specs.declared.tree.Unary.{Unary}
use Rattle.pay_tree.specs.declared.tree.Unary.TheVariants.{Neg, Abs}
use Rattle.pay_tree.specs.Views.{operator}
use Rattle.pay_tree.specs.Assigned.{assigned_by, assigned_in}
use Rattle.pay_tree.specs.Owned.{NumberTree, literal_at, slot_at, spot_at, unary_at, binary_at}
use Rattle.pay_tree.specs.Owned.{StepTree, assigning, paying, choosing, grouping, StepsTree, no_steps, step_then}
use Rattle.pay_code.specs.Filled.{is_among, IsEachOnce, AreChanges}
use Rattle.pay_facts.specs.SlotFacts.{SlotDomains, slot_domain, signed_domain, range_by_slots, decide_by_slots}
use Rattle.pay_facts.specs.SlotFacts.{SlotFacts, joined_slots, after_slot_branches, after_step, after_steps}
use Rattle.pay_analysis.specs.Walking.{AreDomains, all_joined_with, all_put, domains_of, put_out}
use Rattle.pay_analysis.proofs.SlotLemmas.{all_set}

-- what is held by pieces that are there twice
held-left : (x : ℤ) (a b : List Piece) → Held x a → Held x (a ++ b)
held-left x [] b e = absurd e
held-left x (p ∷ a) b (inl w) = inl w
held-left x (p ∷ a) b (inr e) = inr (held-left x a b e)

held-either : (x : ℤ) (a b : List Piece) → Held x (a ++ b) → Held x a ⊎ Held x b
held-either x [] b e = inr e
held-either x (p ∷ a) b (inl w) = inl (inl w)
held-either x (p ∷ a) b (inr e) = elim (held-either x a b e) [ inl left ↦ inl (inr left) | inr right ↦ inr right ]

held-twice : (x : ℤ) (a : List Piece) → Held x (a ++ a) → Held x a
held-twice x a e = elim (held-either x a a e) [ inl left ↦ left | inr right ↦ right ]

-- a domain joined to itself
pub united-same : (a : List Piece) → IsDomain a → united a a ≡ a
unfolding united normal
united-same a h =
    let proper = canonical_proper a h.rises in
    let once = joined-same (a ++ a) (in_order a) (append_proper a a proper proper) (in_order_ordered a proper)
    (λ x. (λ e. held-left x a a ((in_order_held x a).0 e), λ e. (in_order_held x a).1 (held-twice x a e))) in
    ap capped (sym once) ∙ domain-normal a h

-- the range of a number is a domain where those of the variables are
signed-domain : (op : Unary) (a : List Piece) → IsDomain a → IsDomain (signed_domain op a)
signed-domain Neg a h = negated_domain a h
signed-domain Abs a h = magnitudes_domain a h

pub range_domain : (n : NumberTree) (domains : SlotDomains) (known : Bool) → AreDomains domains → IsDomain (range_by_slots n domains known).domain
range_domain (literal_at id raw) domains known h = point_domain raw
range_domain (slot_at id slot) domains known h = h slot
range_domain (spot_at id) domains known h = record { rises = (omega (arith, ints), tt); few = omega arith }
range_domain (unary_at id op side) domains known h = signed-domain op (range_by_slots side domains known).domain (range_domain side domains known h)
range_domain (binary_at id op left right) domains known h =
    result-domain (operator op) (range_by_slots left domains known).domain (range_by_slots right domains (range_by_slots left domains known).known).domain

-- domains joined one by one
joined-count : (a b : SlotDomains) (n : ℕ) → length a ≡ n → length b ≡ n → length (joined_slots a b) ≡ n
joined-count [] b n h k = h
joined-count (x ∷ a) [] n h k = k
joined-count (x ∷ a) (y ∷ b) zero h k = absurd (omega arith)
joined-count (x ∷ a) (y ∷ b) (suc n) h k = let rest = joined-count a b n (omega arith) (omega arith) in omega arith

pub joined_place : (a b : SlotDomains) (slot : ℕ) → length a ≡ length b
    → slot_domain (joined_slots a b) slot ≡ united (slot_domain a slot) (slot_domain b slot)
joined_place [] [] slot h = sym (united-same (point (pos 0)) (point_domain (pos 0)))
joined_place [] (y ∷ b) slot h = absurd (omega arith)
joined_place (x ∷ a) [] slot h = absurd (omega arith)
joined_place (x ∷ a) (y ∷ b) zero h = refl
joined_place (x ∷ a) (y ∷ b) (suc slot) h = joined_place a b slot (omega arith)

-- as many domains after steps as before
branches-count : (answer : Option Bool) (a b : SlotFacts) (n : ℕ) → length a.domains ≡ n → length b.domains ≡ n
    → length (after_slot_branches answer a b).domains ≡ n
branches-count None a b n h k = joined-count a.domains b.domains n h k
branches-count (Some true) a b n h k = h
branches-count (Some false) a b n h k = k

mutual
  step-count : (s : StepTree) (domains : SlotDomains) (known : Bool) → length (after_step s domains known).domains ≡ length domains
  step-count (assigning slot value) domains known = length-set domains slot (range_by_slots value domains known).domain
  step-count (paying leg amount) domains known = refl
  step-count (choosing test yes_part no_part changes) domains known =
      let there = (decide_by_slots test domains known).known in
      branches-count (decide_by_slots test domains known).answer (after_steps yes_part domains there) (after_steps no_part domains there) (length domains)
      (steps_count yes_part domains there) (steps_count no_part domains there)
  step-count (grouping steps) domains known = steps_count steps domains known

  pub steps_count : (steps : StepsTree) (domains : SlotDomains) (known : Bool) → length (after_steps steps domains known).domains ≡ length domains
  steps_count no_steps domains known = refl
  steps_count (step_then step rest) domains known =
      steps_count rest (after_step step domains known).domains (after_step step domains known).known ∙ step-count step domains known

-- domains after steps are domains
branches-domains : (answer : Option Bool) (a b : SlotFacts) → length a.domains ≡ length b.domains → AreDomains a.domains → AreDomains b.domains
    → AreDomains (after_slot_branches answer a b).domains
branches-domains None a b same h k slot =
    subst IsDomain (sym (joined_place a.domains b.domains slot same))
    (united_domain (slot_domain a.domains slot) (slot_domain b.domains slot) (h slot) (k slot))
branches-domains (Some true) a b same h k slot = h slot
branches-domains (Some false) a b same h k slot = k slot

mutual
  pub step_domains : (s : StepTree) (domains : SlotDomains) (known : Bool) → AreDomains domains → AreDomains (after_step s domains known).domains
  step_domains (assigning slot value) domains known h =
      all_set IsDomain domains slot (range_by_slots value domains known).domain h (range_domain value domains known h)
  step_domains (paying leg amount) domains known h = h
  step_domains (choosing test yes_part no_part changes) domains known h =
      let there = (decide_by_slots test domains known).known in
      branches-domains (decide_by_slots test domains known).answer (after_steps yes_part domains there) (after_steps no_part domains there)
      (steps_count yes_part domains there ∙ sym (steps_count no_part domains there))
      (steps_domains yes_part domains there h) (steps_domains no_part domains there h)
  step_domains (grouping steps) domains known h = steps_domains steps domains known h

  pub steps_domains : (steps : StepsTree) (domains : SlotDomains) (known : Bool) → AreDomains domains → AreDomains (after_steps steps domains known).domains
  steps_domains no_steps domains known h = h
  steps_domains (step_then step rest) domains known h =
      steps_domains rest (after_step step domains known).domains (after_step step domains known).known (step_domains step domains known h)

-- a number that is in neither of two lists is in neither
out-left : (slot : ℕ) (a b : List ℕ) → is_among slot (a ++ b) ≡ false → is_among slot a ≡ false
out-left slot [] b h = refl
out-left slot (x ∷ a) b h = either-out (nat_eq slot x) (is_among slot (a ++ b)) (is_among slot a) (out-left slot a b) h
  where
    either-out : (here : Bool) (all some : Bool) → (all ≡ false → some ≡ false) → (here || all) ≡ false → (here || some) ≡ false
    either-out true all some f h = h
    either-out false all some f h = f h

out-right : (slot : ℕ) (a b : List ℕ) → is_among slot (a ++ b) ≡ false → is_among slot b ≡ false
out-right slot [] b h = h
out-right slot (x ∷ a) b h = out-right slot a b (later (nat_eq slot x) (is_among slot (a ++ b)) h)
  where
    later : (here all : Bool) → (here || all) ≡ false → all ≡ false
    later true all h = absurd (false≢true (sym h))
    later false all h = h

-- a variable that steps don't assign has the raws that it had
branches-kept : (answer : Option Bool) (a b : SlotFacts) (slot : ℕ) (before : List Piece) → IsDomain before → length a.domains ≡ length b.domains
    → slot_domain a.domains slot ≡ before → slot_domain b.domains slot ≡ before
    → slot_domain (after_slot_branches answer a b).domains slot ≡ before
branches-kept None a b slot before h same x y =
    joined_place a.domains b.domains slot same ∙ (λ i. united (x i) (y i)) ∙ united-same before h
branches-kept (Some true) a b slot before h same x y = x
branches-kept (Some false) a b slot before h same x y = y

apart-of : (slot x : ℕ) → (nat_eq slot x || false) ≡ false → slot ≢ x
apart-of slot x h = unlike (nat_eq slot x) refl h
  where
    unlike : (b : Bool) → nat_eq slot x ≡ b → (b || false) ≡ false → slot ≢ x
    unlike true e h = absurd (false≢true (sym h))
    unlike false e h = grind (arith, nat_tests)

mutual
  step-kept : (s : StepTree) (domains : SlotDomains) (known : Bool) (slot : ℕ) → AreDomains domains → is_among slot (assigned_by s) ≡ false
      → slot_domain (after_step s domains known).domains slot ≡ slot_domain domains slot
  step-kept (assigning place value) domains known slot h out =
      get_or-set_other domains place slot (range_by_slots value domains known).domain (point (pos 0)) (apart-of slot place out)
  step-kept (paying leg amount) domains known slot h out = refl
  step-kept (choosing test yes_part no_part changes) domains known slot h out =
      let there = (decide_by_slots test domains known).known in
      branches-kept (decide_by_slots test domains known).answer (after_steps yes_part domains there) (after_steps no_part domains there)
      slot (slot_domain domains slot) (h slot) (steps_count yes_part domains there ∙ sym (steps_count no_part domains there))
      (steps_kept yes_part domains there slot h (out-left slot (assigned_in yes_part) (assigned_in no_part) out))
      (steps_kept no_part domains there slot h (out-right slot (assigned_in yes_part) (assigned_in no_part) out))
  step-kept (grouping steps) domains known slot h out = steps_kept steps domains known slot h out

  pub steps_kept : (steps : StepsTree) (domains : SlotDomains) (known : Bool) (slot : ℕ) → AreDomains domains → is_among slot (assigned_in steps) ≡ false
      → slot_domain (after_steps steps domains known).domains slot ≡ slot_domain domains slot
  steps_kept no_steps domains known slot h out = refl
  steps_kept (step_then step rest) domains known slot h out =
      steps_kept rest (after_step step domains known).domains (after_step step domains known).known slot (step_domains step domains known h)
      (out-right slot (assigned_by step) (assigned_in rest) out)
      ∙ step-kept step domains known slot h (out-left slot (assigned_by step) (assigned_in rest) out)

-- domains that are as many, and the same one by one
same-domains : (a b : SlotDomains) → length a ≡ length b → ((slot : ℕ) → slot_domain a slot ≡ slot_domain b slot) → a ≡ b
same-domains [] [] h each = refl
same-domains [] (y ∷ b) h each = absurd (omega arith)
same-domains (x ∷ a) [] h each = absurd (omega arith)
same-domains (x ∷ a) (y ∷ b) h each =
    let rest = same-domains a b (omega arith) (λ slot. each (suc slot)) in λ i. each zero i ∷ rest i

set-place : (a b : SlotDomains) (slot : ℕ) → length a ≡ length b → slot_domain (set a slot (slot_domain b slot)) slot ≡ slot_domain b slot
set-place [] [] slot h = refl
set-place [] (y ∷ b) slot h = absurd (omega arith)
set-place (x ∷ a) [] slot h = absurd (omega arith)
set-place (x ∷ a) (y ∷ b) zero h = refl
set-place (x ∷ a) (y ∷ b) (suc slot) h = set-place a b slot (omega arith)

get-place : (a b : SlotDomains) (slot : ℕ) → length a ≡ length b → get_or a slot (slot_domain b slot) ≡ slot_domain a slot
get-place [] [] slot h = refl
get-place [] (y ∷ b) slot h = absurd (omega arith)
get-place (x ∷ a) [] slot h = absurd (omega arith)
get-place (x ∷ a) (y ∷ b) zero h = refl
get-place (x ∷ a) (y ∷ b) (suc slot) h = get-place a b slot (omega arith)

join-place : (a b : SlotDomains) (slot : ℕ) → length a ≡ length b
    → slot_domain (set a slot (united (slot_domain b slot) (slot_domain a slot))) slot ≡ united (slot_domain b slot) (slot_domain a slot)
join-place [] [] slot h = sym (united-same (point (pos 0)) (point_domain (pos 0)))
join-place [] (y ∷ b) slot h = absurd (omega arith)
join-place (x ∷ a) [] slot h = absurd (omega arith)
join-place (x ∷ a) (y ∷ b) zero h = refl
join-place (x ∷ a) (y ∷ b) (suc slot) h = join-place a b slot (omega arith)

-- a number is the first of a list, or it is among the rest as it is among all
first-or-rest : (slot first : ℕ) (rest : List ℕ) → (slot ≡ first) ⊎ ((slot ≢ first) × (is_among slot (first ∷ rest) ≡ is_among slot rest))
first-or-rest slot first rest = elim (cases_Bool (nat_eq slot first)) [
  | inl t ↦ inl (grind (arith, nat_tests))
  | inr f ↦ inr (grind (arith, nat_tests), ap (λ b. b || is_among slot rest) f)
]

first-among : (first : ℕ) (rest : List ℕ) → is_among first (first ∷ rest) ≡ true
first-among first rest = let same : nat_eq first first ≡ true = grind (arith, nat_tests) in ap (λ b. b || is_among first rest) same

rest-among : (slot first : ℕ) (rest : List ℕ) → is_among slot rest ≡ true → is_among slot (first ∷ rest) ≡ true
rest-among slot first rest h = either-in (nat_eq slot first) (is_among slot rest) h
  where
    either-in : (here there : Bool) → there ≡ true → (here || there) ≡ true
    either-in true there h = refl
    either-in false there h = h

-- a number that is among the rest is another than the first, where each is there once
apart-from : (slot first : ℕ) (rest : List ℕ) → is_among first rest ≡ false → is_among slot rest ≡ true → slot ≢ first
apart-from slot first rest out there same = false≢true (sym out ∙ ap (λ s. is_among s rest) (sym same) ∙ there)

-- the variables that a choice changes get the raws back that they had: so all of them have these
pub all_restored : (changes : List ℕ) (now before : SlotDomains) → length now ≡ length before
    → ((slot : ℕ) → is_among slot changes ≡ false → slot_domain now slot ≡ slot_domain before slot)
    → all_put now changes (domains_of before changes) ≡ before
all_restored [] now before h kept = same-domains now before h (λ slot. kept slot refl)
all_restored (first ∷ rest) now before h kept =
    let back = slot_domain before first in
    all_restored rest (set now first back) before (length-set now first back ∙ h)
    (λ slot out. elim (first-or-rest slot first rest) [
      | inl same ↦ subst (λ s. slot_domain (set now first back) s ≡ slot_domain before s) (sym same) (set-place now before first h)
      | inr other ↦ get_or-set_other now first slot back (point (pos 0)) other.0 ∙ kept slot (other.1 ∙ out)
    ])

-- what is kept in exchange are the raws that they had after the first branch
taken-from : (changes : List ℕ) (here now before : SlotDomains) → length here ≡ length before → IsEachOnce changes
    → ((slot : ℕ) → is_among slot changes ≡ true → slot_domain here slot ≡ slot_domain now slot)
    → put_out here changes (domains_of before changes) ≡ domains_of now changes
taken-from [] here now before h once same = refl
taken-from (first ∷ rest) here now before h once same =
    let back = slot_domain before first in
    let taken = get-place here before first h ∙ same first (first-among first rest) in
    let others = taken-from rest (set here first back) now before (length-set here first back ∙ h) once.1
    (λ slot there. get_or-set_other here first slot back (point (pos 0)) (apart-from slot first rest once.0 there)
    ∙ same slot (rest-among slot first rest there)) in
    λ i. taken i ∷ others i

pub all_taken : (changes : List ℕ) (now before : SlotDomains) → length now ≡ length before → IsEachOnce changes
    → put_out now changes (domains_of before changes) ≡ domains_of now changes
all_taken changes now before h once = taken-from changes now now before h once (λ slot there. refl)

-- the variables that a choice changes, joined, are all variables joined
joined-from : (changes : List ℕ) (here yes_part no_part : SlotDomains) → length here ≡ length yes_part → length no_part ≡ length yes_part → IsEachOnce changes
    → ((slot : ℕ) → is_among slot changes ≡ true → slot_domain here slot ≡ slot_domain no_part slot)
    → ((slot : ℕ) → is_among slot changes ≡ false → slot_domain here slot ≡ united (slot_domain yes_part slot) (slot_domain no_part slot))
    → all_joined_with here changes (domains_of yes_part changes) ≡ joined_slots yes_part no_part
joined-from [] here yes_part no_part h k once same done =
    same-domains here (joined_slots yes_part no_part) (h ∙ sym (joined-count yes_part no_part (length yes_part) refl k))
    (λ slot. done slot refl ∙ sym (joined_place yes_part no_part slot (sym k)))
joined-from (first ∷ rest) here yes_part no_part h k once same done =
    let both = united (slot_domain yes_part first) (slot_domain here first) in
    joined-from rest (set here first both) yes_part no_part (length-set here first both ∙ h) k once.1
    (λ slot there. get_or-set_other here first slot both (point (pos 0)) (apart-from slot first rest once.0 there)
    ∙ same slot (rest-among slot first rest there))
    (λ slot out. elim (first-or-rest slot first rest) [
      | inl is ↦ subst (λ s. slot_domain (set here first both) s ≡ united (slot_domain yes_part s) (slot_domain no_part s)) (sym is)
          (join-place here yes_part first h ∙ ap (united (slot_domain yes_part first)) (same first (first-among first rest)))
      | inr other ↦ get_or-set_other here first slot both (point (pos 0)) other.0 ∙ done slot (other.1 ∙ out)
    ])

pub all_joined_slots : (changes : List ℕ) (before yes_part no_part : SlotDomains) → length yes_part ≡ length before → length no_part ≡ length before
    → IsEachOnce changes → AreDomains before
    → ((slot : ℕ) → is_among slot changes ≡ false → slot_domain yes_part slot ≡ slot_domain before slot)
    → ((slot : ℕ) → is_among slot changes ≡ false → slot_domain no_part slot ≡ slot_domain before slot)
    → all_joined_with no_part changes (domains_of yes_part changes) ≡ joined_slots yes_part no_part
all_joined_slots changes before yes_part no_part h k once domains first second =
    joined-from changes no_part yes_part no_part (k ∙ sym h) (k ∙ sym h) once (λ slot there. refl)
    (λ slot out. second slot out ∙ sym (united-same (slot_domain before slot) (domains slot))
    ∙ sym (λ i. united (first slot out i) (second slot out i)))

-- what a choice doesn't change is not assigned in its branches
pub not_assigned : {changes : List ℕ} {yes_part no_part : StepsTree} → AreChanges changes yes_part no_part → (slot : ℕ) → is_among slot changes ≡ false
    → (is_among slot (assigned_in yes_part) ≡ false) × (is_among slot (assigned_in no_part) ≡ false)
not_assigned {changes} {yes_part} {no_part} h slot out =
    let neither = sym (h.those slot) ∙ out in
    (out-left slot (assigned_in yes_part) (assigned_in no_part) neither, out-right slot (assigned_in yes_part) (assigned_in no_part) neither)

-- so a choice can be walked with the variables that it changes alone kept aside: the domains before it come back for its second branch, and its
-- domains are those of both branches
pub branches_restored : (changes : List ℕ) (yes_part no_part : StepsTree) (domains : SlotDomains) (known : Bool) → AreChanges changes yes_part no_part
    → AreDomains domains → all_put (after_steps yes_part domains known).domains changes (domains_of domains changes) ≡ domains
branches_restored changes yes_part no_part domains known h good =
    all_restored changes (after_steps yes_part domains known).domains domains (steps_count yes_part domains known)
    (λ slot out. steps_kept yes_part domains known slot good (not_assigned h slot out).0)

pub branches_joined : (changes : List ℕ) (yes_part no_part : StepsTree) (domains : SlotDomains) (known : Bool) → AreChanges changes yes_part no_part
    → AreDomains domains
    → all_joined_with (after_steps no_part domains known).domains changes (domains_of (after_steps yes_part domains known).domains changes)
    ≡ joined_slots (after_steps yes_part domains known).domains (after_steps no_part domains known).domains
branches_joined changes yes_part no_part domains known h good =
    all_joined_slots changes domains (after_steps yes_part domains known).domains (after_steps no_part domains known).domains
    (steps_count yes_part domains known) (steps_count no_part domains known) h.each_once good
    (λ slot out. steps_kept yes_part domains known slot good (not_assigned h slot out).0)
    (λ slot out. steps_kept no_part domains known slot good (not_assigned h slot out).1)

-- one domain for each of the variables that are kept
pub kept_count : (domains : SlotDomains) (changes : List ℕ) → length (domains_of domains changes) ≡ length changes
kept_count domains [] = refl
kept_count domains (slot ∷ rest) = ap suc (kept_count domains rest)

pub put_out_count : (domains : SlotDomains) (changes : List ℕ) (kept : SlotDomains) → length kept ≡ length changes
    → length (put_out domains changes kept) ≡ length changes
put_out_count domains [] kept h = h
put_out_count domains (slot ∷ rest) [] h = h
put_out_count domains (slot ∷ rest) (first ∷ kept) h =
    let others = put_out_count (set domains slot first) rest kept (omega arith) in omega arith
