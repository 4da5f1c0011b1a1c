-- What is said of an event of a trade, and what is left of its steps.
use Rattle.std.proofs.Common.{◌≡◌, ℕ, zero, suc, ◌+◌, ◌<◌, ◌≤◌, false, List, [], ◌∷◌, ◌++◌, drop, get_or, length, map, refl, sym, ap, ◌∙◌}
use Rattle.std.proofs.Common.{arith, min, subst, pos, add-one}
use Rattle.std.proofs.lemmas.List.{length-map}
use Rattle.std.proofs.lemmas.Int.{ints}
use Rattle.pay_tree.specs.Owned.{StepsTree}
use Rattle.pay_visit.specs.Rewriting.{rewritten_steps}
use Rattle.pay_passes.specs.Changes.{filled_steps}
use Rattle.pay_domains.specs.Pieces.{point, IsDomain, AreRaws}
use Rattle.pay_domains.proofs.Results.{point_domain}
use Rattle.pay_facts.specs.Reached.{steps_parts}
use Rattle.pay_facts.specs.SlotFacts.{SlotDomains, slot_domain}
use Rattle.pay_analysis.specs.declared.marks.Mark.{Mark}
use Rattle.pay_analysis.specs.Marks.{marked, no_marks}
use Rattle.pay_simplified.specs.Pruning.{pruning, marks_of}
use Rattle.pay_explain.specs.Explaining.{domain_lines, left_steps, zero_domains}
use Rattle.pay_explain.specs.Known.{AreKnown}

-- what is left of steps, by what each pass makes of them
pub what_is_left : (steps filled pruned left : StepsTree) (domains : SlotDomains) (marks : ℕ → Mark) → filled ≡ filled_steps steps
    → marks ≡ marked no_marks (steps_parts filled domains false) → pruned ≡ rewritten_steps (pruning marks) filled → left ≡ filled_steps pruned
    → left ≡ left_steps steps domains
what_is_left steps filled pruned left domains marks fill mark prune last =
    let own : marks ≡ marks_of (filled_steps steps) domains false = mark ∙ ap (λ some. marks_of some domains false) fill in
    last ∙ ap filled_steps (prune ∙ (λ i. rewritten_steps (pruning (own i)) (fill i)))

-- the events from a place on are the event there and those after it
pub event_here : {A B : Type 0} (f : A → B) (items : List A) (at : ℕ) (spare : A) → at < length items
    → drop at (map f items) ≡ f (get_or items at spare) ∷ drop (at + 1) (map f items)
event_here f [] at spare below = absurd (omega arith)
event_here f (x ∷ items) zero spare below = refl
event_here f (x ∷ items) (suc at) spare below =
    let h : drop at (map f items) ≡ f (get_or items at spare) ∷ drop (at + 1) (map f items) = event_here f items at spare (omega arith) in
    simp add-one (simp add-one at h)

-- no line is left where the names or the domains are at their end
pub lines_end : (names : List (List ℕ)) (domains : SlotDomains) (count : ℕ) → count ≡ min (length names) (length domains)
    → domain_lines (drop count names) (drop count domains) ≡ []
lines_end [] domains count end = let none : count ≡ 0 = omega (arith, end) in rw none refl
lines_end (name ∷ names) [] count end = let none : count ≡ 0 = omega (arith, end) in rw none refl
lines_end (name ∷ names) (pieces ∷ domains) zero end = absurd (omega arith)
lines_end (name ∷ names) (pieces ∷ domains) (suc count) end = lines_end names domains count (omega arith)

pub zero_length : (names : List (List ℕ)) → length (zero_domains names) ≡ length names
zero_length names = length-map names (λ name. point (pos 0))

-- those of the names from a place on
pub zero_more : (names : List (List ℕ)) (at : ℕ) → at < length names
    → zero_domains (drop at names) ≡ point (pos 0) ∷ zero_domains (drop (at + 1) names)
zero_more [] at below = absurd (omega arith)
zero_more (name ∷ names) zero below = refl
zero_more (name ∷ names) (suc at) below =
    let h : zero_domains (drop at names) ≡ point (pos 0) ∷ zero_domains (drop (at + 1) names) = zero_more names at (omega arith) in
    simp add-one (simp add-one at h)

pub zero_none : (names : List (List ℕ)) (at : ℕ) → length names ≤ at → zero_domains (drop at names) ≡ []
zero_none [] zero all = refl
zero_none [] (suc at) all = refl
zero_none (name ∷ names) zero all = absurd (omega arith)
zero_none (name ∷ names) (suc at) all = zero_none names at (omega arith)

pub zero_slot : (names : List (List ℕ)) (slot : ℕ) → slot_domain (zero_domains names) slot ≡ point (pos 0)
zero_slot [] slot = refl
zero_slot (name ∷ names) zero = refl
zero_slot (name ∷ names) (suc slot) = zero_slot names slot

-- the raws of variables that are 0 are known
pub zero_known : (names : List (List ℕ)) → AreKnown names (zero_domains names)
zero_known names = record {
  one_each = zero_length names;
  domains = λ slot. subst IsDomain (sym (zero_slot names slot)) (point_domain (pos 0));
  limits = λ slot. subst AreRaws (sym (zero_slot names slot)) (omega (arith, ints), omega (arith, ints), tt);
}
