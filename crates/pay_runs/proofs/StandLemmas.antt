-- Values that stand for variables still do after an assignment and after a blend.
use Rattle.std.proofs.Common.{◌≡◌, ℕ, zero, suc, ◌<◌, ℤ, pos, Bool, true, false, cond, List, [], ◌∷◌, length, set, Option, Some, unwrap_or, refl, sym, ap, ◌∙◌}
use Rattle.std.proofs.Common.{inl, inr, arith}
use Rattle.std.proofs.lemmas.Bool.{cases_Bool, cases_eq}
use Rattle.std.proofs.lemmas.List.{length-set, get_or-set_same, get_or-set_other}
use Rattle.std.proofs.lemmas.Map.Lookups.{exact_bytes}
use Rattle.std.proofs.lemmas.Map.Views.{tells_apart}
use Rattle.std.specs.Ordering.{nat_cmp, eq_by_cmp}
use Rattle.std.specs.Cmp.{eq_by_cmp_equiv}
use Rattle.std.specs.Cmp.Lexicographic.{slice_cmp, nat_list_cmp_total}
use Rattle.std.specs.FinMap.{get, insert, get-insert}
use Rattle.pay_meaning.specs.Meaning.{Variables, lookup}
use Rattle.pay_tree.specs.Owned.{name_at}
use Rattle.pay_fixed.specs.Weights.{blended}
use Rattle.pay_runs.specs.Weighing.{blended_variables}
use Rattle.pay_runs.specs.Slots.{Slots, slot_value, blended_slots}
use Rattle.pay_runs.specs.RunLaws.{AreApart, StandFor}
use Rattle.pay_runs.proofs.BlendLaw.{blend_at}
use Rattle.pay_runs.proofs.NameLemmas.{one_place}

-- what a name has after an assignment
default_cond : (b : Bool) (raw : ℤ) (old : Option ℤ) → unwrap_or (cond b (Some raw) old) (pos 0) ≡ cond b raw (unwrap_or old (pos 0))
default_cond true raw old = refl
default_cond false raw old = refl

lookup_inserted : (variables : Variables) (name : List ℕ) (raw : ℤ) (other : List ℕ)
    → lookup (insert variables name raw) other ≡ cond (eq_by_cmp (slice_cmp nat_cmp) other name) raw (lookup variables other)
lookup_inserted variables name raw other =
    ap (λ o. unwrap_or o (pos 0)) (get-insert nat_list_cmp_total variables name raw other)
    ∙ default_cond (eq_by_cmp (slice_cmp nat_cmp) other name) raw (get variables other)

lookup_same : (variables : Variables) (name : List ℕ) (raw : ℤ) → lookup (insert variables name raw) name ≡ raw
lookup_same variables name raw =
    lookup_inserted variables name raw name ∙ ap (λ b. cond b raw (lookup variables name)) ((eq_by_cmp_equiv nat_list_cmp_total).refl name)

lookup_other : (variables : Variables) (name : List ℕ) (raw : ℤ) (other : List ℕ) → ¬ (other ≡ name)
    → lookup (insert variables name raw) other ≡ lookup variables other
lookup_other variables name raw other differ = elim (cases_Bool (eq_by_cmp (slice_cmp nat_cmp) other name)) [
  | inl hit ↦ absurd (differ (tells_apart exact_bytes other name hit))
  | inr miss ↦ lookup_inserted variables name raw other ∙ ap (λ b. cond b raw (lookup variables other)) miss
]

-- a variable that is assigned by number is assigned by its name
pub stand_assigned : (names : List (List ℕ)) (slots : Slots) (variables : Variables) (slot : ℕ) (raw : ℤ) → AreApart names → slot < length names
    → StandFor names slots variables → StandFor names (set slots slot raw) (insert variables (name_at names slot) raw)
stand_assigned names slots variables slot raw apart within stand = record {
  one_each = length-set slots slot raw ∙ stand.one_each;
  same = λ other below. elim (cases_eq other slot) [
    | inl is ↦ rw is (get_or-set_same slots slot raw (pos 0) (rw stand.one_each within) ∙ sym (lookup_same variables (name_at names slot) raw))
    | inr differ ↦ get_or-set_other slots slot other raw (pos 0) differ
        ∙ stand.same other below
        ∙ sym (lookup_other variables (name_at names slot) raw (name_at names other) (λ e. differ (one_place names apart other slot below within e)))
  ];
}

blended_length : (w : ℕ) (a b : Slots) → length a ≡ length b → length (blended_slots w a b) ≡ length a
blended_length w [] b same = refl
blended_length w (x ∷ a) [] same = absurd (omega arith)
blended_length w (x ∷ a) (y ∷ b) same = ap suc (blended_length w a b (omega arith))

blended_value : (w : ℕ) (a b : Slots) → length a ≡ length b → (slot : ℕ) → slot < length a
    → slot_value (blended_slots w a b) slot ≡ blended w (slot_value a slot) (slot_value b slot)
blended_value w [] b same slot below = absurd (omega arith)
blended_value w (x ∷ a) [] same slot below = absurd (omega arith)
blended_value w (x ∷ a) (y ∷ b) same zero below = refl
blended_value w (x ∷ a) (y ∷ b) same (suc slot) below = blended_value w a b (omega arith) slot (omega arith)

-- values that are blended by number are blended by name
pub stand_blended : (names : List (List ℕ)) (w : ℕ) (a b : Slots) (v u : Variables) → StandFor names a v → StandFor names b u
    → StandFor names (blended_slots w a b) (blended_variables w v u)
stand_blended names w a b v u first second =
    let same : length a ≡ length b = first.one_each ∙ sym second.one_each in
    record {
      one_each = blended_length w a b same ∙ first.one_each;
      same = λ slot below.
          blended_value w a b same slot (rw first.one_each below)
          ∙ (λ i. blended w (first.same slot below i) (second.same slot below i))
          ∙ sym (blend_at w v u (name_at names slot));
    }
