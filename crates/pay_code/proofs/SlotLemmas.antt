-- Values that agree but for some variables: putting those back, and blending those.
use Rattle.std.proofs.Common.{◌≡◌, ℕ, zero, suc, ◌≤◌, pos, Bool, true, false, List, [], ◌∷◌, length, set, refl, sym, ap, ◌∙◌, inl, inr, arith}
use Rattle.std.proofs.lemmas.Bool.{cases_eq, eq-eqb, ne_eqb}
use Rattle.std.proofs.lemmas.List.{length-set, get_or-set_other}
use Rattle.pay_fixed.specs.Weights.{whole as full, blended}
use Rattle.pay_runs.specs.Slots.{Slots, slot_value, blended_slots}
use Rattle.pay_runs.proofs.WeightLemmas.{blended_nothing}
use Rattle.pay_code.specs.Execution.{values_of, restored, blended_with}
use Rattle.pay_code.specs.Filled.{is_among, IsEachOnce}
use Rattle.pay_code.proofs.BlendLemmas.{blended_equal}

same_slots : (a b : Slots) → length a ≡ length b → ((slot : ℕ) → slot_value a slot ≡ slot_value b slot) → a ≡ b
same_slots [] [] n h = refl
same_slots [] (y ∷ b) n h = absurd (omega arith)
same_slots (x ∷ a) [] n h = absurd (omega arith)
same_slots (x ∷ a) (y ∷ b) n h = λ i. h zero i ∷ same_slots a b (omega arith) (λ slot. h (suc slot)) i

-- there are as many values, and they differ at most at these variables
pub record Agree (changes : List ℕ) (a b : Slots) : Type 0 where
  pub as_many : length a ≡ length b
  pub elsewhere : (slot : ℕ) → is_among slot changes ≡ false → slot_value a slot ≡ slot_value b slot

-- what is another number than the first, and none of the rest, is none of them all
past_first : (slot first : ℕ) (rest : List ℕ) (b : Bool) → ¬ (slot ≡ first) → is_among slot rest ≡ b → is_among slot (first ∷ rest) ≡ b
past_first slot first rest b differ h = rw (ne_eqb slot first differ) h

put_back : (a b : Slots) (slot : ℕ) → length a ≡ length b → slot_value (set a slot (slot_value b slot)) slot ≡ slot_value b slot
put_back [] [] slot n = refl
put_back [] (y ∷ b) slot n = absurd (omega arith)
put_back (x ∷ a) [] slot n = absurd (omega arith)
put_back (x ∷ a) (y ∷ b) zero n = refl
put_back (x ∷ a) (y ∷ b) (suc slot) n = put_back a b slot (omega arith)

put_agrees : (first : ℕ) (rest : List ℕ) (a b : Slots) → Agree (first ∷ rest) a b → Agree rest (set a first (slot_value b first)) b
put_agrees first rest a b h = record {
  as_many = length-set a first (slot_value b first) ∙ h.as_many;
  elsewhere = λ slot miss. elim (cases_eq slot first) [
    | inl is ↦ rw is (put_back a b first h.as_many)
    | inr differ ↦ get_or-set_other a first slot (slot_value b first) (pos 0) differ ∙ h.elsewhere slot (past_first slot first rest false differ miss)
  ];
}

-- values that get back what they had are as they were
pub restored_is : (changes : List ℕ) (a b : Slots) → Agree changes a b → restored changes (values_of changes b) a ≡ b
restored_is [] a b h = same_slots a b h.as_many (λ slot. h.elsewhere slot refl)
restored_is (first ∷ rest) a b h = restored_is rest (set a first (slot_value b first)) b (put_agrees first rest a b h)

pub blended_length : (w : ℕ) (a b : Slots) → length a ≡ length b → length (blended_slots w a b) ≡ length b
blended_length w [] [] n = refl
blended_length w [] (y ∷ b) n = absurd (omega arith)
blended_length w (x ∷ a) [] n = absurd (omega arith)
blended_length w (x ∷ a) (y ∷ b) n = ap suc (blended_length w a b (omega arith))

pub blended_value : (w : ℕ) (a b : Slots) → length a ≡ length b → (slot : ℕ)
    → slot_value (blended_slots w a b) slot ≡ blended w (slot_value a slot) (slot_value b slot)
blended_value w [] [] n slot = sym (blended_nothing w)
blended_value w [] (y ∷ b) n slot = absurd (omega arith)
blended_value w (x ∷ a) [] n slot = absurd (omega arith)
blended_value w (x ∷ a) (y ∷ b) n zero = refl
blended_value w (x ∷ a) (y ∷ b) n (suc slot) = blended_value w a b (omega arith) slot

blend_put : (w : ℕ) (e f c : Slots) (slot : ℕ) → length e ≡ length f → length c ≡ length f → slot_value c slot ≡ slot_value f slot
    → slot_value (set c slot (blended w (slot_value e slot) (slot_value c slot))) slot ≡ blended w (slot_value e slot) (slot_value f slot)
blend_put w [] [] [] slot n m h = sym (blended_nothing w)
blend_put w [] [] (z ∷ c) slot n m h = absurd (omega arith)
blend_put w [] (y ∷ f) c slot n m h = absurd (omega arith)
blend_put w (x ∷ e) [] c slot n m h = absurd (omega arith)
blend_put w (x ∷ e) (y ∷ f) [] slot n m h = absurd (omega arith)
blend_put w (x ∷ e) (y ∷ f) (z ∷ c) zero n m h = ap (blended w x) h
blend_put w (x ∷ e) (y ∷ f) (z ∷ c) (suc slot) n m h = blend_put w e f c slot (omega arith) (omega arith) h

-- values on the way from those of the false branch to the blended ones: these variables are still to be blended
record IsPartBlended (w : ℕ) (changes : List ℕ) (e f c : Slots) : Type 0 where
  as_many : length c ≡ length f
  among : (slot : ℕ) → is_among slot changes ≡ true → slot_value c slot ≡ slot_value f slot
  elsewhere : (slot : ℕ) → is_among slot changes ≡ false → slot_value c slot ≡ blended w (slot_value e slot) (slot_value f slot)

not_first : (slot first : ℕ) (rest : List ℕ) → is_among first rest ≡ false → is_among slot rest ≡ true → ¬ (slot ≡ first)
not_first slot first rest once hit is = let found : is_among first rest ≡ true = rw is at hit in cc

blend_step : (w first : ℕ) (rest : List ℕ) (e f c : Slots) → length e ≡ length f → is_among first rest ≡ false → IsPartBlended w (first ∷ rest) e f c
    → IsPartBlended w rest e f (set c first (blended w (slot_value e first) (slot_value c first)))
blend_step w first rest e f c n once h = record {
  as_many = length-set c first (blended w (slot_value e first) (slot_value c first)) ∙ h.as_many;
  among = λ slot hit.
      let differ : ¬ (slot ≡ first) = not_first slot first rest once hit in
      get_or-set_other c first slot (blended w (slot_value e first) (slot_value c first)) (pos 0) differ
      ∙ h.among slot (past_first slot first rest true differ hit);
  elsewhere = λ slot miss. elim (cases_eq slot first) [
    | inl is ↦ rw is (blend_put w e f c first n h.as_many (h.among first (rw (eq-eqb first first refl) refl)))
    | inr differ ↦ get_or-set_other c first slot (blended w (slot_value e first) (slot_value c first)) (pos 0) differ
        ∙ h.elsewhere slot (past_first slot first rest false differ miss)
  ];
}

blended_from : (w : ℕ) (changes : List ℕ) (e f c : Slots) → length e ≡ length f → IsEachOnce changes → IsPartBlended w changes e f c
    → blended_with w changes (values_of changes e) c ≡ blended_slots w e f
blended_from w [] e f c n once h =
    same_slots c (blended_slots w e f) (h.as_many ∙ sym (blended_length w e f n)) (λ slot. h.elsewhere slot refl ∙ sym (blended_value w e f n slot))
blended_from w (first ∷ rest) e f c n once h =
    blended_from w rest e f (set c first (blended w (slot_value e first) (slot_value c first))) n once.1
    (blend_step w first rest e f c n once.0 h)

-- values of two branches are blended by blending the variables at which they differ from the values before
pub blended_is : (w : ℕ) (changes : List ℕ) (e f before : Slots) → w ≤ full → IsEachOnce changes → Agree changes e before → Agree changes f before
    → blended_with w changes (values_of changes e) f ≡ blended_slots w e f
blended_is w changes e f before h once first second =
    blended_from w changes e f f (first.as_many ∙ sym second.as_many) once (record {
      as_many = refl;
      among = λ slot hit. refl;
      elsewhere = λ slot miss.
          let same : slot_value e slot ≡ slot_value f slot = first.elsewhere slot miss ∙ sym (second.elsewhere slot miss) in
          rw same (sym (blended_equal w (slot_value f slot) h));
    })
