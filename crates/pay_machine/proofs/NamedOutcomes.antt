-- What was given by number is the outcome of what is meant by name.
use Rattle.std.proofs.Common.{◌≡◌, ℕ, zero, suc, ◌<◌, List, [], ◌∷◌, length, map, refl, sym, ap, ◌∙◌, arith}
use Rattle.std.specs.List.{All}
use Rattle.std.proofs.lemmas.Simd.{map-map}
use Rattle.pay_meaning.specs.Meaning.{Variables, Meaning, End, finished, faulted, lookup}
use Rattle.pay_tree.specs.Owned.{name_at}
use Rattle.pay_runs.specs.RunLaws.{MeansSame, EndsAs}
use Rattle.pay_runs.specs.Slots.{Slots, slot_value, SlotEnd, slots_finished, slots_faulted}
use Rattle.pay_code.specs.Execution.{Outcome}
use Rattle.pay_machine.specs.Outcomes.{Given, IsOutcome, payment, ending, AreValues}
use Rattle.pay_machine.specs.Runs.{IsGiven, made, ended, AreLast}

-- values, of which each is what its name has, are those of the names
values_of_names : (names : List (List ℕ)) (slots : Slots) (variables : Variables) → length slots ≡ length names
    → ((slot : ℕ) → slot < length names → slot_value slots slot ≡ lookup variables (name_at names slot)) → slots ≡ map (lookup variables) names
values_of_names [] [] variables n h = refl
values_of_names [] (x ∷ slots) variables n h = absurd (omega arith)
values_of_names (name ∷ names) [] variables n h = absurd (omega arith)
values_of_names (name ∷ names) (x ∷ slots) variables n h =
    λ i. h zero (omega arith) i ∷ values_of_names names slots variables (omega arith) (λ slot under. h (suc slot) (omega arith)) i

same_end : (names : List (List ℕ)) (end : SlotEnd) (meant : End) → EndsAs names end meant → ended end ≡ ending meant
same_end names (slots_finished slots) (finished variables) h = refl
same_end names (slots_faulted date fault) (faulted other kind) h = rw h.0 (rw h.1 refl)
same_end names (slots_finished slots) (faulted other kind) h = absurd h
same_end names (slots_faulted date fault) (finished variables) h = absurd h

same_values : (names : List (List ℕ)) (end : SlotEnd) (meant : End) (values : Slots) → EndsAs names end meant → AreLast end values
    → AreValues names meant values
same_values names (slots_finished slots) (finished variables) values h last = last ∙ values_of_names names slots variables h.one_each h.same
same_values names (slots_faulted date fault) (faulted other kind) values h last = tt
same_values names (slots_finished slots) (faulted other kind) values h last = absurd h
same_values names (slots_faulted date fault) (finished variables) values h last = absurd h

-- what was given by number is the outcome of what is meant by name
pub numbers_are_names : (names legs : List (List ℕ)) (outcome : Outcome) (m : Meaning) (given : Given)
    → IsGiven outcome given → MeansSame names legs (record { payments = outcome.payments; end = outcome.end }) m
    → All (λ p. p.leg < length legs) given.payments → IsOutcome names legs m given
numbers_are_names names legs outcome m given is same within = record {
  paid = sym same.payments ∙ sym (map-map (payment legs) made outcome.payments) ∙ ap (map (payment legs)) (sym is.payments);
  in_range = within;
  ended = is.end ∙ same_end names outcome.end m.end same.end;
  kept = same_values names outcome.end m.end given.values same.end is.values;
}
