-- A simplified number has the value that it had, and a simplified condition the truth.
use Rattle.std.proofs.Common.{◌≡◌, Bool, true, false, not, ◌||◌, List, [], ◌∷◌, Option, Some, None, Result, Ok, Err, IsTrue, if◌then◌else◌}
use Rattle.std.proofs.Common.{refl, sym, ap, subst, ◌∙◌, inl, inr, ℤ, pos, neg_ℤ, unsigned_abs, arith}
use Rattle.std.proofs.lemmas.Bool.{cases_Bool, false≢true}
use Rattle.std.proofs.lemmas.Bool.Decides.{Decides-int_eq}
use Rattle.std.proofs.lemmas.Int.{ints}
use Rattle.std.proofs.lemmas.Option.{none-some, same_Some}
use Rattle.pay_meaning.specs.declared.fault.FaultKind.{FaultKind}
use Rattle.pay_meaning.specs.declared.fault.FaultKind.TheVariants.{Overflow, ZeroDivisor, MissingFixing}
use Rattle.pay_meaning.specs.Language.{Number, literal, variable, spot, period, days, negative, absolute, binary, Event}
use Rattle.pay_meaning.specs.Language.{Condition, compare, negation, conjunction, disjunction, settled, sure}
use Rattle.pay_meaning.specs.Meaning.{Variables, Moment, one, both, both_hold, either_holds, value, truth, calculated, compared}
use Rattle.pay_domains.specs.declared.piece.Piece.{Piece}
use Rattle.pay_domains.specs.declared.flags.Flags.{Flags}
use Rattle.pay_domains.specs.DomainLaws.{flag_of}
use Rattle.pay_domains.specs.Pieces.{Held}
use Rattle.pay_domains.specs.Queries.{is_point, point_of}
use Rattle.pay_facts.specs.Facts.{Domains}
use Rattle.pay_facts.specs.Ranges.{Range, range}
use Rattle.pay_facts.specs.Decisions.{Decision, decide}
use Rattle.pay_facts.specs.Holding.{Hold, IsKnown, InRange, Agrees, IsDecided, at_fixing}
use Rattle.pay_facts.specs.FactLaws.{AreDomains}
use Rattle.pay_facts.proofs.RangeLemmas.{hold-on, ranges-sound}
use Rattle.pay_facts.proofs.DecisionLemmas.{decisions-sound}
use Rattle.pay_analysis.specs.Marks.{is_flagged, point_unless}
use Rattle.pay_simplified.specs.Simplified.{point_in, at_point, simple_number, literal_of, sure_of, with_sure, as_answered, as_decided, not_form}
use Rattle.pay_simplified.specs.Simplified.{and_form, or_form, simple_not, simple_and, simple_or, simple_condition}

-- a raw that is held is the only one
only_held : (pieces : List Piece) (raw x : ℤ) → point_of pieces ≡ Some raw → Held x pieces → x ≡ raw
only_held [] raw x is h = absurd h
only_held (p ∷ []) raw x is (inr h) = absurd h
only_held (p ∷ []) raw x is (inl w) = elim (cases_Bool (is_point p)) [
  | inl hit ↦
      let low : p.low ≡ raw = same_Some p.low raw (sym (ap (λ t. if t then Some p.low else None) hit) ∙ is) in
      let ends : p.low ≡ p.high = (Decides-int_eq p.low p.high).0 hit in
      omega (arith, ints, low, ends, w.low, w.high)
  | inr miss ↦ absurd (none-some raw (sym (ap (λ t. if t then Some p.low else None) miss) ∙ is))
]
only_held (p ∷ q ∷ rest) raw x is h = absurd (none-some raw is)

-- a flag of a fault is a flag
first_is : (a b : Bool) → IsTrue a → (a || b) ≡ true
first_is true b h = refl
first_is false b h = absurd (false≢true h)

second_is : (a b : Bool) → IsTrue b → (a || b) ≡ true
second_is true b h = refl
second_is false b h = h

flagged_one : (fault : FaultKind) (flags : Flags) → IsTrue (flag_of fault flags) → is_flagged flags ≡ true
flagged_one Overflow flags h = first_is flags.overflow (flags.zero || flags.missing) h
flagged_one ZeroDivisor flags h = second_is flags.overflow (flags.zero || flags.missing) (first_is flags.zero flags.missing h)
flagged_one MissingFixing flags h = second_is flags.overflow (flags.zero || flags.missing) (second_is flags.zero flags.missing h)

unflagged : (fault : FaultKind) (flags : Flags) → IsTrue (flag_of fault flags) → is_flagged flags ≡ false → ⊥
unflagged fault flags h k = false≢true (sym k ∙ flagged_one fault flags h)

-- where there is one raw, there is no flag
pub point_shown : (flagged : Bool) (domain : List Piece) (raw : ℤ) → point_unless flagged domain ≡ Some raw
    → (flagged ≡ false) × (point_of domain ≡ Some raw)
point_shown true domain raw is = absurd (none-some raw is)
point_shown false domain raw is = (refl, is)

-- the value of a number that can have one raw alone is that raw
value_is : (fixing : Option ℤ) (r : Range) (u : Result ℤ FaultKind) → InRange fixing r u → (raw : ℤ) → point_in r ≡ Some raw → u ≡ Ok raw
value_is fixing r (Ok x) h raw is = ap Ok (only_held r.domain raw x (point_shown (is_flagged r.flags) r.domain raw is).1 h.0)
value_is fixing r (Err fault) h raw is = absurd (unflagged fault r.flags h (point_shown (is_flagged r.flags) r.domain raw is).0)

at_point_same : (point : Option ℤ) (number : Number) (variables : Variables) (at : Moment) (u : Result ℤ FaultKind)
    → value number variables at ≡ u → ((raw : ℤ) → point ≡ Some raw → u ≡ Ok raw) → value (at_point point number) variables at ≡ u
at_point_same None number variables at u same h = same
at_point_same (Some raw) number variables at u same h = sym (h raw refl)

-- two results are the same where the first ones are, and the second ones wherever the first one is no fault
both_same : {A B : Type 0} (f : A → A → Result B FaultKind) (a b c d : Result A FaultKind) → a ≡ b → ((x : A) → b ≡ Ok x → c ≡ d)
    → both f a c ≡ both f b d
both_same f a (Err fault) c d first second = ap (λ r. both f r c) first
both_same f a (Ok x) c d first second = ap (λ r. both f r c) first ∙ ap (both f (Ok x)) (second x refl)

-- where a number is no fault, it is known after it that the fixing is there
known_after : (fixing : Option ℤ) (r : Range) (u : Result ℤ FaultKind) (x : ℤ) → InRange fixing r u → u ≡ Ok x → IsKnown r.known fixing
known_after fixing r u x h is = (subst (InRange fixing r) is h).1

module _ (domains : Domains) (event : Event) (variables : Variables) (fixing : Option ℤ) (d : AreDomains domains) where
  at-point : (number made : Number) (known : Bool) → Hold domains known variables fixing
      → value made variables (at_fixing event fixing) ≡ value number variables (at_fixing event fixing)
      → value (at_point (point_in (range number domains known event)) made) variables (at_fixing event fixing)
      ≡ value number variables (at_fixing event fixing)
  at-point number made known h same =
      at_point_same (point_in (range number domains known event)) made variables (at_fixing event fixing) (value number variables (at_fixing event fixing)) same
      (value_is fixing (range number domains known event) (value number variables (at_fixing event fixing))
      (ranges-sound number domains known event variables fixing d h))

  -- the facts after a number that is no fault
  onward : (number : Number) (known : Bool) → Hold domains known variables fixing → (x : ℤ) → value number variables (at_fixing event fixing) ≡ Ok x
      → Hold domains (range number domains known event).known variables fixing
  onward number known h x is =
      hold-on domains known (range number domains known event).known variables fixing h
      (known_after fixing (range number domains known event) (value number variables (at_fixing event fixing)) x
      (ranges-sound number domains known event variables fixing d h) is)

  pub number_same : (number : Number) (known : Bool) → Hold domains known variables fixing
      → value (simple_number number domains known event) variables (at_fixing event fixing) ≡ value number variables (at_fixing event fixing)
  number_same (literal raw) known h = at-point (literal raw) (literal raw) known h refl
  number_same (variable name) known h = at-point (variable name) (variable name) known h refl
  number_same spot known h = at-point spot spot known h refl
  number_same period known h = at-point period period known h refl
  number_same days known h = at-point days days known h refl
  number_same (negative side) known h =
      at-point (negative side) (negative (simple_number side domains known event)) known h (ap (one neg_ℤ) (number_same side known h))
  number_same (absolute side) known h =
      at-point (absolute side) (absolute (simple_number side domains known event)) known h
      (ap (one (λ raw. pos (unsigned_abs raw))) (number_same side known h))
  number_same (binary op left right) known h =
      let between : Bool = (range left domains known event).known in
      at-point (binary op left right) (binary op (simple_number left domains known event) (simple_number right domains between event)) known h
      (both_same (calculated op) _ _ _ _ (number_same left known h) (λ x is. number_same right between (onward left known h x is)))

-- an answer that is given twice is the last one
one_twice : (a b : Bool) (u : Result Bool FaultKind) → one (λ other. a) u ≡ one (λ other. a) (one (λ other. b) u)
one_twice a b (Err fault) = refl
one_twice a b (Ok truth) = refl

-- a condition that is sure of an answer has its fault, or this answer
pub sure_truth : (answer : Bool) (condition : Condition) (variables : Variables) (at : Moment)
    → truth (with_sure answer condition) variables at ≡ one (λ other. answer) (truth condition variables at)
sure_truth answer (compare op left right note) variables at = refl
sure_truth answer (negation side) variables at = refl
sure_truth answer (conjunction left right) variables at = refl
sure_truth answer (disjunction left right) variables at = refl
sure_truth answer (settled other) variables at = refl
sure_truth answer (sure other side) variables at = one_twice answer other (truth side variables at)

-- a decided truth, where it is no fault
told_same : (answer : Bool) (u : Result Bool FaultKind) → ((truth : Bool) → u ≡ Ok truth → truth ≡ answer) → one (λ other. answer) u ≡ u
told_same answer (Err fault) h = refl
told_same answer (Ok truth) h = ap Ok (sym (h truth refl))

settled_same : (answer : Bool) (u : Result Bool FaultKind) → ((truth : Bool) → u ≡ Ok truth → truth ≡ answer)
    → ((fault : FaultKind) → ¬ (u ≡ Err fault)) → Ok answer ≡ u
settled_same answer (Err fault) h k = absurd (k fault refl)
settled_same answer (Ok truth) h k = ap Ok (sym (h truth refl))

answered_same : (answer : Option Bool) (flagged : Bool) (condition : Condition) (variables : Variables) (at : Moment) (u : Result Bool FaultKind)
    → truth condition variables at ≡ u → ((decided truth : Bool) → answer ≡ Some decided → u ≡ Ok truth → truth ≡ decided)
    → (flagged ≡ false → (fault : FaultKind) → ¬ (u ≡ Err fault)) → truth (as_answered answer flagged condition) variables at ≡ u
answered_same None flagged condition variables at u same h k = same
answered_same (Some answer) false condition variables at u same h k = settled_same answer u (λ truth is. h answer truth refl is) (k refl)
answered_same (Some answer) true condition variables at u same h k =
    sure_truth answer condition variables at ∙ ap (one (λ other. answer)) same ∙ told_same answer u (λ truth is. h answer truth refl is)

-- a condition that is told its answer, where it is no fault
told_answered : (answer flagged : Bool) (condition : Condition) (variables : Variables) (at : Moment) (u : Result Bool FaultKind)
    → truth condition variables at ≡ u → (flagged ≡ false → (fault : FaultKind) → ¬ (u ≡ Err fault))
    → truth (as_answered (Some answer) flagged condition) variables at ≡ one (λ other. answer) u
told_answered answer true condition variables at u same k = sure_truth answer condition variables at ∙ ap (one (λ other. answer)) same
told_answered answer false condition variables at (Err fault) same k = absurd (k refl fault refl)
told_answered answer false condition variables at (Ok truth) same k = refl

agreed : (answer : Option Bool) (decided truth : Bool) → Agrees answer truth → answer ≡ Some decided → truth ≡ decided
agreed None decided truth h is = absurd (none-some decided is)
agreed (Some answer) decided truth h is = h ∙ same_Some answer decided is

decided_agrees : (fixing : Option ℤ) (d : Decision) (u : Result Bool FaultKind) → IsDecided fixing d u
    → (decided truth : Bool) → d.answer ≡ Some decided → u ≡ Ok truth → truth ≡ decided
decided_agrees fixing d u h decided truth answer is = agreed d.answer decided truth (subst (IsDecided fixing d) is h).0 answer

decided_faultless : (fixing : Option ℤ) (d : Decision) (u : Result Bool FaultKind) → IsDecided fixing d u
    → is_flagged d.flags ≡ false → (fault : FaultKind) → ¬ (u ≡ Err fault)
decided_faultless fixing d u h none fault is = unflagged fault d.flags (subst (IsDecided fixing d) is h) none

-- where a condition is no fault, it is known after it that the fixing is there
known_then : (fixing : Option ℤ) (d : Decision) (u : Result Bool FaultKind) (truth : Bool) → IsDecided fixing d u → u ≡ Ok truth
    → IsKnown d.known fixing
known_then fixing d u truth h is = (subst (IsDecided fixing d) is h).1

-- what the form of a condition says of its truth
pub literal_says : (condition : Condition) (variables : Variables) (at : Moment) (answer : Bool) → literal_of condition ≡ Some answer
    → truth condition variables at ≡ Ok answer
literal_says (compare op left right note) variables at answer is = absurd (none-some answer is)
literal_says (negation side) variables at answer is = absurd (none-some answer is)
literal_says (conjunction left right) variables at answer is = absurd (none-some answer is)
literal_says (disjunction left right) variables at answer is = absurd (none-some answer is)
literal_says (settled other) variables at answer is = ap Ok (same_Some other answer is)
literal_says (sure other side) variables at answer is = absurd (none-some answer is)

pub sure_says : (condition : Condition) (variables : Variables) (at : Moment) (answer : Bool) → sure_of condition ≡ Some answer
    → truth condition variables at ≡ one (λ other. answer) (truth condition variables at)
sure_says (compare op left right note) variables at answer is = absurd (none-some answer is)
sure_says (negation side) variables at answer is = absurd (none-some answer is)
sure_says (conjunction left right) variables at answer is = absurd (none-some answer is)
sure_says (disjunction left right) variables at answer is = absurd (none-some answer is)
sure_says (settled other) variables at answer is = absurd (none-some answer is)
sure_says (sure other side) variables at answer is =
    ap (λ b. one (λ any. b) (truth side variables at)) (same_Some other answer is) ∙ one_twice answer other (truth side variables at)

-- results of a form
turned_twice : (answer : Bool) (u : Result Bool FaultKind) → u ≡ one (λ other. answer) u → one (λ other. not answer) u ≡ one not u
turned_twice answer (Err fault) is = refl
turned_twice answer (Ok truth) is = ap (one not) (sym is)

false_and : (u v : Result Bool FaultKind) → u ≡ one (λ other. false) u → u ≡ both_hold u v
false_and (Err fault) v is = refl
false_and (Ok truth) v is = is ∙ ap (λ r. both_hold r v) (sym is)

true_or : (u v : Result Bool FaultKind) → u ≡ one (λ other. true) u → u ≡ either_holds u v
true_or (Err fault) v is = refl
true_or (Ok truth) v is = is ∙ ap (λ r. either_holds r v) (sym is)

and_true : (u v : Result Bool FaultKind) → v ≡ Ok true → u ≡ both_hold u v
and_true (Err fault) v is = refl
and_true (Ok true) v is = sym is
and_true (Ok false) v is = refl

or_false : (u v : Result Bool FaultKind) → v ≡ Ok false → u ≡ either_holds u v
or_false (Err fault) v is = refl
or_false (Ok true) v is = refl
or_false (Ok false) v is = sym is

-- what the forms of sides give, whatever the sides are
not_by : (literal told : Option Bool) (side : Condition) (variables : Variables) (at : Moment)
    → ((answer : Bool) → literal ≡ Some answer → truth side variables at ≡ Ok answer)
    → ((answer : Bool) → told ≡ Some answer → truth side variables at ≡ one (λ other. answer) (truth side variables at))
    → truth (not_form literal told side) variables at ≡ one not (truth side variables at)
not_by (Some answer) told side variables at h k = sym (ap (one not) (h answer refl))
not_by None (Some answer) side variables at h k =
    sure_truth (not answer) side variables at ∙ turned_twice answer (truth side variables at) (k answer refl)
not_by None None side variables at h k = refl

and_by : (literal told other : Option Bool) (left right : Condition) (variables : Variables) (at : Moment)
    → ((answer : Bool) → literal ≡ Some answer → truth left variables at ≡ Ok answer)
    → ((answer : Bool) → told ≡ Some answer → truth left variables at ≡ one (λ any. answer) (truth left variables at))
    → ((answer : Bool) → other ≡ Some answer → truth right variables at ≡ Ok answer)
    → truth (and_form literal told other left right (conjunction left right)) variables at
    ≡ both_hold (truth left variables at) (truth right variables at)
and_by (Some true) told other left right variables at h k l = sym (ap (λ r. both_hold r (truth right variables at)) (h true refl))
and_by (Some false) told other left right variables at h k l =
    h false refl ∙ sym (ap (λ r. both_hold r (truth right variables at)) (h false refl))
and_by None (Some false) other left right variables at h k l = false_and (truth left variables at) (truth right variables at) (k false refl)
and_by None (Some true) None left right variables at h k l = refl
and_by None (Some true) (Some true) left right variables at h k l = and_true (truth left variables at) (truth right variables at) (l true refl)
and_by None (Some true) (Some false) left right variables at h k l = refl
and_by None None None left right variables at h k l = refl
and_by None None (Some true) left right variables at h k l = and_true (truth left variables at) (truth right variables at) (l true refl)
and_by None None (Some false) left right variables at h k l = refl

or_by : (literal told other : Option Bool) (left right : Condition) (variables : Variables) (at : Moment)
    → ((answer : Bool) → literal ≡ Some answer → truth left variables at ≡ Ok answer)
    → ((answer : Bool) → told ≡ Some answer → truth left variables at ≡ one (λ any. answer) (truth left variables at))
    → ((answer : Bool) → other ≡ Some answer → truth right variables at ≡ Ok answer)
    → truth (or_form literal told other left right (disjunction left right)) variables at
    ≡ either_holds (truth left variables at) (truth right variables at)
or_by (Some false) told other left right variables at h k l = sym (ap (λ r. either_holds r (truth right variables at)) (h false refl))
or_by (Some true) told other left right variables at h k l =
    h true refl ∙ sym (ap (λ r. either_holds r (truth right variables at)) (h true refl))
or_by None (Some true) other left right variables at h k l = true_or (truth left variables at) (truth right variables at) (k true refl)
or_by None (Some false) None left right variables at h k l = refl
or_by None (Some false) (Some true) left right variables at h k l = refl
or_by None (Some false) (Some false) left right variables at h k l = or_false (truth left variables at) (truth right variables at) (l false refl)
or_by None None None left right variables at h k l = refl
or_by None None (Some true) left right variables at h k l = refl
or_by None None (Some false) left right variables at h k l = or_false (truth left variables at) (truth right variables at) (l false refl)

pub simple_not_same : (side : Condition) (variables : Variables) (at : Moment)
    → truth (simple_not side) variables at ≡ one not (truth side variables at)
simple_not_same side variables at =
    not_by (literal_of side) (sure_of side) side variables at (literal_says side variables at) (sure_says side variables at)

pub simple_and_same : (left right : Condition) (variables : Variables) (at : Moment)
    → truth (simple_and left right) variables at ≡ both_hold (truth left variables at) (truth right variables at)
simple_and_same left right variables at =
    and_by (literal_of left) (sure_of left) (literal_of right) left right variables at (literal_says left variables at) (sure_says left variables at)
    (literal_says right variables at)

pub simple_or_same : (left right : Condition) (variables : Variables) (at : Moment)
    → truth (simple_or left right) variables at ≡ either_holds (truth left variables at) (truth right variables at)
simple_or_same left right variables at =
    or_by (literal_of left) (sure_of left) (literal_of right) left right variables at (literal_says left variables at) (sure_says left variables at)
    (literal_says right variables at)

-- results under `and` and `or`: the right ones are asked only where the left one does not settle them
and_of_same : (a b c d : Result Bool FaultKind) → a ≡ b → ((x : Bool) → b ≡ Ok x → c ≡ d) → both_hold a c ≡ both_hold b d
and_of_same a (Err fault) c d first second = ap (λ r. both_hold r c) first
and_of_same a (Ok x) c d first second = ap (λ r. both_hold r c) first ∙ ap (both_hold (Ok x)) (second x refl)

or_of_same : (a b c d : Result Bool FaultKind) → a ≡ b → ((x : Bool) → b ≡ Ok x → c ≡ d) → either_holds a c ≡ either_holds b d
or_of_same a (Err fault) c d first second = ap (λ r. either_holds r c) first
or_of_same a (Ok x) c d first second = ap (λ r. either_holds r c) first ∙ ap (either_holds (Ok x)) (second x refl)

module _ (domains : Domains) (event : Event) (variables : Variables) (fixing : Option ℤ) (d : AreDomains domains) where
  as-decided : (condition made : Condition) (known : Bool) → Hold domains known variables fixing
      → truth made variables (at_fixing event fixing) ≡ truth condition variables (at_fixing event fixing)
      → truth (as_decided (decide condition domains known event) made) variables (at_fixing event fixing)
      ≡ truth condition variables (at_fixing event fixing)
  as-decided condition made known h same =
      let u : Result Bool FaultKind = truth condition variables (at_fixing event fixing) in
      let found : Decision = decide condition domains known event in
      let sound : IsDecided fixing found u = decisions-sound condition domains known event variables fixing d h in
      answered_same found.answer (is_flagged found.flags) made variables (at_fixing event fixing) u same (decided_agrees fixing found u sound)
      (decided_faultless fixing found u sound)

  -- the facts after a condition that is no fault
  pub after_condition : (condition : Condition) (known : Bool) → Hold domains known variables fixing → (x : Bool)
      → truth condition variables (at_fixing event fixing) ≡ Ok x → Hold domains (decide condition domains known event).known variables fixing
  after_condition condition known h x is =
      hold-on domains known (decide condition domains known event).known variables fixing h
      (known_then fixing (decide condition domains known event) (truth condition variables (at_fixing event fixing)) x
      (decisions-sound condition domains known event variables fixing d h) is)

  pub condition_same : (condition : Condition) (known : Bool) → Hold domains known variables fixing
      → truth (simple_condition condition domains known event) variables (at_fixing event fixing) ≡ truth condition variables (at_fixing event fixing)
  condition_same (compare op left right note) known h =
      let between : Bool = (range left domains known event).known in
      as-decided (compare op left right note) (compare op (simple_number left domains known event) (simple_number right domains between event) note) known h
      (both_same (λ a b. Ok (compared op a b)) _ _ _ _ (number_same domains event variables fixing d left known h)
      (λ x is. number_same domains event variables fixing d right between (onward domains event variables fixing d left known h x is)))
  condition_same (negation side) known h =
      let made : Condition = simple_condition side domains known event in
      as-decided (negation side) (simple_not made) known h
      (simple_not_same made variables (at_fixing event fixing) ∙ ap (one not) (condition_same side known h))
  condition_same (conjunction left right) known h =
      let between : Bool = (decide left domains known event).known in
      let first : Condition = simple_condition left domains known event in
      let second : Condition = simple_condition right domains between event in
      as-decided (conjunction left right) (simple_and first second) known h
      (simple_and_same first second variables (at_fixing event fixing)
      ∙ and_of_same _ _ _ _ (condition_same left known h) (λ x is. condition_same right between (after_condition left known h x is)))
  condition_same (disjunction left right) known h =
      let between : Bool = (decide left domains known event).known in
      let first : Condition = simple_condition left domains known event in
      let second : Condition = simple_condition right domains between event in
      as-decided (disjunction left right) (simple_or first second) known h
      (simple_or_same first second variables (at_fixing event fixing)
      ∙ or_of_same _ _ _ _ (condition_same left known h) (λ x is. condition_same right between (after_condition left known h x is)))
  condition_same (settled answer) known h = refl
  condition_same (sure answer side) known h =
      let u : Result Bool FaultKind = truth side variables (at_fixing event fixing) in
      let found : Decision = decide side domains known event in
      told_answered answer (is_flagged found.flags) (simple_condition side domains known event) variables (at_fixing event fixing) u
      (condition_same side known h)
      (decided_faultless fixing found u (decisions-sound side domains known event variables fixing d h))
