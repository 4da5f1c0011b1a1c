-- That decisions are sound.
use Rattle.std.proofs.Common.{Bool, true, false, not, Option, Some, None, Result, Ok, Err, refl, ap, ℤ}
use Rattle.std.specs.Option.{option_map}
use Rattle.pay_meaning.specs.declared.fault.FaultKind.{FaultKind}
use Rattle.pay_meaning.specs.Language.{Comparison, compare, negation, conjunction, disjunction, settled, sure}
use Rattle.pay_meaning.specs.Meaning.{one, both, value, compared, both_hold, either_holds, truth}
use Rattle.pay_domains.specs.declared.flags.Flags.{Flags}
use Rattle.pay_domains.specs.Pieces.{IsDomain}
use Rattle.pay_facts.specs.Ranges.{Range, range}
use Rattle.pay_facts.specs.Decisions.{Decision, comparison_decision, turned_decision, only_false, only_true, and_by, or_by, told_decision, decide}
use Rattle.pay_facts.specs.Holding.{IsKnown, InRange, Agrees, IsDecided, at_fixing}
use Rattle.pay_facts.specs.FactLaws.{DecisionsAreSound}
use Rattle.pay_facts.proofs.RangeLemmas.{range-domain, flag-left, flag-right, hold-on, ranges-sound}
use Rattle.pay_facts.proofs.ComparisonLemmas.{comparison-agrees}

-- two numbers compared
compared-decided : (op : Comparison) (a b : Range) (fixing : Option ℤ) (u v : Result ℤ FaultKind) → IsDomain a.domain → IsDomain b.domain
    → InRange fixing a u → (IsKnown a.known fixing → InRange fixing b v)
    → IsDecided fixing (comparison_decision op a b) (both (λ x y. Ok (compared op x y)) u v)
compared-decided op a b fixing (Err fault) v da db h k = flag-left fault a.flags b.flags h
compared-decided op a b fixing (Ok x) (Err fault) da db h k = flag-right fault a.flags b.flags (k h.1)
compared-decided op a b fixing (Ok x) (Ok y) da db h k =
    (comparison-agrees op a.domain b.domain x y da db h.0 (k h.1).0, (k h.1).1)

-- the other answer
turned-agrees : (answer : Option Bool) (truth : Bool) → Agrees answer truth → Agrees (option_map not answer) (not truth)
turned-agrees None truth h = tt
turned-agrees (Some answer) truth h = ap not h

turned-decided : (side : Decision) (fixing : Option ℤ) (u : Result Bool FaultKind) → IsDecided fixing side u
    → IsDecided fixing (turned_decision side) (one not u)
turned-decided side fixing (Err fault) h = h
turned-decided side fixing (Ok truth) h = (turned-agrees side.answer truth h.0, h.1)

-- a false answer of one side is one of both, and a true answer of one side is one of either
only-false-agrees : (answer : Option Bool) (truth : Bool) → Agrees answer truth → Agrees (only_false answer) truth
only-false-agrees None truth h = tt
only-false-agrees (Some true) truth h = tt
only-false-agrees (Some false) truth h = h

only-false-left : (answer : Option Bool) → Agrees (only_false answer) false
only-false-left None = tt
only-false-left (Some true) = tt
only-false-left (Some false) = refl

only-true-agrees : (answer : Option Bool) (truth : Bool) → Agrees answer truth → Agrees (only_true answer) truth
only-true-agrees None truth h = tt
only-true-agrees (Some true) truth h = h
only-true-agrees (Some false) truth h = tt

only-true-left : (answer : Option Bool) → Agrees (only_true answer) true
only-true-left None = tt
only-true-left (Some true) = refl
only-true-left (Some false) = tt

-- `and` and `or`, by the answer of the left side
and-by-decided : (answer : Option Bool) (flags : Flags) (known : Bool) (b : Decision) (fixing : Option ℤ) (u v : Result Bool FaultKind)
    → IsDecided fixing (record { answer = answer; flags = flags; known = known }) u → (IsKnown known fixing → IsDecided fixing b v)
    → IsDecided fixing (and_by answer (record { answer = answer; flags = flags; known = known }) b) (both_hold u v)
and-by-decided (Some false) flags known b fixing (Err fault) v h k = h
and-by-decided (Some false) flags known b fixing (Ok true) v h k = cc
and-by-decided (Some false) flags known b fixing (Ok false) v h k = h
and-by-decided (Some true) flags known b fixing (Err fault) v h k = flag-left fault flags b.flags h
and-by-decided (Some true) flags known b fixing (Ok true) (Err fault) h k = flag-right fault flags b.flags (k h.1)
and-by-decided (Some true) flags known b fixing (Ok true) (Ok truth) h k = k h.1
and-by-decided (Some true) flags known b fixing (Ok false) v h k = cc
and-by-decided None flags known b fixing (Err fault) v h k = flag-left fault flags b.flags h
and-by-decided None flags known b fixing (Ok true) (Err fault) h k = flag-right fault flags b.flags (k h.1)
and-by-decided None flags known b fixing (Ok true) (Ok truth) h k = (only-false-agrees b.answer truth (k h.1).0, h.1)
and-by-decided None flags known b fixing (Ok false) v h k = (only-false-left b.answer, h.1)

or-by-decided : (answer : Option Bool) (flags : Flags) (known : Bool) (b : Decision) (fixing : Option ℤ) (u v : Result Bool FaultKind)
    → IsDecided fixing (record { answer = answer; flags = flags; known = known }) u → (IsKnown known fixing → IsDecided fixing b v)
    → IsDecided fixing (or_by answer (record { answer = answer; flags = flags; known = known }) b) (either_holds u v)
or-by-decided (Some true) flags known b fixing (Err fault) v h k = h
or-by-decided (Some true) flags known b fixing (Ok false) v h k = cc
or-by-decided (Some true) flags known b fixing (Ok true) v h k = h
or-by-decided (Some false) flags known b fixing (Err fault) v h k = flag-left fault flags b.flags h
or-by-decided (Some false) flags known b fixing (Ok false) (Err fault) h k = flag-right fault flags b.flags (k h.1)
or-by-decided (Some false) flags known b fixing (Ok false) (Ok truth) h k = k h.1
or-by-decided (Some false) flags known b fixing (Ok true) v h k = cc
or-by-decided None flags known b fixing (Err fault) v h k = flag-left fault flags b.flags h
or-by-decided None flags known b fixing (Ok false) (Err fault) h k = flag-right fault flags b.flags (k h.1)
or-by-decided None flags known b fixing (Ok false) (Ok truth) h k = (only-true-agrees b.answer truth (k h.1).0, h.1)
or-by-decided None flags known b fixing (Ok true) v h k = (only-true-left b.answer, h.1)

-- a condition that is sure
told-decided : (answer : Bool) (side : Decision) (fixing : Option ℤ) (u : Result Bool FaultKind) → IsDecided fixing side u
    → IsDecided fixing (told_decision answer side) (one (λ other. answer) u)
told-decided answer side fixing (Err fault) h = h
told-decided answer side fixing (Ok truth) h = (refl, h.1)

pub decisions-sound : DecisionsAreSound
decisions-sound (compare op left right note) domains known event variables fixing d h =
    compared-decided op (range left domains known event) (range right domains (range left domains known event).known event) fixing
    (value left variables (at_fixing event fixing)) (value right variables (at_fixing event fixing))
    (range-domain left domains known event d) (range-domain right domains (range left domains known event).known event d)
    (ranges-sound left domains known event variables fixing d h)
    (λ k. ranges-sound right domains (range left domains known event).known event variables fixing d
    (hold-on domains known (range left domains known event).known variables fixing h k))
decisions-sound (negation side) domains known event variables fixing d h =
    turned-decided (decide side domains known event) fixing (truth side variables (at_fixing event fixing))
    (decisions-sound side domains known event variables fixing d h)
decisions-sound (conjunction left right) domains known event variables fixing d h =
    let first = decide left domains known event in
    and-by-decided first.answer first.flags first.known (decide right domains first.known event) fixing
    (truth left variables (at_fixing event fixing)) (truth right variables (at_fixing event fixing))
    (decisions-sound left domains known event variables fixing d h)
    (λ k. decisions-sound right domains first.known event variables fixing d (hold-on domains known first.known variables fixing h k))
decisions-sound (disjunction left right) domains known event variables fixing d h =
    let first = decide left domains known event in
    or-by-decided first.answer first.flags first.known (decide right domains first.known event) fixing
    (truth left variables (at_fixing event fixing)) (truth right variables (at_fixing event fixing))
    (decisions-sound left domains known event variables fixing d h)
    (λ k. decisions-sound right domains first.known event variables fixing d (hold-on domains known first.known variables fixing h k))
decisions-sound (settled answer) domains known event variables fixing d h = (refl, h.spot)
decisions-sound (sure answer side) domains known event variables fixing d h =
    told-decided answer (decide side domains known event) fixing (truth side variables (at_fixing event fixing))
    (decisions-sound side domains known event variables fixing d h)
