-- Visits that are reached among parts: more parts, more visits, and what is cut by a result.
use Rattle.std.proofs.Common.{◌≡◌, ℤ, Bool, true, false, List, [], ◌∷◌, ◌++◌, Option, Some, None, Result, Ok, Err}
use Rattle.pay_meaning.specs.declared.fault.FaultKind.{FaultKind}
use Rattle.pay_meaning.specs.Meaning.{Variables, Effect}
use Rattle.pay_domains.specs.declared.flags.Flags.{Flags}
use Rattle.pay_facts.specs.Facts.{Facts}
use Rattle.pay_facts.specs.Ranges.{Range}
use Rattle.pay_facts.specs.Holding.{Hold, IsKnown, InRange, IsDecided, HoldAfter}
use Rattle.pay_facts.specs.Reached.{Part, unless_false, unless_true, branch_parts}
use Rattle.pay_facts.specs.Visits.{Visit, unless_fault, on_true, on_false, onward}
use Rattle.pay_facts.specs.VisitLaws.{IsReached, here, there, AllReached}

-- one visit among more parts
reached_left : (fixing : Option ℤ) (visit : Visit) (p q : List Part) → IsReached fixing visit p → IsReached fixing visit (p ++ q)
reached_left fixing visit [] q h = elim h [ ]
reached_left fixing visit (part ∷ rest) q (here same fits) = here same fits
reached_left fixing visit (part ∷ rest) q (there h) = there (reached_left fixing visit rest q h)

reached_right : (fixing : Option ℤ) (visit : Visit) (p q : List Part) → IsReached fixing visit q → IsReached fixing visit (p ++ q)
reached_right fixing visit [] q h = h
reached_right fixing visit (part ∷ rest) q h = there (reached_right fixing visit rest q h)

-- all visits among more parts
pub all_left : (fixing : Option ℤ) (p q : List Part) (visits : List Visit) → AllReached fixing p visits → AllReached fixing (p ++ q) visits
all_left fixing p q [] h = tt
all_left fixing p q (visit ∷ rest) h = (reached_left fixing visit p q h.0, all_left fixing p q rest h.1)

pub all_right : (fixing : Option ℤ) (p q : List Part) (visits : List Visit) → AllReached fixing q visits → AllReached fixing (p ++ q) visits
all_right fixing p q [] h = tt
all_right fixing p q (visit ∷ rest) h = (reached_right fixing visit p q h.0, all_right fixing p q rest h.1)

-- visits one after another
pub both_reached : (fixing : Option ℤ) (parts : List Part) (a b : List Visit) → AllReached fixing parts a → AllReached fixing parts b
    → AllReached fixing parts (a ++ b)
both_reached fixing parts [] b h k = k
both_reached fixing parts (visit ∷ rest) b h k = (h.0, both_reached fixing parts rest b h.1 k)

-- visits one after another, each among its own parts
pub then_reached : (fixing : Option ℤ) (p q : List Part) (a b : List Visit) → AllReached fixing p a → AllReached fixing q b
    → AllReached fixing (p ++ q) (a ++ b)
then_reached fixing p q a b h k = both_reached fixing (p ++ q) a b (all_left fixing p q a h) (all_right fixing p q b k)

-- a second number, unless the first faulted
pub number_then : (fixing : Option ℤ) (r : Range) (u : Result ℤ FaultKind) (parts : List Part) (visits : List Visit) → InRange fixing r u
    → (IsKnown r.known fixing → AllReached fixing parts visits) → AllReached fixing parts (unless_fault u visits)
number_then fixing r (Err fault) parts visits h k = tt
number_then fixing r (Ok raw) parts visits h k = k h.1

-- the right side of an `and`, where the left one is true; and of an `or`, where it is false
pub and_then : (fixing : Option ℤ) (answer : Option Bool) (flags : Flags) (known : Bool) (u : Result Bool FaultKind) (parts : List Part) (visits : List Visit)
    → IsDecided fixing (record { answer = answer; flags = flags; known = known }) u
    → (IsKnown known fixing → AllReached fixing parts visits) → AllReached fixing (unless_false answer parts) (on_true u visits)
and_then fixing answer flags known (Err fault) parts visits h k = tt
and_then fixing answer flags known (Ok false) parts visits h k = tt
and_then fixing None flags known (Ok true) parts visits h k = k h.1
and_then fixing (Some true) flags known (Ok true) parts visits h k = k h.1
and_then fixing (Some false) flags known (Ok true) parts visits h k = let wrong : true ≡ false = h.0 in cc

pub or_then : (fixing : Option ℤ) (answer : Option Bool) (flags : Flags) (known : Bool) (u : Result Bool FaultKind) (parts : List Part) (visits : List Visit)
    → IsDecided fixing (record { answer = answer; flags = flags; known = known }) u
    → (IsKnown known fixing → AllReached fixing parts visits) → AllReached fixing (unless_true answer parts) (on_false u visits)
or_then fixing answer flags known (Err fault) parts visits h k = tt
or_then fixing answer flags known (Ok true) parts visits h k = tt
or_then fixing None flags known (Ok false) parts visits h k = k h.1
or_then fixing (Some false) flags known (Ok false) parts visits h k = k h.1
or_then fixing (Some true) flags known (Ok false) parts visits h k = let wrong : false ≡ true = h.0 in cc

-- the branch that is chosen
pub branch_reached : (fixing : Option ℤ) (answer : Option Bool) (flags : Flags) (known : Bool) (u : Result Bool FaultKind) (p q : List Part) (a b : List Visit)
    → IsDecided fixing (record { answer = answer; flags = flags; known = known }) u
    → (IsKnown known fixing → AllReached fixing p a) → (IsKnown known fixing → AllReached fixing q b)
    → AllReached fixing (branch_parts answer p q) (on_true u a ++ on_false u b)
branch_reached fixing answer flags known (Err fault) p q a b h first second = tt
branch_reached fixing None flags known (Ok true) p q a b h first second =
    both_reached fixing (p ++ q) a [] (all_left fixing p q a (first h.1)) tt
branch_reached fixing None flags known (Ok false) p q a b h first second = all_right fixing p q b (second h.1)
branch_reached fixing (Some true) flags known (Ok true) p q a b h first second = both_reached fixing p a [] (first h.1) tt
branch_reached fixing (Some false) flags known (Ok false) p q a b h first second = second h.1
branch_reached fixing (Some true) flags known (Ok false) p q a b h first second = let wrong : false ≡ true = h.0 in cc
branch_reached fixing (Some false) flags known (Ok true) p q a b h first second = let wrong : true ≡ false = h.0 in cc

-- what follows an effect, from variables of which the facts hold
pub onward_reached : (fixing : Option ℤ) (facts : Facts) (e : Result Effect FaultKind) (parts : List Part) (rest : Variables → List Visit)
    → HoldAfter fixing facts e
    → ((variables : Variables) → Hold facts.domains facts.known variables fixing → AllReached fixing parts (rest variables))
    → AllReached fixing parts (onward e rest)
onward_reached fixing facts (Err fault) parts rest h k = tt
onward_reached fixing facts (Ok effect) parts rest h k = k effect.variables h
