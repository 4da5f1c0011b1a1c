-- When facts hold of the variables of a run.
use Rattle.std.specs.Prelude.{◌≡◌, ℕ, ℤ, Bool, IsTrue, List, Option, Result, Ok, Err, IfSome, IsSome}
use Rattle.pay_meaning.specs.Language.{Event}
use Rattle.pay_meaning.specs.Meaning.{Variables, lookup, Moment, Effect, Fixings, fixing_at}
use Rattle.pay_meaning.specs.declared.fault.FaultKind.{FaultKind}
use Rattle.pay_domains.specs.Pieces.{Held}
use Rattle.pay_domains.specs.DomainLaws.{flag_of}
use Rattle.pay_facts.specs.Facts.{Domains, Facts}
use Rattle.pay_facts.specs.Ranges.{Range, fixings}
use Rattle.pay_facts.specs.Decisions.{Decision}

-- each variable has one of its raws
abbrev pub HoldValues : Domains → Variables → Type 0
HoldValues domains variables = (name : List ℕ) → Held (lookup variables name) (domains name)

-- where the fixing is known to be there, it is
abbrev pub IsKnown : Bool → Option ℤ → Type 0
IsKnown known fixing = IsTrue known → IsSome fixing

-- a fixing, if there is one, is within its limit
abbrev pub IsFixing : Option ℤ → Type 0
IsFixing fixing = IfSome fixing (λ raw. Held raw fixings)

-- Facts hold at a place of a run: each variable has one of its raws, the fixing is there where it is known to be, and a fixing is within its limit.
pub record Hold (domains : Domains) (known : Bool) (variables : Variables) (fixing : Option ℤ) : Type 0 where
  pub values : HoldValues domains variables
  pub spot : IsKnown known fixing
  pub limits : IsFixing fixing

-- the value of a number is one of its raws, and the fixing is there where it is known to be then; or its fault is flagged
abbrev pub InRange : Option ℤ → Range → Result ℤ FaultKind → Type 0
InRange fixing r (Ok raw) = Held raw r.domain × IsKnown r.known fixing
InRange fixing r (Err fault) = IsTrue (flag_of fault r.flags)

-- a truth is the decided one, if there is one
abbrev pub Agrees : Option Bool → Bool → Type 0
Agrees answer truth = IfSome answer (λ decided. truth ≡ decided)

-- the truth of a condition is the decided one, if there is one, and the fixing is there where it is known to be then; or its fault is flagged
abbrev pub IsDecided : Option ℤ → Decision → Result Bool FaultKind → Type 0
IsDecided fixing d (Ok truth) = Agrees d.answer truth × IsKnown d.known fixing
IsDecided fixing d (Err fault) = IsTrue (flag_of fault d.flags)

-- the facts hold of what statements leave, unless they faulted
abbrev pub HoldAfter : Option ℤ → Facts → Result Effect FaultKind → Type 0
HoldAfter fixing facts (Ok effect) = Hold facts.domains facts.known effect.variables fixing
HoldAfter fixing facts (Err fault) = Unit {0}

-- the moment of an event under a fixing
abbrev pub at_fixing : Event → Option ℤ → Moment
at_fixing event fixing = record { date = event.date; fixing = fixing; period = event.period; days = event.days }

-- the fixings are within their limit
abbrev pub AreFixings : Fixings → Type 0
AreFixings fixings = (event : Event) → IsFixing (fixing_at fixings event.date)
