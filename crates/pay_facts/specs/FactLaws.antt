-- That the facts hold in every run.
use Rattle.std.specs.Prelude.{◌≡◌, ℕ, ℤ, Bool, List, Option}
use Rattle.pay_meaning.specs.Language.{Operator, Number, Condition, Body, Event}
use Rattle.pay_meaning.specs.Meaning.{Variables, lookup, Fixings, value, truth, effect, meaning, End, finished, faulted}
use Rattle.pay_domains.specs.declared.piece.Piece.{Piece}
use Rattle.pay_domains.specs.Pieces.{AreProper, AreRaws, IsDomain}
use Rattle.pay_domains.specs.Operators.{reach}
use Rattle.pay_facts.specs.Facts.{Domains, points_of}
use Rattle.pay_facts.specs.Ranges.{result_of, range}
use Rattle.pay_facts.specs.Decisions.{decide}
use Rattle.pay_facts.specs.After.{after, after_events}
use Rattle.pay_facts.specs.Holding.{Hold, HoldValues, InRange, IsDecided, HoldAfter, AreFixings, at_fixing}

-- every variable has a domain
abbrev pub AreDomains : Domains → Type 0
AreDomains domains = (name : List ℕ) → IsDomain (domains name)

-- Under facts that hold, the value of a number is one of its raws, or its fault is flagged.
abbrev pub RangesAreSound : Type 0
RangesAreSound = (number : Number) (domains : Domains) (known : Bool) (event : Event) (variables : Variables) (fixing : Option ℤ)
    → AreDomains domains → Hold domains known variables fixing
    → InRange fixing (range number domains known event) (value number variables (at_fixing event fixing))

-- Under facts that hold, the truth of a decided condition is the decided one, or its fault is flagged.
abbrev pub DecisionsAreSound : Type 0
DecisionsAreSound = (condition : Condition) (domains : Domains) (known : Bool) (event : Event) (variables : Variables) (fixing : Option ℤ)
    → AreDomains domains → Hold domains known variables fixing
    → IsDecided fixing (decide condition domains known event) (truth condition variables (at_fixing event fixing))

-- Facts that hold before statements hold after them, unless they fault.
abbrev pub FactsHoldAfter : Type 0
FactsHoldAfter = (body : Body) (domains : Domains) (known : Bool) (event : Event) (variables : Variables) (fixing : Option ℤ)
    → AreDomains domains → Hold domains known variables fixing
    → HoldAfter fixing (after body domains known event) (effect body variables (at_fixing event fixing))

-- the facts hold of the last variables, unless an event faulted
abbrev pub HoldAtEnd : Domains → End → Type 0
HoldAtEnd domains (finished variables) = HoldValues domains variables
HoldAtEnd domains (faulted date fault) = Unit {0}

-- From variables of which the facts hold, they hold after each number of events, in every run: under all fixings within their limit.
abbrev pub FactsHoldInEveryRun : Type 0
FactsHoldInEveryRun = (events : List Event) (domains : Domains) (variables : Variables) (fixings : Fixings)
    → AreDomains domains → HoldValues domains variables → AreFixings fixings
    → HoldAtEnd (after_events events domains) (meaning events variables fixings).end

-- each variable holds its own value at the start
abbrev pub StartHolds : Type 0
StartHolds = (variables : Variables) → HoldValues (points_of (lookup variables)) variables

-- Of domains within the limit of a number `reach` is what an operator makes.
abbrev pub ReachIsResult : Type 0
ReachIsResult = (op : Operator) (a b : List Piece) → AreProper a → AreProper b → AreRaws a → AreRaws b → reach op a b ≡ result_of op a b

-- The raws that numbers and variables can have stay domains.
pub record DomainsStay : Type 0 where
  pub of_range : (number : Number) (domains : Domains) (known : Bool) (event : Event) → AreDomains domains
      → IsDomain (range number domains known event).domain
  pub of_after : (body : Body) (domains : Domains) (known : Bool) (event : Event) → AreDomains domains
      → AreDomains (after body domains known event).domains
  pub of_events : (events : List Event) (domains : Domains) → AreDomains domains → AreDomains (after_events events domains)
  pub of_points : (value : List ℕ → ℤ) → AreDomains (points_of value)
