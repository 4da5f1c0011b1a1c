-- That the simplified script does what the script does.
use Rattle.std.specs.Prelude.{◌≡◌, ℕ, ℤ, Bool, true, false, List, map, Option, Some, None}
use Rattle.pay_meaning.specs.Language.{Number, Condition, settled, Body, Event}
use Rattle.pay_meaning.specs.Meaning.{Variables, lookup, no_variables, Fixings, value, truth, effect, meaning}
use Rattle.pay_tree.specs.Owned.{EventTree, spelled_event}
use Rattle.pay_passes.specs.Terms.{at_own_terms}
use Rattle.pay_facts.specs.Facts.{Domains, points_of, no_facts}
use Rattle.pay_facts.specs.Decisions.{decide}
use Rattle.pay_facts.specs.Holding.{Hold, HoldValues, AreFixings, at_fixing}
use Rattle.pay_facts.specs.FactLaws.{AreDomains}
use Rattle.pay_analysis.specs.Marks.{is_flagged}
use Rattle.pay_simplified.specs.Simplified.{literal_of, sure_of, simple_number, simple_condition, simple_body, simplified}
use Rattle.pay_simplified.specs.Pruning.{folded_event}

-- Under facts that hold, what is simplified has the same value, truth or effect, or the same fault.
pub record SimpleIsSame : Type 0 where
  pub numbers : (number : Number) (domains : Domains) (known : Bool) (event : Event) (variables : Variables) (fixing : Option ℤ)
      → AreDomains domains → Hold domains known variables fixing
      → value (simple_number number domains known event) variables (at_fixing event fixing) ≡ value number variables (at_fixing event fixing)
  pub conditions : (condition : Condition) (domains : Domains) (known : Bool) (event : Event) (variables : Variables) (fixing : Option ℤ)
      → AreDomains domains → Hold domains known variables fixing
      → truth (simple_condition condition domains known event) variables (at_fixing event fixing) ≡ truth condition variables (at_fixing event fixing)
  pub bodies : (body : Body) (domains : Domains) (known : Bool) (event : Event) (variables : Variables) (fixing : Option ℤ)
      → AreDomains domains → Hold domains known variables fixing
      → effect (simple_body body domains known event) variables (at_fixing event fixing) ≡ effect body variables (at_fixing event fixing)

-- The simplified form of a condition shows how it is decided: it is a truth literal where it is decided and can't fault, it is sure where it is decided
-- and can, and neither of them where it is open.
pub record FormsShowDecisions : Type 0 where
  pub literals : (condition : Condition) (domains : Domains) (known : Bool) (event : Event) (answer : Bool)
      → (decide condition domains known event).answer ≡ Some answer → is_flagged (decide condition domains known event).flags ≡ false
      → simple_condition condition domains known event ≡ settled answer
  pub sure_ones : (condition : Condition) (domains : Domains) (known : Bool) (event : Event) (answer : Bool)
      → (decide condition domains known event).answer ≡ Some answer → is_flagged (decide condition domains known event).flags ≡ true
      → sure_of (simple_condition condition domains known event) ≡ Some answer
  pub open_ones : (condition : Condition) (domains : Domains) (known : Bool) (event : Event)
      → (decide condition domains known event).answer ≡ None
      → (literal_of (simple_condition condition domains known event) ≡ None) × (sure_of (simple_condition condition domains known event) ≡ None)

-- The simplified script pays, ends and faults as the script: in every run from variables of which the facts hold, under all fixings within their limit;
-- so from variables with these values, whatever they are, and from no variables.
pub record SimplifiedPaysTheSame : Type 0 where
  pub held : (events : List Event) (domains : Domains) (variables : Variables) (fixings : Fixings)
      → AreDomains domains → HoldValues domains variables → AreFixings fixings
      → meaning (simplified events domains) variables fixings ≡ meaning events variables fixings
  pub from_values : (events : List Event) (variables : Variables) (fixings : Fixings) → AreFixings fixings
      → meaning (simplified events (points_of (lookup variables))) variables fixings ≡ meaning events variables fixings
  pub fresh : (events : List Event) (fixings : Fixings) → AreFixings fixings
      → meaning (simplified events no_facts) no_variables fixings ≡ meaning events no_variables fixings

-- Events whose constants were folded before have the simplified script that they have without it.
abbrev pub FoldingKeepsSimplified : Type 0
FoldingKeepsSimplified = (names legs : List (List ℕ)) (events : List EventTree) (domains : Domains)
    → simplified (map (spelled_event names legs) (map folded_event events)) domains ≡ simplified (map (spelled_event names legs) events) domains

-- Events with `period()` and `days()` as literals have the simplified script of the events.
abbrev pub TermsKeepSimplified : Type 0
TermsKeepSimplified = (events : List Event) (domains : Domains) → simplified (map at_own_terms events) domains ≡ simplified events domains
