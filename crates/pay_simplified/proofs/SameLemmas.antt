-- Parts of two events that have the same ranges, decisions and facts, and are the same once they are simplified: so are the wholes of such parts.
use Rattle.std.proofs.Common.{◌≡◌, ℕ, ℤ, Bool, List, refl}
use Rattle.pay_meaning.specs.Language.{Operator, Number, literal, variable, spot, negative, absolute, binary, Event}
use Rattle.pay_meaning.specs.Language.{Comparison, Note, Condition, compare, negation, conjunction, disjunction, settled, sure}
use Rattle.pay_meaning.specs.Language.{Statement, assign, pay, choose, group, Body, done, next}
use Rattle.pay_domains.specs.Operators.{negated, magnitudes}
use Rattle.pay_facts.specs.Facts.{Domains}
use Rattle.pay_facts.specs.Ranges.{range_of_one, range_of_both, range}
use Rattle.pay_facts.specs.Decisions.{comparison_decision, turned_decision, and_decision, or_decision, told_decision, decide}
use Rattle.pay_facts.specs.After.{after_assignment, after_branches, after_one, after}
use Rattle.pay_simplified.specs.Simplified.{point_in, at_point, simple_number, as_decided, simple_not, simple_and, simple_or, simple_condition}
use Rattle.pay_simplified.specs.Simplified.{simple_choose, simple_statement, simple_body}

-- two numbers, each of its event
pub record AreSameNumbers (event other : Event) (a b : Number) : Type 0 where
  pub ranges : (domains : Domains) (known : Bool) → range a domains known event ≡ range b domains known other
  pub simple : (domains : Domains) (known : Bool) → simple_number a domains known event ≡ simple_number b domains known other

-- two conditions
pub record AreSameConditions (event other : Event) (a b : Condition) : Type 0 where
  pub decisions : (domains : Domains) (known : Bool) → decide a domains known event ≡ decide b domains known other
  pub simple : (domains : Domains) (known : Bool) → simple_condition a domains known event ≡ simple_condition b domains known other

-- two statements
pub record AreSameStatements (event other : Event) (a b : Statement) : Type 0 where
  pub facts : (domains : Domains) (known : Bool) → after_one a domains known event ≡ after_one b domains known other
  pub simple : (domains : Domains) (known : Bool) → simple_statement a domains known event ≡ simple_statement b domains known other

-- two lists of statements
pub record AreSameBodies (event other : Event) (a b : Body) : Type 0 where
  pub facts : (domains : Domains) (known : Bool) → after a domains known event ≡ after b domains known other
  pub simple : (domains : Domains) (known : Bool) → simple_body a domains known event ≡ simple_body b domains known other

module _ (event other : Event) where
  -- numbers that read nothing of their event
  pub same_literal : (raw : ℤ) → AreSameNumbers event other (literal raw) (literal raw)
  same_literal raw = record { ranges = λ domains known. refl; simple = λ domains known. refl }

  pub same_variable : (name : List ℕ) → AreSameNumbers event other (variable name) (variable name)
  same_variable name = record { ranges = λ domains known. refl; simple = λ domains known. refl }

  pub same_spot : AreSameNumbers event other spot spot
  same_spot = record { ranges = λ domains known. refl; simple = λ domains known. refl }

  pub same_negative : (a b : Number) → AreSameNumbers event other a b → AreSameNumbers event other (negative a) (negative b)
  same_negative a b same = record {
    ranges = λ domains known i. range_of_one negated (same.ranges domains known i);
    simple = λ domains known i.
        at_point (point_in (range_of_one negated (same.ranges domains known i))) (negative (same.simple domains known i));
  }

  pub same_absolute : (a b : Number) → AreSameNumbers event other a b → AreSameNumbers event other (absolute a) (absolute b)
  same_absolute a b same = record {
    ranges = λ domains known i. range_of_one magnitudes (same.ranges domains known i);
    simple = λ domains known i.
        at_point (point_in (range_of_one magnitudes (same.ranges domains known i))) (absolute (same.simple domains known i));
  }

  pub same_binary : (op : Operator) (a b c d : Number) → AreSameNumbers event other a b → AreSameNumbers event other c d
      → AreSameNumbers event other (binary op a c) (binary op b d)
  same_binary op a b c d first second = record {
    ranges = λ domains known i. range_of_both op (first.ranges domains known i) (second.ranges domains (first.ranges domains known i).known i);
    simple = λ domains known i.
        at_point (point_in (range_of_both op (first.ranges domains known i) (second.ranges domains (first.ranges domains known i).known i)))
        (binary op (first.simple domains known i) (second.simple domains (first.ranges domains known i).known i));
  }

  pub same_compare : (op : Comparison) (a b c d : Number) (note : Note) → AreSameNumbers event other a b → AreSameNumbers event other c d
      → AreSameConditions event other (compare op a c note) (compare op b d note)
  same_compare op a b c d note first second = record {
    decisions = λ domains known i. comparison_decision op (first.ranges domains known i) (second.ranges domains (first.ranges domains known i).known i);
    simple = λ domains known i.
        as_decided (comparison_decision op (first.ranges domains known i) (second.ranges domains (first.ranges domains known i).known i))
        (compare op (first.simple domains known i) (second.simple domains (first.ranges domains known i).known i) note);
  }

  pub same_negation : (a b : Condition) → AreSameConditions event other a b → AreSameConditions event other (negation a) (negation b)
  same_negation a b same = record {
    decisions = λ domains known i. turned_decision (same.decisions domains known i);
    simple = λ domains known i. as_decided (turned_decision (same.decisions domains known i)) (simple_not (same.simple domains known i));
  }

  pub same_conjunction : (a b c d : Condition) → AreSameConditions event other a b → AreSameConditions event other c d
      → AreSameConditions event other (conjunction a c) (conjunction b d)
  same_conjunction a b c d first second = record {
    decisions = λ domains known i. and_decision (first.decisions domains known i) (second.decisions domains (first.decisions domains known i).known i);
    simple = λ domains known i.
        as_decided (and_decision (first.decisions domains known i) (second.decisions domains (first.decisions domains known i).known i))
        (simple_and (first.simple domains known i) (second.simple domains (first.decisions domains known i).known i));
  }

  pub same_disjunction : (a b c d : Condition) → AreSameConditions event other a b → AreSameConditions event other c d
      → AreSameConditions event other (disjunction a c) (disjunction b d)
  same_disjunction a b c d first second = record {
    decisions = λ domains known i. or_decision (first.decisions domains known i) (second.decisions domains (first.decisions domains known i).known i);
    simple = λ domains known i.
        as_decided (or_decision (first.decisions domains known i) (second.decisions domains (first.decisions domains known i).known i))
        (simple_or (first.simple domains known i) (second.simple domains (first.decisions domains known i).known i));
  }

  pub same_settled : (answer : Bool) → AreSameConditions event other (settled answer) (settled answer)
  same_settled answer = record { decisions = λ domains known. refl; simple = λ domains known. refl }

  pub same_sure : (answer : Bool) (a b : Condition) → AreSameConditions event other a b → AreSameConditions event other (sure answer a) (sure answer b)
  same_sure answer a b same = record {
    decisions = λ domains known i. told_decision answer (same.decisions domains known i);
    simple = λ domains known i. as_decided (told_decision answer (same.decisions domains known i)) (same.simple domains known i);
  }

  pub same_assign : (name : List ℕ) (a b : Number) → AreSameNumbers event other a b → AreSameStatements event other (assign name a) (assign name b)
  same_assign name a b same = record {
    facts = λ domains known i. after_assignment domains name (same.ranges domains known i);
    simple = λ domains known i. assign name (same.simple domains known i);
  }

  pub same_pay : (leg : List ℕ) (a b : Number) → AreSameNumbers event other a b → AreSameStatements event other (pay leg a) (pay leg b)
  same_pay leg a b same = record {
    facts = λ domains known i. record { domains = domains; known = (same.ranges domains known i).known };
    simple = λ domains known i. pay leg (same.simple domains known i);
  }

  pub same_choose : (a b : Condition) (c d e f : Body) → AreSameConditions event other a b → AreSameBodies event other c d
      → AreSameBodies event other e f → AreSameStatements event other (choose a c e) (choose b d f)
  same_choose a b c d e f tested first second = record {
    facts = λ domains known i.
        after_branches (tested.decisions domains known i).answer (first.facts domains (tested.decisions domains known i).known i)
        (second.facts domains (tested.decisions domains known i).known i);
    simple = λ domains known i.
        simple_choose (tested.simple domains known i) (first.simple domains (tested.decisions domains known i).known i)
        (second.simple domains (tested.decisions domains known i).known i);
  }

  pub same_group : (a b : Body) → AreSameBodies event other a b → AreSameStatements event other (group a) (group b)
  same_group a b same = record {
    facts = same.facts;
    simple = λ domains known i. group (same.simple domains known i);
  }

  pub same_done : AreSameBodies event other done done
  same_done = record { facts = λ domains known. refl; simple = λ domains known. refl }

  pub same_next : (a b : Statement) (c d : Body) → AreSameStatements event other a b → AreSameBodies event other c d
      → AreSameBodies event other (next a c) (next b d)
  same_next a b c d first second = record {
    facts = λ domains known i. second.facts (first.facts domains known i).domains (first.facts domains known i).known i;
    simple = λ domains known i.
        next (first.simple domains known i) (second.simple (first.facts domains known i).domains (first.facts domains known i).known i);
  }
