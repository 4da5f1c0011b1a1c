-- That what is known of a part depends on its ranges alone, and that a constant and what it was folded from have the same.
use Rattle.std.specs.Prelude.{◌≡◌, ℤ, pos, neg_ℤ, unsigned_abs, Bool, List, ℕ, Ok}
use Rattle.pay_meaning.specs.Language.{Operator, Number, literal, period, days, negative, absolute, binary, Comparison, Note, Event}
use Rattle.pay_meaning.specs.Language.{Condition, compare, negation, conjunction, disjunction, settled, sure}
use Rattle.pay_meaning.specs.Language.{Statement, assign, pay, choose, group, Body, next}
use Rattle.pay_meaning.specs.Meaning.{calculated, compared, whole}
use Rattle.pay_facts.specs.Facts.{Domains}
use Rattle.pay_facts.specs.Ranges.{range}
use Rattle.pay_facts.specs.Decisions.{decide}
use Rattle.pay_facts.specs.After.{after_one, after}

-- under whatever facts, two numbers of an event have the same range
abbrev pub SameRange : Event → Number → Number → Type 0
SameRange event a b = (domains : Domains) (known : Bool) → range a domains known event ≡ range b domains known event

-- two conditions have the same decision
abbrev pub SameDecision : Event → Condition → Condition → Type 0
SameDecision event a b = (domains : Domains) (known : Bool) → decide a domains known event ≡ decide b domains known event

-- two statements leave the same facts
abbrev pub SameFacts : Event → Statement → Statement → Type 0
SameFacts event a b = (domains : Domains) (known : Bool) → after_one a domains known event ≡ after_one b domains known event

-- two lists of statements leave the same facts
abbrev pub SameFactsAfter : Event → Body → Body → Type 0
SameFactsAfter event a b = (domains : Domains) (known : Bool) → after a domains known event ≡ after b domains known event

-- Parts in place of others with the same ranges, decisions and facts leave those of the whole as they are.
pub record WholesFollowParts (event : Event) : Type 0 where
  pub of_negative : (a b : Number) → SameRange event a b → SameRange event (negative a) (negative b)
  pub of_absolute : (a b : Number) → SameRange event a b → SameRange event (absolute a) (absolute b)
  pub of_binary : (op : Operator) (a b c d : Number) → SameRange event a b → SameRange event c d → SameRange event (binary op a c) (binary op b d)
  pub of_compare : (op : Comparison) (a b c d : Number) (note other : Note) → SameRange event a b → SameRange event c d
      → SameDecision event (compare op a c note) (compare op b d other)
  pub of_negation : (a b : Condition) → SameDecision event a b → SameDecision event (negation a) (negation b)
  pub of_conjunction : (a b c d : Condition) → SameDecision event a b → SameDecision event c d
      → SameDecision event (conjunction a c) (conjunction b d)
  pub of_disjunction : (a b c d : Condition) → SameDecision event a b → SameDecision event c d
      → SameDecision event (disjunction a c) (disjunction b d)
  pub of_sure : (answer : Bool) (a b : Condition) → SameDecision event a b → SameDecision event (sure answer a) (sure answer b)
  pub of_assign : (name : List ℕ) (a b : Number) → SameRange event a b → SameFacts event (assign name a) (assign name b)
  pub of_pay : (leg other : List ℕ) (a b : Number) → SameRange event a b → SameFacts event (pay leg a) (pay other b)
  pub of_choose : (a b : Condition) (c d e f : Body) → SameDecision event a b → SameFactsAfter event c d → SameFactsAfter event e f
      → SameFacts event (choose a c e) (choose b d f)
  pub of_group : (a b : Body) → SameFactsAfter event a b → SameFacts event (group a) (group b)
  pub of_next : (a b : Statement) (c d : Body) → SameFacts event a b → SameFactsAfter event c d → SameFactsAfter event (next a c) (next b d)

-- A constant has the range of what it was folded from: a sign or an operator of literals that doesn't fault, the period or the days of the event;
-- and a comparison of two literals has the decision of its truth.
pub record ConstantsFollow (event : Event) : Type 0 where
  pub of_negative : (raw : ℤ) → SameRange event (negative (literal raw)) (literal (neg_ℤ raw))
  pub of_absolute : (raw : ℤ) → SameRange event (absolute (literal raw)) (literal (pos (unsigned_abs raw)))
  pub of_binary : (op : Operator) (a b c : ℤ) → calculated op a b ≡ Ok c → SameRange event (binary op (literal a) (literal b)) (literal c)
  pub of_period : SameRange event period (literal (whole event.period))
  pub of_days : SameRange event days (literal (whole event.days))
  pub of_compare : (op : Comparison) (a b : ℤ) (note : Note) → SameDecision event (compare op (literal a) (literal b) note) (settled (compared op a b))

-- Folding leaves ranges, decisions and facts as they are.
abbrev pub FoldedRanges : Type 0
FoldedRanges = (event : Event) → WholesFollowParts event × ConstantsFollow event
