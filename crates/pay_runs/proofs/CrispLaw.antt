-- A crisp run is the direct one: each weight is that of the truth.
use Rattle.std.proofs.Common.{◌≡◌, ℕ, ◌-◌, ℤ, Bool, true, false, not, List, [], ◌∷◌, Result, Ok, Err, refl, ap, ◌∙◌}
use Rattle.pay_fixed.specs.Weights.{whole as full}
use Rattle.pay_meaning.specs.declared.fault.FaultKind.{FaultKind}
use Rattle.pay_meaning.specs.Language.{Comparison, Note, bare, smoothed, Condition, compare, negation, conjunction, disjunction, settled, sure, Statement}
use Rattle.pay_meaning.specs.Language.{assign, pay, choose, group, Body, done, next, Event}
use Rattle.pay_meaning.specs.Meaning.{Variables, Moment, moment_of, one, both, value, compared, both_hold, either_holds, truth, Effect, followed_by, chosen}
use Rattle.pay_meaning.specs.Meaning.{effect_of, effect, Fixings, event_then, meaning}
use Rattle.pay_runs.specs.Weighing.{certain, compared_weight, and_weight, or_weight, weight, split, weighed_statement, weighed, weighed_meaning}
use Rattle.pay_runs.specs.RunLaws.{CrispIsDirect}

-- the weight of a truth, or its fault
abbrev of_truth : Result Bool FaultKind → Result ℕ FaultKind
of_truth (Err fault) = Err fault
of_truth (Ok answer) = Ok (certain answer)

-- no smoothing is read
crisp_comparison : (op : Comparison) (note : Note) (a b : ℤ) → compared_weight false op note a b ≡ certain (compared op a b)
crisp_comparison op bare a b = refl
crisp_comparison op (smoothed smooth) a b = refl

crisp_both : (op : Comparison) (note : Note) (x y : Result ℤ FaultKind)
    → both (λ a b. Ok (compared_weight false op note a b)) x y ≡ of_truth (both (λ a b. Ok (compared op a b)) x y)
crisp_both op note (Err fault) y = refl
crisp_both op note (Ok a) (Err fault) = refl
crisp_both op note (Ok a) (Ok b) = ap Ok (crisp_comparison op note a b)

crisp_not : (x : Result Bool FaultKind) → one (λ w. full - w) (of_truth x) ≡ of_truth (one not x)
crisp_not (Err fault) = refl
crisp_not (Ok true) = refl
crisp_not (Ok false) = refl

crisp_and : (x y : Result Bool FaultKind) → and_weight (of_truth x) (of_truth y) ≡ of_truth (both_hold x y)
crisp_and (Err fault) y = refl
crisp_and (Ok false) y = refl
crisp_and (Ok true) (Err fault) = refl
crisp_and (Ok true) (Ok true) = refl
crisp_and (Ok true) (Ok false) = refl

crisp_or : (x y : Result Bool FaultKind) → or_weight (of_truth x) (of_truth y) ≡ of_truth (either_holds x y)
crisp_or (Err fault) y = refl
crisp_or (Ok true) y = refl
crisp_or (Ok false) (Err fault) = refl
crisp_or (Ok false) (Ok true) = refl
crisp_or (Ok false) (Ok false) = refl

crisp_sure : (answer : Bool) (x : Result Bool FaultKind) → one (λ w. certain answer) (of_truth x) ≡ of_truth (one (λ other. answer) x)
crisp_sure answer (Err fault) = refl
crisp_sure answer (Ok other) = refl

-- a condition of a crisp run has the weight of its truth
crisp_weight : (c : Condition) (variables : Variables) (at : Moment) → weight false c variables at ≡ of_truth (truth c variables at)
crisp_weight (compare op left right note) variables at = crisp_both op note (value left variables at) (value right variables at)
crisp_weight (negation side) variables at =
    ap (one (λ w. full - w)) (crisp_weight side variables at) ∙ crisp_not (truth side variables at)
crisp_weight (conjunction left right) variables at =
    (λ i. and_weight (crisp_weight left variables at i) (crisp_weight right variables at i))
    ∙ crisp_and (truth left variables at) (truth right variables at)
crisp_weight (disjunction left right) variables at =
    (λ i. or_weight (crisp_weight left variables at i) (crisp_weight right variables at i))
    ∙ crisp_or (truth left variables at) (truth right variables at)
crisp_weight (settled answer) variables at = refl
crisp_weight (sure answer side) variables at =
    ap (one (λ w. certain answer)) (crisp_weight side variables at) ∙ crisp_sure answer (truth side variables at)

-- it chooses one branch
crisp_split : (x : Result Bool FaultKind) (yes_part no_part : Result Effect FaultKind) → split (of_truth x) yes_part no_part ≡ chosen x yes_part no_part
crisp_split (Err fault) yes_part no_part = refl
crisp_split (Ok true) yes_part no_part = refl
crisp_split (Ok false) yes_part no_part = refl

-- the effect is that of one branch
mutual
  crisp_statement : (s : Statement) (variables : Variables) (at : Moment) → weighed_statement false s variables at ≡ effect_of s variables at
  crisp_statement (assign name number) variables at = refl
  crisp_statement (pay leg number) variables at = refl
  crisp_statement (choose condition yes_part no_part) variables at =
      (λ i. split (crisp_weight condition variables at i) (crisp_body yes_part variables at i) (crisp_body no_part variables at i))
      ∙ crisp_split (truth condition variables at) (effect yes_part variables at) (effect no_part variables at)
  crisp_statement (group body) variables at = crisp_body body variables at

  crisp_body : (body : Body) (variables : Variables) (at : Moment) → weighed false body variables at ≡ effect body variables at
  crisp_body done variables at = refl
  crisp_body (next statement rest) variables at =
      λ i. followed_by (crisp_statement statement variables at i) (λ after. crisp_body rest after at i)

-- so is the meaning of events
crisp_events : (events : List Event) (variables : Variables) (fixings : Fixings)
    → weighed_meaning false events variables fixings ≡ meaning events variables fixings
crisp_events [] variables fixings = refl
crisp_events (event ∷ rest) variables fixings =
    λ i. event_then event.date (crisp_body event.body variables (moment_of event fixings) i) (λ after. crisp_events rest after fixings i)

pub crisp_is_direct : CrispIsDirect
crisp_is_direct = record { effects = crisp_body; meanings = crisp_events }
