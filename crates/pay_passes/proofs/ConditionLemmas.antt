-- The condition of a condition of a tree whose form is known.
use Rattle.std.proofs.Common.{◌≡◌, sym, ap, ◌∙◌}
use Rattle.std.specs.declared.boxed.Box.{Box}
use Rattle.std.specs.declared.alloc.Global.{Global}
use Rattle.pay_meaning.specs.Language.{bare, Condition, compare, negation, conjunction, disjunction}
use Rattle.pay_tree.specs.declared.tree.Compare.{Compare}
use Rattle.pay_tree.specs.declared.tree.Expr.{Expr}
use Rattle.pay_tree.specs.declared.tree.Cond.{Cond}
use Rattle.pay_tree.specs.declared.tree.Cond.TheOpen.{Cond-F}
use Rattle.pay_tree.specs.declared.tree.Cond.TheFolds.{fold-roll-Cond}
use Rattle.pay_tree.specs.declared.tree.Cond.TheVariants as cond
use Rattle.pay_tree.specs.declared.tree.Cond.TheVariants.{rolls-Compare, rolls-Not, rolls-And, rolls-Or}
use Rattle.pay_tree.specs.Views.{number, comparison, condition, condition_part}

pub condition-compare : (op : Compare) (left right : Box Expr Global)
    → condition (cond.Compare op left right) ≡ compare (comparison op) (number left.value) (number right.value) bare
condition-compare op left right = ap condition (sym (rolls-Compare op left right)) ∙ fold-roll-Cond Condition condition_part (Cond-F.Compare op left right)

pub condition-not : (side : Box Cond Global) → condition (cond.Not side) ≡ negation (condition side.value)
condition-not side = ap condition (sym (rolls-Not side)) ∙ fold-roll-Cond Condition condition_part (Cond-F.Not side)

pub condition-and : (left right : Box Cond Global) → condition (cond.And left right) ≡ conjunction (condition left.value) (condition right.value)
condition-and left right = ap condition (sym (rolls-And left right)) ∙ fold-roll-Cond Condition condition_part (Cond-F.And left right)

pub condition-or : (left right : Box Cond Global) → condition (cond.Or left right) ≡ disjunction (condition left.value) (condition right.value)
condition-or left right = ap condition (sym (rolls-Or left right)) ∙ fold-roll-Cond Condition condition_part (Cond-F.Or left right)
