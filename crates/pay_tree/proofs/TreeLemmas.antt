-- The number of an expression and the statement of a statement of a tree whose form is known.
use Rattle.std.proofs.Common.{◌≡◌, ℕ, List, sym, ap, ◌∙◌}
use Rattle.std.specs.declared.boxed.Box.{Box}
use Rattle.std.specs.declared.alloc.Global.{Global}
use Rattle.std.specs.declared.vec.Vec.{Vec}
use Rattle.pay_meaning.specs.Language.{Number, binary, Statement, assign, pay, choose}
use Rattle.pay_tree.specs.declared.tree.Binary.{Binary}
use Rattle.pay_tree.specs.declared.tree.Unary.{Unary}
use Rattle.pay_tree.specs.declared.tree.Expr.{Expr}
use Rattle.pay_tree.specs.declared.tree.Expr.TheOpen.{Expr-F}
use Rattle.pay_tree.specs.declared.tree.Expr.TheFolds.{fold-roll-Expr}
use Rattle.pay_tree.specs.declared.tree.Expr.TheVariants as expr
use Rattle.pay_tree.specs.declared.tree.Expr.TheVariants.{rolls-Unary, rolls-Binary}
use Rattle.pay_tree.specs.declared.tree.Cond.{Cond}
use Rattle.pay_tree.specs.declared.tree.Stmt.{Stmt}
use Rattle.pay_tree.specs.declared.tree.Stmt.TheOpen.{Stmt-F}
use Rattle.pay_tree.specs.declared.tree.Stmt.TheFolds.{fold-roll-Stmt}
use Rattle.pay_tree.specs.declared.tree.Stmt.TheVariants as stmt
use Rattle.pay_tree.specs.declared.tree.Stmt.TheVariants.{rolls-Assign, rolls-Pay, rolls-If}
use Rattle.pay_tree.specs.Views.{number, number_part, operator, signed, condition, statement, statement_part, body}

pub number-binary : (op : Binary) (left right : Box Expr Global) → number (expr.Binary op left right) ≡ binary (operator op) (number left.value) (number right.value)
number-binary op left right = ap number (sym (rolls-Binary op left right)) ∙ fold-roll-Expr Number number_part (Expr-F.Binary op left right)

pub number-unary : (op : Unary) (side : Box Expr Global) → number (expr.Unary op side) ≡ signed op (number side.value)
number-unary op side = ap number (sym (rolls-Unary op side)) ∙ fold-roll-Expr Number number_part (Expr-F.Unary op side)

pub statement-assign : (name : List ℕ) (value : Expr) → statement (stmt.Assign name value) ≡ assign name (number value)
statement-assign name value = ap statement (sym (rolls-Assign name value)) ∙ fold-roll-Stmt Statement statement_part (Stmt-F.Assign name value)

pub statement-pay : (leg : List ℕ) (amount : Expr) → statement (stmt.Pay leg amount) ≡ pay leg (number amount)
statement-pay leg amount = ap statement (sym (rolls-Pay leg amount)) ∙ fold-roll-Stmt Statement statement_part (Stmt-F.Pay leg amount)

pub statement-choose : (cond : Cond) (yes_part no_part : Vec Stmt Global)
    → statement (stmt.If cond yes_part no_part) ≡ choose (condition cond) (body yes_part.items) (body no_part.items)
statement-choose cond yes_part no_part =
    ap statement (sym (rolls-If cond yes_part no_part)) ∙ fold-roll-Stmt Statement statement_part (Stmt-F.If cond yes_part no_part)
