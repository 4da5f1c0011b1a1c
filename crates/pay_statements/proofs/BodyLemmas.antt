-- The body of a list of statements and one more.
use Rattle.std.proofs.Common.{◌≡◌, List, [], ◌∷◌, ◌++◌, refl, ap}
use Rattle.pay_meaning.specs.Language.{next, and_then}
use Rattle.pay_tree.specs.declared.tree.Stmt.{Stmt}
use Rattle.pay_tree.specs.Views.{statement, body}

pub body_push : (before : List Stmt) (last : Stmt) → body (before ++ last ∷ []) ≡ and_then (body before) (statement last)
body_push [] last = refl
body_push (first ∷ rest) last = ap (next (statement first)) (body_push rest last)
