use Rattle.std.proofs.Common.{◌≡◌, pos, length, ◌&&◌, not, nat_lt, get_or, ◌++◌, ◌∷◌, [], sym, ◌∙◌}
use Rattle.pay_domains.specs.declared.piece.Piece.{Piece}
use Rattle.pay_domains.specs.Pieces.{from_to, touches}
use Rattle.pay_domains.proofs.MergeLemmas.{alone_at, joins_at}
use Rattle.pay_domains.proofs.normal.merged.Goals as goal
use Rattle.pay_domains.proofs.normal.merged.Goals.{then-begins+in_ok-push, else-begins}

-- the piece that a place past the end would give
abbrev none : Piece
none = from_to (pos 0) (pos 0)

pub loop-piece-preserved : goal.loop-piece-preserved
loop-piece-preserved c =
    let i = c.loop-piece.piece-index in
    let done = c.loop-piece.pieces.items in
    let last = c.loop-piece.last in
    let xs = c.args.rest.now in
    let tested : c.begins.result ≡ (nat_lt (length done) 15 && not (touches last (get_or xs i none))) = cc in
    elim c.if-begins.branch [
      | then-begins+in_ok-push w ↦
          let items : c.if-begins.pieces.items ≡ done ++ (last ∷ []) = rw w.pieces-is w.in_ok-push.ensures.items in
          let step = alone_at done xs last none i _ c.loop-piece-test.true (sym tested ∙ w.if-begins.true) c.loop-piece.invariant.pieces in
          rw (items, w.last-is) (record { room = step.0; pieces = step.1 })
      | else-begins w ↦
          let no = sym tested ∙ w.if-begins.false in
          let step = joins_at done xs last none i _ c.loop-piece-test.true c.loop-piece.invariant.room no c.loop-piece.invariant.pieces in
          rw (w.pieces-is, w.last-is, w.joined-last.ensures) (record { room = c.loop-piece.invariant.room; pieces = step })
    ]
