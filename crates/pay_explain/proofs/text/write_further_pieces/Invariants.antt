use Rattle.std.proofs.Common.{◌≡◌, ◌++◌, drop}
use Rattle.pay_explain.specs.Explaining.{further_pieces_text}
use Rattle.pay_explain.specs.Known.{HaveRawEnds}
use Rattle.pay_explain.proofs.text.write_further_pieces.Given as goal

-- what is written so far and the text of what is left are all the text, and the ends of what is left lie within the limit
abbrev pub invariant-loop-piece : goal.invariant-loop-piece
invariant-loop-piece l =
    (l.initial.text.items ++ further_pieces_text l.pieces ≡ l.text.items ++ further_pieces_text (drop l.piece-index l.pieces))
    × HaveRawEnds (drop l.piece-index l.pieces)
