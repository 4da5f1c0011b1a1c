use Rattle.std.proofs.Common.{◌≡◌, ◌∷◌, map, take}
use Rattle.pay_lexer.specs.Forms.{lower}
use Rattle.pay_lexer.proofs.lexer.lowered.Given as goal

-- the letters so far
abbrev pub invariant-loop-byte : goal.invariant-loop-byte
invariant-loop-byte l = l.letters.items ≡ map lower (l.first ∷ take l.byte-index l.more)
