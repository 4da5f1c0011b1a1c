use Rattle.std.proofs.Common.{◌≡◌, length, map}
use Rattle.pay_lexer.specs.Tokens.{key_in}
use Rattle.pay_lexer.proofs.keyword.key_among.Given as goal

-- what is left decides
abbrev pub invariant-loop-rest : goal.invariant-loop-rest
invariant-loop-rest l =
    key_in (map (λ entry. (entry.0.now, entry.1)) l.keywords) l.word ≡ key_in (map (λ entry. (entry.0.now, entry.1)) l.rest) l.word

abbrev pub decreases-loop-rest : goal.decreases-loop-rest
decreases-loop-rest l = length l.rest
