use Rattle.std.proofs.Common.{◌≡◌, ◌+◌, length}
use Rattle.pay_meaning.specs.Words.{is_digit}
use Rattle.pay_lexer.specs.Lexing.{front_while}
use Rattle.pay_lexer.proofs.lexer.digits_length.Given as goal

-- what was counted and what is left make up the text and its front
abbrev pub invariant-loop-rest : goal.invariant-loop-rest
invariant-loop-rest l = record {
  counted : l.count + length l.rest ≡ length l.text;
  value : length (front_while is_digit l.text) ≡ l.count + length (front_while is_digit l.rest);
}

abbrev pub decreases-loop-rest : goal.decreases-loop-rest
decreases-loop-rest l = length l.rest
