use Rattle.std.proofs.Common.{◌≡◌, ◌≤◌, length}
use Rattle.pay_lexer.specs.declared.fault.LexFault.{LexFault}
use Rattle.pay_lexer.specs.Spelling.{IsCause}
use Rattle.pay_lexer.specs.Lexing.{tokens_in, with_tokens}
use Rattle.pay_lexer.specs.Lexer.{tokens_at, IsCauseAt}
use Rattle.pay_lexer.proofs.lexer.lex.Given as goal

-- the tokens so far and those of the rest are those of the text, and why the rest is refused is why the text is
abbrev pub invariant-loop-rest : goal.invariant-loop-rest
invariant-loop-rest l = record {
  within : length l.rest ≤ length l.text;
  taken : tokens_in l.text ≡ with_tokens l.tokens.items (tokens_at (length l.text) l.rest);
  later : (fault : LexFault) → IsCauseAt (length l.text) l.rest fault → IsCause l.text fault;
}

abbrev pub decreases-loop-rest : goal.decreases-loop-rest
decreases-loop-rest l = length l.rest
