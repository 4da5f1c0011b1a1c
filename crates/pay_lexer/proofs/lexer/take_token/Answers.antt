use Rattle.std.proofs.Common.{suc, arith, sym, ap, ◌∙◌}
use Rattle.std.specs.Option.{option_map}
use Rattle.pay_lexer.specs.Lexing.{token_at, tokens_after}
use Rattle.pay_lexer.specs.Lexer.{front}
use Rattle.pay_lexer.proofs.CauseLemmas.{taken_then}
use Rattle.pay_lexer.proofs.lexer.take_token.Goals as goal

pub returns-clause-taken : goal.returns-clause-taken
returns-clause-taken c = taken_then c.args.place _ (token_at c.args.first c.args.rest.now) (λ n. tokens_after n (suc c.args.place) c.args.rest.now)
    (front c.in-Some.lexeme) c.args.tokens.now.items c.push.new.self.items (sym c.in_ok-lexeme.ensures.found ∙ ap (option_map front) c.in-Some.is)
    (omega arith)
    c.in_ok-push.ensures.items
