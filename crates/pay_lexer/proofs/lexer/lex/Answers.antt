use Rattle.std.proofs.Common.{length, arith}
use Rattle.std.proofs.lemmas.List.{length-drop}
use Rattle.pay_lexer.specs.Lexing.{tokens_in}
use Rattle.pay_lexer.proofs.LawLemmas.{tokens_are_spelled, tokens_are_slices, no_more_tokens_than_bytes}
use Rattle.pay_lexer.proofs.CauseLemmas.{start-taken, start-later, all-taken, rest_after}
use Rattle.pay_lexer.proofs.lexer.lex.Goals as goal

pub loop-rest-init : goal.loop-rest-init
loop-rest-init c =
    let same = rest_after c.mark_length.result c.args.text.now in
    record {
      within = rw same (omega (arith, length-drop c.mark_length.result c.args.text.now));
      taken = start-taken c.args.text.now _ c.mark_length.result c.new-tokens.result.items
          c.mark_length.ensures.value c.mark_length.ensures.within same c.new-tokens.ensures.items;
      later = start-later c.args.text.now _ c.mark_length.result c.mark_length.ensures.value c.mark_length.ensures.within same;
    }

pub returns-clause-spelled : goal.returns-clause-spelled
returns-clause-spelled c =
    tokens_are_spelled c.args.text.now c.loop-rest.tokens.items
    (all-taken (length c.args.text.now) c.loop-rest.rest.now c.loop-rest.tokens.items
    (tokens_in c.args.text.now) c.in_default.len_below c.loop-rest.invariant.taken)

pub returns-clause-slices : goal.returns-clause-slices
returns-clause-slices c = tokens_are_slices c.args.text.now c.loop-rest.tokens.items (returns-clause-spelled c)

pub returns-clause-count : goal.returns-clause-count
returns-clause-count c = no_more_tokens_than_bytes c.args.text.now c.loop-rest.tokens.items (returns-clause-spelled c)
