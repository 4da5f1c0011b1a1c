use Rattle.std.proofs.Common.{refl}
use Rattle.std.proofs.lemmas.Result.{err_from_is_err_and}
use Rattle.pay_lexer.proofs.CauseLemmas.{next-taken, next-later, next_refused, rest_after}
use Rattle.pay_lexer.proofs.lexer.take_next.Goals as goal

pub returns-in_err-more-clause-refused : goal.returns-in_err-more-clause-refused
returns-in_err-more-clause-refused c =
    let stop = err_from_is_err_and c.from_residual.result c.from_residual.ensures.1 in
    rw (stop.1, stop.2) (next_refused c.args.size _ c.args.first c.args.rest.now _ refl c.requires.left c.in_err-more.ensures.refused)

pub returns-clause-taken : goal.returns-clause-taken
returns-clause-taken c =
    next-taken c.args.size _ c.args.first c.in_ok-more.more c.args.rest.now _ c.args.tokens.now.items c.take_one.new.tokens.items
    refl c.requires.left c.in_ok-more.ensures.within
    (rest_after c.in_ok-more.more c.args.rest.now) c.in_ok-more.ensures.taken

pub returns-clause-later : goal.returns-clause-later
returns-clause-later c =
    next-later c.args.size _ c.args.first c.in_ok-more.more c.args.rest.now _ refl c.requires.left c.in_ok-more.ensures.within
    (rest_after c.in_ok-more.more c.args.rest.now) c.in_ok-more.ensures.later
