use Rattle.std.proofs.Common.{sym, ◌∙◌}
use Rattle.std.proofs.lemmas.Result.{IfOk-weaker}
use Rattle.pay_lexer.proofs.CauseLemmas.{blank-later, comment-later, token-later, token-refused}
use Rattle.pay_lexer.proofs.lexer.take_one.Goals as goal

pub returns-then-is_blank-clause-later : goal.returns-then-is_blank-clause-later
returns-then-is_blank-clause-later c = blank-later c.args.place c.args.first c.args.rest.now (sym c.is_blank.ensures ∙ c.if-is_blank.true)

pub returns-then-begins_comment-clause-later : goal.returns-then-begins_comment-clause-later
returns-then-begins_comment-clause-later c =
    comment-later c.args.place c.args.first c.comment_length.result c.args.rest.now
    (sym c.begins_comment.ensures ∙ c.if-begins_comment.true) c.comment_length.ensures.value

pub returns-clause-later : goal.returns-clause-later
returns-clause-later c = IfOk-weaker c.take_token.result _ _
    (λ more found. token-later c.args.place c.args.first more c.args.rest.now
    (sym c.begins_comment.ensures ∙ c.if-begins_comment.false) found) c.take_token.ensures.found

pub returns-clause-refused : goal.returns-clause-refused
returns-clause-refused c =
    token-refused c.args.place c.args.first c.args.rest.now c.take_token.result (sym c.is_blank.ensures ∙ c.if-is_blank.false)
    (sym c.begins_comment.ensures ∙ c.if-begins_comment.false) c.take_token.ensures.bad c.take_token.ensures.memory
