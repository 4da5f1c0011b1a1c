use Rattle.std.proofs.Common.{map}
use Rattle.std.proofs.lemmas.Result.{err_from_is_err_and}
use Rattle.pay_meaning.specs.Parts.{as_variable, as_leg}
use Rattle.pay_tree.specs.Views.{script, event}
use Rattle.pay_passes.specs.declared.trade.Trade.{Trade}
use Rattle.pay_passes.proofs.IndexLaws.{names_numbered, events_room, few_accepted, variables_refused, legs_refused, made_of, made_stands, made_counted, made_good}
use Rattle.pay_passes.proofs.numbering.index.Goals as goal

pub returns-in_err-check_count-clause-refused : goal.returns-in_err-check_count-clause-refused
returns-in_err-check_count-clause-refused c =
    let p = err_from_is_err_and c.from_residual-in_err-check_count.result c.from_residual-in_err-check_count.ensures.1 in
    rw (p.1, p.2) (variables_refused (script c.args.script.now) c.in_err-check_count.field-0.0
    (rw c.in_ok-names.ensures at c.in_err-check_count.ensures.refused))

pub returns-in_err-check_count-2-clause-refused : goal.returns-in_err-check_count-2-clause-refused
returns-in_err-check_count-2-clause-refused c =
    let p = err_from_is_err_and c.from_residual-in_err-check_count-2.result c.from_residual-in_err-check_count-2.ensures.1 in
    rw (p.1, p.2) (legs_refused (script c.args.script.now) c.in_err-check_count-2.field-0.0
    (rw c.in_ok-names.ensures at c.in_ok-check_count.ensures.within) (rw c.in_ok-legs.ensures at c.in_err-check_count-2.ensures.refused))

pub numbered-requires-clause-own_names : goal.numbered-requires-clause-own_names
numbered-requires-clause-own_names c = names_numbered as_variable (script c.args.script.now) c.in_ok-names.names.items c.in_ok-names.ensures

pub numbered-requires-clause-own_legs : goal.numbered-requires-clause-own_legs
numbered-requires-clause-own_legs c = names_numbered as_leg (script c.args.script.now) c.in_ok-legs.legs.items c.in_ok-legs.ensures

pub numbered-requires-clause-room : goal.numbered-requires-clause-room
numbered-requires-clause-room c = events_room (script c.args.script.now) (map event c.args.events.items) c.requires.accepted c.requires.rolled

pub returns-clause-spelled : goal.returns-clause-spelled
returns-clause-spelled c =
    let trade : Trade = record { names = c.in_ok-names.names; legs = c.in_ok-legs.legs; events = c.in_ok-events.events } in
    made_stands (script c.args.script.now) trade (made_of (script c.args.script.now) trade (map event c.args.events.items)
    c.in_ok-names.ensures c.in_ok-legs.ensures c.requires.rolled c.in_ok-events.ensures.events c.in_ok-events.ensures.written)

pub returns-clause-counted : goal.returns-clause-counted
returns-clause-counted c =
    let trade : Trade = record { names = c.in_ok-names.names; legs = c.in_ok-legs.legs; events = c.in_ok-events.events } in
    made_counted (script c.args.script.now) trade (made_of (script c.args.script.now) trade (map event c.args.events.items)
    c.in_ok-names.ensures c.in_ok-legs.ensures c.requires.rolled c.in_ok-events.ensures.events c.in_ok-events.ensures.written)

pub returns-clause-good : goal.returns-clause-good
returns-clause-good c =
    let trade : Trade = record { names = c.in_ok-names.names; legs = c.in_ok-legs.legs; events = c.in_ok-events.events } in
    made_good (script c.args.script.now) trade (made_of (script c.args.script.now) trade (map event c.args.events.items)
    c.in_ok-names.ensures c.in_ok-legs.ensures c.requires.rolled c.in_ok-events.ensures.events c.in_ok-events.ensures.written)
    c.requires.accepted c.in_ok-check_count.ensures.within c.in_ok-check_count-2.ensures.within

pub returns-clause-accepted : goal.returns-clause-accepted
returns-clause-accepted c =
    few_accepted (script c.args.script.now) (rw c.in_ok-names.ensures at c.in_ok-check_count.ensures.within)
    (rw c.in_ok-legs.ensures at c.in_ok-check_count-2.ensures.within)
