-- The prepared events can be lowered, and what is lowered of them is the trade's program.
use Rattle.std.proofs.Common.{IfOk, map, ap, ◌∙◌}
use Rattle.std.proofs.lemmas.List.{length-map}
use Rattle.std.proofs.lemmas.Result.{IfOk-weaker}
use Rattle.pay_compile.specs.Prepared.{kept_until, prepared_from}
use Rattle.pay_domains.specs.Pieces.{point}
use Rattle.pay_passes.specs.Trades.{trees_of}
use Rattle.pay_compile.proofs.Lowerable.{can_be_lowered, zero_points}
use Rattle.pay_compile.proofs.ProgramLemmas.{IsProgramOf, is_program, program_dates, program_legs, program_pays, program_counts, program_means}
use Rattle.pay_compile.proofs.compiling.compile.Goals as goal

pub lower-requires : goal.lower-requires
lower-requires c =
    let zero = ap (map point) (c.deref.ensures.value ∙ c.in_ok-values.ensures) ∙ zero_points c.args.trade.now.names.items in
    let events = c.in_ok-events.ensures ∙ ap (prepared_from (kept_until c.args.until (trees_of c.args.trade.now))) zero in
    rw (c.deref-2.ensures.value, events, c.deref-3.ensures.value, c.in_ok-values.ensures, length-map)
    (can_be_lowered c.args.until c.args.trade.now c.requires)

pub returns : goal.returns
returns c =
    let zero = ap (map point) (c.deref.ensures.value ∙ c.in_ok-values.ensures) ∙ zero_points c.args.trade.now.names.items in
    let events = c.in_ok-events.ensures ∙ ap (prepared_from (kept_until c.args.until (trees_of c.args.trade.now))) zero in
    let made : IfOk c.lower.result (IsProgramOf c.args.until c.args.trade.now) =
    is_program c.args.until c.args.trade.now c.lower.result (rw (c.deref-2.ensures.value, events) at c.lower.ensures.stands)
    (rw (c.deref-3.ensures.value, c.in_ok-values.ensures) at c.lower.ensures.start) (rw c.is_fuzzy.ensures at c.lower.ensures.fuzzy) in
    record {
      stands = IfOk-weaker c.lower.result _ _ (λ program is. is.stands) made;
      dates = IfOk-weaker c.lower.result _ _ (program_dates c.args.until c.args.trade.now) made;
      start = IfOk-weaker c.lower.result _ _ (λ program is. is.start) made;
      crisp = IfOk-weaker c.lower.result _ _ (λ program is. is.crisp) made;
      legs = IfOk-weaker c.lower.result _ _ (program_legs c.args.until c.args.trade.now c.requires) made;
      pays = IfOk-weaker c.lower.result _ _ (program_pays c.args.until c.args.trade.now c.requires) made;
      counts = IfOk-weaker c.lower.result _ _ (program_counts c.prepared_is_simplified.ensures c.args.until c.args.trade.now c.requires) made;
      means = IfOk-weaker c.lower.result _ _ (program_means c.prepared_is_simplified.ensures c.args.until c.args.trade.now c.requires) made;
    }
