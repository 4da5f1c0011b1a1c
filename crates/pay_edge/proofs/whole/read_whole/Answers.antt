use Rattle.std.proofs.Common.{◌≡◌, arith, rules}
use Rattle.std.proofs.lemmas.Result.{err_from_is_err_and}
use Rattle.pay_edge.specs.Edge.{Files, IsBegun, whole_of}
use Rattle.pay_edge.specs.Edge.Whole.{Missing, Long, Bytes}
use Rattle.pay_edge.proofs.Told.{read_none, same_none, then_read, then_same, told_before, told_after, there_before}
use Rattle.pay_edge.proofs.Faults.{same_fault}
use Rattle.pay_edge.proofs.Wholes.{begun_none}
use Rattle.pay_edge.proofs.whole.read_whole.Goals as goal

pub loop-bytes-init : goal.loop-bytes-init
loop-bytes-init g c = record {
  room = omega (arith, c.in_ok-buffer.ensures.len);
  reads = read_none g.D.Depot.files g.D.Depot.read_faults g.D.Depot.write_faults c.args.depot.now;
  other_names = same_none c.args.name.now (g.D.Depot.read_faults c.args.depot.now);
  fetches = omega arith;
  within = omega (arith, c.new-bytes.ensures.len);
  front = begun_none (g.D.Depot.files c.args.depot.now) c.args.name.now c.new-bytes.result.items c.new-bytes.ensures.items;
}

pub loop-bytes-preserved : goal.loop-bytes-preserved
loop-bytes-preserved g c =
    let kept = c.loop-bytes.invariant in
    let now = c.read_more.ensures in
    record {
      room = kept.room;
      reads = then_read kept.reads now.reads;
      other_names = then_same kept.other_names now.other_names;
      fetches = omega (arith, kept.fetches, now.fetches, c.in_ok-read_more.ensures.more);
      within = omega (arith, c.in_ok-read_more.ensures.within);
      front = told_after (λ (files : Files). IsBegun files c.args.name.now c.read_more.new.bytes.items) now.reads.files c.in_ok-read_more.ensures.front;
    }

pub returns-clause-reads : goal.returns-clause-reads
returns-clause-reads g c = then_read c.loop-bytes.invariant.reads c.read_more.ensures.reads

pub returns-clause-bytes : goal.returns-clause-bytes
returns-clause-bytes g c =
    told_before (λ (files : Files). whole_of files c.args.name.now c.args.limit ≡ Bytes c.read_more.new.bytes.items) c.loop-bytes.invariant.reads.files
    (c.in_ok-read_more.ensures.end (search rules))

pub returns-in_err-read_more-clause-reads : goal.returns-in_err-read_more-clause-reads
returns-in_err-read_more-clause-reads g c = then_read c.loop-bytes.invariant.reads c.read_more.ensures.reads

pub returns-in_err-read_more-clause-too_long : goal.returns-in_err-read_more-clause-too_long
returns-in_err-read_more-clause-too_long g c =
    let p = err_from_is_err_and c.from_residual-in_err-read_more.result c.from_residual-in_err-read_more.ensures.1 in
    rw (p.1, p.2) (λ is. told_before (λ (files : Files). whole_of files c.args.name.now c.args.limit ≡ Long) c.loop-bytes.invariant.reads.files
    (c.in_err-read_more.ensures.too_long (same_fault is)))

pub returns-in_err-read_more-clause-absent : goal.returns-in_err-read_more-clause-absent
returns-in_err-read_more-clause-absent g c =
    let p = err_from_is_err_and c.from_residual-in_err-read_more.result c.from_residual-in_err-read_more.ensures.1 in
    rw (p.1, p.2) (λ is. there_before (λ (files : Files). whole_of files c.args.name.now c.args.limit ≡ Missing) c.loop-bytes.invariant.reads.files
    (c.in_err-read_more.ensures.absent (same_fault is)))

pub returns-in_err-read_more-clause-failed : goal.returns-in_err-read_more-clause-failed
returns-in_err-read_more-clause-failed g c =
    let p = err_from_is_err_and c.from_residual-in_err-read_more.result c.from_residual-in_err-read_more.ensures.1 in
    rw (p.1, p.2) (λ is. let rose = c.in_err-read_more.ensures.failed (same_fault is) in
    omega (arith, c.loop-bytes.invariant.reads.later c.args.name.now, rose))
