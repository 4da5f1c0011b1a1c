use Rattle.std.proofs.Common.{arith}
use Rattle.std.proofs.lemmas.Grind.{common_steps}
use Rattle.std.proofs.lemmas.List.Folds.{list_any_more}
use Rattle.std.proofs.lemmas.Map.Text.{btree_map_updates_str}
use Rattle.std.proofs.lemmas.Slice.Eq.{bytes_eq-Decides}
use Rattle.pay_passes.proofs.names.NameNumbers.new.Goals as goal

pub loop-number-preserved : goal.loop-number-preserved
loop-number-preserved c =
    let name = c.index-names-number.result in
    let updated = btree_map_updates_str name c.loop-number.numbers c.insert.new.self _ c.in_ok-insert.ensures.updates in
    let numbered = c.loop-number.invariant in
    record {
      places = λ other number found. grind (arith, common_steps, updated other, bytes_eq-Decides name other, numbered.places other number);
      others = λ other none. grind (arith, common_steps, updated other, numbered.others other, list_any_more);
    }
