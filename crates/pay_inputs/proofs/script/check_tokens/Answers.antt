-- A script that tokens spell has no more items than they are.
use Rattle.std.proofs.Common.{arith}
use Rattle.std.proofs.lemmas.List.{length-map}
use Rattle.pay_lexer.specs.Lexing.{kinds}
use Rattle.pay_tree.specs.Views.{item, script}
use Rattle.pay_inputs.proofs.ItemLemmas.{few_items}
use Rattle.pay_inputs.proofs.script.check_tokens.Goals as goal

pub prepare_script-requires : goal.prepare_script-requires
prepare_script-requires c =
    let few = few_items (kinds c.args.tokens.now) (script c.in_ok-tree.tree) c.in_ok-tree.ensures.spelled in
    omega (arith, few, c.requires, length-map c.in_ok-tree.tree.items.items item, length-map c.args.tokens.now (λ t. t.kind))
