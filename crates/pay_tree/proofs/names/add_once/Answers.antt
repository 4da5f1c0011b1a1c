use Rattle.std.proofs.Common.{◌≡◌, ◌++◌, List, ℕ, [], ◌∷◌, sym, ap, ◌∙◌, true, false, not}
use Rattle.std.specs.FinSet as set
use Rattle.pay_meaning.specs.Parts.{each_once}
use Rattle.pay_tree.specs.NameLists.{set_of, unseen}
use Rattle.pay_tree.proofs.NameLemmas.{add_new, add_seen}
use Rattle.pay_tree.proofs.names.add_once.Goals as goal

pub returns-in_ok-push : goal.returns-in_ok-push
returns-in_ok-push c rest =
    let is_new : true ≡ not (set.contains (set_of c.args.seen.now.keys) c.args.name.now) =
    sym c.if-branch.true ∙ rw c.in_ok-copy.ensures at c.in_ok-add_name.ensures.new in
    let first = add_new (set_of c.args.seen.now.keys) c.args.names.now.items rest c.args.name.now is_new in
    let added = rw c.in_ok-copy.ensures at c.in_ok-add_name.ensures.added in
    let pushed = rw c.in_ok-copy-2.ensures at c.in_ok-push.ensures.items in
    rw (added, pushed) first

pub returns-else-branch : goal.returns-else-branch
returns-else-branch c rest =
    let is_seen : false ≡ not (set.contains (set_of c.args.seen.now.keys) c.args.name.now) =
    sym c.if-branch.false ∙ rw c.in_ok-copy.ensures at c.in_ok-add_name.ensures.new in
    let first = add_seen (set_of c.args.seen.now.keys) c.args.names.now.items rest c.args.name.now is_seen in
    let added = rw c.in_ok-copy.ensures at c.in_ok-add_name.ensures.added in
    rw added first
