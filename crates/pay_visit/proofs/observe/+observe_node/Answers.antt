use Rattle.std.proofs.Common.{refl}
use Rattle.pay_tree.proofs.OwnedLemmas.{number-unary, number-binary}
use Rattle.pay_visit.proofs.ShowingLemmas.{number_parts, then_ok, then_fault, then_cut, cut}
use Rattle.pay_visit.proofs.observe.+observe_node.Goals as goal

pub returns-in-Unary-clause-ok : goal.returns-in-Unary-clause-ok
returns-in-Unary-clause-ok g t c =
    let seen = g.O.Observer.seen in
    let is = number_parts (number-unary c.args.node.now _ _ c.in-Unary.is) refl in
    then_ok c.observe_node.result (seen c.args.with.now) (seen c.node.new.self) (seen c.observe_node.new.with) _ _ _ is c.in_ok-node.ensures.ok
    (rw c.deref.ensures at c.observe_node.ensures.ok)

pub returns-in-Unary-clause-fault : goal.returns-in-Unary-clause-fault
returns-in-Unary-clause-fault g t c =
    let seen = g.O.Observer.seen in
    let is = number_parts (number-unary c.args.node.now _ _ c.in-Unary.is) refl in
    then_fault c.observe_node.result (seen c.args.with.now) (seen c.node.new.self) (seen c.observe_node.new.with) _ _ _ is c.in_ok-node.ensures.ok
    (rw c.deref.ensures at c.observe_node.ensures.fault)

pub returns-in_err-observe_node-in-Binary-clause-fault : goal.returns-in_err-observe_node-in-Binary-clause-fault
returns-in_err-observe_node-in-Binary-clause-fault g t c =
    let seen = g.O.Observer.seen in
    let is = number_parts (number-binary c.args.node.now _ _ _ c.in-Binary.is) refl in
    then_cut c.from_residual-in_err-observe_node-in-Binary.result (seen c.args.with.now) (seen c.node.new.self) (seen c.observe_node-in-Binary.new.with)
    _ _ _ is c.in_ok-node.ensures.ok (cut _ _ _ _ (rw c.deref-in-Binary.ensures at c.in_err-observe_node-in-Binary.ensures.fault))

pub returns-in_ok-observe_node-in-Binary-clause-ok : goal.returns-in_ok-observe_node-in-Binary-clause-ok
returns-in_ok-observe_node-in-Binary-clause-ok g t c =
    let seen = g.O.Observer.seen in
    let is = number_parts (number-binary c.args.node.now _ _ _ c.in-Binary.is) refl in
    let last = c.observe_node-in-Binary-2 in
    then_ok last.result (seen c.args.with.now) (seen c.node.new.self) (seen last.new.with) _ _ _ is c.in_ok-node.ensures.ok
    (then_ok last.result (seen c.node.new.self) (seen c.observe_node-in-Binary.new.with) (seen last.new.with) _ _ _ refl
    (rw c.deref-in-Binary.ensures at c.in_ok-observe_node-in-Binary.ensures.ok) (rw c.deref-in-Binary-2.ensures at last.ensures.ok))

pub returns-in_ok-observe_node-in-Binary-clause-fault : goal.returns-in_ok-observe_node-in-Binary-clause-fault
returns-in_ok-observe_node-in-Binary-clause-fault g t c =
    let seen = g.O.Observer.seen in
    let is = number_parts (number-binary c.args.node.now _ _ _ c.in-Binary.is) refl in
    let last = c.observe_node-in-Binary-2 in
    then_fault last.result (seen c.args.with.now) (seen c.node.new.self) (seen last.new.with) _ _ _ is c.in_ok-node.ensures.ok
    (then_fault last.result (seen c.node.new.self) (seen c.observe_node-in-Binary.new.with) (seen last.new.with) _ _ _ refl
    (rw c.deref-in-Binary.ensures at c.in_ok-observe_node-in-Binary.ensures.ok) (rw c.deref-in-Binary-2.ensures at last.ensures.fault))
