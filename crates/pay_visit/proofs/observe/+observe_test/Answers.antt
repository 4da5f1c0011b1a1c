use Rattle.std.proofs.Common.{refl}
use Rattle.pay_tree.proofs.OwnedLemmas.{test-compare, test-not, test-and, test-or}
use Rattle.pay_visit.proofs.ShowingLemmas.{test_parts, then_ok, then_fault, then_cut, cut}
use Rattle.pay_visit.proofs.observe.+observe_test.Goals as goal

pub returns-in-Not-clause-ok : goal.returns-in-Not-clause-ok
returns-in-Not-clause-ok g t c =
    let seen = g.O.Observer.seen in
    let is = test_parts (test-not c.args.test.now _ c.in-Not.is) refl in
    then_ok c.observe_test.result (seen c.args.with.now) (seen c.test.new.self) (seen c.observe_test.new.with) _ _ _ is c.in_ok-test.ensures.ok (rw c.deref-in-Not.ensures at c.observe_test.ensures.ok)

pub returns-in-Not-clause-fault : goal.returns-in-Not-clause-fault
returns-in-Not-clause-fault g t c =
    let seen = g.O.Observer.seen in
    let is = test_parts (test-not c.args.test.now _ c.in-Not.is) refl in
    then_fault c.observe_test.result (seen c.args.with.now) (seen c.test.new.self) (seen c.observe_test.new.with) _ _ _ is c.in_ok-test.ensures.ok (rw c.deref-in-Not.ensures at c.observe_test.ensures.fault)

pub returns-in_err-observe_node-in-Compare-clause-fault : goal.returns-in_err-observe_node-in-Compare-clause-fault
returns-in_err-observe_node-in-Compare-clause-fault g t c =
    let seen = g.O.Observer.seen in
    let is = test_parts (test-compare c.args.test.now _ _ _ _ c.in-Compare.is) refl in
    then_cut c.from_residual-in_err-observe_node-in-Compare.result (seen c.args.with.now) (seen c.test.new.self) (seen c.observe_node.new.with)
    _ _ _ is c.in_ok-test.ensures.ok (cut _ _ _ _ (rw c.deref.ensures at c.in_err-observe_node-in-Compare.ensures.fault))

pub returns-in_ok-observe_node-in-Compare-clause-ok : goal.returns-in_ok-observe_node-in-Compare-clause-ok
returns-in_ok-observe_node-in-Compare-clause-ok g t c =
    let seen = g.O.Observer.seen in
    let is = test_parts (test-compare c.args.test.now _ _ _ _ c.in-Compare.is) refl in
    let last = c.observe_node-in-Compare in
    then_ok last.result (seen c.args.with.now) (seen c.test.new.self) (seen last.new.with) _ _ _ is c.in_ok-test.ensures.ok
    (then_ok last.result (seen c.test.new.self) (seen c.observe_node.new.with) (seen last.new.with) _ _ _ refl
    (rw c.deref.ensures at c.in_ok-observe_node-in-Compare.ensures.ok) (rw c.deref-in-Compare.ensures at last.ensures.ok))

pub returns-in_ok-observe_node-in-Compare-clause-fault : goal.returns-in_ok-observe_node-in-Compare-clause-fault
returns-in_ok-observe_node-in-Compare-clause-fault g t c =
    let seen = g.O.Observer.seen in
    let is = test_parts (test-compare c.args.test.now _ _ _ _ c.in-Compare.is) refl in
    let last = c.observe_node-in-Compare in
    then_fault last.result (seen c.args.with.now) (seen c.test.new.self) (seen last.new.with) _ _ _ is c.in_ok-test.ensures.ok
    (then_fault last.result (seen c.test.new.self) (seen c.observe_node.new.with) (seen last.new.with) _ _ _ refl
    (rw c.deref.ensures at c.in_ok-observe_node-in-Compare.ensures.ok) (rw c.deref-in-Compare.ensures at last.ensures.fault))

pub returns-in_err-observe_test-in-And-clause-fault : goal.returns-in_err-observe_test-in-And-clause-fault
returns-in_err-observe_test-in-And-clause-fault g t c =
    let seen = g.O.Observer.seen in
    let is = test_parts (test-and c.args.test.now _ _ c.in-And.is) refl in
    then_cut c.from_residual-in_err-observe_test-in-And.result (seen c.args.with.now) (seen c.test.new.self) (seen c.observe_test-in-And.new.with)
    _ _ _ is c.in_ok-test.ensures.ok (cut _ _ _ _ (rw c.deref-in-And.ensures at c.in_err-observe_test-in-And.ensures.fault))

pub returns-in_ok-observe_test-in-And-clause-ok : goal.returns-in_ok-observe_test-in-And-clause-ok
returns-in_ok-observe_test-in-And-clause-ok g t c =
    let seen = g.O.Observer.seen in
    let is = test_parts (test-and c.args.test.now _ _ c.in-And.is) refl in
    let last = c.observe_test-in-And-2 in
    then_ok last.result (seen c.args.with.now) (seen c.test.new.self) (seen last.new.with) _ _ _ is c.in_ok-test.ensures.ok
    (then_ok last.result (seen c.test.new.self) (seen c.observe_test-in-And.new.with) (seen last.new.with) _ _ _ refl
    (rw c.deref-in-And.ensures at c.in_ok-observe_test-in-And.ensures.ok) (rw c.deref-in-And-2.ensures at last.ensures.ok))

pub returns-in_ok-observe_test-in-And-clause-fault : goal.returns-in_ok-observe_test-in-And-clause-fault
returns-in_ok-observe_test-in-And-clause-fault g t c =
    let seen = g.O.Observer.seen in
    let is = test_parts (test-and c.args.test.now _ _ c.in-And.is) refl in
    let last = c.observe_test-in-And-2 in
    then_fault last.result (seen c.args.with.now) (seen c.test.new.self) (seen last.new.with) _ _ _ is c.in_ok-test.ensures.ok
    (then_fault last.result (seen c.test.new.self) (seen c.observe_test-in-And.new.with) (seen last.new.with) _ _ _ refl
    (rw c.deref-in-And.ensures at c.in_ok-observe_test-in-And.ensures.ok) (rw c.deref-in-And-2.ensures at last.ensures.fault))

pub returns-in_err-observe_test-in-Or-clause-fault : goal.returns-in_err-observe_test-in-Or-clause-fault
returns-in_err-observe_test-in-Or-clause-fault g t c =
    let seen = g.O.Observer.seen in
    let is = test_parts (test-or c.args.test.now _ _ c.in-Or.is) refl in
    then_cut c.from_residual-in_err-observe_test-in-Or.result (seen c.args.with.now) (seen c.test.new.self) (seen c.observe_test-in-Or.new.with)
    _ _ _ is c.in_ok-test.ensures.ok (cut _ _ _ _ (rw c.deref-in-Or.ensures at c.in_err-observe_test-in-Or.ensures.fault))

pub returns-in_ok-observe_test-in-Or-clause-ok : goal.returns-in_ok-observe_test-in-Or-clause-ok
returns-in_ok-observe_test-in-Or-clause-ok g t c =
    let seen = g.O.Observer.seen in
    let is = test_parts (test-or c.args.test.now _ _ c.in-Or.is) refl in
    let last = c.observe_test-in-Or-2 in
    then_ok last.result (seen c.args.with.now) (seen c.test.new.self) (seen last.new.with) _ _ _ is c.in_ok-test.ensures.ok
    (then_ok last.result (seen c.test.new.self) (seen c.observe_test-in-Or.new.with) (seen last.new.with) _ _ _ refl
    (rw c.deref-in-Or.ensures at c.in_ok-observe_test-in-Or.ensures.ok) (rw c.deref-in-Or-2.ensures at last.ensures.ok))

pub returns-in_ok-observe_test-in-Or-clause-fault : goal.returns-in_ok-observe_test-in-Or-clause-fault
returns-in_ok-observe_test-in-Or-clause-fault g t c =
    let seen = g.O.Observer.seen in
    let is = test_parts (test-or c.args.test.now _ _ c.in-Or.is) refl in
    let last = c.observe_test-in-Or-2 in
    then_fault last.result (seen c.args.with.now) (seen c.test.new.self) (seen last.new.with) _ _ _ is c.in_ok-test.ensures.ok
    (then_fault last.result (seen c.test.new.self) (seen c.observe_test-in-Or.new.with) (seen last.new.with) _ _ _ refl
    (rw c.deref-in-Or.ensures at c.in_ok-observe_test-in-Or.ensures.ok) (rw c.deref-in-Or-2.ensures at last.ensures.fault))
