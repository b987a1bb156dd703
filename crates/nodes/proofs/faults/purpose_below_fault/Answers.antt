-- `nodes::faults::purpose_below_fault` meets its contract: each answer by its law. Assumes nothing.
use Prim.Native.Nat.{◌≤◌}
use lib.ListN.{length}
use mathlib.Core.Option.{some}
use native.Mathlib.Omega.{arith}
use Rattle.stepping.proofs.FoundLaws.{is_none_false, is_none_true, is_some_false, is_some_true}
use Rattle.nodes.proofs.NodeFaults.{below_fine, below_unknown, node_full, node_taken, purpose_kind}
use Rattle.form.specs.Form.{purpose}
use Rattle.purpose.specs.Members.{limit}
use Rattle.text.specs.Words.{word_of}
use Rattle.nodes.proofs.faults.purpose_below_fault.Goals as goal

pub returns-then-k-ge-PURPOSES : goal.returns-then-k-ge-PURPOSES
returns-then-k-ge-PURPOSES c = let a = c.args in
    node_full (λ d. d.purposes) purpose limit purpose_kind a.text.now a.purposes.now a.k a.line.now a.n (some (word_of a.line.now a.p)) ((a.n ≤ length a.line.now) × (a.p ≤ length a.line.now)) (omega arith)

pub returns-then-is_some : goal.returns-then-is_some
returns-then-is_some c = let a = c.args in
    let there = is_some_true c.is_some.ensures c.if-is_some.true in
    node_taken (λ d. d.purposes) purpose limit purpose_kind a.text.now a.purposes.now a.k a.line.now a.n (some (word_of a.line.now a.p)) ((a.n ≤ length a.line.now) × (a.p ≤ length a.line.now)) (omega arith) c.find_purpose.result c.find_purpose.ensures.0 there.0 there.1 (λ q. q.0)

pub returns-then-is_none : goal.returns-then-is_none
returns-then-is_none c = let a = c.args in
    below_unknown (λ d. d.purposes) purpose limit purpose_kind a.text.now a.purposes.now a.k a.line.now a.n a.p ((a.n ≤ length a.line.now) × (a.p ≤ length a.line.now)) (omega arith) c.find_purpose.result c.find_purpose.ensures.0 (is_some_false c.is_some.ensures c.if-is_some.false) c.find_purpose-2.result c.find_purpose-2.ensures.0 (is_none_true c.is_none.ensures c.if-is_none.true) (λ q. q.1)

pub returns : goal.returns
returns c = let a = c.args in
    let there = is_none_false c.is_none.ensures c.if-is_none.false in
    below_fine (λ d. d.purposes) purpose limit purpose_kind a.text.now a.purposes.now a.k a.line.now a.n a.p ((a.n ≤ length a.line.now) × (a.p ≤ length a.line.now)) (omega arith) c.find_purpose.result c.find_purpose.ensures.0 (is_some_false c.is_some.ensures c.if-is_some.false) c.find_purpose-2.result c.find_purpose-2.ensures.0 there.0 there.1
