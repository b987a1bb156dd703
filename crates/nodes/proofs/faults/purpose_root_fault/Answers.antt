-- `nodes::faults::purpose_root_fault` meets its contract: each answer by its law. Assumes nothing.
use Prim.Native.Nat.{◌≤◌}
use lib.ListN.{length}
use mathlib.Core.Option.{none}
use mathlib.Core.Path.{refl}
use native.Mathlib.Omega.{arith}
use Rattle.stepping.proofs.FoundLaws.{is_some_false, is_some_true}
use Rattle.nodes.proofs.NodeFaults.{first_root, no_name, node_fine, node_full, node_second, node_taken, purpose_kind, second_root_lem}
use Rattle.form.specs.Form.{purpose}
use Rattle.purpose.specs.Members.{limit}
use Rattle.text.specs.Words.{word_of}
use Rattle.nodes.proofs.faults.purpose_root_fault.Goals as goal

pub returns-then-k-ge-PURPOSES : goal.returns-then-k-ge-PURPOSES
returns-then-k-ge-PURPOSES c = let a = c.args in
    node_full (λ d. d.purposes) purpose limit purpose_kind a.text.now a.purposes.now a.k a.line.now a.n none (a.n ≤ length a.line.now) (omega arith)

pub returns-then-is_some : goal.returns-then-is_some
returns-then-is_some c = let a = c.args in
    let there = is_some_true c.is_some.ensures c.if-is_some.true in
    node_taken (λ d. d.purposes) purpose limit purpose_kind a.text.now a.purposes.now a.k a.line.now a.n none (a.n ≤ length a.line.now) (omega arith) c.find_purpose.result c.find_purpose.ensures.0 there.0 there.1 (λ q. q)

pub returns-then-k-gt0 : goal.returns-then-k-gt0
returns-then-k-gt0 c = let a = c.args in
    node_second (λ d. d.purposes) purpose limit purpose_kind a.text.now a.purposes.now a.k a.line.now a.n none (a.n ≤ length a.line.now) (omega arith) c.find_purpose.result c.find_purpose.ensures.0 (is_some_false c.is_some.ensures c.if-is_some.false) refl
    (λ d h. second_root_lem d (word_of a.line.now a.n) h (omega arith))

pub returns : goal.returns
returns c = let a = c.args in
    node_fine (λ d. d.purposes) purpose limit purpose_kind a.text.now a.purposes.now a.k a.line.now a.n none (a.n ≤ length a.line.now) (omega arith) c.find_purpose.result c.find_purpose.ensures.0 (is_some_false c.is_some.ensures c.if-is_some.false) (λ d h. no_name d.policy.purposes)
    (λ d h. first_root d (word_of a.line.now a.n) h (omega arith))
