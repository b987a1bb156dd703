-- `nodes::faults::role_root_fault` meets its contract: each answer by its law. Assumes nothing.
use Prim.Native.Nat.{◌≤◌}
use lib.ListN.{length}
use mathlib.Core.Option.{none}
use native.Mathlib.Omega.{arith}
use Rattle.stepping.proofs.FoundLaws.{is_some_false, is_some_true}
use Rattle.nodes.proofs.NodeFaults.{no_name, node_fine, node_full, node_taken, role_kind, root_role}
use Rattle.form.specs.Form.{role}
use Rattle.text.specs.Words.{word_of}
use Rattle.nodes.proofs.faults.role_root_fault.Goals as goal

pub returns-then-k-ge-ROLES : goal.returns-then-k-ge-ROLES
returns-then-k-ge-ROLES c = let a = c.args in
    node_full (λ d. d.roles) role 64 role_kind a.text.now a.roles.now a.k a.line.now a.n none (a.n ≤ length a.line.now) (omega arith)

pub returns-then-is_some : goal.returns-then-is_some
returns-then-is_some c = let a = c.args in
    let there = is_some_true c.is_some.ensures c.if-is_some.true in
    node_taken (λ d. d.roles) role 64 role_kind a.text.now a.roles.now a.k a.line.now a.n none (a.n ≤ length a.line.now) (omega arith) c.find_role.result c.find_role.ensures.0 there.0 there.1 (λ q. q)

pub returns : goal.returns
returns c = let a = c.args in
    node_fine (λ d. d.roles) role 64 role_kind a.text.now a.roles.now a.k a.line.now a.n none (a.n ≤ length a.line.now) (omega arith) c.find_role.result c.find_role.ensures.0 (is_some_false c.is_some.ensures c.if-is_some.false) (λ d h. no_name d.policy.roles) (λ d h. root_role d (word_of a.line.now a.n))
