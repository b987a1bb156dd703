-- `pairing::faults::judge_types` meets its contract: the keys' types come before those of the condition. Assumes nothing.
use Rattle.condition.specs.Answers.{kind_of}
use Rattle.pairing.proofs.FaultLaws.{key_known, key_number, keys_refused, other_known, other_number, tests_refused, types_pass}
use Rattle.query.specs.JoinForm.{key_ref, other_key_ref}
use Rattle.pairing.proofs.faults.judge_types.Goals as goal

pub returns-then-not-same_kind : goal.returns-then-not-same_kind
returns-then-not-same_kind c = let a = c.args in
    λ text ws count os words d j h.
    keys_refused h (kind_of c.ref_kind-first.result) (kind_of c.ref_kind-second.result)
    (c.ref_kind-first.ensures text a.query.now d.policy h.table_count j (key_ref j) h.known (key_known h) (key_number h))
    (c.ref_kind-second.ensures text a.query.now d.policy h.table_count j (other_key_ref j) h.known (other_known h) (other_number h))
    c.same_kind.result c.same_kind.ensures c.if-not-same_kind.true c.refusal_at.result c.refusal_at.ensures

pub returns-in-Some : goal.returns-in-Some
returns-in-Some c = let a = c.args in
    λ text ws count os words d j h.
    tests_refused h (kind_of c.ref_kind-first.result) (kind_of c.ref_kind-second.result)
    (c.ref_kind-first.ensures text a.query.now d.policy h.table_count j (key_ref j) h.known (key_known h) (key_number h))
    (c.ref_kind-second.ensures text a.query.now d.policy h.table_count j (other_key_ref j) h.known (other_known h) (other_number h))
    c.same_kind.result c.same_kind.ensures
    c.if-not-same_kind.false c.mistyped_test-wrong.result
    (c.mistyped_test-wrong.ensures a.query.now)
    c.in-Some.is c.refusal_written.result c.refusal_written.ensures

pub returns : goal.returns
returns c = let a = c.args in
    λ text ws count os words d j h.
    types_pass h (kind_of c.ref_kind-first.result) (kind_of c.ref_kind-second.result)
    (c.ref_kind-first.ensures text a.query.now d.policy h.table_count j (key_ref j) h.known (key_known h) (key_number h))
    (c.ref_kind-second.ensures text a.query.now d.policy h.table_count j (other_key_ref j) h.known (other_known h) (other_number h))
    c.same_kind.result c.same_kind.ensures c.if-not-same_kind.false
    c.mistyped_test-wrong.result (c.mistyped_test-wrong.ensures a.query.now)
    c.in_default.is
