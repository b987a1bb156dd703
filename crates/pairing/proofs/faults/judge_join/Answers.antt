-- `pairing::faults::judge_join` meets its contract: each step is the definition's. Assumes nothing.
use Rattle.pairing.proofs.FaultLaws.{later_absent, later_closed, later_fine, later_mistyped, later_ranged}
use Rattle.std.specs.Prelude.{Err}
use borrow.Author.Rules.{rules}
use mathlib.Core.Path.{◌∙◌, ◌≡◌}
use Rattle.pairing.proofs.faults.judge_join.Goals as goal

pub returns-in_err-judge_types : goal.returns-in_err-judge_types
returns-in_err-judge_types c = λ d j h.
    let e : c.from_residual.result ≡ Err c.in_err-judge_types.field-0.0 = search rules in
    rw e (later_mistyped d j c.judge_types.result (c.judge_types.ensures _ _ _ _ _ d j h) c.in_err-judge_types.field-0.0 c.in_err-judge_types.was)

pub returns-in-Some : goal.returns-in-Some
returns-in-Some c = let a = c.args in
    λ d j h.
    later_ranged d j c.judge_types.result
    (c.judge_types.ensures _ _ _ _ _ d j h) c.in_ok-judge_types.was
    a.query.now c.ranged_join-ranged.result
    (c.ranged_join-ranged.ensures d a.query.now h.table_count j h.known h.rows h.small h.refs)
    c.in-Some.is c.refusal_at.result c.refusal_at.ensures

pub returns-in-Some-absent : goal.returns-in-Some-absent
returns-in-Some-absent c = let a = c.args in
    λ d j h.
    later_absent d j c.judge_types.result (c.judge_types.ensures _ _ _ _ _ d j h) c.in_ok-judge_types.was
    a.query.now c.ranged_join-ranged.result
    (c.ranged_join-ranged.ensures d a.query.now h.table_count j h.known h.rows h.small h.refs)
    c.in_default.is c.missing_date-absent.result
    (c.missing_date-absent.ensures h.few ∙ h.dates) c.in-Some-absent.is c.refusal_written.result c.refusal_written.ensures

pub returns-in-Some-closed : goal.returns-in-Some-closed
returns-in-Some-closed c = let a = c.args in
    λ d j h.
    later_closed d j c.judge_types.result (c.judge_types.ensures _ _ _ _ _ d j h)
    c.in_ok-judge_types.was
    a.query.now c.ranged_join-ranged.result (c.ranged_join-ranged.ensures d a.query.now h.table_count j h.known h.rows h.small h.refs)
    c.in_default.is
    c.missing_date-absent.result
    (c.missing_date-absent.ensures h.few ∙ h.dates) c.in_default-absent.is
    c.closed_join-closed.result (c.closed_join-closed.ensures d.policy a.text.now a.query.now
    h.table_count j h.known h.notes h.said h.small h.refs)
    c.in-Some-closed.is c.refusal_at-in-Some-closed.result c.refusal_at-in-Some-closed.ensures

pub returns : goal.returns
returns c = let a = c.args in
    λ d j h.
    later_fine d j c.judge_types.result (c.judge_types.ensures _ _ _ _ _ d j h) c.in_ok-judge_types.was
    a.query.now c.ranged_join-ranged.result
    (c.ranged_join-ranged.ensures d a.query.now h.table_count j h.known h.rows h.small h.refs)
    c.in_default.is c.missing_date-absent.result
    (c.missing_date-absent.ensures h.few ∙ h.dates) c.in_default-absent.is
    c.closed_join-closed.result (c.closed_join-closed.ensures d.policy a.text.now a.query.now h.table_count j h.known h.notes h.said h.small h.refs)
    c.in_default-closed.is
