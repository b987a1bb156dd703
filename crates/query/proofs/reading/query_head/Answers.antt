-- `query::reading::query_head` meets its contract: four names, each behind a space.
-- Assumes nothing.
use mathlib.Core.Path.{◌∙◌, sym}
use native.Mathlib.Omega.{arith}
use Rattle.form.proofs.PartLaws.{name_to}
use Rattle.query.proofs.PartsRead.{Named, head_read, head_wrong_1, head_wrong_2, head_wrong_3, head_wrong_4}
use Rattle.text.proofs.EndLaws.{end_none}
use Rattle.text.specs.Brackets.{next}
use Rattle.text.specs.Words.{name}
use Rattle.query.proofs.reading.query_head.Goals.{In_ok-e, In_ok-f, In_ok-g, In_ok-h}
use Rattle.query.proofs.reading.query_head.Goals as goal

first : (c : In_ok-e) → Named c.args.s.now c.args.at c.in_ok-e.e
first c = name_to c.args.s.now c.args.at c.in_ok-e.e c.spaced_name_end.ensures c.in_ok-e.was

second : (c : In_ok-f) → Named c.args.s.now c.in_ok-e.e c.in_ok-f.f
second c = name_to c.args.s.now c.in_ok-e.e c.in_ok-f.f c.spaced_name_end-2.ensures c.in_ok-f.was

third : (c : In_ok-g) → Named c.args.s.now c.in_ok-f.f c.in_ok-g.g
third c = name_to c.args.s.now c.in_ok-f.f c.in_ok-g.g c.spaced_name_end-3.ensures c.in_ok-g.was

fourth : (c : In_ok-h) → Named c.args.s.now c.in_ok-g.g c.in_ok-h.h
fourth c = name_to c.args.s.now c.in_ok-g.g c.in_ok-h.h c.spaced_name_end-4.ensures c.in_ok-h.was

pub returns-in_err-e : goal.returns-in_err-e
returns-in_err-e c = rw c.from_residual.ensures
    (head_wrong_1 c.args.s.now (end_none (next name) c.args.s.now c.args.at (sym c.spaced_name_end.ensures ∙ c.in_err-e.was)))

pub returns-in_err-f : goal.returns-in_err-f
returns-in_err-f c = rw c.from_residual-in_err-f.ensures
    (head_wrong_2 c.args.s.now (first (goal.at.returns-in_err-f c).In_ok-e)
    (end_none (next name) c.args.s.now c.in_ok-e.e (sym c.spaced_name_end-2.ensures ∙ c.in_err-f.was)))

pub returns-in_err-g : goal.returns-in_err-g
returns-in_err-g c = let at = goal.at.returns-in_err-g c in
    rw c.from_residual-in_err-g.ensures
    (head_wrong_3 c.args.s.now (first at.In_ok-e) (second at.In_ok-f)
    (end_none (next name) c.args.s.now c.in_ok-f.f (sym c.spaced_name_end-3.ensures ∙ c.in_err-g.was)))

pub returns-in_err-h : goal.returns-in_err-h
returns-in_err-h c = let at = goal.at.returns-in_err-h c in
    rw c.from_residual-in_err-h.ensures
    (head_wrong_4 c.args.s.now (first at.In_ok-e) (second at.In_ok-f) (third at.In_ok-g)
    (end_none (next name) c.args.s.now c.in_ok-g.g (sym c.spaced_name_end-4.ensures ∙ c.in_err-h.was)))

pub overflow_add-result : goal.overflow_add-result
overflow_add-result c = omega (arith, first (goal.at.overflow_add-result c).In_ok-e)

pub overflow_add-result-2 : goal.overflow_add-result-2
overflow_add-result-2 c = omega (arith, second (goal.at.overflow_add-result-2 c).In_ok-f)

pub overflow_add-result-3 : goal.overflow_add-result-3
overflow_add-result-3 c = omega (arith, third (goal.at.overflow_add-result-3 c).In_ok-g)

pub overflow_add-result-4 : goal.overflow_add-result-4
overflow_add-result-4 c = omega (arith, fourth (goal.at.overflow_add-result-4 c).In_ok-h)

pub returns : goal.returns
returns c = head_read
    c.args.s.now
    (first (goal.at.returns c).In_ok-e)
    (second (goal.at.returns c).In_ok-f) (third (goal.at.returns c).In_ok-g)
    (fourth (goal.at.returns c).In_ok-h)
