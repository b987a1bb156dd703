-- `form::lines::grant_body` meets its contract: two names, each behind a space.
-- Assumes nothing.
use Prim.Native.Nat.{◌+◌}
use mathlib.Core.Path.{◌∙◌, sym}
use native.Mathlib.Omega.{arith}
use Rattle.form.proofs.NoneLaws.{body_none}
use Rattle.form.proofs.PartLaws.{Behind, name_to}
use Rattle.form.specs.BodyPlaces.{BodyWithin, body_at}
use Rattle.form.specs.FormReader.{grant_form}
use Rattle.form.specs.Places.{Within, line_at}
use Rattle.text.proofs.EndLaws.{end_none}
use Rattle.text.specs.Brackets.{next}
use Rattle.text.specs.Words.{name, word_of}
use Rattle.form.proofs.lines.grant_body.Goals.{In_ok-e, In_ok-f}
use Rattle.form.proofs.lines.grant_body.Goals as goal

first : (c : In_ok-e) → Behind name (word_of c.args.s.now (c.args.at + 1)) c.args.s.now c.args.at c.in_ok-e.e
first c = name_to c.args.s.now c.args.at c.in_ok-e.e c.spaced_name_end.ensures c.in_ok-e.was

second : (c : In_ok-f) → Behind name (word_of c.args.s.now (c.in_ok-e.e + 1)) c.args.s.now c.in_ok-e.e c.in_ok-f.f
second c = name_to c.args.s.now c.in_ok-e.e c.in_ok-f.f c.spaced_name_end-2.ensures c.in_ok-f.was

pub returns-in_err-e : goal.returns-in_err-e
unfolding grant_form
returns-in_err-e c = body_none c.args.s.now c.from_residual.ensures (rw (end_none (next name) c.args.s.now c.args.at (sym c.spaced_name_end.ensures ∙ c.in_err-e.was)))

pub returns-in_err-f : goal.returns-in_err-f
unfolding grant_form
returns-in_err-f c = body_none c.args.s.now c.from_residual-in_err-f.ensures (rw ((first (goal.at.returns-in_err-f c).In_ok-e).is, end_none (next name) c.args.s.now c.in_ok-e.e (sym c.spaced_name_end-2.ensures ∙ c.in_err-f.was)))

pub overflow_add-result : goal.overflow_add-result
overflow_add-result c = omega (arith, first (goal.at.overflow_add-result c).In_ok-e)

pub overflow_add-result-2 : goal.overflow_add-result-2
overflow_add-result-2 c = omega (arith, second (goal.at.overflow_add-result-2 c).In_ok-f)

pub returns : goal.returns
unfolding grant_form body_at line_at BodyWithin Within
returns c = record { is = rw ((first (goal.at.returns c).In_ok-e).is, (second (goal.at.returns c).In_ok-f).is); within = omega (arith, first (goal.at.returns c).In_ok-e, second (goal.at.returns c).In_ok-f) }
