-- `form::lines::public_body` meets its contract: a name behind a space.
-- Assumes nothing.
use Prim.Native.Nat.{◌+◌}
use mathlib.Core.Path.{◌∙◌, sym}
use native.Mathlib.Omega.{arith}
use Rattle.form.proofs.NoneLaws.{body_none}
use Rattle.form.proofs.PartLaws.{Behind, name_to}
use Rattle.form.specs.BodyPlaces.{BodyWithin, body_at}
use Rattle.form.specs.FormReader.{public_form}
use Rattle.form.specs.Places.{Within, line_at}
use Rattle.text.proofs.EndLaws.{end_none}
use Rattle.text.specs.Brackets.{next}
use Rattle.text.specs.Words.{name, word_of}
use Rattle.form.proofs.lines.public_body.Goals.{In_ok-e}
use Rattle.form.proofs.lines.public_body.Goals as goal

first : (c : In_ok-e) → Behind name (word_of c.args.s.now (c.args.at + 1)) c.args.s.now c.args.at c.in_ok-e.e
first c = name_to c.args.s.now c.args.at c.in_ok-e.e c.spaced_name_end.ensures c.in_ok-e.was

pub returns-in_err-e : goal.returns-in_err-e
unfolding public_form
returns-in_err-e c = body_none c.args.s.now c.from_residual.ensures (rw (end_none (next name) c.args.s.now c.args.at (sym c.spaced_name_end.ensures ∙ c.in_err-e.was)))

pub overflow_add-result : goal.overflow_add-result
overflow_add-result c = omega (arith, first (goal.at.overflow_add-result c).In_ok-e)

pub returns : goal.returns
unfolding public_form body_at line_at BodyWithin Within
returns c = record { is = rw (first (goal.at.returns c).In_ok-e).is; within = omega (arith, first (goal.at.returns c).In_ok-e) }
