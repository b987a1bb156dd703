-- `form::lines::role_body` meets its contract: a name, and perhaps a second.
-- Assumes nothing.
use Prim.Native.Nat.{◌+◌}
use mathlib.Core.Path.{◌∙◌, ap, sym}
use native.Mathlib.Omega.{arith}
use Rattle.form.proofs.NoneLaws.{body_none}
use Rattle.form.proofs.PartLaws.{Behind, OptionalTo, name_to, optional_absent, optional_to, optional_wrong}
use Rattle.form.specs.BodyPlaces.{BodyWithin, body_at}
use Rattle.form.specs.FormReader.{node}
use Rattle.form.specs.Places.{Within, line_at}
use Rattle.std.specs.Prelude.{Some}
use Rattle.text.proofs.EndLaws.{end_none}
use Rattle.text.specs.Brackets.{next}
use Rattle.text.specs.Words.{name, word_of}
use Rattle.form.proofs.lines.role_body.Goals.{In_ok-e, In-Name}
use Rattle.form.proofs.lines.role_body.Goals as goal

first : (c : In_ok-e) → Behind name (word_of c.args.s.now (c.args.at + 1)) c.args.s.now c.args.at c.in_ok-e.e
first c = name_to c.args.s.now c.args.at c.in_ok-e.e c.spaced_name_end.ensures c.in_ok-e.was

below : (c : In-Name) → OptionalTo c.args.s.now c.in_ok-e.e c.in-Name.q c.in-Name.f
below c = optional_to c.args.s.now c.in_ok-e.e c.optional_name.ensures c.in-Name.q c.in-Name.f (c.in_ok-q.was ∙ ap Some c.in-Name.is)

pub returns-in_err-e : goal.returns-in_err-e
unfolding node
returns-in_err-e c = body_none c.args.s.now c.from_residual.ensures (rw (end_none (next name) c.args.s.now c.args.at (sym c.spaced_name_end.ensures ∙ c.in_err-e.was)))

pub overflow_add-result : goal.overflow_add-result
overflow_add-result c = omega (arith, first (goal.at.overflow_add-result c).In_ok-e)

pub overflow_add-result-in-Absent : goal.overflow_add-result-in-Absent
overflow_add-result-in-Absent c = omega (arith, first (goal.at.overflow_add-result-in-Absent c).In_ok-e)

pub returns-in-Name : goal.returns-in-Name
unfolding node body_at line_at BodyWithin Within
returns-in-Name c = record { is = rw ((first (goal.at.returns-in-Name c).In_ok-e).is, (below (goal.at.returns-in-Name c).In-Name).is); within = omega (arith, first (goal.at.returns-in-Name c).In_ok-e, below (goal.at.returns-in-Name c).In-Name) }

pub returns-in-Absent : goal.returns-in-Absent
unfolding node body_at line_at BodyWithin Within
returns-in-Absent c = record { is = rw ((first (goal.at.returns-in-Absent c).In_ok-e).is, optional_absent c.args.s.now c.in_ok-e.e c.optional_name.ensures c.in-Absent.f (c.in_ok-q.was ∙ ap Some c.in-Absent.is)); within = omega (arith, first (goal.at.returns-in-Absent c).In_ok-e) }

pub returns-in_err-q : goal.returns-in_err-q
unfolding node
returns-in_err-q c = body_none c.args.s.now c.from_residual-in_err-q.ensures (rw ((first (goal.at.returns-in_err-q c).In_ok-e).is, optional_wrong c.args.s.now c.in_ok-e.e c.optional_name.ensures c.in_err-q.was))
