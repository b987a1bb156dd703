-- `form::lines::cond_role_body` meets its contract: two names and a condition, each behind a space.
-- Assumes nothing.
use Prim.Native.Nat.{◌+◌}
use lib.ListN.{get_or}
use mathlib.Core.Path.{◌∙◌, ◌≡◌, sym}
use native.Mathlib.Omega.{arith}
use Rattle.condition.proofs.ReadLaws.{condition_at_lem, condition_none}
use Rattle.condition.specs.CondForm.{condition_in_form}
use Rattle.form.proofs.NoneLaws.{body_none}
use Rattle.form.proofs.PartLaws.{Behind, name_to, space_before}
use Rattle.form.specs.BodyPlaces.{BodyWithin, body_at}
use Rattle.form.specs.FormReader.{cond_role_form}
use Rattle.form.specs.Places.{Within, line_at}
use Rattle.text.proofs.EndLaws.{end_none}
use Rattle.text.proofs.Spaces.{next_here, next_not}
use Rattle.text.specs.Brackets.{next}
use Rattle.text.specs.Words.{name, word_of}
use Rattle.form.proofs.lines.cond_role_body.Goals.{Else-byte_at-ne32, In_ok-e, In_ok-f}
use Rattle.form.proofs.lines.cond_role_body.Goals as goal

first : (c : In_ok-e) → Behind name (word_of c.args.s.now (c.args.at + 1)) c.args.s.now c.args.at c.in_ok-e.e
first c = name_to c.args.s.now c.args.at c.in_ok-e.e c.spaced_name_end.ensures c.in_ok-e.was

second : (c : In_ok-f) → Behind name (word_of c.args.s.now (c.in_ok-e.e + 1)) c.args.s.now c.in_ok-e.e c.in_ok-f.f
second c = name_to c.args.s.now c.in_ok-e.e c.in_ok-f.f c.spaced_name_end-2.ensures c.in_ok-f.was

space : (c : Else-byte_at-ne32) → get_or c.args.s.now c.in_ok-f.f 0 ≡ 32
space c = sym c.byte_at.ensures ∙ c.if-byte_at-ne32.false

pub returns-in_err-e : goal.returns-in_err-e
unfolding cond_role_form
returns-in_err-e c = body_none c.args.s.now c.from_residual.ensures (rw (end_none (next name) c.args.s.now c.args.at (sym c.spaced_name_end.ensures ∙ c.in_err-e.was)))

pub returns-in_err-f : goal.returns-in_err-f
unfolding cond_role_form
returns-in_err-f c = body_none c.args.s.now c.from_residual-in_err-f.ensures (rw ((first (goal.at.returns-in_err-f c).In_ok-e).is, end_none (next name) c.args.s.now c.in_ok-e.e (sym c.spaced_name_end-2.ensures ∙ c.in_err-f.was)))

pub returns-then-byte_at-ne32 : goal.returns-then-byte_at-ne32
unfolding cond_role_form body_at BodyWithin
returns-then-byte_at-ne32 c = record { is = rw ((first (goal.at.returns-then-byte_at-ne32 c).In_ok-e).is, (second (goal.at.returns-then-byte_at-ne32 c).In_ok-f).is, next_not condition_in_form c.args.s.now c.in_ok-f.f (λ z. c.if-byte_at-ne32.true (c.byte_at.ensures ∙ z))); within = tt }

pub overflow_add-t : goal.overflow_add-t
overflow_add-t c = omega (arith, space_before c.args.s.now c.in_ok-f.f (space c))

pub returns-in_err-g : goal.returns-in_err-g
unfolding cond_role_form
returns-in_err-g c = let s = c.args.s.now in
    let f = c.in_ok-f.f in
    body_none s c.from_residual-in_err-g.ensures (rw ((first (goal.at.returns-in_err-g c).In_ok-e).is, (second (goal.at.returns-in_err-g c).In_ok-f).is, next_here condition_in_form s f (space (goal.at.returns-in_err-g c).Else-byte_at-ne32), condition_none s (f + 1) (sym c.read_condition.ensures ∙ c.in_err-g.was)))

pub overflow_add-result : goal.overflow_add-result
overflow_add-result c = omega (arith, first (goal.at.overflow_add-result c).In_ok-e)

pub overflow_add-result-2 : goal.overflow_add-result-2
overflow_add-result-2 c = omega (arith, second (goal.at.overflow_add-result-2 c).In_ok-f)

pub returns : goal.returns
unfolding cond_role_form body_at line_at BodyWithin Within
returns c = let s = c.args.s.now in
    let f = c.in_ok-f.f in
    let t = condition_at_lem s (f + 1) c.in_ok-g.g _ (sym c.read_condition.ensures ∙ c.in_ok-g.was) in
    record {
      is = rw ((first (goal.at.returns c).In_ok-e).is, (second (goal.at.returns c).In_ok-f).is, next_here condition_in_form s f (space (goal.at.returns c).Else-byte_at-ne32), t.is);
      within = omega (arith, first (goal.at.returns c).In_ok-e, second (goal.at.returns c).In_ok-f, space_before s f (space (goal.at.returns c).Else-byte_at-ne32));
    }
