-- `form::lines::attr_body` meets its contract: two names and a type, each behind a space.
-- Assumes nothing.
use Prim.Native.Nat.{◌+◌}
use mathlib.Core.Path.{◌∙◌, sym}
use native.Mathlib.Omega.{arith}
use Rattle.form.proofs.NoneLaws.{body_none}
use Rattle.form.proofs.PartLaws.{Behind, kind_to, name_to}
use Rattle.form.specs.BodyPlaces.{BodyWithin, body_at}
use Rattle.form.specs.FormReader.{attr_form, kinds}
use Rattle.form.specs.Places.{Within, line_at}
use Rattle.form.specs.Walks.{kind_at}
use Rattle.text.proofs.EndLaws.{end_none}
use Rattle.text.specs.Brackets.{keyword, next}
use Rattle.text.specs.Words.{name, word_of}
use Rattle.form.proofs.lines.attr_body.Goals.{In_ok-e, In_ok-f, In_ok-g}
use Rattle.form.proofs.lines.attr_body.Goals as goal

first : (c : In_ok-e) → Behind name (word_of c.args.s.now (c.args.at + 1)) c.args.s.now c.args.at c.in_ok-e.e
first c = name_to c.args.s.now c.args.at c.in_ok-e.e c.spaced_name_end.ensures c.in_ok-e.was

second : (c : In_ok-f) → Behind name (word_of c.args.s.now (c.in_ok-e.e + 1)) c.args.s.now c.in_ok-e.e c.in_ok-f.f
second c = name_to c.args.s.now c.in_ok-e.e c.in_ok-f.f c.spaced_name_end-2.ensures c.in_ok-f.was

third : (c : In_ok-g) → Behind (keyword kinds) (kind_at c.args.s.now (c.in_ok-f.f + 1)) c.args.s.now c.in_ok-f.f c.in_ok-g.g
third c = kind_to c.args.s.now c.in_ok-f.f c.in_ok-g.g c.kind_end.ensures c.in_ok-g.was

pub returns-in_err-e : goal.returns-in_err-e
unfolding attr_form
returns-in_err-e c = body_none c.args.s.now c.from_residual.ensures (rw (end_none (next name) c.args.s.now c.args.at (sym c.spaced_name_end.ensures ∙ c.in_err-e.was)))

pub returns-in_err-f : goal.returns-in_err-f
unfolding attr_form
returns-in_err-f c = body_none c.args.s.now c.from_residual-in_err-f.ensures (rw ((first (goal.at.returns-in_err-f c).In_ok-e).is, end_none (next name) c.args.s.now c.in_ok-e.e (sym c.spaced_name_end-2.ensures ∙ c.in_err-f.was)))

pub returns-in_err-g : goal.returns-in_err-g
unfolding attr_form
returns-in_err-g c = body_none c.args.s.now c.from_residual-in_err-g.ensures (rw ((first (goal.at.returns-in_err-g c).In_ok-e).is, (second (goal.at.returns-in_err-g c).In_ok-f).is, end_none (next (keyword kinds)) c.args.s.now c.in_ok-f.f (sym c.kind_end.ensures ∙ c.in_err-g.was)))

pub overflow_add-f : goal.overflow_add-f
overflow_add-f c = omega (arith, third (goal.at.overflow_add-f c).In_ok-g)

pub overflow_add-result : goal.overflow_add-result
overflow_add-result c = omega (arith, first (goal.at.overflow_add-result c).In_ok-e)

pub overflow_add-result-2 : goal.overflow_add-result-2
overflow_add-result-2 c = omega (arith, first (goal.at.overflow_add-result-2 c).In_ok-e)

pub overflow_add-result-then-is_word : goal.overflow_add-result-then-is_word
overflow_add-result-then-is_word c = omega (arith, second (goal.at.overflow_add-result-then-is_word c).In_ok-f)

pub returns-then-is_word : goal.returns-then-is_word
unfolding attr_form body_at line_at BodyWithin Within kind_at
returns-then-is_word c = record { is = rw ((first (goal.at.returns-then-is_word c).In_ok-e).is, (second (goal.at.returns-then-is_word c).In_ok-f).is, (third (goal.at.returns-then-is_word c).In_ok-g).is, sym c.is_word.ensures ∙ c.if-is_word.true); within = omega (arith, first (goal.at.returns-then-is_word c).In_ok-e, second (goal.at.returns-then-is_word c).In_ok-f) }

pub overflow_add-result-3 : goal.overflow_add-result-3
overflow_add-result-3 c = omega (arith, second (goal.at.overflow_add-result-3 c).In_ok-f)

pub returns : goal.returns
unfolding attr_form body_at line_at BodyWithin Within kind_at
returns c = record { is = rw ((first (goal.at.returns c).In_ok-e).is, (second (goal.at.returns c).In_ok-f).is, (third (goal.at.returns c).In_ok-g).is, sym c.is_word.ensures ∙ c.if-is_word.false); within = omega (arith, first (goal.at.returns c).In_ok-e, second (goal.at.returns c).In_ok-f) }
