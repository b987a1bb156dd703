-- `form::lines::table_body` meets its contract: a name behind a space, and behind another the scheme and the columns.
-- Assumes nothing.
use Prim.Native.Nat.{◌+◌}
use lib.ListN.{get_or}
use mathlib.Core.Path.{◌∙◌, ◌≡◌, ap, subst, sym}
use native.Mathlib.Omega.{arith}
use Rattle.form.proofs.NoneLaws.{body_none}
use Rattle.form.proofs.PartLaws.{Behind, name_to, space_before}
use Rattle.form.specs.BodyPlaces.{BodyWithin, ColumnsWithin, body_at, table_to}
use Rattle.form.specs.FormReader.{schemes, table_form}
use Rattle.form.specs.Places.{Within, line_at}
use Rattle.text.proofs.EndLaws.{end_none}
use Rattle.text.proofs.Spaces.{next_here, next_not}
use Rattle.text.specs.Brackets.{keyword, next}
use Rattle.text.specs.Words.{name, word_of}
use Rattle.form.proofs.lines.table_body.Goals.{Else-byte_at-ne32, In_ok-e}
use Rattle.form.proofs.lines.table_body.Goals as goal

first : (c : In_ok-e) → Behind name (word_of c.args.s.now (c.args.at + 1)) c.args.s.now c.args.at c.in_ok-e.e
first c = name_to c.args.s.now c.args.at c.in_ok-e.e c.spaced_name_end.ensures c.in_ok-e.was

space : (c : Else-byte_at-ne32) → get_or c.args.s.now c.in_ok-e.e 0 ≡ 32
space c = sym c.byte_at.ensures ∙ c.if-byte_at-ne32.false

pub returns-in_err-e : goal.returns-in_err-e
unfolding table_form
returns-in_err-e c = body_none c.args.s.now c.from_residual.ensures (rw (end_none (next name) c.args.s.now c.args.at (sym c.spaced_name_end.ensures ∙ c.in_err-e.was)))

pub returns-then-byte_at-ne32 : goal.returns-then-byte_at-ne32
unfolding table_form body_at BodyWithin
returns-then-byte_at-ne32 c = let s = c.args.s.now in
    record { is = rw ((first (goal.at.returns-then-byte_at-ne32 c).In_ok-e).is, next_not (keyword (schemes (word_of s (c.args.at + 1)))) s c.in_ok-e.e (λ z. c.if-byte_at-ne32.true (c.byte_at.ensures ∙ z))); within = tt }

pub overflow_add-e : goal.overflow_add-e
overflow_add-e c = omega (arith, space_before c.args.s.now c.in_ok-e.e (space c))

pub returns-in_err-k : goal.returns-in_err-k
unfolding table_form table_to
returns-in_err-k c = let s = c.args.s.now in
    let t = word_of s (c.args.at + 1) in
    body_none s c.from_residual-in_err-k.ensures (rw ((first (goal.at.returns-in_err-k c).In_ok-e).is, next_here (keyword (schemes t)) s c.in_ok-e.e (space (goal.at.returns-in_err-k c).Else-byte_at-ne32)) (c.table_columns.ensures.is t ∙ ap (table_to s t) c.in_err-k.was))

pub overflow_add-result : goal.overflow_add-result
overflow_add-result c = omega (arith, first (goal.at.overflow_add-result c).In_ok-e)

pub returns : goal.returns
unfolding table_form body_at line_at BodyWithin Within table_to ColumnsWithin
returns c = let s = c.args.s.now in
    let t = word_of s (c.args.at + 1) in
    let w = subst (ColumnsWithin s) c.in_ok-k.was c.table_columns.ensures.within in
    record {
      is = rw ((first (goal.at.returns c).In_ok-e).is, next_here (keyword (schemes t)) s c.in_ok-e.e (space (goal.at.returns c).Else-byte_at-ne32)) (c.table_columns.ensures.is t ∙ ap (table_to s t) c.in_ok-k.was);
      within = (omega (arith, first (goal.at.returns c).In_ok-e), w.0, w.1);
    }
