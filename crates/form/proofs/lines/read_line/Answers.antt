-- `form::lines::read_line` meets its contract: a bracket, what stands in it, and nothing behind it.
-- Assumes nothing.
use lib.ListN.{get_or}
use mathlib.Core.Option.{map}
use mathlib.Core.Path.{◌∙◌, ◌≡◌, ap, subst, sym}
use native.Mathlib.Omega.{arith}
use Rattle.form.proofs.LineLaws.{line_long, line_open, line_read, line_shut, line_wrong}
use Rattle.form.proofs.NoneLaws.{line_none}
use Rattle.form.specs.BodyPlaces.{BodyWithin, body_at}
use Rattle.form.specs.FormReader.{line_forms}
use Rattle.form.specs.Places.{FoundWithin, line_at, line_found}
use Rattle.text.proofs.Lefts.{before_end}
use Rattle.text.specs.Brackets.{keyword}
use Rattle.text.specs.Reader.{from}
use Rattle.form.proofs.lines.read_line.Goals.{Else-byte_at-ne40, Else-byte_at-ne41, In_ok-l}
use Rattle.form.proofs.lines.read_line.Goals as goal

opens : (c : Else-byte_at-ne40) → get_or c.args.s.now 0 0 ≡ 40
opens c = sym c.byte_at.ensures ∙ c.if-byte_at-ne40.false

held : (c : In_ok-l) → keyword line_forms (from c.args.s.now 1) ≡ map (λ f. (f, from c.args.s.now c.in_ok-l.e)) (line_at c.args.s.now c.in_ok-l.l)
unfolding body_at
held c = c.read_body.ensures.is ∙ ap (body_at c.args.s.now) c.in_ok-l.was

closes : (c : Else-byte_at-ne41) → get_or c.args.s.now c.in_ok-l.e 0 ≡ 41
closes c = sym c.byte_at-2.ensures ∙ c.if-byte_at-ne41.false

pub returns-then-byte_at-ne40 : goal.returns-then-byte_at-ne40
unfolding line_found FoundWithin
returns-then-byte_at-ne40 c = record { is = line_shut c.args.s.now (λ z. c.if-byte_at-ne40.true (c.byte_at.ensures ∙ z)); within = tt }

pub returns-in_err-l : goal.returns-in_err-l
unfolding body_at
returns-in_err-l c = line_none c.args.s.now c.from_residual.ensures (line_wrong c.args.s.now (opens (goal.at.returns-in_err-l c).Else-byte_at-ne40) (c.read_body.ensures.is ∙ ap (body_at c.args.s.now) c.in_err-l.was))

pub returns-then-byte_at-ne41 : goal.returns-then-byte_at-ne41
unfolding line_found FoundWithin
returns-then-byte_at-ne41 c = record { is = line_open c.args.s.now (opens (goal.at.returns-then-byte_at-ne41 c).Else-byte_at-ne40) c.in_ok-l.e (line_at c.args.s.now c.in_ok-l.l) (held (goal.at.returns-then-byte_at-ne41 c).In_ok-l) (λ z. c.if-byte_at-ne41.true (c.byte_at-2.ensures ∙ z)); within = tt }

pub overflow_add-e : goal.overflow_add-e
overflow_add-e c = let h = closes c in omega (arith, before_end c.args.s.now c.in_ok-l.e (λ z. absurd (omega (arith, h, z))))

pub returns-then-e-s : goal.returns-then-e-s
unfolding BodyWithin line_found FoundWithin
returns-then-e-s c = record {
  is = line_read c.args.s.now (opens (goal.at.returns-then-e-s c).Else-byte_at-ne40) c.in_ok-l.e (line_at c.args.s.now c.in_ok-l.l) (held (goal.at.returns-then-e-s c).In_ok-l) (closes (goal.at.returns-then-e-s c).Else-byte_at-ne41) c.if-e-s.true;
  within = subst (BodyWithin c.args.s.now) c.in_ok-l.was c.read_body.ensures.within;
}

pub returns : goal.returns
unfolding line_found FoundWithin
returns c = record { is = line_long c.args.s.now (opens (goal.at.returns c).Else-byte_at-ne40) c.in_ok-l.e (line_at c.args.s.now c.in_ok-l.l) (held (goal.at.returns c).In_ok-l) (closes (goal.at.returns c).Else-byte_at-ne41) c.if-e-s.false; within = tt }
