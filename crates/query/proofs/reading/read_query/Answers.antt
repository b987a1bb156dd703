-- `query::reading::read_query` meets its contract: the length, a bracket, what stands in it, nothing behind it, and the bounds.
-- Assumes nothing.
use lib.ListN.{get_or}
use mathlib.Core.Path.{◌∙◌, ◌≡◌, subst, sym}
use native.Mathlib.Omega.{arith}
use Rattle.query.proofs.BodiesRead.{query_long, query_open, query_over, query_read, query_shut, query_trailing, query_wrong}
use Rattle.query.proofs.WholeLaws.{closes_before}
use Rattle.query.specs.QueryPartPlaces.{ReadsBody}
use Rattle.query.specs.QueryForm.{query_forms}
use Rattle.text.specs.Brackets.{keyword}
use Rattle.text.specs.Reader.{from}
use Rattle.std.specs.Prelude.{Some}
use Rattle.query.proofs.reading.read_query.Goals.{Else-byte_at-ne40, Else-byte_at-ne41, In_ok-q}
use Rattle.query.proofs.reading.read_query.Goals as goal

opens : (c : Else-byte_at-ne40) → get_or c.args.s.now 0 0 ≡ 40
opens c = sym c.byte_at.ensures ∙ c.if-byte_at-ne40.false

held : (c : In_ok-q) → ReadsBody c.args.s.now (keyword query_forms (from c.args.s.now 1)) (Some (c.in_ok-q.q, c.in_ok-q.e))
held c = subst (ReadsBody c.args.s.now (keyword query_forms (from c.args.s.now 1))) c.in_ok-q.was c.query_body.ensures

closes : (c : Else-byte_at-ne41) → get_or c.args.s.now c.in_ok-q.e 0 ≡ 41
closes c = sym c.byte_at-2.ensures ∙ c.if-byte_at-ne41.false

pub returns-then-s-gt4096 : goal.returns-then-s-gt4096
returns-then-s-gt4096 c = query_long c.args.s.now c.if-s-gt4096.true

pub returns-then-byte_at-ne40 : goal.returns-then-byte_at-ne40
returns-then-byte_at-ne40 c = query_shut c.args.s.now (λ z. c.if-byte_at-ne40.true (c.byte_at.ensures ∙ z))

pub returns-in_err-q : goal.returns-in_err-q
returns-in_err-q c = rw c.from_residual.ensures
    (query_wrong c.args.s.now (opens (goal.at.returns-in_err-q c).Else-byte_at-ne40)
    (subst (ReadsBody c.args.s.now (keyword query_forms (from c.args.s.now 1))) c.in_err-q.was c.query_body.ensures))

pub returns-then-byte_at-ne41 : goal.returns-then-byte_at-ne41
returns-then-byte_at-ne41 c = query_open c.args.s.now (opens (goal.at.returns-then-byte_at-ne41 c).Else-byte_at-ne40) (held (goal.at.returns-then-byte_at-ne41 c).In_ok-q) (λ z. c.if-byte_at-ne41.true (c.byte_at-2.ensures ∙ z))

pub overflow_add-e : goal.overflow_add-e
overflow_add-e c = omega (arith, closes_before c.args.s.now c.in_ok-q.e (closes c))

pub returns-then-e-s : goal.returns-then-e-s
returns-then-e-s c = query_trailing c.args.s.now (opens (goal.at.returns-then-e-s c).Else-byte_at-ne40) (held (goal.at.returns-then-e-s c).In_ok-q) (closes (goal.at.returns-then-e-s c).Else-byte_at-ne41) c.if-e-s.true

pub returns-then-is_bounded : goal.returns-then-is_bounded
returns-then-is_bounded c = query_read c.args.s.now
    (opens (goal.at.returns-then-is_bounded c).Else-byte_at-ne40) (held (goal.at.returns-then-is_bounded c).In_ok-q)
    (closes (goal.at.returns-then-is_bounded c).Else-byte_at-ne41) c.if-e-s.false
    c.if-s-gt4096.false
    (sym c.is_bounded.ensures ∙ c.if-is_bounded.true)

pub returns : goal.returns
returns c = query_over c.args.s.now
    (opens (goal.at.returns c).Else-byte_at-ne40) (held (goal.at.returns c).In_ok-q)
    (closes (goal.at.returns c).Else-byte_at-ne41) c.if-e-s.false (sym c.is_bounded.ensures ∙ c.if-is_bounded.false)
