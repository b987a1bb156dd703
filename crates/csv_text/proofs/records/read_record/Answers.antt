-- `csv_text::records::read_record` meets its contract. The loop's invariant: what is gathered, and what comes from the fields from the
-- loop's place on, is what the whole record comes to. Assumes nothing.
use Rattle.csv_text.proofs.RecordLaws.{FieldGot, field_got, field_lost, gather_broken, gather_last, gather_more, gather_start, gather_wrong}
use Rattle.text.proofs.Lefts.{before_end}
use mathlib.Core.Path.{◌∙◌, sym}
use native.Mathlib.Omega.{arith}
use Rattle.csv_text.proofs.records.read_record.Goals.{In_ok-e}
use Rattle.csv_text.proofs.records.read_record.Goals as goal

pub loop-e-init : goal.loop-e-init
loop-e-init c = gather_start _ _

pub returns-in_err-e : goal.returns-in_err-e
returns-in_err-e c = c.from_residual.ensures ∙ gather_broken c.args.s.now c.args.at c.loop-e.invariant (field_lost c.args.s.now c.loop-e.i (sym c.read_field.ensures ∙ c.in_err-e.was))

-- the field that was read in this turn
turn : (c : In_ok-e) → FieldGot c.args.s.now c.loop-e.i c.in_ok-e.e c.in_ok-e.z c.in_ok-e.u
turn c = field_got c.args.s.now c.loop-e.i c.in_ok-e.e c.in_ok-e.z c.in_ok-e.u (sym c.read_field.ensures ∙ c.in_ok-e.was)

pub overflow_add-count : goal.overflow_add-count
overflow_add-count c = omega (arith, c.loop-e.invariant.fewer)

pub overflow_add-size : goal.overflow_add-size
overflow_add-size c = omega (arith, c.loop-e.invariant.smaller, (turn c).short)

pub overflow_add-unfit : goal.overflow_add-unfit
overflow_add-unfit c = omega (arith, c.loop-e.invariant.fewer, c.loop-e.invariant.less, (turn c).one)

pub returns-in_err-end : goal.returns-in_err-end
returns-in_err-end c = c.from_residual-in_err-end.ensures ∙ gather_wrong c.args.s.now c.args.at c.loop-e.invariant (turn (goal.at.returns-in_err-end c).In_ok-e) (λ e. c.if-byte_at-ne44.true (c.byte_at.ensures ∙ e)) (sym c.record_end.ensures ∙ c.in_err-end.was)

pub returns-then-byte_at-ne44 : goal.returns-then-byte_at-ne44
returns-then-byte_at-ne44 c = gather_last c.args.s.now c.args.at c.loop-e.invariant (turn (goal.at.returns-then-byte_at-ne44 c).In_ok-e) (λ e. c.if-byte_at-ne44.true (c.byte_at.ensures ∙ e)) (sym c.record_end.ensures ∙ c.in_ok-end.was)

pub overflow_add-i : goal.overflow_add-i
overflow_add-i c = omega (arith, before_end c.args.s.now c.in_ok-e.e (λ o. absurd (omega (arith, o, c.byte_at.ensures, c.if-byte_at-ne44.false))))

pub loop-e-smaller : goal.loop-e-smaller
loop-e-smaller c = omega (arith, (turn (goal.at.loop-e-smaller c).In_ok-e).past, before_end c.args.s.now c.in_ok-e.e (λ o. absurd (omega (arith, o, c.byte_at.ensures, c.if-byte_at-ne44.false))))

pub loop-e-preserved : goal.loop-e-preserved
loop-e-preserved c = gather_more c.args.s.now c.args.at c.loop-e.invariant (turn (goal.at.loop-e-preserved c).In_ok-e) (sym c.byte_at.ensures ∙ c.if-byte_at-ne44.false)
