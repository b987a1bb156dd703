-- `asking::clock_line::spaced_number` meets its contract: a space, and a number of digits behind it.
use mathlib.Core.Path.{◌∙◌, subst, sym}
use native.Mathlib.Omega.{arith}
use Rattle.form.proofs.PartLaws.{space_before}
use Rattle.asking.proofs.ClockReading.{number_read, number_unspaced, number_wrong}
use Rattle.asking.specs.ClockParts.{ReadsNumber}
use Rattle.asking.proofs.clock_line.spaced_number.Goals as goal

pub returns-then-byte_at-ne32 : goal.returns-then-byte_at-ne32
returns-then-byte_at-ne32 c = number_unspaced c.args.s.now c.args.at (λ z. c.if-byte_at-ne32.true (c.byte_at.ensures ∙ z))

pub overflow_add-p : goal.overflow_add-p
overflow_add-p c = omega (arith, space_before c.args.s.now c.args.at (sym c.byte_at.ensures ∙ c.if-byte_at-ne32.false))

pub returns-in_err-n : goal.returns-in_err-n
returns-in_err-n c = subst (ReadsNumber c.args.s.now c.args.at) (sym c.from_residual.ensures)
    (number_wrong c.args.s.now c.args.at (sym c.byte_at.ensures ∙ c.if-byte_at-ne32.false) c.word_end-e.ensures (sym c.in_err-n.ensures))

pub returns : goal.returns
returns c = number_read c.args.s.now c.args.at (sym c.byte_at.ensures ∙ c.if-byte_at-ne32.false) c.word_end-e.ensures (sym c.in_ok-n.ensures)
