-- `query::reading::optional_condition` meets its contract: a condition where a space comes next.
-- Assumes nothing.
use lib.ListN.{get_or}
use mathlib.Core.Path.{◌∙◌, ◌≡◌, sym}
use native.Mathlib.Omega.{arith}
use Rattle.form.proofs.PartLaws.{space_before}
use Rattle.query.proofs.PartsRead.{test_absent, test_read, test_wrong}
use Rattle.query.proofs.reading.optional_condition.Goals.{Else-byte_at-ne32}
use Rattle.query.proofs.reading.optional_condition.Goals as goal

space : (c : Else-byte_at-ne32) → get_or c.args.s.now c.args.at 0 ≡ 32
space c = sym c.byte_at.ensures ∙ c.if-byte_at-ne32.false

pub returns-then-byte_at-ne32 : goal.returns-then-byte_at-ne32
returns-then-byte_at-ne32 c = test_absent c.args.s.now c.args.at (λ z. c.if-byte_at-ne32.true (c.byte_at.ensures ∙ z))

pub overflow_add-t : goal.overflow_add-t
overflow_add-t c = omega (arith, space_before c.args.s.now c.args.at (space c))

pub returns : goal.returns
returns c = test_read c.args.s.now c.args.at (space (goal.at.returns c).Else-byte_at-ne32) (sym c.read_condition.ensures ∙ c.in_ok-e.was)

pub returns-in_err-e : goal.returns-in_err-e
returns-in_err-e c = rw c.from_residual.ensures
    (test_wrong c.args.s.now c.args.at (space (goal.at.returns-in_err-e c).Else-byte_at-ne32) (sym c.read_condition.ensures ∙ c.in_err-e.was))
