-- `walks::cells::ordered_end` meets its contract. Assumes nothing.
use borrow.Author.Tests.{le-leb, lt-leb}
use mathlib.Core.Bool.{Bool, cond}
use mathlib.Core.Path.{◌∙◌, ap, sym}
use Rattle.walks.specs.Walked.{ordered_end}
use Rattle.std.specs.Prelude.{None, Some}
use Rattle.walks.proofs.cells.ordered_end.Goals as goal

pub returns-in_err-e : goal.returns-in_err-e
returns-in_err-e c = c.from_residual.ensures ∙ ap ordered_end (sym c.in_err-e.was ∙ c.read_range.ensures)

pub returns-then-low-high : goal.returns-then-low-high
returns-then-low-high c = ap (λ (b : Bool). cond b (Some c.in_ok-e.e) None) (sym (le-leb _ _ c.if-low-high.true)) ∙ ap ordered_end (sym c.in_ok-e.was ∙ c.read_range.ensures)

pub returns-else-low-high : goal.returns-else-low-high
returns-else-low-high c = ap (λ (b : Bool). cond b (Some c.in_ok-e.e) None) (sym (lt-leb _ _ c.if-low-high.false)) ∙ ap ordered_end (sym c.in_ok-e.was ∙ c.read_range.ensures)
