-- `walks::cells::number_end` meets its contract: a bracket opens, or else the reader of numbers ends there. Assumes nothing.
use mathlib.Core.Path.{◌∙◌, ap, sym}
use Rattle.walks.proofs.Typed.{number_end, typed_number, typed_range}
use Rattle.walks.proofs.cells.number_end.Goals as goal

pub returns-then-byte_at-eq40 : goal.returns-then-byte_at-eq40
returns-then-byte_at-eq40 c = let a = c.args in c.ordered_end.ensures ∙ typed_range a.line.now a.at (sym c.byte_at.ensures ∙ c.if-byte_at-eq40.true)

pub returns-in_err-e : goal.returns-in_err-e
returns-in_err-e c = let a = c.args in
    c.from_residual.ensures ∙ ap number_end (sym c.in_err-e.was ∙ c.read_number.ensures) ∙ typed_number a.line.now a.at (λ z. c.if-byte_at-eq40.false (c.byte_at.ensures ∙ z))

pub returns : goal.returns
returns c = let a = c.args in
    ap number_end (sym c.in_ok-e.was ∙ c.read_number.ensures) ∙ typed_number a.line.now a.at (λ z. c.if-byte_at-eq40.false (c.byte_at.ensures ∙ z))
