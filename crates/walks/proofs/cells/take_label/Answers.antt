-- `walks::cells::take_label` meets its contract. Only the answer that a label was found stores one. Assumes nothing.
use mathlib.Core.Path.{◌∙◌, ap, subst, sym}
use native.Mathlib.Omega.{arith}
use Rattle.document.specs.Lookup.{label_of}
use Rattle.workspace.specs.Found.{found_as}
use Rattle.walks.proofs.CellTurns.{label_taken}
use Rattle.walks.specs.Walked.{LabelWalked}
use Rattle.text.proofs.Spaces.{space_here}
use Rattle.walks.proofs.cells.take_label.Goals as goal

pub returns-then-byte_at-ne32 : goal.returns-then-byte_at-ne32
returns-then-byte_at-ne32 c = (λ rs h. h, λ d sets N. tt)

pub overflow_add-at : goal.overflow_add-at
overflow_add-at c = let entry = c.args in omega (arith, (space_here entry.line.now entry.at _ c.byte_at.ensures c.if-byte_at-ne32.false).1)

pub returns-in_err-e : goal.returns-in_err-e
returns-in_err-e c = (λ rs h. h, λ d sets N. subst (LabelWalked _ _ _ d _ _ _) (sym c.from_residual.ensures) tt)

pub overflow_add-at-2 : goal.overflow_add-at-2
overflow_add-at-2 c = let entry = c.args in omega
    (arith, (space_here entry.line.now entry.at _ c.byte_at.ensures c.if-byte_at-ne32.false).1)

pub returns-in_err-y : goal.returns-in_err-y
returns-in_err-y c = (λ rs h. h, λ d sets N. subst (LabelWalked _ _ _ d _ _ _) (sym c.from_residual-in_err-y.ensures) tt)

pub returns : goal.returns
unfolding label_of
returns c = (
  λ rs h. c.set_label.ensures.kept _ _ rs (omega arith) h,
  λ d sets N. label_taken
      (sym c.byte_at.ensures ∙ c.if-byte_at-ne32.false)
      (sym c.name_end.ensures ∙ c.in_ok-e.was)
      (λ ended. sym (ap found_as c.in_ok-y.was) ∙ c.find_label_to.ensures.0 sets _ ended N)
      c.set_label.ensures,
)
