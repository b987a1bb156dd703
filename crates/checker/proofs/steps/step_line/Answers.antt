-- `checker::steps::step_line` meets its contract: a row that one walk takes is added, and any other line is answered by its form.
-- Assumes nothing.
use Prim.Native.Nat.{ℕ}
use mathlib.Core.Bool.{Bool, false, true}
use mathlib.Core.List.{List}
use mathlib.Core.Path.{◌∙◌, ◌≡◌, subst}
use native.Mathlib.Omega.{arith}
use Rattle.stepping.proofs.Growing.{grow_row, keep_rows}
use Rattle.stepping.proofs.Judgements.{follows_goes, line_form}
use Rattle.document.specs.Policy.{Doc}
use Rattle.relations.specs.Rows.{Rows}
use Rattle.walks.specs.Taken.{RowTaken, TakesRow}
use Rattle.checker.proofs.steps.step_line.Goals as goal

-- what the answer says of the line, where it says yes, and where it says no
taken : (text line after : List ℕ) (k : ℕ) (d : Doc) (r : Bool) → r ≡ true → TakesRow text line after k d r → RowTaken text line after k d
taken text line after k d r e h = subst (TakesRow text line after k d) e h

left : (text line after : List ℕ) (k : ℕ) (d : Doc) (r : Bool) → r ≡ false → TakesRow text line after k d r → Rows text after k d.rows
left text line after k d r e h = subst (TakesRow text line after k d) e h

pub take_row-requires : goal.take_row-requires
take_row-requires c = tt

pub overflow_add-next : goal.overflow_add-next
overflow_add-next c = omega (arith, c.take_row.ensures.1 c.if-take_row.true)

pub returns-then-take_row : goal.returns-then-take_row
returns-then-take_row c = λ d a I U.
    let t = taken _ _ _ _ d _ c.if-take_row.true (c.take_row.ensures.0 d _ a I.labels I.tables I.rows) in
    follows_goes (record { doc = _; is = line_form d c.args.line.now _ t.form ∙ t.passes; held = grow_row I _ _ _ t.rows })

pub step_other-requires : goal.step_other-requires
step_other-requires c = tt

pub returns : goal.returns
returns c = λ d a I U.
    c.step_other.ensures d a (keep_rows I _
    (left _ _ _ _ d _ c.if-take_row.false (c.take_row.ensures.0 d _ a I.labels I.tables I.rows))) U
