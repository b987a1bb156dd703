-- `rows::steps::step_row` meets its contract. Assumes nothing.
use native.Mathlib.Omega.{arith}
use Rattle.stepping.proofs.Growing.{grow_row, rows_count}
use Rattle.stepping.proofs.Judgements.{follows_goes, follows_handed, has_room, passes, refuses}
use Rattle.rows.proofs.steps.step_row.Goals as goal

pub returns-in_err-row_fault : goal.returns-in_err-row_fault
returns-in_err-row_fault c = λ d ps' rs' bs' us' cs' gs' ms' a w I.
    follows_handed (refuses c.row_fault.ensures c.in_err-row_fault.was d ((ms', I.labels), I.tables, rows_count I.rows) w) c.from_residual.ensures.1

pub overflow_add-next : goal.overflow_add-next
overflow_add-next c = omega (arith, has_room c.row_fault.ensures c.in_ok-row_fault.was)

pub returns : goal.returns
returns c = λ d ps' rs' bs' us' cs' gs' ms' a w I.
    let p = passes c.row_fault.ensures c.in_ok-row_fault.was d ((ms', I.labels), I.tables, rows_count I.rows) in
    follows_goes (record { doc = _; is = p; held = grow_row I _ _ _ (c.store_row.ensures d ms' a I.labels I.tables I.rows p) })
