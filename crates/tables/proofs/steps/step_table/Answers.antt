-- `tables::steps::step_table` meets its contract. Assumes nothing.
use native.Mathlib.Omega.{arith}
use Rattle.stepping.proofs.Growing.{grow_table}
use Rattle.stepping.proofs.Judgements.{follows_goes, follows_handed, has_room, passes, refuses}
use Rattle.tables.proofs.steps.step_table.Goals as goal

pub returns-in_err-table_fault : goal.returns-in_err-table_fault
returns-in_err-table_fault c = λ d ps' rs' bs' us' cs' gs' ms' ws' a w I.
    follows_handed (refuses c.table_fault.ensures.judges c.in_err-table_fault.was d ((ms', I.labels), I.tables) w) c.from_residual.ensures.1

pub overflow_add-next : goal.overflow_add-next
overflow_add-next c = omega (arith, has_room c.table_fault.ensures.judges c.in_ok-table_fault.was)

pub returns : goal.returns
returns c = λ d ps' rs' bs' us' cs' gs' ms' ws' a w I.
    let p = passes c.table_fault.ensures.judges c.in_ok-table_fault.was d ((ms', I.labels), I.tables) in
    let stored = c.store_table.ensures d ms' a I.labels I.tables p w.0 in
    follows_goes (record { doc = _; is = p; held = grow_table I _ _ _ _ stored.0 (stored.1 _ I.notes) })
