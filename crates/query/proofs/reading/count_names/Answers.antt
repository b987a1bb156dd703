-- `query::reading::count_names` meets its contract. The loop's invariant: the names counted and those from the loop's place on are the
-- names from the start on; no more are counted than bytes passed.
-- Assumes nothing.
use Prim.Native.Nat.{◌-◌}
use lib.ListN.{length}
use mathlib.Core.Path.{◌∙◌, sym}
use native.Mathlib.Omega.{arith}
use Rattle.form.specs.Walks.{names_at}
use Rattle.query.proofs.PartsRead.{count_more, count_stop}
use Rattle.text.proofs.Spaces.{space_here}
use Rattle.query.proofs.reading.count_names.Goals as goal

pub loop-i-init : goal.loop-i-init
loop-i-init c = (omega arith, omega arith)

pub overflow_add-i : goal.overflow_add-i
overflow_add-i c = omega (arith, (space_here c.args.s.now c.loop-i.i _ c.byte_at.ensures c.loop-i-test.true).1)

pub overflow_add-n : goal.overflow_add-n
overflow_add-n c = omega (arith, (space_here c.args.s.now c.loop-i.i _ c.byte_at.ensures c.loop-i-test.true).1, c.loop-i.invariant.1)

pub loop-i-smaller : goal.loop-i-smaller
loop-i-smaller c = omega (arith, (space_here c.args.s.now c.loop-i.i _ c.byte_at.ensures c.loop-i-test.true).1, c.word_end-i.ensures)

pub loop-i-preserved : goal.loop-i-preserved
loop-i-preserved c = count_more c.args.s.now c.loop-i.i
    c.loop-i.n
    (length (names_at c.args.s.now c.args.at))
    c.word_end-i.result (sym c.byte_at.ensures ∙ c.loop-i-test.true) c.word_end-i.ensures
    c.loop-i.invariant

pub returns : goal.returns
returns c = count_stop c.args.s.now c.loop-i.i c.loop-i.n
    (length (names_at c.args.s.now c.args.at))
    (λ z. c.loop-i-test.false (c.byte_at.ensures ∙ z)) c.loop-i.invariant.0
