-- `judging::tests::store_tests` meets its contract. The loop's invariant: the comparisons before j are read. Assumes nothing.
use Prim.Native.Nat.{◌-◌, ◌+◌}
use Rattle.condition.specs.Ranges.{Mode}
use Rattle.judging.proofs.TestLaws.{read_more, read_none}
use Rattle.judging.specs.Tests.{TestOf}
use lib.ListN.{get_or}
use mathlib.Core.Path.{subst}
use native.Mathlib.Omega.{arith}
use Rattle.judging.proofs.tests.store_tests.Goals as goal

pub loop-j-init : goal.loop-j-init
loop-j-init c = let a = c.args in (omega arith, read_none a.tables.now a.g a.query.now a.ops.now a.columns.now a.trues.now a.falses.now a.flips.now a.tests.now)

pub loop-j-preserved : goal.loop-j-preserved
loop-j-preserved c = let l = c.loop-j in
    let a = c.args in
    let x = c.read_test-x in (
      omega (arith, c.loop-j-test.true),
      read_more a.tables.now a.g a.query.now a.ops.now a.columns.now a.trues.now a.falses.now a.flips.now
          l.tests _ l.j x.result l.invariant.1
          (subst
          (λ (m : Mode). TestOf a.tables.now a.g a.query.now (get_or a.ops.now l.j 0) (get_or a.columns.now (a.g.behind + l.j) 0) (get_or a.trues.now l.j 0) (get_or a.falses.now l.j 0) m x.result)
          c.asked_certain.ensures x.ensures) c.store_test.ensures,
    )

pub returns : goal.returns
returns c = λ j l. c.loop-j.invariant.1.each j (omega (arith, l))
