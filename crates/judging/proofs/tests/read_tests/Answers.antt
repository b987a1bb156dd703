-- `judging::tests::read_tests` meets its contract. Assumes nothing.
use Prim.Native.Nat.{◌≤◌}
use Rattle.judging.proofs.QueryTests.{query_known, tests_read}
use lib.ListN.{length}
use native.Mathlib.Omega.{arith}
use Rattle.judging.proofs.tests.read_tests.Goals as goal

pub returns : goal.returns
returns c = let a = c.args in
    let certain = c.is_certain in
    λ text d pr.
    let long : a.s.tests ≤ length a.ops.now = omega (arith, pr.few) in
    tests_read text a.tables.now a.query.now a.s a.ops.now a.columns.now d pr long certain.result certain.ensures _
    (c.read_comparisons.ensures _ _
    (query_known text a.tables.now a.query.now a.s a.ops.now a.columns.now d pr long certain.result (omega arith)))
