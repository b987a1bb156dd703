-- `belonging::held::store_truths` meets its contract: the arrays have room. Assumes nothing.
use Prim.Native.Nat.{◌≤◌}
use lib.ListN.{length}
use native.Mathlib.Omega.{arith}
use Rattle.belonging.proofs.HeldLaws.{places_known, truths_told}
use Rattle.query.specs.HostClock.{clock_of}
use Rattle.belonging.proofs.held.store_truths.Goals as goal

pub returns-then-n-le64 : goal.returns-then-n-le64
returns-then-n-le64 c few d u t k = let a = c.args in
    let room : a.n ≤ length a.ops.now = omega arith in
    truths_told d (clock_of a.clock) u a.line.now a.ops.now _ a.n room (omega arith) (c.fill_truths.ensures d u t (places_known d a.line.now a.ops.now a.n room k))

pub returns-else-n-le64 : goal.returns-else-n-le64
returns-else-n-le64 c few d u t k = absurd (omega arith)
