-- `import::rows::has_room` meets its contract. Assumes nothing.
use Prim.Native.Nat.{◌-◌}
use Rattle.lists.proofs.Tests.{true_not_false}
use borrow.Author.Tests.{leb-true}
use mathlib.Core.Path.{refl}
use native.Mathlib.Omega.{arith}
use Rattle.import.proofs.rows.has_room.Goals as goal

pub returns-then-room-to : goal.returns-then-room-to
returns-then-room-to c = λ e. true_not_false e refl

pub returns : goal.returns
returns c = λ e. omega (arith, c.if-room-to.false, leb-true c.args.n (c.args.room - c.args.to) e)
