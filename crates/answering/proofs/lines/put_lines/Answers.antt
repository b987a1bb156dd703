-- `answering::lines::put_lines` meets its contract. Assumes nothing.
use Prim.Native.Nat.{◌≤◌}
use lib.ListN.{length}
use lib.Seq.{length-take-le}
use mathlib.Core.Path.{sym}
use native.Mathlib.Omega.{arith}
use Rattle.answering.proofs.lines.put_lines.Goals as goal

pub slice_bounds-put_marked-end : goal.slice_bounds-put_marked-end
slice_bounds-put_marked-end c = let l : c.args.chosen ≤ length c.args.columns.now = omega (arith, c.requires.0, c.told-columns) in
    sym (length-take-le c.args.chosen c.args.columns.now l)

pub put_marked-requires : goal.put_marked-requires
put_marked-requires c = (c.requires.1, c.told-marks)
