-- `writing::bytes::copy_bytes` meets its contract. The loop's invariant: the first k bytes are copied. Assumes nothing.
use Prim.Native.Nat.{◌-◌, ◌≤◌}
use lib.ListN.{drop, length, take}
use lib.Seq.{sets}
use mathlib.Core.Path.{◌≡◌}
use Rattle.writing.proofs.bytes.copy_bytes.Given as goal

abbrev pub invariant-loop-k : goal.invariant-loop-k
invariant-loop-k l = (l.k ≤ l.size) × (length l.out ≡ length l.initial.out) × (l.out ≡ sets l.initial.out l.at (take l.k (drop l.start l.text)))
