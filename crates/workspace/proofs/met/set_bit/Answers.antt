-- `workspace::met::set_bit` meets its contract: one bit is set in one word. Assumes nothing.
use Prim.Native.Nat.{◌%◌, ◌/◌}
use lib.Bits.{bit_or}
use lib.ListN.{get_or, set}
use mathlib.Core.Path.{◌∙◌, ap}
use native.Mathlib.Omega.{arith}
use Rattle.purpose.proofs.Bits.{one_shl}
use Rattle.purpose.proofs.Words.{has_insert}
use Rattle.purpose.specs.Members.{has}
use Rattle.workspace.proofs.met.set_bit.Goals as goal

pub returns : goal.returns
returns c j = let ms = c.args.ms.now in
    let i = c.args.i in
    ap (λ mask. has (set ms (i / 64) (bit_or (get_or ms (i / 64) 0) mask)) j) (one_shl (i % 64) 64 (omega arith)) ∙ has_insert ms i j c.requires
