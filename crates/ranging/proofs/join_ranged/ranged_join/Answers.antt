-- `ranging::join_ranged::ranged_join` meets its contract: the arrays have room for all that a join names. Assumes nothing.
use native.Mathlib.Omega.{arith}
use Rattle.ranging.proofs.join_ranged.ranged_join.Goals as goal

pub returns-then-n-gt-JOINED : goal.returns-then-n-gt-JOINED
returns-then-n-gt-JOINED c = λ d s k j h w l g. absurd (omega (arith, l, c.if-n-gt-JOINED.true))

pub first_ranged_ref-requires : goal.first_ranged_ref-requires
first_ranged_ref-requires c = omega (arith, c.if-n-gt-JOINED.false)

pub returns : goal.returns
returns c = λ d s k j h w l g. c.first_ranged_ref.ensures d s k j h w g
