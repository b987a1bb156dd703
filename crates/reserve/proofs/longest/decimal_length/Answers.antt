-- `reserve::longest::decimal_length` meets its contract: what stands behind a number written from 0 on is its length. Assumes nothing.
use native.Mathlib.Omega.{arith}
use Rattle.writing.proofs.Digits.{decimal_short}
use Rattle.reserve.proofs.longest.decimal_length.Goals as goal

pub returns : goal.returns
returns c = omega (arith, (c.put_decimal.ensures.room (omega (arith, decimal_short c.args.n))).behind)
