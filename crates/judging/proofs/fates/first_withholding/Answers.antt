-- `judging::fates::first_withholding` meets its contract. Assumes nothing.
use Rattle.judging.proofs.FateLaws.{first_gaps, first_whole}
use native.Mathlib.Omega.{arith}
use Rattle.judging.proofs.fates.first_withholding.Goals as goal

pub returns-then-leaves_gaps : goal.returns-then-leaves_gaps
returns-then-leaves_gaps c = (first_gaps c.args.s c.leaves_gaps.result c.leaves_gaps.ensures c.if-leaves_gaps.true, omega arith)

pub returns : goal.returns
returns c = (first_whole c.args.s c.leaves_gaps.result c.leaves_gaps.ensures c.if-leaves_gaps.false, omega arith)
