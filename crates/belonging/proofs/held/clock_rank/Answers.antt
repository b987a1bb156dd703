-- `belonging::held::clock_rank` meets its contract. Assumes nothing.
use Rattle.text.specs.Numbers.{rank_of}
use native.Mathlib.Omega.{arith}
use Rattle.belonging.proofs.held.clock_rank.Goals as goal

pub returns-then-m-lt9223372036854775808 : goal.returns-then-m-lt9223372036854775808
unfolding rank_of
returns-then-m-lt9223372036854775808 c l = omega arith
