-- `judging::tests::next_of` meets its contract. Assumes nothing.
use Rattle.judging.specs.Tests.{test_in}
use mathlib.Core.Bool.{Bool, cond}
use mathlib.Core.Path.{ap, sym}
use native.Mathlib.Omega.{arith}
use Rattle.judging.proofs.tests.next_of.Goals as goal

pub returns-then-j-ge-TESTS : goal.returns-then-j-ge-TESTS
returns-then-j-ge-TESTS c = λ few. absurd (omega (arith, few, c.if-j-ge-TESTS.true))

pub returns-then-holds : goal.returns-then-holds
returns-then-holds c = λ few. ap (λ (b : Bool). cond b (test_in c.args.tests.now c.args.j).hit (test_in c.args.tests.now c.args.j).miss) (sym c.if-holds.true)

pub returns : goal.returns
returns c = λ few. ap (λ (b : Bool). cond b (test_in c.args.tests.now c.args.j).hit (test_in c.args.tests.now c.args.j).miss) (sym c.if-holds.false)
