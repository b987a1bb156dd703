-- `judging::tests::compared_kind` meets its contract. Assumes nothing.
use native.Mathlib.Omega.{arith}
use Rattle.judging.proofs.tests.compared_kind.Goals as goal

pub returns-then-c-g : goal.returns-then-c-g
returns-then-c-g c = record { first = λ _. c.column_kind.ensures; second = λ l. absurd (omega (arith, l, c.if-c-g.true)) }

pub returns : goal.returns
returns c = record { first = λ l. absurd (omega (arith, l, c.if-c-g.false)); second = λ _. c.column_kind-2.ensures }
