-- `judging::tests::read_comparisons` meets its contract. Assumes nothing.
use Rattle.judging.proofs.MatchLaws.{comparisons_told}
use native.Mathlib.Omega.{arith}
use Rattle.judging.proofs.tests.read_comparisons.Goals as goal

pub returns-then-m-gt-TESTS : goal.returns-then-m-gt-TESTS
returns-then-m-gt-TESTS c = λ number kind pr. absurd (omega (arith, pr.few, c.if-m-gt-TESTS.true))

pub returns-then-ops-m : goal.returns-then-ops-m
returns-then-ops-m c = λ number kind pr. absurd (omega (arith, pr.long, c.if-ops-m.true))

pub returns-then-columns-behind : goal.returns-then-columns-behind
returns-then-columns-behind c = λ number kind pr. absurd (omega (arith, pr.room, c.if-columns-behind.true))

pub returns-then-columns-behind-2 : goal.returns-then-columns-behind-2
returns-then-columns-behind-2 c = λ number kind pr. absurd (omega (arith, pr.room, c.if-columns-behind-2.true))

pub returns : goal.returns
returns c = let a = c.args in
    λ number kind pr. comparisons_told a.tables.now a.query.now a.g a.ops.now a.columns.now number kind pr _ _ _ _ c.store_tests.ensures
    c.store_program.ensures
