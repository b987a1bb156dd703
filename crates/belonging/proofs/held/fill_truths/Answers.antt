-- `belonging::held::fill_truths` meets its contract. The loop's invariant: the truths of the comparisons passed are stored. Assumes nothing.
use Prim.Native.Nat.{◌-◌}
use borrow.Author.Rules.{rules}
use lib.ListN.{get_or, length-set}
use mathlib.Core.Bool.{true}
use native.Mathlib.Omega.{arith}
use Rattle.belonging.proofs.HeldLaws.{truths_more}
use Rattle.belonging.specs.Held.{comparison_holds}
use Rattle.condition.specs.Answers.{compared_at}
use Rattle.query.specs.HostClock.{clock_of}
use Rattle.belonging.proofs.held.fill_truths.Goals as goal

pub loop-i-init : goal.loop-i-init
loop-i-init c = (omega arith, search rules, λ d u t k j l. absurd (omega (arith, l)))

pub bounds-ops-i : goal.bounds-ops-i
bounds-ops-i c = omega (arith, c.requires)

pub bounds-truths-i : goal.bounds-truths-i
bounds-truths-i c = omega (arith, c.requires, c.loop-i.invariant.1)

pub loop-i-preserved : goal.loop-i-preserved
loop-i-preserved c = let a = c.args in
    let now = c.loop-i in
    (omega arith, simp length-set now.invariant.1, λ d u t k. truths_more (λ j. comparison_holds d (clock_of a.clock) u (compared_at a.line.now (get_or a.ops.now j 0))) now.truths now.i c.comparison_holds-b.result (omega (arith, c.requires, now.invariant.1)) (now.invariant.2 d u t k) (c.comparison_holds-b.ensures d u t (k now.i c.loop-i-test.true)))

pub shape_of-truths : goal.shape_of-truths
shape_of-truths c = c.loop-i.invariant.1

pub returns : goal.returns
returns c d u t k j l = c.loop-i.invariant.2 d u t k j (omega (arith, l))
