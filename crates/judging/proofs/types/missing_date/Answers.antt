-- `judging::types::missing_date` meets its contract. The loop's invariant: no value that was passed is a date that does not exist.
-- Assumes nothing.
use Prim.Native.Nat.{◌-◌}
use Rattle.judging.proofs.TypeLaws.{first_below, missing_here, missing_not, none_below}
use Rattle.judging.specs.Reading.{first_missing, missing_by}
use Rattle.judging.specs.Tests.{test_in}
use Rattle.text.specs.Words.{written_of}
use borrow.Author.Count.{below_more, below_none}
use mathlib.Core.Bool.{false}
use mathlib.Core.Path.{◌∙◌, ap, sym}
use native.Mathlib.Omega.{arith}
use Rattle.judging.proofs.types.missing_date.Goals as goal

pub loop-j-init : goal.loop-j-init
loop-j-init c = (omega arith, below_none _)

pub returns-then-j-ge-TESTS : goal.returns-then-j-ge-TESTS
returns-then-j-ge-TESTS c = λ small. absurd (omega (arith, small, c.loop-j-test.true, c.if-j-ge-TESTS.true))

pub test_at-x-requires : goal.test_at-x-requires
test_at-x-requires c = omega arith

pub returns-then-is_missing_date : goal.returns-then-is_missing_date
unfolding first_missing
returns-then-is_missing_date c = let a = c.args in
    let l = c.loop-j in
    let x = c.test_at-x in
    let q = c.is_missing_date in
    λ small. sym (first_below (λ i. missing_by a.query.now (test_in a.tests.now i)) a.m l.j (written_of a.query.now x.result.place)
    c.loop-j-test.true l.invariant.1
    (ap (missing_by a.query.now) (sym x.ensures) ∙ missing_here a.query.now x.result q.result q.ensures c.if-is_missing_date.true))

pub loop-j-preserved : goal.loop-j-preserved
loop-j-preserved c = let a = c.args in
    let l = c.loop-j in
    let x = c.test_at-x in
    let q = c.is_missing_date in
    (omega arith, below_more _ l.j l.invariant.1 (ap (missing_by a.query.now) (sym x.ensures) ∙ missing_not a.query.now x.result q.result q.ensures c.if-is_missing_date.false))

pub returns : goal.returns
unfolding first_missing
returns c = let a = c.args in
    λ small. sym (none_below (λ i. missing_by a.query.now (test_in a.tests.now i)) a.m (λ i less. c.loop-j.invariant.1 i (omega (arith, less, c.loop-j-test.false))))
