-- `judging::types::mistyped_test` meets its contract. The loop's invariant: the comparisons that were passed are of the right type.
-- Assumes nothing.
use Prim.Native.Nat.{◌-◌}
use Rattle.judging.proofs.TypeLaws.{first_below, none_below}
use Rattle.judging.specs.Reading.{first_wrong, wrong_by}
use Rattle.judging.specs.Tests.{test_in}
use Rattle.text.specs.CodeEnds.{offending_value}
use Rattle.text.specs.Words.{written_of}
use borrow.Author.Count.{below_more, below_none}
use mathlib.Core.Path.{◌∙◌, ap, sym}
use native.Mathlib.Omega.{arith}
use Rattle.judging.proofs.types.mistyped_test.Goals as goal

pub loop-j-init : goal.loop-j-init
loop-j-init c = (omega arith, λ s. below_none _)

pub returns-then-j-ge-TESTS : goal.returns-then-j-ge-TESTS
returns-then-j-ge-TESTS c = λ s small. absurd (omega (arith, small, c.loop-j-test.true, c.if-j-ge-TESTS.true))

pub test_at-requires : goal.test_at-requires
test_at-requires c = omega arith

pub returns-in-Some : goal.returns-in-Some
unfolding first_wrong
returns-in-Some c = λ s small. sym (first_below
    (λ i. wrong_by s (test_in c.args.tests.now i))
    c.args.m c.loop-j.j
    (written_of s c.in-Some.p) c.loop-j-test.true
    (c.loop-j.invariant.1 s)
    (sym (ap (offending_value s) (sym c.in-Some.is) ∙ c.wrong_test-w.ensures s ∙ ap (wrong_by s) c.test_at.ensures)))

pub loop-j-preserved : goal.loop-j-preserved
loop-j-preserved c = (
  omega arith,
  λ s. below_more _ c.loop-j.j
      (c.loop-j.invariant.1 s)
      (sym (ap (offending_value s) (sym c.in_default.is) ∙ c.wrong_test-w.ensures s ∙ ap (wrong_by s) c.test_at.ensures)),
)

pub returns : goal.returns
unfolding first_wrong
returns c = λ s small. sym (none_below (λ i. wrong_by s (test_in c.args.tests.now i)) c.args.m (λ i less. c.loop-j.invariant.1 s i (omega (arith, less, c.loop-j-test.false))))
