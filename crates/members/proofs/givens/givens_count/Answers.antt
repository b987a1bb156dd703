-- `members::givens::givens_count` meets its contract. The loop's invariant: what was counted and what is left are all. Assumes nothing.
use Prim.Native.Nat.{◌-◌}
use lib.ListN.{length}
use mathlib.Core.Path.{◌∙◌, ap, sym}
use native.Mathlib.Omega.{arith}
use Rattle.members.proofs.GivenLaws.{pair_less, space_here}
use Rattle.form.proofs.WalkSteps.{givens_more, givens_stop, pair_after}
use Rattle.form.specs.Walks.{givens_at}
use Rattle.members.proofs.givens.givens_count.Goals as goal

pub loop-j-init : goal.loop-j-init
loop-j-init c = (omega arith, omega arith)

pub overflow_add-j : goal.overflow_add-j
overflow_add-j c = omega (arith, space_here c.args.line.now c.loop-j.j (sym c.byte_at.ensures ∙ c.loop-j-test.true))

pub overflow_add-n : goal.overflow_add-n
overflow_add-n c = omega (arith, space_here c.args.line.now c.loop-j.j (sym c.byte_at.ensures ∙ c.loop-j-test.true))

pub loop-j-smaller : goal.loop-j-smaller
loop-j-smaller c = pair_less c.args.line.now c.loop-j.j (sym c.byte_at.ensures ∙ c.loop-j-test.true) c.pair_end-j.result c.pair_end-j.ensures

pub loop-j-preserved : goal.loop-j-preserved
loop-j-preserved c = let entry = c.args in (
  omega
      (arith, c.pair_end-j.ensures, pair_after entry.line.now c.loop-j.j),
  omega
      (arith, ap (λ x. length (givens_at entry.line.now x)) c.pair_end-j.ensures, ap length (givens_more entry.line.now c.loop-j.j (sym c.byte_at.ensures ∙ c.loop-j-test.true))),
)

pub returns : goal.returns
returns c = omega (arith, ap length (givens_stop c.args.line.now c.loop-j.j (λ e. c.loop-j-test.false (c.byte_at.ensures ∙ e))))
