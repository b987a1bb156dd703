-- `tables::label_storing::set_of` meets its contract. The loop's invariant: the set holds the purposes that were passed, and the others are left.
-- Assumes nothing.
use Prim.Native.Nat.{◌-◌, ◌<◌}
use mathlib.Core.Path.{◌∙◌, ap, subst, sym}
use native.Mathlib.Omega.{arith}
use Rattle.document.specs.Lookup.{purpose_of}
use Rattle.form.proofs.WalkSteps.{word_after}
use Rattle.lists.specs.Lists.{or_zero}
use Rattle.purpose.specs.Members.{limit}
use Rattle.tables.proofs.SetLaws.{found_small, gathered_all, gathered_more, gathered_none}
use Rattle.text.proofs.Spaces.{space_here}
use Rattle.text.specs.Walking.{word_end_at}
use Rattle.tables.proofs.label_storing.set_of.Goals as goal

pub loop-w-init : goal.loop-w-init
loop-w-init c d N = gathered_none _ _ _ _ c.no_members-r.ensures

pub overflow_add-w : goal.overflow_add-w
overflow_add-w c = omega (arith, (space_here c.args.line.now c.loop-w.j _ c.byte_at.ensures c.loop-w-test.true).1)

pub loop-w-smaller : goal.loop-w-smaller
unfolding word_end_at
loop-w-smaller c = let entry = c.args in omega (
  arith,
  (space_here
      entry.line.now c.loop-w.j _ c.byte_at.ensures
      c.loop-w-test.true).1,
  word_after entry.line.now
      c.loop-w.j,
  c.word_end-j.ensures,
)

pub loop-w-preserved : goal.loop-w-preserved
unfolding purpose_of word_end_at
loop-w-preserved c d N = gathered_more _ c.args.line.now
    c.args.at
    c.loop-w.j _ _ _ _ (c.loop-w.invariant d N)
    (space_here c.args.line.now c.loop-w.j _ c.byte_at.ensures c.loop-w-test.true).0
    (c.number-p.ensures ∙ ap or_zero (c.find_purpose.ensures.0 _ N))
    (subst (λ n. n < limit) (sym c.number-p.ensures) (found_small c.find_purpose.result c.args.k c.find_purpose.ensures.1 N.few))
    c.insert-more.ensures
    c.word_end-j.ensures

pub returns : goal.returns
returns c d N = let entry = c.args in gathered_all _ entry.line.now entry.at c.loop-w.j _ (c.loop-w.invariant d N) (λ e. c.loop-w-test.false (c.byte_at.ensures ∙ e))
