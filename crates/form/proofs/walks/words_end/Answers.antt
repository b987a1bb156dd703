-- `form::walks::words_end` meets its contract. The loop's invariant: the words from the loop's place on end where those from the start end.
-- Assumes nothing.
use mathlib.Core.Path.{◌∙◌, ap, refl, sym}
use native.Mathlib.Omega.{arith}
use Rattle.form.proofs.WalkLaws.{walk_end_more, walk_end_stop}
use Rattle.form.proofs.WalkSteps.{word_after}
use Rattle.form.specs.Walks.{list_end_at}
use Rattle.text.proofs.Spaces.{space_here}
use Rattle.text.proofs.WalkingLaws.{word_forward}
use Rattle.text.specs.Walking.{word_end_at}
use Rattle.form.proofs.walks.words_end.Goals as goal

pub loop-j-init : goal.loop-j-init
loop-j-init c = refl

pub overflow_add-j : goal.overflow_add-j
overflow_add-j c = omega (arith, (space_here c.args.line.now c.loop-j.j _ c.byte_at.ensures c.loop-j-test.true).1)

pub loop-j-smaller : goal.loop-j-smaller
unfolding word_end_at
loop-j-smaller c = omega (arith, (space_here c.args.line.now c.loop-j.j _ c.byte_at.ensures c.loop-j-test.true).1, word_after c.args.line.now c.loop-j.j, c.word_end-j.ensures)

pub loop-j-preserved : goal.loop-j-preserved
unfolding word_end_at
loop-j-preserved c = ap (list_end_at word_end_at c.args.line.now) c.word_end-j.ensures
    ∙ sym (walk_end_more word_end_at c.args.line.now (word_forward c.args.line.now) c.loop-j.j (space_here c.args.line.now c.loop-j.j _ c.byte_at.ensures c.loop-j-test.true).0)
    ∙ c.loop-j.invariant

pub returns : goal.returns
returns c = sym (walk_end_stop word_end_at c.args.line.now (word_forward c.args.line.now) c.loop-j.j (λ e. c.loop-j-test.false (c.byte_at.ensures ∙ e))) ∙ c.loop-j.invariant
