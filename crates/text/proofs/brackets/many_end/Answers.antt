-- `text::brackets::many_end` meets its contract. The loop's invariant: the items from the loop's place on end where those from the start
-- end. Assumes nothing.
use mathlib.Core.Path.{◌∙◌, refl, sym}
use native.Mathlib.Omega.{arith}
use Rattle.text.proofs.EndLaws.{list_less, list_more, list_wrong}
use Rattle.text.proofs.ItemLaws.{forward_goes, items_stop}
use Rattle.text.proofs.Spaces.{space_here}
use Rattle.text.proofs.brackets.many_end.Goals as goal

pub loop-i-init : goal.loop-i-init
loop-i-init g c = refl

pub overflow_add-i : goal.overflow_add-i
overflow_add-i g c = omega (arith, (space_here c.args.s.now c.loop-i.i _ c.byte_at.ensures c.loop-i-test.true).1)

pub returns-in_err-i : goal.returns-in_err-i
returns-in_err-i g c =
    let m = g.I.Item in
    c.from_residual.ensures ∙ list_wrong m.reader (forward_goes m.reader c.end.ensures.goes) _ c.loop-i.i c.byte_at.ensures c.loop-i-test.true c.end.ensures.ends c.in_err-i.was c.loop-i.invariant

pub loop-i-smaller : goal.loop-i-smaller
loop-i-smaller g c =
    let m = g.I.Item in
    list_less m.reader (forward_goes m.reader c.end.ensures.goes) _ c.loop-i.i c.byte_at.ensures c.loop-i-test.true c.end.ensures.ends c.in_ok-i.was

pub loop-i-preserved : goal.loop-i-preserved
loop-i-preserved g c =
    let m = g.I.Item in
    list_more m.reader (forward_goes m.reader c.end.ensures.goes) _ c.loop-i.i c.byte_at.ensures c.loop-i-test.true c.end.ensures.ends c.in_ok-i.was c.loop-i.invariant

pub returns : goal.returns
returns g c = sym (items_stop _ c.args.s.now c.loop-i.i (λ z. c.loop-i-test.false (c.byte_at.ensures ∙ z))) ∙ c.loop-i.invariant
