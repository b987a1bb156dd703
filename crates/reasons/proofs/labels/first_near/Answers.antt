-- `reasons::labels::first_near` meets its contract. The loop's invariant: the first that is near from the start on is the first from the loop's place on. Assumes nothing.
use Prim.Native.Nat.{◌-◌, ◌+◌}
use Rattle.document.specs.Lookup.{purpose_of}
use Rattle.reasons.proofs.NearLaws.{near_found, near_here, near_on, near_stop}
use Rattle.text.proofs.Spaces.{space_here}
use Rattle.text.specs.Words.{word_of}
use Rattle.workspace.specs.Found.{found_as}
use mathlib.Core.Path.{◌∙◌, refl, sym}
use native.Mathlib.Omega.{arith}
use Rattle.reasons.proofs.labels.first_near.Goals as goal

pub loop-closure-init : goal.loop-closure-init
loop-closure-init c = λ d p N C. refl

pub overflow_add-w : goal.overflow_add-w
overflow_add-w c = omega (arith, (space_here c.args.text.now c.loop-closure.j _ c.byte_at.ensures c.loop-closure-test.true).1)

pub returns-then-is_near : goal.returns-then-is_near
unfolding purpose_of
returns-then-is_near c = let a = c.args in
    let j = c.loop-closure.j in
    λ d p N C. sym (near_here d p a.text.now j (space_here a.text.now j _ c.byte_at.ensures c.loop-closure-test.true).0
    (sym (near_found d p a.closure C (word_of a.text.now (j + 1)) (found_as c.find_purpose.result) (c.find_purpose.ensures.0 d.purposes N) c.is_near.result c.is_near.ensures) ∙ c.if-is_near.true)) ∙ c.loop-closure.invariant d p N C

pub loop-closure-smaller : goal.loop-closure-smaller
loop-closure-smaller c = omega (arith, (space_here c.args.text.now c.loop-closure.j _ c.byte_at.ensures c.loop-closure-test.true).1, c.word_end-j.ensures)

pub loop-closure-preserved : goal.loop-closure-preserved
unfolding purpose_of
loop-closure-preserved c = let a = c.args in
    let j = c.loop-closure.j in
    λ d p N C. near_on d p a.text.now j c.word_end-j.result c.word_end-j.ensures (space_here a.text.now j _ c.byte_at.ensures c.loop-closure-test.true).0
    (sym (near_found d p a.closure C (word_of a.text.now (j + 1)) (found_as c.find_purpose.result) (c.find_purpose.ensures.0 d.purposes N) c.is_near.result c.is_near.ensures) ∙ c.if-is_near.false) ∙ c.loop-closure.invariant d p N C

pub returns : goal.returns
returns c = λ d p N C. sym (near_stop d p c.args.text.now c.loop-closure.j (λ z. c.loop-closure-test.false (c.byte_at.ensures ∙ z))) ∙ c.loop-closure.invariant d p N C
