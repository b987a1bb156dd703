-- `tables::words::first_unknown_purpose` meets its contract. The loop's invariant: what is unknown from the start on is what is unknown from
-- the loop's place on. Assumes nothing.
use Prim.Native.Nat.{◌-◌}
use mathlib.Core.Path.{◌∙◌, refl, sym}
use native.Mathlib.Omega.{arith}
use Rattle.stepping.proofs.FoundLaws.{found_absent, found_there, is_none_false, is_none_true}
use Rattle.tables.proofs.NameWalks.{unknown_here, unknown_on, unknown_stop}
use Rattle.nodes.proofs.NodeFaults.{is_node}
use Rattle.text.proofs.Spaces.{space_here}
use Rattle.tables.proofs.words.first_unknown_purpose.Goals as goal

pub loop-v-init : goal.loop-v-init
loop-v-init c = λ ns h. refl

pub overflow_add-v : goal.overflow_add-v
overflow_add-v c = let s = c.args.line.now in
    let j = c.loop-v.j in
    omega (arith, (space_here s j _ c.byte_at.ensures c.loop-v-test.true).1)

pub returns-then-is_none : goal.returns-then-is_none
returns-then-is_none c = let s = c.args.line.now in
    let j = c.loop-v.j in (
      λ ns h. sym (unknown_here (is_node ns) s j
          (space_here s j _ c.byte_at.ensures c.loop-v-test.true).0
          (found_absent c.find_purpose.result _ (c.find_purpose.ensures.0 ns h) (is_none_true c.is_none.ensures c.if-is_none.true))) ∙ c.loop-v.invariant ns h,
      omega
          (arith, (space_here s j _ c.byte_at.ensures c.loop-v-test.true).1),
    )

pub loop-v-smaller : goal.loop-v-smaller
loop-v-smaller c = let s = c.args.line.now in
    let j = c.loop-v.j in
    omega (arith, (space_here s j _ c.byte_at.ensures c.loop-v-test.true).1, c.word_end-j.ensures)

pub loop-v-preserved : goal.loop-v-preserved
loop-v-preserved c = let s = c.args.line.now in
    let j = c.loop-v.j in
    let there = is_none_false c.is_none.ensures c.if-is_none.false in
    λ ns h. unknown_on (is_node ns) s j c.word_end-j.result c.word_end-j.ensures
    (space_here s j _ c.byte_at.ensures c.loop-v-test.true).0
    (found_there c.find_purpose.result _ (c.find_purpose.ensures.0 ns h) there.0 there.1) ∙ c.loop-v.invariant ns h

pub returns : goal.returns
returns c = let s = c.args.line.now in
    let j = c.loop-v.j in
    (λ ns h. sym (unknown_stop (is_node ns) s j (λ z. c.loop-v-test.false (c.byte_at.ensures ∙ z))) ∙ c.loop-v.invariant ns h, tt)
