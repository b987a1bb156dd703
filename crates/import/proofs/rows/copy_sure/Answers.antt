-- `import::rows::copy_sure` meets its contract. The loop's invariant: to write the plain bytes from the loop's place on comes to the
-- same as to write them all at the start, and both places went on by as much. Assumes nothing.
use Prim.Native.Nat.{◌<◌}
use Rattle.import.proofs.CopyLaws.{copy_more, copy_part, copy_start}
use Rattle.csv_text.proofs.FieldLaws.{plain_stop}
use Rattle.writing.proofs.Writing.{wrote_byte}
use lib.ListN.{length}
use mathlib.Core.Path.{◌∙◌, refl, sym}
use native.Mathlib.Omega.{arith}
use Rattle.import.proofs.rows.copy_sure.Goals as goal

pub loop-i-init : goal.loop-i-init
loop-i-init c = (copy_start _ _ _ _, omega arith, refl)

pub bounds-s-i : goal.bounds-s-i
bounds-s-i c = omega (arith, c.loop-i-test.true, c.requires.inside (omega (arith, c.loop-i-test.true, c.loop-i.invariant.1)))

pub shape_of-out-then-not-is_plain : goal.shape_of-out-then-not-is_plain
shape_of-out-then-not-is_plain c = c.loop-i.invariant.0.ahead.kept

pub returns-then-not-is_plain : goal.returns-then-not-is_plain
returns-then-not-is_plain c = let entry = c.args in
    let h : c.loop-i.i < length entry.s.now = omega (arith, c.loop-i-test.true, c.requires.inside (omega (arith, c.loop-i-test.true, c.loop-i.invariant.1))) in
    copy_part entry.s.now entry.at c.loop-i.invariant.0 entry.end (λ k. plain_stop entry.s.now c.loop-i.i h (sym c.is_plain.ensures ∙ c.if-not-is_plain.true))

pub bounds-s-i-in-loop-i : goal.bounds-s-i-in-loop-i
bounds-s-i-in-loop-i c = omega (arith, c.loop-i-test.true, c.requires.inside (omega (arith, c.loop-i-test.true, c.loop-i.invariant.1)))

pub bounds-out-t : goal.bounds-out-t
bounds-out-t c = omega (arith, c.loop-i-test.true, c.loop-i.invariant.1, c.loop-i.invariant.2, c.loop-i.invariant.0.ahead.kept, c.requires.fits (omega (arith, c.loop-i-test.true, c.loop-i.invariant.1)))

pub overflow_add-t : goal.overflow_add-t
overflow_add-t c = omega (arith, c.loop-i-test.true, c.loop-i.invariant.1, c.loop-i.invariant.2, c.loop-i.invariant.0.ahead.kept, c.requires.fits (omega (arith, c.loop-i-test.true, c.loop-i.invariant.1)))

pub overflow_add-i : goal.overflow_add-i
overflow_add-i c = omega arith

pub loop-i-smaller : goal.loop-i-smaller
loop-i-smaller c = omega arith

pub loop-i-preserved : goal.loop-i-preserved
loop-i-preserved c = let entry = c.args in
    let h : c.loop-i.i < length entry.s.now = omega (arith, c.loop-i-test.true, c.requires.inside (omega (arith, c.loop-i-test.true, c.loop-i.invariant.1))) in
    (copy_more entry.s.now entry.at c.loop-i.invariant.0 h (sym c.is_plain.ensures ∙ c.if-not-is_plain.false) (wrote_byte _ _ _), omega (arith, c.loop-i.invariant.1), omega (arith, c.loop-i.invariant.2))

pub shape_of-out : goal.shape_of-out
shape_of-out c = c.loop-i.invariant.0.ahead.kept

pub returns : goal.returns
returns c = let entry = c.args in copy_part entry.s.now entry.at c.loop-i.invariant.0 entry.end (λ k. absurd (omega (arith, k, c.loop-i-test.false)))
