-- `import::rows::copy_slowly` meets its contract. The loop's invariant: to write the plain bytes from the loop's place on comes to
-- the same as to write them all at the start. Assumes nothing.
use Rattle.import.proofs.CopyLaws.{copy_more, copy_none, copy_start, copy_stop}
use mathlib.Core.Path.{◌∙◌, refl, sym}
use native.Mathlib.Omega.{arith}
use Rattle.import.proofs.rows.copy_slowly.Goals as goal

pub loop-i-init : goal.loop-i-init
loop-i-init c = copy_start _ _ _ _

pub shape_of-out-then-not-is_plain : goal.shape_of-out-then-not-is_plain
shape_of-out-then-not-is_plain c = c.loop-i.invariant.ahead.kept

pub returns-then-not-is_plain : goal.returns-then-not-is_plain
returns-then-not-is_plain c = let entry = c.args in copy_stop entry.s.now entry.at c.loop-i.invariant c.loop-i-test.true (sym c.is_plain.ensures ∙ c.if-not-is_plain.true) _ refl refl

pub overflow_add-i : goal.overflow_add-i
overflow_add-i c = omega arith

pub loop-i-smaller : goal.loop-i-smaller
loop-i-smaller c = omega arith

pub loop-i-preserved : goal.loop-i-preserved
loop-i-preserved c = let entry = c.args in copy_more entry.s.now entry.at c.loop-i.invariant c.loop-i-test.true (sym c.is_plain.ensures ∙ c.if-not-is_plain.false) c.put_byte-t.ensures

pub shape_of-out : goal.shape_of-out
shape_of-out c = c.loop-i.invariant.ahead.kept

pub returns : goal.returns
returns c = let entry = c.args in copy_none entry.s.now entry.at c.loop-i.invariant c.loop-i-test.false _ refl refl
