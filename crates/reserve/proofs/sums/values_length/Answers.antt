-- `reserve::sums::values_length` meets its contract. The loop's invariant: the sum is that of the first c values. Assumes nothing.
use Prim.Native.Nat.{◌-◌}
use lib.ListN.{length}
use mathlib.Core.Path.{◌∙◌, ◌≡◌, ap, sym}
use native.Mathlib.Omega.{arith}
use Rattle.form.specs.RowText.{spaced}
use Rattle.relations.specs.Rows.{value_in}
use Rattle.reserve.proofs.SumLaws.{values_more, values_none}
use Rattle.workspace.specs.Tabulated.{tabulated}
use Rattle.reserve.proofs.sums.values_length.Goals as goal

pub loop-c-init : goal.loop-c-init
loop-c-init c = (omega arith, sym (values_none (value_in c.args.text.now c.args.rows.now c.args.r)), omega arith)

pub overflow_add-sum : goal.overflow_add-sum
overflow_add-sum c = omega (arith, c.value_length.ensures.1, c.requires.0)

pub overflow_add-sum-in-loop-c : goal.overflow_add-sum-in-loop-c
overflow_add-sum-in-loop-c c = omega (arith, c.value_length.ensures.1, c.requires.0, c.loop-c.invariant.0, c.loop-c.invariant.2, c.requires.2)

pub loop-c-preserved : goal.loop-c-preserved
loop-c-preserved c = let f = value_in c.args.text.now c.args.rows.now c.args.r in
    let l = c.loop-c in
    let v = c.value_length.ensures.0 c.requires.1 (omega (arith, c.loop-c-test.true, c.requires.2)) in
    (omega (arith, c.loop-c-test.true), omega (arith, l.invariant.1, v, values_more f l.c), omega (arith, l.invariant.2, c.value_length.ensures.1, c.requires.0))

pub returns : goal.returns
returns c = let e : c.loop-c.c ≡ c.args.width = omega (arith, c.loop-c.invariant.0, c.loop-c-test.false) in
    (c.loop-c.invariant.1 ∙ ap (λ k. length (spaced (tabulated (value_in c.args.text.now c.args.rows.now c.args.r) k))) e, omega (arith, c.loop-c.invariant.2, c.loop-c.invariant.0, c.requires.2))
