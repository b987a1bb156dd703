-- `answering::lines::put_values` meets its contract. The loop's invariant: to write the values from column i on comes to the
-- same as to write them all at the start, and the sizes that are kept are those of the values. Assumes nothing.
use Prim.Native.Nat.{◌+◌, ◌-◌}
use lib.ListN.{drop, get_or, length}
use mathlib.Core.List.{[], ◌∷◌}
use mathlib.Core.Path.{◌∙◌, ap, sym}
use native.Mathlib.Omega.{arith}
use Rattle.answering.proofs.LineLaws.{sizes_none, spaced_more, spaced_none}
use Rattle.answering.specs.Lines.{spaced_values}
use Rattle.workspace.specs.Tabulated.{tabulated}
use Rattle.relations.specs.Rows.{value_in}
use Rattle.writing.proofs.Writing as w
use Rattle.answering.proofs.lines.put_values.Goals as goal

pub loop-i-init : goal.loop-i-init
loop-i-init c = (w.start _ _ _, sizes_none _ 16)

pub loop-i-preserved : goal.loop-i-preserved
loop-i-preserved c = let a = c.args in
    let l = c.loop-i in
    let vs = tabulated (value_in a.text.now a.rows.now a.r) a.width in
    let e = c.value_place-place.ensures c.requires.0 c.requires.1 in
    let n = c.value_size-size.ensures vs e l.invariant.1 in (
      w.step (32 ∷ get_or vs (get_or a.columns.now l.i 0) []) (spaced_values (drop (l.i + 1) a.columns.now) vs) l.invariant.0 (spaced_more vs a.columns.now l.i c.loop-i-test.true)
          (rw e at (w.both c.put_byte-next.ensures (c.put_sized-to.ensures (n.0 ∙ ap length (sym e))))),
      n.1,
    )

pub shape_of-out : goal.shape_of-out
shape_of-out c = c.loop-i.invariant.0.kept

pub returns : goal.returns
returns c = let a = c.args in w.done c.loop-i.invariant.0 (spaced_none (tabulated (value_in a.text.now a.rows.now a.r) a.width) a.columns.now c.loop-i.i c.loop-i-test.false)
