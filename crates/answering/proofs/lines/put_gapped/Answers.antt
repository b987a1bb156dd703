-- `answering::lines::put_gapped` meets its contract. The loop's invariant: to write the values from column i on comes to the
-- same as to write them all at the start, and the sizes that are kept are those of the values. Assumes nothing.
use Prim.Native.Nat.{◌+◌, ◌-◌}
use Rattle.answer.specs.Exactly.{with_gaps}
use Rattle.answering.proofs.LineLaws.{gapped_at, sizes_none, spaced_more, spaced_none, wrote_as}
use Rattle.answering.specs.Lines.{spaced_values, values_in}
use Rattle.judging.specs.Marking.{open_in, open_under}
use Rattle.judging.specs.declared.marking.Marking.{Marking}
use Rattle.relations.specs.Rows.{labels_in}
use Rattle.writing.proofs.Writing as w
use borrow.Author.Rules.{rules}
use lib.ListN.{drop, get_or}
use mathlib.Core.List.{[], ◌∷◌}
use mathlib.Core.Path.{ap, refl}
use native.Mathlib.Omega.{arith}
use Rattle.answering.proofs.lines.put_gapped.Goals as goal

pub loop-i-init : goal.loop-i-init
loop-i-init c = (sizes_none _ 16, refl, λ f. w.start _ _ _)

pub put_cell-to-requires : goal.put_cell-to-requires
put_cell-to-requires c = c.requires

pub loop-i-preserved : goal.loop-i-preserved
loop-i-preserved c = let a = c.args in
    let l = c.loop-i in
    let n = c.put_cell-to.ensures l.invariant.0 in (
      n.1,
      search rules,
      λ f.
          let o = open_under a.said.now c.under_row-own.result (labels_in a.rows.now a.r) in
          let vs = with_gaps o 0 (values_in a.text.now a.rows.now a.r a.width) in
          w.step (32 ∷ get_or vs (get_or a.columns.now l.i 0) []) (spaced_values (drop (l.i + 1) a.columns.now) vs) (l.invariant.2 f) (spaced_more vs a.columns.now l.i c.loop-i-test.true)
          (w.both c.put_byte-next.ensures (wrote_as (gapped_at o (values_in a.text.now a.rows.now a.r a.width) (get_or a.columns.now l.i 0) c.cell_open-shown.result (c.cell_open-shown.ensures c.requires.0 f)) n.0)),
    )

pub shape_of-out : goal.shape_of-out
shape_of-out c = c.loop-i.invariant.1

pub returns : goal.returns
unfolding open_in
returns c = let a = c.args in
    λ f.
    let labels = labels_in a.rows.now a.r in
    let values = values_in a.text.now a.rows.now a.r a.width in
    wrote_as (ap (λ (x : Marking). spaced_values a.columns.now (with_gaps (open_under a.said.now x labels) 0 values)) (c.under_row-own.ensures c.requires.0 f))
    (w.done (c.loop-i.invariant.2 f) (spaced_none (with_gaps (open_under a.said.now c.under_row-own.result labels) 0 values) a.columns.now c.loop-i.i c.loop-i-test.false))
