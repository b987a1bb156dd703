-- `answering::lines::put_marked` meets its contract. The loop's invariant: the lines of the first r rows are written.
-- Assumes nothing.
use Prim.Native.Nat.{◌-◌}
use borrow.Author.Rules.{rules}
use mathlib.Core.Path.{◌≡◌, refl, subst}
use native.Mathlib.Omega.{arith}
use Rattle.answering.proofs.LineLaws.{lines_more, lines_start}
use Rattle.answering.specs.Lines.{lines_marked, row_shown}
use Rattle.document.specs.Policy.{Doc}
use Rattle.relations.specs.Rows.{Rows}
use Rattle.writing.specs.Write.{Wrote}
use Rattle.answering.proofs.lines.put_marked.Goals as goal

pub loop-r-init : goal.loop-r-init
loop-r-init c = let a = c.args in
    (omega arith, refl, λ d h. lines_start (row_shown a.said.now a.m a.text.now a.rows.now a.gaps) a.columns.now a.marks.now a.out.now)

pub put_line-to-requires : goal.put_line-to-requires
put_line-to-requires c = omega arith

pub loop-r-preserved : goal.loop-r-preserved
loop-r-preserved c = let a = c.args in
    let l = c.loop-r in
    (omega arith, search rules, λ d h. lines_more (row_shown a.said.now a.m a.text.now a.rows.now a.gaps) a.columns.now a.marks.now l.r (l.invariant.2 d h) (c.put_line-to.ensures (h.narrow l.r c.loop-r-test.true) (h.marked l.r c.loop-r-test.true)))

pub shape_of-out : goal.shape_of-out
shape_of-out c = c.loop-r.invariant.1

pub returns : goal.returns
returns c = let e : c.loop-r.r ≡ c.args.count = omega arith in
    let a = c.args in
    subst (λ k. (d : Doc) → Rows a.text.now a.rows.now a.count d.rows → Wrote a.out.now 0 (lines_marked (row_shown a.said.now a.m a.text.now a.rows.now a.gaps) a.columns.now a.marks.now k) c.loop-r.out c.loop-r.to) e c.loop-r.invariant.2
