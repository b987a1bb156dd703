-- `checker::loading::load_lines` meets its contract. The loop's invariant: the workspace holds the document of the lines before the
-- position, and the check of the text is the check from there on. Assumes nothing.
use Prim.Native.Nat.{◌<◌}
use lib.ListN.{length}
use mathlib.Core.Path.{◌∙◌}
use native.Mathlib.Omega.{arith}
use Rattle.checker.proofs.Turns.{begins, goes_on, line_from, line_length_lem, line_placed, loads_accepted, loads_refused, open_moved, text_fits, turn_fails, turn_none, turn_open}
use Rattle.checker.proofs.loading.load_lines.Goals.{After-step_line}
use Rattle.checker.proofs.loading.load_lines.Goals as goal

pub loop-at-init : goal.loop-at-init
loop-at-init c = begins _ _ _ _ _ _ _ _ _ _ _

pub overflow_sub-result : goal.overflow_sub-result
overflow_sub-result c = omega (arith, c.loop-at-test.true)

pub returns-then-e-text : goal.returns-then-e-text
returns-then-e-text c small = let entry = c.args in
    let I = c.loop-at.invariant in
    loads_refused _
    (text_fits _ small ∙ I.rest ∙ turn_open entry.text.now c.loop-at.at
    c.line_end-e.result c.line_end-e.ensures I.doc c.loop-at.n
    c.loop-at-test.true (omega (arith, c.if-e-text.true)))
    (open_moved entry.text.now c.loop-at.at c.line_end-e.result c.line_end-e.ensures I.within)

pub slice_bounds-line-count : goal.slice_bounds-line-count
slice_bounds-line-count c = omega (arith, line_from c.args.text.now c.loop-at.at c.line_end-e.result c.line_end-e.ensures)

pub slice_bounds-line-start : goal.slice_bounds-line-start
slice_bounds-line-start c = line_from c.args.text.now c.loop-at.at c.line_end-e.result c.line_end-e.ensures

pub slice_bounds-line-end : goal.slice_bounds-line-end
slice_bounds-line-end c = c.line_end-e.ensures.within c.loop-at.invariant.within

-- the line has its line feed
fed :
    (c : After-step_line) → c.line_end-e.result < length
    c.args.text.now
fed c = omega (
  arith,
  c.if-e-text.false,
  c.line_end-e.ensures.within
      c.loop-at.invariant.within,
)

pub refusal_of-requires : goal.refusal_of-requires
refusal_of-requires c = let entry = c.args in
    let I = c.loop-at.invariant in
    let F = c.step_line.ensures I.doc (line_placed
    entry.text.now
    c.loop-at.at
    c.line_end-e.result
    c.line_end-e.ensures
    (fed (goal.at.refusal_of-requires c).After-step_line)) I.held I.unique in (
      omega (
        arith,
        line_length_lem
            entry.text.now
            c.loop-at.at
            c.line_end-e.result
            c.line_end-e.ensures
            I.within,
        line_from
            entry.text.now
            c.loop-at.at
            c.line_end-e.result
            c.line_end-e.ensures,
        fed
            (goal.at.refusal_of-requires c).After-step_line,
        c.well_formed.0.0,
      ),
      (F.fails _
          c.in-Err.is).reaches,
    )

pub returns-in-Err : goal.returns-in-Err
returns-in-Err c small = let entry = c.args in
    let I = c.loop-at.invariant in
    let F = c.step_line.ensures I.doc (line_placed
    entry.text.now
    c.loop-at.at
    c.line_end-e.result
    c.line_end-e.ensures
    (fed (goal.at.returns-in-Err c).After-step_line)) I.held I.unique in
    loads_refused c.refusal_of.result
    (text_fits _ small ∙ I.rest ∙ turn_fails
    entry.text.now
    c.loop-at.at
    c.line_end-e.result
    c.line_end-e.ensures
    I.doc
    c.loop-at.n
    (fed (goal.at.returns-in-Err c).After-step_line) _ (F.fails _ c.in-Err.is).is)
    c.refusal_of.ensures

pub overflow_add-at : goal.overflow_add-at
overflow_add-at c = omega (arith, fed (goal.at.overflow_add-at c).After-step_line, c.well_formed.0.0)

pub overflow_add-n : goal.overflow_add-n
overflow_add-n c = omega (arith, c.loop-at.invariant.few, c.loop-at-test.true, c.well_formed.0.0)

pub loop-at-smaller : goal.loop-at-smaller
loop-at-smaller c = omega (
  arith,
  line_from
      c.args.text.now
      c.loop-at.at
      c.line_end-e.result
      c.line_end-e.ensures,
  fed
      (goal.at.loop-at-smaller c).After-step_line,
)

pub loop-at-preserved : goal.loop-at-preserved
loop-at-preserved c = let I = c.loop-at.invariant in
    let F = c.step_line.ensures I.doc (line_placed
    c.args.text.now
    c.loop-at.at
    c.line_end-e.result
    c.line_end-e.ensures
    (fed (goal.at.loop-at-preserved c).After-step_line)) I.held I.unique in
    goes_on
    c.line_end-e.result I
    c.line_end-e.ensures
    (fed (goal.at.loop-at-preserved c).After-step_line) (F.goes _ c.in-Ok.is)

pub returns : goal.returns
returns c small = let I = c.loop-at.invariant in loads_accepted (record { what = I.doc; is = text_fits _ small ∙ I.rest ∙ turn_none c.args.text.now c.loop-at.at c.loop-at-test.false I.doc c.loop-at.n; held = I.held; small = small })
