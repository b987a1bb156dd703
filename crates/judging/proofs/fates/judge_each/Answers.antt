-- `judging::fates::judge_each` meets its contract. The loop's invariant: the rows gone through are judged. Assumes nothing.
use Prim.Native.Nat.{◌-◌, ℕ}
use Rattle.judging.proofs.FateLaws.{fewer_more, judged_more, judged_none}
use Rattle.judging.specs.Judging.{JudgedTo}
use Rattle.relations.specs.Rows.{row_in}
use lib.ListN.{length-set}
use mathlib.Core.Path.{◌∙◌, ◌≡◌, refl, subst}
use native.Mathlib.Omega.{arith}
use Rattle.judging.proofs.fates.judge_each.Goals as goal

pub loop-r-init : goal.loop-r-init
loop-r-init c = let a = c.args in (omega arith, refl, record { passed = omega arith; withheld = omega arith; unmatched = omega arith }, λ d q jd. judged_none d q (row_in a.text.now a.rows.now) a.marks.now)

pub fate_of-f-requires : goal.fate_of-f-requires
fate_of-f-requires c = let h = c.requires in (h.0, h.1, h.4)

pub bounds-marks-r : goal.bounds-marks-r
bounds-marks-r c = omega (arith, c.loop-r.invariant.1, c.requires.3)

pub count_row-x-requires : goal.count_row-x-requires
count_row-x-requires c = omega (arith, c.loop-r.invariant.2.passed, c.loop-r.invariant.2.withheld, c.loop-r.invariant.2.unmatched, c.requires.2)

pub loop-r-preserved : goal.loop-r-preserved
loop-r-preserved c = let a = c.args in
    let l = c.loop-r in (
      omega arith,
      length-set l.marks l.r _ ∙ l.invariant.1,
      fewer_more l.r l.x _ c.fate_of-f.result l.invariant.2
          c.count_row-x.ensures,
      λ d q jd. judged_more d q (row_in a.text.now a.rows.now) l.r l.marks l.x
          (omega (arith, c.loop-r.invariant.1, c.requires.3))
          (l.invariant.3 d q jd) c.fate_of-f.result
          (c.fate_of-f.ensures a.count d q jd c.loop-r-test.true) c.is_passed.result
          c.is_passed.ensures _ c.count_row-x.ensures,
    )

pub shape_of-marks : goal.shape_of-marks
shape_of-marks c = c.loop-r.invariant.1

pub returns : goal.returns
returns c = let a = c.args in
    let l = c.loop-r in
    let e : c.loop-r.r ≡ c.args.count = omega arith in
    λ d q jd. subst (λ (k : ℕ). JudgedTo d q (row_in a.text.now a.rows.now) k l.marks l.x) e (l.invariant.3 d q jd)
