-- `walks::cells::take_cells` meets its contract. The loop's invariant: the rows before this one stay, and the cells that were passed
-- are read, judged and stored. Assumes nothing.
use Prim.Native.Nat.{◌+◌, ◌-◌}
use mathlib.Core.Path.{◌∙◌, ◌≡◌, subst, sym}
use native.Mathlib.Omega.{arith}
use Rattle.condition.specs.Answers.{kind_of}
use Rattle.walks.proofs.CellTurns.{all_cells_passed, cells_turn, label_at, no_cells_passed}
use Rattle.walks.specs.Walked.{CellsWalked}
use Rattle.text.proofs.Lefts.{before_end}
use Rattle.text.proofs.Spaces.{space_here}
use Rattle.walks.proofs.cells.take_cells.Goals as goal

pub loop-c-init : goal.loop-c-init
loop-c-init c = (omega arith, omega arith, λ rs h. h, λ d count sets ls l N T b w small h. no_cells_passed h)

pub returns-then-byte_at-ne32 : goal.returns-then-byte_at-ne32
returns-then-byte_at-ne32 c = (c.loop-c.invariant.2, λ d count sets ls l N T b w small h. tt)

pub overflow_add-j : goal.overflow_add-j
overflow_add-j c = omega (arith, (space_here c.args.line.now c.loop-c.j _ c.byte_at.ensures c.if-byte_at-ne32.false).1)

pub returns-then-byte_at-ne40 : goal.returns-then-byte_at-ne40
returns-then-byte_at-ne40 c = (c.loop-c.invariant.2, λ d count sets ls l N T b w small h. tt)

pub overflow_add-v : goal.overflow_add-v
overflow_add-v c = omega (arith, before_end c.args.line.now (c.loop-c.j + 1) (λ z. absurd (omega (arith, z, c.byte_at-in-loop-c.ensures, c.if-byte_at-ne40.false))))

pub returns-in_err-e : goal.returns-in_err-e
returns-in_err-e c = (c.loop-c.invariant.2, λ d count sets ls l N T b w small h. subst (CellsWalked _ _ _ _ _ _ _ _ _ _ _) (sym c.from_residual.ensures) tt)

pub overflow_add-m : goal.overflow_add-m
overflow_add-m c = omega (arith, c.loop-c-test.true, c.requires, c.ranges.n)

pub returns-in_err-f : goal.returns-in_err-f
returns-in_err-f c = (
  λ rs h. c.take_label.ensures.0 rs
      (c.set_value.ensures.kept _ _ rs (omega arith) (c.loop-c.invariant.2 rs h)),
  λ d count sets ls l N T b w small h. subst (CellsWalked _ _ _ _ _ _ _ _ _ _ _) (sym c.from_residual-in_err-f.ensures) tt,
)

pub returns-then-byte_at-ne41 : goal.returns-then-byte_at-ne41
returns-then-byte_at-ne41 c = (
  λ rs h. c.take_label.ensures.0 rs
      (c.set_value.ensures.kept _ _ rs (omega arith)
      (c.loop-c.invariant.2 rs h)),
  λ d count sets ls l N T b w small h. tt,
)

pub overflow_add-j-in-loop-c : goal.overflow_add-j-in-loop-c
overflow_add-j-in-loop-c c = omega (
  arith,
  before_end
      c.args.line.now
      c.in_ok-f.f
      (λ z. absurd (omega (arith, z, c.byte_at-in-loop-c-2.ensures, c.if-byte_at-ne41.false))),
  c.loop-c.invariant.1,
)

pub loop-c-preserved : goal.loop-c-preserved
loop-c-preserved c = (
  omega (arith, c.loop-c-test.true),
  c.loop-c.invariant.1,
  λ rs h. c.take_label.ensures.0 rs
      (c.set_value.ensures.kept _ _ rs (omega arith) (c.loop-c.invariant.2 rs h)),
  λ d count sets ls l N T b w small h.
      cells_turn d T b w ls c.args.is c.loop-c.j (kind_of c.column_kind-kind.result) l small c.requires c.loop-c-test.true (sym c.byte_at.ensures ∙ c.if-byte_at-ne32.false) (sym c.byte_at-in-loop-c.ensures ∙ c.if-byte_at-ne40.false) c.column_kind-kind.ensures
      (sym c.typed_end.ensures ∙ c.in_ok-e.was)
      c.place-pos.ensures
      c.set_value.ensures
      (label_at c.in_ok-f.was (c.take_label.ensures.1 d sets N))
      (sym c.byte_at-in-loop-c-2.ensures ∙ c.if-byte_at-ne41.false)
      (c.loop-c.invariant.3 d count sets ls l N T b w small h),
)

pub returns : goal.returns
returns c = let q : c.loop-c.c ≡ c.args.n = omega (arith, c.loop-c-test.false, c.loop-c.invariant.0) in
    (c.loop-c.invariant.2, λ d count sets ls l N T b w small h. all_cells_passed q (c.loop-c.invariant.3 d count sets ls l N T b w small h))
