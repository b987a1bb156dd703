-- `walks::cells::take_values` meets its contract. The loop's invariant: the values that were passed are of their columns' types and
-- stored, and the others are left. Assumes nothing.
use Prim.Native.Nat.{◌-◌}
use mathlib.Core.Path.{◌∙◌, subst, sym}
use native.Mathlib.Omega.{arith}
use Rattle.condition.specs.Answers.{kind_of}
use Rattle.document.specs.Lookup.{columns_at}
use Rattle.walks.proofs.ValueTurns.{all_values_passed, no_values_passed, values_turn}
use Rattle.walks.specs.Walked.{ValuesWalked}
use Rattle.text.proofs.Spaces.{space_here}
use Rattle.walks.proofs.cells.take_values.Goals as goal

pub loop-m-init : goal.loop-m-init
loop-m-init c = (omega arith, λ rs h. h, λ d count marks ls l T i w small h. no_values_passed c.args.line.now c.args.n (columns_at d c.args.x) c.args.is h)

pub returns-then-byte_at-ne32 : goal.returns-then-byte_at-ne32
returns-then-byte_at-ne32 c = (c.loop-m.invariant.1, λ d count marks ls l T i w small h. tt)

pub overflow_add-v : goal.overflow_add-v
overflow_add-v c = omega (arith, (space_here c.args.line.now c.loop-m.j _ c.byte_at.ensures c.if-byte_at-ne32.false).1)

pub returns-in_err-e : goal.returns-in_err-e
returns-in_err-e c = (c.loop-m.invariant.1, λ d count marks ls l T i w small h. subst (ValuesWalked _ _ _ _ _ _ _ _ _ _) (sym c.from_residual.ensures) tt)

pub loop-m-preserved : goal.loop-m-preserved
loop-m-preserved c = let entry = c.args in (
  omega (arith, c.loop-m-test.true),
  λ rs h. c.set_value.ensures.kept
      entry.text.now
      entry.k rs (omega arith)
      (c.loop-m.invariant.1 rs h),
  λ d count marks ls l T i w small h. values_turn d T i w
      entry.is
      c.loop-m.j (kind_of
      c.column_kind-kind.result) l small
      c.loop-m-test.true (space_here
      entry.line.now
      c.loop-m.j _
      c.byte_at.ensures
      c.if-byte_at-ne32.false)
      c.column_kind-kind.ensures (sym
      c.typed_end.ensures ∙ c.in_ok-e.was)
      c.place-pos.ensures c.set_value.ensures
      (c.loop-m.invariant.2 d count marks ls l T i w small h),
)

pub returns : goal.returns
returns c = (c.loop-m.invariant.1, λ d count marks ls l T i w small h. all_values_passed (omega (arith, c.loop-m.invariant.0, c.loop-m-test.false)) (c.loop-m.invariant.2 d count marks ls l T i w small h))
