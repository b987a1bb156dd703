-- `rows::faults::first_mistyped` meets its contract. The loop's invariant: the first value of the wrong type is the first among
-- those left. Assumes nothing.
use Prim.Native.Nat.{◌+◌, ◌-◌, ◌≤◌, ℕ}
use lib.ListN.{drop, length}
use mathlib.Core.Path.{◌∙◌, ap, refl, subst, sym}
use native.Mathlib.Omega.{arith}
use Rattle.condition.specs.Answers.{kind_of}
use Rattle.document.specs.Lookup.{columns_at}
use Rattle.document.specs.TypeFaults.{mistyped_value}
use Rattle.rows.specs.RowWords.{values_at}
use Rattle.form.proofs.WalkLaws.{place_within}
use Rattle.relations.proofs.TableLaws.{width_read}
use Rattle.text.proofs.Spaces.{space_here}
use Rattle.rows.proofs.RowChecks.{no_columns_left, no_values_left, types_here, types_on}
use Rattle.rows.proofs.faults.first_mistyped.Goals as goal

pub loop-c-init : goal.loop-c-init
loop-c-init c = λ text k d h l. refl

pub returns-then-byte_at-ne32 : goal.returns-then-byte_at-ne32
returns-then-byte_at-ne32 c = let entry = c.args in (
  λ text k d h l. sym (c.loop-c.invariant text k d h l ∙ no_values_left
      (drop c.loop-c.c (columns_at d entry.t))
      entry.line.now c.loop-c.i
      (λ z. c.if-byte_at-ne32.true (c.byte_at.ensures ∙ z))),
  tt,
)

pub overflow_add-i : goal.overflow_add-i
overflow_add-i c = omega (arith, (space_here c.args.line.now c.loop-c.i _ c.byte_at.ensures c.if-byte_at-ne32.false).1)

pub returns-then-not-typed : goal.returns-then-not-typed
returns-then-not-typed c = let entry = c.args in
    let s = entry.line.now in
    let i = c.loop-c.i in
    let e = space_here s i _ c.byte_at.ensures c.if-byte_at-ne32.false in (
      (λ text k d h l. sym (c.loop-c.invariant text k d h l
          ∙ types_here text entry.tables.now k
          entry.t d h l
          c.table_width-n.result
          c.table_width-n.ensures s
          c.loop-c.c i
          c.loop-c-test.true e.0 (kind_of c.column_kind-kind.result)
          c.column_kind-kind.ensures
          c.value_place-v.result c.value_place-v.ensures c.typed.result c.typed.ensures c.if-not-typed.true)),
      subst (λ (v : ℕ). v ≤ length s) (sym c.value_place-v.ensures) (place_within s (i + 1) (omega (arith, e.1))),
    )

pub overflow_add-i-in-loop-c : goal.overflow_add-i-in-loop-c
overflow_add-i-in-loop-c c = omega (
  arith,
  (space_here c.args.line.now
      c.loop-c.i _ c.byte_at.ensures
      c.if-byte_at-ne32.false).1,
)

pub loop-c-preserved : goal.loop-c-preserved
loop-c-preserved c = let entry = c.args in
    let s = entry.line.now in
    let i = c.loop-c.i in
    let e = space_here s i _ c.byte_at.ensures c.if-byte_at-ne32.false in
    λ text k d h l. c.loop-c.invariant text k d h l
    ∙ types_on text entry.tables.now k
    entry.t d h l
    c.table_width-n.result
    c.table_width-n.ensures s
    c.loop-c.c i
    c.loop-c-test.true e.0 (kind_of c.column_kind-kind.result)
    c.column_kind-kind.ensures
    c.value_place-v.result c.value_place-v.ensures c.typed.result c.typed.ensures c.if-not-typed.false
    ∙ ap (λ j. mistyped_value (drop (c.loop-c.c + 1) (columns_at d entry.t)) (values_at s j)) (sym c.item_end_at-i.ensures)

pub returns : goal.returns
returns c = let entry = c.args in (
  λ text k d h l. sym (c.loop-c.invariant text k d h l ∙ no_columns_left (columns_at d entry.t) c.loop-c.c (values_at entry.line.now c.loop-c.i)
      (omega (arith, width_read text entry.tables.now k entry.t d h l c.table_width-n.result c.table_width-n.ensures, c.loop-c-test.false))),
  tt,
)
