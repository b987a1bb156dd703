-- `tables::table_storing::store_columns` meets its contract. The loop's invariant: the columns that were passed are stored, and the others are
-- left. Assumes nothing.
use Prim.Native.Nat.{◌+◌, ◌-◌}
use mathlib.Core.List.{map}
use mathlib.Core.Path.{◌∙◌, ap}
use native.Mathlib.Omega.{arith}
use Rattle.document.specs.Meaning.{column_meant}
use Rattle.form.proofs.WalkSteps.{columns_stop, pair_after}
use Rattle.stepping.proofs.ColumnLaws.{columned_all, columned_none, pair_ends, plain_turn}
use Rattle.text.proofs.Spaces.{space_here}
use Rattle.text.specs.Walking.{past}
use Rattle.tables.proofs.table_storing.store_columns.Goals as goal

pub loop-j-init : goal.loop-j-init
loop-j-init c = (omega arith, λ l small few. columned_none _ _ _ _ _)

pub overflow_add-j : goal.overflow_add-j
overflow_add-j c = omega (arith, (space_here c.args.line.now c.loop-j.j _ c.byte_at.ensures c.loop-j-test.true).1)

pub overflow_add-c : goal.overflow_add-c
overflow_add-c c = omega (
  arith,
  (space_here
      c.args.line.now
      c.loop-j.j _
      c.byte_at.ensures
      c.loop-j-test.true).1,
  c.loop-j.invariant.0,
)

pub loop-j-smaller : goal.loop-j-smaller
loop-j-smaller c = let entry = c.args in omega (
  arith,
  (space_here entry.line.now c.loop-j.j _
      c.byte_at.ensures
      c.loop-j-test.true).1,
  pair_after entry.line.now
      c.loop-j.j,
  pair_ends entry.line.now
      (c.loop-j.j + 1) _ _ _
      c.skip_byte-w.ensures
      c.next_word-q.ensures
      (c.skip_byte-j.ensures ∙ ap (past 41 entry.line.now) c.word_end.ensures),
)

pub loop-j-preserved : goal.loop-j-preserved
loop-j-preserved c = let b = space_here c.args.line.now
    c.loop-j.j _
    c.byte_at.ensures
    c.loop-j-test.true in (
      omega (
        arith,
        b.1,
        c.loop-j.invariant.0,
        pair_after
            c.args.line.now
            c.loop-j.j,
        pair_ends
            c.args.line.now
            (c.loop-j.j + 1) _ _ _
            c.skip_byte-w.ensures
            c.next_word-q.ensures
            (c.skip_byte-j.ensures ∙ ap (past 41 c.args.line.now) c.word_end.ensures),
      ),
      λ l small few. plain_turn l c.loop-j.j _ _ _ _ _ b.0 b.1
          c.skip_byte-w.ensures
          c.next_word-q.ensures c.place-pos.ensures
          c.kind_at-kind.ensures
          c.args.cs
          (c.skip_byte-j.ensures ∙ ap (past 41 c.args.line.now) c.word_end.ensures)
          c.set_column.ensures small few
          (c.loop-j.invariant.1 l small few),
    )

pub returns : goal.returns
returns c l small few = let e = columns_stop c.args.line.now c.loop-j.j (λ e. c.loop-j-test.false (c.byte_at.ensures ∙ e)) in
    columned_all (c.loop-j.invariant.1 l small few) (ap (map column_meant) e) (ap (map (λ x. 0)) e)
