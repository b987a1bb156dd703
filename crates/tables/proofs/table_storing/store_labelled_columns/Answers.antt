-- `tables::table_storing::store_labelled_columns` meets its contract. The loop's invariant: the columns that were passed are stored with their
-- labels, and the others are left. Assumes nothing.
use Prim.Native.Nat.{◌+◌, ◌-◌}
use mathlib.Core.List.{map}
use mathlib.Core.Path.{◌∙◌, ap}
use native.Mathlib.Omega.{arith}
use Rattle.document.specs.Lookup.{label_of}
use Rattle.document.specs.Meaning.{column_meant}
use Rattle.form.proofs.WalkSteps.{column_labels_stop, labelled_columns_stop, triple_after}
use Rattle.lists.specs.Lists.{or_zero}
use Rattle.stepping.proofs.ColumnLaws.{columned_all, columned_none, labelled_turn, triple_ends}
use Rattle.text.proofs.Spaces.{space_here}
use Rattle.text.specs.Walking.{past}
use Rattle.tables.proofs.table_storing.store_labelled_columns.Goals as goal

pub loop-j-init : goal.loop-j-init
loop-j-init c = (omega arith, omega arith, λ d sets l N small few. columned_none _ _ _ _ _)

pub overflow_add-j : goal.overflow_add-j
overflow_add-j c = omega (arith, (space_here c.args.line.now c.loop-j.j _ c.byte_at.ensures c.loop-j-test.true).1)

pub overflow_add-c : goal.overflow_add-c
overflow_add-c c = omega (arith, (space_here c.args.line.now c.loop-j.j _ c.byte_at.ensures c.loop-j-test.true).1, c.loop-j.invariant.0, c.loop-j.invariant.1)

pub loop-j-smaller : goal.loop-j-smaller
loop-j-smaller c = let entry = c.args in omega (
  arith,
  (space_here entry.line.now
      c.loop-j.j _
      c.byte_at.ensures
      c.loop-j-test.true).1,
  triple_after entry.line.now
      c.loop-j.j,
  triple_ends
      entry.line.now (c.loop-j.j + 1) _ _ _
      c.skip_byte-w.ensures
      c.next_word-q.ensures _
      c.next_word-m.ensures
      (c.skip_byte-j.ensures ∙ ap (past 41 entry.line.now) c.word_end.ensures),
)

pub loop-j-preserved : goal.loop-j-preserved
unfolding label_of
loop-j-preserved c = let b = space_here
    c.args.line.now
    c.loop-j.j _
    c.byte_at.ensures
    c.loop-j-test.true in (
      omega (
        arith,
        b.1,
        c.loop-j.invariant.0,
        triple_after
            c.args.line.now
            c.loop-j.j,
        triple_ends
            c.args.line.now
            (c.loop-j.j + 1) _ _ _
            c.skip_byte-w.ensures
            c.next_word-q.ensures _
            c.next_word-m.ensures
            (c.skip_byte-j.ensures ∙ ap (past 41 c.args.line.now) c.word_end.ensures),
      ),
      c.loop-j.invariant.1,
      λ d sets l N small few. labelled_turn l
          c.loop-j.j _ _ _ _ _ b.0 b.1
          c.skip_byte-w.ensures
          c.next_word-q.ensures
          c.place-pos.ensures c.kind_at-kind.ensures d
          c.args.cs _ _
          c.next_word-m.ensures
          (c.skip_byte-j.ensures ∙ ap (past 41 c.args.line.now) c.word_end.ensures)
          (c.number-label.ensures ∙ ap or_zero (c.find_label.ensures.0 sets _ N))
          c.set_column.ensures small few
          (c.loop-j.invariant.2 d sets l N small few),
    )

pub returns : goal.returns
returns c d sets l N small few = columned_all (c.loop-j.invariant.2 d sets l N small few)
    (ap (map column_meant) (labelled_columns_stop c.args.line.now c.loop-j.j (λ e. c.loop-j-test.false (c.byte_at.ensures ∙ e))))
    (ap (map (λ v. or_zero (label_of d v))) (column_labels_stop c.args.line.now c.loop-j.j (λ e. c.loop-j-test.false (c.byte_at.ensures ∙ e))))
