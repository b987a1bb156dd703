-- `answering::lines::put_values` meets its contract. The loop's invariant: to write the values from column i on comes to the
-- same as to write them all at the start, and the sizes that are kept are those of the values. Assumes nothing.
use Prim.Native.Nat.{◌-◌}
use lib.ListN.{drop, length}
use Rattle.answering.specs.Lines.{Sizes, spaced_values}
use Rattle.workspace.specs.Tabulated.{tabulated}
use Rattle.relations.specs.Rows.{value_in}
use Rattle.writing.proofs.Writing as w
use Rattle.answering.proofs.lines.put_values.Given as goal

abbrev pub invariant-loop-i : goal.invariant-loop-i
invariant-loop-i l = w.Ahead l.initial.out l.at (spaced_values l.columns (tabulated (value_in l.text l.rows l.r) l.width)) l.out l.to (spaced_values (drop l.i l.columns) (tabulated (value_in l.text l.rows l.r) l.width)) × Sizes (tabulated (value_in l.text l.rows l.r) l.width) l.sizes
