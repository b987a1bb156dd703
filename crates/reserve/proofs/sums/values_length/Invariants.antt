-- `reserve::sums::values_length` meets its contract. The loop's invariant: the sum is that of the first c values. Assumes nothing.
use Prim.Native.Nat.{◌*◌, ◌-◌, ◌≤◌}
use lib.ListN.{length}
use mathlib.Core.Path.{◌≡◌}
use Rattle.form.specs.RowText.{spaced}
use Rattle.relations.specs.Rows.{value_in}
use Rattle.workspace.specs.Tabulated.{tabulated}
use Rattle.reserve.proofs.sums.values_length.Given as goal

abbrev pub invariant-loop-c : goal.invariant-loop-c
invariant-loop-c l = (l.c ≤ l.width) × (l.sum ≡ length (spaced (tabulated (value_in l.text l.rows l.r) l.c))) × (l.sum ≤ l.c * 60001)
