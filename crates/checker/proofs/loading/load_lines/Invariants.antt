-- `checker::loading::load_lines` meets its contract. The loop's invariant: the workspace holds the document of the lines before the
-- position, and the check of the text is the check from there on. Assumes nothing.
use Prim.Native.Nat.{◌-◌}
use lib.ListN.{length}
use Rattle.checker.proofs.Turns.{Going}
use Rattle.checker.proofs.loading.load_lines.Given as goal

abbrev pub invariant-loop-at : goal.invariant-loop-at
invariant-loop-at l = Going l.text l.purposes l.roles l.attributes l.users l.conds l.grants l.labels l.sets l.tables l.rows l.c l.at l.n

abbrev pub decreases-loop-at : goal.decreases-loop-at
decreases-loop-at l = length l.text - l.at
