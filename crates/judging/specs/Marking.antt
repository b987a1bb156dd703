-- Contract: whether the cells of a row are open, by what the labels say of one purpose; in a nest table by what comes down to them (02, Q-11).
use Rattle.std.specs.Prelude.{◌<◌, suc, ℕ, Bool, ◌&&◌, cond, not, true, List, ◌≡◌}
use Rattle.std.proofs.Math.ListN.{get_elem?}
use Rattle.std.proofs.Math.Option.{Option}
use Rattle.document.specs.Lookup.{given_by, strong_in, weak_in}
use Rattle.document.specs.NoteFaults.{is_nested}
use Rattle.document.specs.Open.{marks_at}
use Rattle.document.specs.Policy.{Policy, tree_of}
use Rattle.form.specs.Form.{Note, Scheme}
use Rattle.judging.specs.declared.marking.Marking.{Marking}
use Rattle.purpose.specs.Verdicts.{open_by, over, verdict}
use Rattle.relations.specs.Labels.{verdict_for}
use Rattle.relations.specs.Notes.{label_of_cell, note_in}
use Rattle.relations.specs.Tables.{scheme_in}

-- a label is open, by what it says: it allows, and does not deny
unfoldable pub opened_for : List Bool → Option ℕ → Bool
opened_for os l = (verdict_for os l).allowed && not (verdict_for os l).denied

-- the marking of a row with these labels: where the table is nested, the row's label is merged over the table's weak one
unfoldable pub under_row : List Bool → Marking → List ℕ → Marking
under_row os m labels = cond m.nested (record { nested = true; strong = m.strong; weak = over m.weak (verdict_for os (get_elem? labels 0)) }) m

-- cell c of a row with these labels, which is marked so, is open
unfoldable pub open_under : List Bool → Marking → List ℕ → ℕ → Bool
open_under os m labels c = cond m.nested (open_by m.strong (over m.weak (verdict_for os (get_elem? labels (suc c))))) (opened_for os (get_elem? labels c))

-- the same by the marking of its table
unfoldable pub open_in : List Bool → Marking → List ℕ → ℕ → Bool
open_in os m labels c = open_under os (under_row os m labels) labels c

-- the marking that the arrays give for table t
pub record MarkingOf (ts : List ℕ) (t : ℕ) (os : List Bool) (m : Marking) : Type 0 where
  pub nested : t < 8 → m.nested ≡ is_nested (scheme_in ts t)
  pub strong : t < 8 → m.strong ≡ verdict_for os (label_of_cell (note_in ts 2 t))
  pub weak : t < 8 → m.weak ≡ verdict_for os (label_of_cell (note_in ts 1 t))

-- the marking says of a table of the scheme s with the notes ns whether it is nested, and what its strong and its weak label say of p
pub record Marks (d : Policy) (p : ℕ) (m : Marking) (s : Scheme ℕ) (ns : List (Note ℕ)) : Type 0 where
  pub nested : m.nested ≡ is_nested s
  pub strong : m.strong ≡ verdict (tree_of d.purposes) (marks_at d (given_by strong_in ns)) p
  pub weak : m.weak ≡ verdict (tree_of d.purposes) (marks_at d (given_by weak_in ns)) p
