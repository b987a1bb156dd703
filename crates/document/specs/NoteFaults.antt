-- Meaning: 25, a weak or strong line given twice, after a row of its table, or for a table of another scheme (02, Q-11).
use Rattle.std.specs.Prelude.{ℕ, eqb, Bool, ◌||◌, false, not, true}
use Rattle.document.specs.Lookup.{given_by, notes_of, scheme_at, strong_in, table_of, weak_in}
use Rattle.document.specs.Policy.{Doc}
use Rattle.form.specs.Form.{Form, Note, Scheme, attr, by_cell, by_column, by_row, by_table, cond_role, grant, label, nested, note, public, purpose, role, row, strong, table, unlabelled, user, weak}
use Rattle.lists.specs.Lists.{any_of, or_zero, there}
use Rattle.text.specs.Words.{Word}

-- the scheme is nest
unfoldable pub is_nested : Scheme ℕ → Bool
is_nested (unlabelled b) = false
is_nested (by_table l) = false
is_nested (by_column ls) = false
is_nested by_row = false
is_nested by_cell = false
is_nested (nested w s) = true

-- the table of this number takes no weak or strong line, or no longer: its scheme is another, or it has a row
unfoldable pub takes_no_label : Doc → ℕ → Bool
takes_no_label d t = not (is_nested (scheme_at d.policy t)) || any_of (λ r. eqb r.table t) d.rows

-- the note gives the table of this number a label that it does not take, or has already
unfoldable pub misplaced_note : Doc → ℕ → Note Word → Bool
misplaced_note d t public = false
misplaced_note d t (weak l) = takes_no_label d t || there (given_by weak_in (notes_of d.policy.notes t))
misplaced_note d t (strong l) = takes_no_label d t || there (given_by strong_in (notes_of d.policy.notes t))

-- the line is a weak or strong line out of place; its table is known by then (5)
unfoldable pub misplaced : Doc → Form → Bool
misplaced d (purpose n p) = false
misplaced d (role n p) = false
misplaced d (attr r a k) = false
misplaced d (user u r gs) = false
misplaced d (cond_role c r t) = false
misplaced d (grant p c) = false
misplaced d (label l ps qs) = false
misplaced d (table t s cs) = false
misplaced d (row t is) = false
misplaced d (note t n) = misplaced_note d (or_zero (table_of d.policy t)) n
