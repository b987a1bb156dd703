-- Contract: what functions of this crate promise, where it takes more than a line.
use Rattle.std.specs.Prelude.{◌+◌, ◌<◌, ◌≤◌, ℕ, length, List, [], ◌++◌, ◌∷◌, map, ◌≡◌}
use Rattle.calendar.specs.DateText.{date_of}
use Rattle.document.specs.AmountFaults.{date_exists}
use Rattle.document.specs.Check.{check_form}
use Rattle.document.specs.Lookup.{label_of}
use Rattle.document.specs.Meaning.{add}
use Rattle.document.specs.NameFaults.{bracket_labels, leading_name}
use Rattle.document.specs.Policy.{Doc, Policy, Row}
use Rattle.document.specs.ValueFaults.{bracket_values, plain_values, values_behind_label}
use Rattle.form.specs.Form.{row}
use Rattle.form.specs.Walks.{cells_at, items_at}
use Rattle.index.specs.Workspace.{Indexed}
use Rattle.index.specs.declared.counts.Counts.{Counts}
use Rattle.lists.specs.Lists.{or_zero}
use Rattle.relations.specs.Labels.{Labels}
use Rattle.relations.specs.Rows.{FillingRow, Rows}
use Rattle.relations.specs.Tables.{Tables}
use Rattle.rows.specs.RowWords.{values_at}
use Rattle.stepping.specs.Follows.{Follows}
use Rattle.stepping.specs.Judged.{Judges}
use Rattle.stepping.specs.Places.{Near}
use Rattle.stepping.specs.Stored.{LineAt, Passes, RowFilled}
use Rattle.stepping.specs.declared.fault.Fault.TheVariants.{Value}
use Rattle.std.specs.Prelude.{None, Option, Some, Err, Ok, Result}
use Rattle.text.specs.CodeEnds.{offending_value}
use Rattle.text.specs.Offending.{missing}
use Rattle.text.specs.Words.{Word, word_of}
use Rattle.text.specs.declared.refusals.Reason.TheVariants.{NoSuchDate}
use Rattle.std.proofs.Math.Option.{some}
use Rattle.stepping.specs.declared.fault.Fault.{Fault}

-- the verdict on the dates of a row, by the place of the first that does not exist
abbrev pub date_verdict : Option ℕ → Result (Unit {0}) Fault
date_verdict None = Ok tt
date_verdict (Some p) = Err (Value NoSuchDate p)

-- faults::date_fault: what is wrong with values that have no other fault
pub record DatesJudged (line : List ℕ) (at : ℕ) (r : Result (Unit {0}) Fault) : Type 0 where
  pub absent : Option ℕ
  pub is : offending_value line absent ≡ missing (λ w. date_exists (date_of w.bytes)) (values_at line at)
  pub near : Near line absent
  pub told : r ≡ date_verdict absent

-- faults::row_fault: what is wrong with `(row T item ..)`, the table's name at t and the items from `is` on, where there are k rows already
abbrev pub RowFaultPromise : (text labels : List ℕ) (labels_count : ℕ) (tables : List ℕ) (tables_count k : ℕ) (line : List ℕ) (t is : ℕ) (r : Result (Unit {0}) Fault) → Type 0
RowFaultPromise text labels labels_count tables tables_count k line t is r =
    Judges (λ d. ((sets : List ℕ) × Labels text labels sets labels_count d.policy.labels) × Tables text tables tables_count d.policy.tables × (k ≡ length d.rows)) ((t ≤ length line) × (is ≤ length line)) line (row (word_of line t) (items_at line is)) k 1024 r

-- steps::step_row: a row of the table whose name stands at t, with its items from a place on
abbrev pub StepRowPromise : (text : List ℕ) (at : ℕ) (line labels tables rows rows' : List ℕ) (c : Counts) (t items : ℕ) (s : Result Counts Fault) → Type 0
StepRowPromise text at line labels tables rows rows' c t items s =
    (d : Doc) (ps' rs' bs' us' cs' gs' ms' : List ℕ) → LineAt text at line → ((t ≤ length line) × (items ≤ length line)) →
    Indexed text ps' rs' bs' us' cs' gs' labels ms' tables rows c d →
    Follows (Indexed text ps' rs' bs' us' cs' gs' labels ms' tables rows') line (check_form d line (row (word_of line t) (items_at line items))) s

-- storing::store_cells: stores the cells `(v L)` that stand from a place of the line on as the values of row k and its labels behind m of them, and
-- gives their number
abbrev pub StoreCellsPromise : (text labels : List ℕ) (labels_count : ℕ) (rows rows' : List ℕ) (k at : ℕ) (line : List ℕ) (is m r : ℕ) → Type 0
StoreCellsPromise text labels labels_count rows rows' k at line is m r =
    (d : Policy) (sets ls : List ℕ) → LineAt text at line → Labels text labels sets labels_count d.labels → k < 1024 → length (cells_at line is) ≤ 16 →
    FillingRow text rows k 0 m [] ls →
    RowFilled text rows rows' k r (m + r) (map (λ g. g.0.bytes) (cells_at line is)) (ls ++ map (λ g. or_zero (label_of d g.1)) (cells_at line is))

-- storing::store_by_row: stores row k of a table, with the label that stands first from a place of the line on, and the values behind it
abbrev pub StoreByRowPromise : (text labels : List ℕ) (labels_count : ℕ) (rows rows' : List ℕ) (k at : ℕ) (line : List ℕ) (table is : ℕ) → Type 0
StoreByRowPromise text labels labels_count rows rows' k at line table is =
    (d : Policy) (sets : List ℕ) (rs : List Row) (ws : List Word) → LineAt text at line → Labels text labels sets labels_count d.labels →
    Rows text rows k rs → k < 1024 → values_behind_label plain_values (items_at line is) ≡ some ws → length ws ≤ 16 →
    Rows text rows' (k + 1) (rs ++ (record { table = table; values = map (λ w. w.bytes) ws; labels = map (λ w. or_zero (label_of d w)) (leading_name (items_at line is)) } ∷ []))

-- storing::store_by_cell: stores row k of a table, with the values from a place of the line on and a label at each
abbrev pub StoreByCellPromise : (text labels : List ℕ) (labels_count : ℕ) (rows rows' : List ℕ) (k at : ℕ) (line : List ℕ) (table is : ℕ) → Type 0
StoreByCellPromise text labels labels_count rows rows' k at line table is =
    (d : Policy) (sets : List ℕ) (rs : List Row) (ws : List Word) → LineAt text at line → Labels text labels sets labels_count d.labels →
    Rows text rows k rs → k < 1024 → bracket_values (items_at line is) ≡ some ws → length ws ≤ 16 →
    Rows text rows' (k + 1) (rs ++ (record { table = table; values = map (λ w. w.bytes) ws; labels = map (λ w. or_zero (label_of d w)) (bracket_labels (items_at line is)) } ∷ []))

-- storing::store_nested: stores row k of a table, with the label that stands first from a place of the line on, and the values behind it with a label at
-- each
abbrev pub StoreNestedPromise : (text labels : List ℕ) (labels_count : ℕ) (rows rows' : List ℕ) (k at : ℕ) (line : List ℕ) (table is : ℕ) → Type 0
StoreNestedPromise text labels labels_count rows rows' k at line table is =
    (d : Policy) (sets : List ℕ) (rs : List Row) (ws : List Word) → LineAt text at line → Labels text labels sets labels_count d.labels →
    Rows text rows k rs → k < 1024 → values_behind_label bracket_values (items_at line is) ≡ some ws → length ws ≤ 16 →
    Rows text rows' (k + 1) (rs ++ (record { table = table; values = map (λ w. w.bytes) ws; labels = map (λ w. or_zero (label_of d w)) (leading_name (items_at line is) ++ bracket_labels (items_at line is)) } ∷ []))

-- storing::store_row: stores the row of the table of the name at t of the line, behind k of them, with the items from `is` on
abbrev pub StoreRowPromise : (text labels : List ℕ) (labels_count : ℕ) (tables : List ℕ) (tables_count : ℕ) (rows rows' : List ℕ) (k at : ℕ) (line : List ℕ) (t is : ℕ) → Type 0
StoreRowPromise text labels labels_count tables tables_count rows rows' k at line t is =
    (d : Doc) (sets : List ℕ) → LineAt text at line → Labels text labels sets labels_count d.policy.labels →
    Tables text tables tables_count d.policy.tables → Rows text rows k d.rows → Passes d line (row (word_of line t) (items_at line is)) →
    Rows text rows' (k + 1) (add d (row (word_of line t) (items_at line is))).rows
