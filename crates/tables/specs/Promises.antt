-- Contract: what functions of this crate promise, where it takes more than a line.
use Rattle.std.specs.Prelude.{◌+◌, ◌<◌, ◌≤◌, ℕ, length, List, map, ◌≡◌}
use Rattle.document.specs.Check.{check_form}
use Rattle.document.specs.Lookup.{label_of}
use Rattle.document.specs.Meaning.{add, column_meant}
use Rattle.document.specs.Policy.{Doc, Noted, Policy}
use Rattle.form.specs.Form.{label}
use Rattle.form.specs.TableWords.{table_line}
use Rattle.form.specs.Walks.{column_labels_at, deny_place, labelled_columns_at, names_at}
use Rattle.index.specs.Workspace.{Indexed}
use Rattle.lists.specs.Lists.{or_zero}
use Rattle.principals.specs.Nodes.{Nodes}
use Rattle.purpose.specs.Members.{limit}
use Rattle.relations.specs.Labels.{Labels}
use Rattle.relations.specs.Notes.{Notes}
use Rattle.relations.specs.Tables.{Tables}
use Rattle.stepping.specs.Follows.{Follows}
use Rattle.stepping.specs.Judged.{Judges}
use Rattle.stepping.specs.Stored.{ColumnsFilled, LineAt, Passes}
use Rattle.text.specs.Words.{word_of}
use Rattle.form.specs.declared.lines.Scheme as coded
use Rattle.index.specs.declared.counts.Counts.{Counts}
use Rattle.std.specs.Prelude.{Result}
use Rattle.stepping.specs.declared.fault.Fault.{Fault}

-- label_faults::label_fault: the label whose name stands at l of the line, behind k labels
abbrev pub LabelFaultPromise : (text purposes : List ℕ) (purposes_count : ℕ) (labels : List ℕ) (k : ℕ) (line : List ℕ) (l allowed denied : ℕ) (r : Result (Unit {0}) Fault) → Type 0
LabelFaultPromise text purposes purposes_count labels k line l allowed denied r =
    Judges (λ d. Nodes limit text purposes purposes_count d.policy.purposes × ((sets : List ℕ) × Labels text labels sets k d.policy.labels)) (l ≤ length line) line (label (word_of line l) (names_at line allowed) (names_at line denied)) k 64 r

-- label_storing::store_label: stores the label of the name at l of the line, behind k of them, with the purposes that it allows and denies
abbrev pub StoreLabelPromise : (text purposes : List ℕ) (purposes_count : ℕ) (labels labels' sets sets' : List ℕ) (k at : ℕ) (line : List ℕ) (l allowed denied : ℕ) → Type 0
StoreLabelPromise text purposes purposes_count labels labels' sets sets' k at line l allowed denied =
    (d : Doc) → LineAt text at line → Nodes limit text purposes purposes_count d.policy.purposes → Labels text labels sets k d.policy.labels →
    Passes d line (label (word_of line l) (names_at line allowed) (names_at line denied)) → l ≤ length line → names_at line denied ≡ names_at line (deny_place line l) →
    Labels text labels' sets' (k + 1) (add d (label (word_of line l) (names_at line allowed) (names_at line denied))).policy.labels

-- steps::step_label: a label, whose name stands at l, with the purposes from two places on
abbrev pub StepLabelPromise : (text : List ℕ) (at : ℕ) (line purposes labels labels' sets sets' : List ℕ) (c : Counts) (l allowed denied : ℕ) (s : Result Counts Fault) → Type 0
StepLabelPromise text at line purposes labels labels' sets sets' c l allowed denied s =
    (d : Doc) (rs' bs' us' cs' gs' ts' ws' : List ℕ) → LineAt text at line → (l ≤ length line) → names_at line denied ≡ names_at line (deny_place line l) →
    Indexed text purposes rs' bs' us' cs' gs' labels sets ts' ws' c d →
    Follows (Indexed text purposes rs' bs' us' cs' gs' labels' sets' ts' ws') line (check_form d line (label (word_of line l) (names_at line allowed) (names_at line denied))) s

-- steps::step_table: a table, whose name stands at t, of this scheme, with its label at l, if it has one, and its columns from cs on
abbrev pub StepTablePromise : (text : List ℕ) (at : ℕ) (line labels tables tables' : List ℕ) (c : Counts) (t : ℕ) (scheme : coded.Scheme) (l cs : ℕ) (s : Result Counts Fault) → Type 0
StepTablePromise text at line labels tables tables' c t scheme l cs s =
    (d : Doc) (ps' rs' bs' us' cs' gs' ms' ws' : List ℕ) → LineAt text at line → ((t ≤ length line) × (l ≤ length line) × (cs ≤ length line)) →
    Indexed text ps' rs' bs' us' cs' gs' labels ms' tables ws' c d →
    Follows (Indexed text ps' rs' bs' us' cs' gs' labels ms' tables' ws') line (check_form d line (table_line line t scheme l cs)) s

-- table_storing::store_labelled_columns: stores the columns `(COL num L)` of table k that stand from a place of the line on, and gives their number
abbrev pub StoreLabelledColumnsPromise : (text labels : List ℕ) (labels_count : ℕ) (tables tables' : List ℕ) (k at : ℕ) (line : List ℕ) (cs r : ℕ) → Type 0
StoreLabelledColumnsPromise text labels labels_count tables tables' k at line cs r =
    (d : Policy) (sets : List ℕ) → LineAt text at line → Labels text labels sets labels_count d.labels → k < 8 →
    length (labelled_columns_at line cs) ≤ 16 →
    ColumnsFilled text tables tables' k r (map column_meant (labelled_columns_at line cs)) (map (λ w. or_zero (label_of d w)) (column_labels_at line cs))

-- table_storing::store_table: stores the table of the name at t of the line, behind k of them, of which no note is
abbrev pub StoreTablePromise : (text labels : List ℕ) (labels_count : ℕ) (tables tables' : List ℕ) (k at : ℕ) (line : List ℕ) (t : ℕ) (scheme : coded.Scheme) (l cs : ℕ) → Type 0
StoreTablePromise text labels labels_count tables tables' k at line t scheme l cs =
    (d : Doc) (sets : List ℕ) → LineAt text at line → Labels text labels sets labels_count d.policy.labels →
    Tables text tables k d.policy.tables → Passes d line (table_line line t scheme l cs) → t ≤ length line →
    Tables text tables' (k + 1) (add d (table_line line t scheme l cs)).policy.tables × ((ns : List Noted) → Notes tables k ns → Notes tables' (k + 1) ns)
