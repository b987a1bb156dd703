-- Contract: what functions of this crate promise, where it takes more than a line.
use Rattle.std.specs.Prelude.{◌<◌, ℕ, Bool, false, not, true, List, ◌≡◌}
use Rattle.std.proofs.Math.ListN.{get_elem?}
use Rattle.std.proofs.Math.Option.{bind, some}
use Rattle.answer.specs.Seen.{rows_in}
use Rattle.answer.specs.Why.{cell_reason, explain, label_meant, reason_at}
use Rattle.document.specs.Invariants.{Denials}
use Rattle.document.specs.Lookup.{column_of, columns_at, labelling_at, purpose_of, table_of}
use Rattle.document.specs.NoteFaults.{is_nested}
use Rattle.document.specs.Policy.{Doc, Policy, Row, tree_of}
use Rattle.form.specs.Walks.{names_at}
use Rattle.principals.specs.Nodes.{Nodes}
use Rattle.purpose.specs.Compliance.{in_tree}
use Rattle.purpose.specs.Meaning.{ClosureOf}
use Rattle.purpose.specs.Members.{limit}
use Rattle.purpose.specs.declared.Closure.{Closure}
use Rattle.query.specs.WhyPlaces.{why_at}
use Rattle.query.specs.declared.why.Why.{Why}
use Rattle.reasons.specs.Explaining.{Known, explained_as, is_near, is_unlabelled, reason_of}
use Rattle.relations.specs.Labels.{Labels}
use Rattle.relations.specs.Rows.{Rows}
use Rattle.relations.specs.Tables.{Tables}
use Rattle.text.specs.CodeEnds.{offending_of}
use Rattle.text.specs.Numbers.{magnitude}
use Rattle.text.specs.Offending.{missing}
use Rattle.text.specs.Words.{word_at, word_of}
use Rattle.workspace.specs.Found.{FoundBelow, found_as}
use Rattle.index.specs.declared.counts.Counts.{Counts}
use Rattle.reasons.specs.declared.explained.Cause.{Cause}
use Rattle.std.specs.Prelude.{Option, Result}
use Rattle.text.specs.declared.refusals.Refusal.{Refusal}

-- labels::first_near: the first of the names from a place on that is near
abbrev pub FirstNearPromise : (text purposes : List ℕ) (k : ℕ) (closure : Closure) (at : ℕ) (r : Option ℕ) → Type 0
FirstNearPromise text purposes k closure at r =
    (d : Policy) (p : ℕ) → Nodes limit text purposes k d.purposes → ClosureOf (tree_of d.purposes) p closure → offending_of text r ≡ missing (λ w. not (is_near d p w)) (names_at text at)

-- labels::label_cause: what label l says of the purpose p, which is known
abbrev pub LabelCausePromise : (text purposes labels sets : List ℕ) (c : Counts) (closure : Closure) (l : ℕ) (r : Cause) → Type 0
LabelCausePromise text purposes labels sets c closure l r =
    (d : Policy) (p : ℕ) → Nodes limit text purposes c.purposes d.purposes → Labels text labels sets c.labels d.labels → Denials d →
    in_tree (tree_of d.purposes) p ≡ true → ClosureOf (tree_of d.purposes) p closure → reason_of text r ≡ reason_at d p (some l)

-- cells::meant_label: the label meant for cell c of row r of table t
abbrev pub MeantLabelPromise : (tables rows : List ℕ) (t r c : ℕ) (f : Option ℕ) → Type 0
MeantLabelPromise tables rows t r c f =
    (d : Policy) (text : List ℕ) (k n : ℕ) (rs : List Row) (x : Row) → Tables text tables k d.tables → t < k → Rows text rows n rs → get_elem? rs r ≡ some x →
    found_as f ≡ label_meant (labelling_at d t) x.labels c

-- cells::is_unlabelled: whether table t has no labels
abbrev pub UnlabelledPromise : (tables : List ℕ) (t : ℕ) (b : Bool) → Type 0
UnlabelledPromise tables t b = (d : Policy) (text : List ℕ) (k : ℕ) → Tables text tables k d.tables → t < k → b ≡ is_unlabelled (labelling_at d t)

-- cells::cell_cause: why cell col of row r of table t, which is no nest table, is open or closed to the purpose p, which is known
abbrev pub CellCausePromise : (text purposes labels sets tables rows : List ℕ) (c : Counts) (closure : Closure) (t r col : ℕ) (x : Cause) → Type 0
CellCausePromise text purposes labels sets tables rows c closure t r col x =
    (d : Doc) (p : ℕ) (y : Row) → Known text purposes labels sets tables rows c d → in_tree (tree_of d.policy.purposes) p ≡ true → ClosureOf (tree_of d.policy.purposes) p closure →
    t < c.tables → get_elem? d.rows r ≡ some y → is_nested (labelling_at d.policy t) ≡ false →
    reason_of text x ≡ cell_reason d.policy p (labelling_at d.policy t) y.labels col

-- lines::row_sought: the row of table t that the word at a place of the line counts
abbrev pub RowSoughtPromise : (rows : List ℕ) (count t : ℕ) (line : List ℕ) (row : ℕ) (x : Option ℕ) → Type 0
RowSoughtPromise rows count t line row x =
    ((text : List ℕ) (rs : List Row) → Rows text rows count rs → bind (found_as x) (get_elem? rs) ≡ bind (magnitude (word_at line row)) (get_elem? (rows_in t rs))) × FoundBelow x count

-- lines::explain_row: the reason for a line whose purpose p, table t and column col are known
abbrev pub ExplainRowPromise : (text purposes labels sets tables rows : List ℕ) (c : Counts) (line : List ℕ) (w : Why) (p t col : ℕ) (x : Result Cause Refusal) → Type 0
ExplainRowPromise text purposes labels sets tables rows c line w p t col x =
    (d : Doc) → Known text purposes labels sets tables rows c d → p < c.purposes → t < c.tables →
    purpose_of d.policy (word_of line w.purpose) ≡ some p → table_of d.policy (word_of line w.table) ≡ some t → column_of (columns_at d.policy t) (word_of line w.column) ≡ some col →
    explained_as text x ≡ explain d (why_at line w)
