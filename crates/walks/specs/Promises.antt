-- Contract: what functions of this crate promise, where it takes more than a line.
use Rattle.std.specs.Prelude.{◌<◌, ℕ, length, Bool, false, true, List, [], ◌≡◌}
use Rattle.std.proofs.Math.Option.{some}
use Rattle.document.specs.Lookup.{columns_at, scheme_at, table_of}
use Rattle.document.specs.Policy.{Doc, Policy}
use Rattle.form.specs.Form.{has_brackets, leads_label}
use Rattle.relations.specs.Labels.{Labels}
use Rattle.relations.specs.Rows.{FillingRow, Rows}
use Rattle.relations.specs.Tables.{Tables}
use Rattle.stepping.specs.Stored.{LineAt}
use Rattle.text.specs.Words.{word_of}
use Rattle.walks.specs.Taken.{TakesItems, TakesRow}
use Rattle.walks.specs.Walked.{CellsWalked, KeepsRows, ValuesWalked}
use Rattle.std.specs.Prelude.{Option}

-- cells::take_values: stores the n values from a place of the line on as those of row k, where they are of the types of the columns of table x, and gives their end
abbrev pub TakeValuesPromise : (text : List ℕ) (at : ℕ) (line tables : List ℕ) (x n : ℕ) (rows rows' : List ℕ) (k is : ℕ) (r : Option ℕ) → Type 0
TakeValuesPromise text at line tables x n rows rows' k is r =
    KeepsRows text rows rows' k × ((d : Policy) (count m : ℕ) (ls : List ℕ) → LineAt text at line → Tables text tables count d.tables → x < count → n ≡ length (columns_at d x) → k < 1024 → FillingRow text rows k 0 m [] ls → ValuesWalked text rows rows' line k n m ls (columns_at d x) is r)

-- cells::take_cells: stores the n cells `(v L)` from a place of the line on as the values of row k and its labels behind m of them, likewise, and gives
-- their end
abbrev pub TakeCellsPromise : (text : List ℕ) (at : ℕ) (line labels : List ℕ) (labels_count : ℕ) (tables : List ℕ) (x n : ℕ) (rows rows' : List ℕ) (k is m : ℕ) (r : Option ℕ) → Type 0
TakeCellsPromise text at line labels labels_count tables x n rows rows' k is m r =
    KeepsRows text rows rows' k × ((d : Policy) (count : ℕ) (sets ls : List ℕ) → LineAt text at line → Labels text labels sets labels_count d.labels → Tables text tables count d.tables → x < count → n ≡ length (columns_at d x) → k < 1024 → FillingRow text rows k 0 m [] ls → CellsWalked text rows rows' line k n m ls d (columns_at d x) is r)

-- lines::take_plain: takes a row of table x, whose scheme puts no labels into rows, with the values from a place of the line on
abbrev pub TakePlainPromise : (text : List ℕ) (at : ℕ) (line tables : List ℕ) (x : ℕ) (rows rows' : List ℕ) (k is : ℕ) (r : Bool) → Type 0
TakePlainPromise text at line tables x rows rows' k is r =
    (d : Doc) (count : ℕ) → LineAt text at line → Tables text tables count d.policy.tables → table_of d.policy (word_of line 5) ≡ some x →
    x < count → leads_label (scheme_at d.policy x) ≡ false → has_brackets (scheme_at d.policy x) ≡ false → k < 1024 → Rows text rows k d.rows → TakesItems text line rows' k is d r

-- lines::take_led, lines::take_labelled, lines::take_nested: takes a row of table x, whose rows lead with a label (led) and have
-- brackets (bracketed) or not, from a place of the line on
abbrev pub TakeShapedPromise : (led bracketed : Bool) (text : List ℕ) (at : ℕ) (line labels : List ℕ) (labels_count : ℕ) (tables : List ℕ) (x : ℕ) (rows rows' : List ℕ) (k is : ℕ) (r : Bool) → Type 0
TakeShapedPromise led bracketed text at line labels labels_count tables x rows rows' k is r =
    (d : Doc) (sets : List ℕ) (count : ℕ) → LineAt text at line → Labels text labels sets labels_count d.policy.labels →
    Tables text tables count d.policy.tables → table_of d.policy (word_of line 5) ≡ some x → x < count →
    leads_label (scheme_at d.policy x) ≡ led → has_brackets (scheme_at d.policy x) ≡ bracketed →
    k < 1024 → Rows text rows k d.rows → TakesItems text line rows' k is d r

-- lines::take_row: takes the line behind k rows, if it is a row that the check accepts and there is room
abbrev pub TakeRowPromise : (text : List ℕ) (at : ℕ) (line labels : List ℕ) (labels_count : ℕ) (tables : List ℕ) (tables_count : ℕ) (rows rows' : List ℕ) (k : ℕ) (r : Bool) → Type 0
TakeRowPromise text at line labels labels_count tables tables_count rows rows' k r =
    ((d : Doc) (sets : List ℕ) → LineAt text at line → Labels text labels sets labels_count d.policy.labels → Tables text tables tables_count d.policy.tables → Rows text rows k d.rows → TakesRow text line rows' k d r) × (r ≡ true → k < 1024)
