-- Contract: the lines that an answer consists of, from the marks of its rows.
use Rattle.std.specs.Prelude.{◌<◌, ℕ, ltb, get_or, length, Bool, ◌&&◌, cond, false, ◌≡◌}
use Rattle.answer.specs.Answer.{Answer, counted, row_line}
use Rattle.answer.specs.Exactly.{with_gaps}
use Rattle.answer.specs.Seen.{gap}
use Rattle.document.specs.Policy.{Doc}
use Rattle.form.specs.Form.{has_brackets}
use Rattle.form.specs.declared.lines.Scheme.{Scheme}
use Rattle.judging.specs.Marking.{open_in}
use Rattle.judging.specs.declared.marking.Marking.{Marking}
use Rattle.judging.specs.declared.tally.Tally.{Tally}
use Rattle.query.specs.QueryForm.{leaves_gaps}
use Rattle.query.specs.QueryPlaces.{verb_of}
use Rattle.query.specs.declared.reading.Verb.{Verb}
use Rattle.relations.specs.Rows.{Rows, labels_in, value_count_in, value_in}
use Rattle.relations.specs.Tables.{scheme_by}
use Rattle.text.specs.Numbers.{Value}
use Rattle.workspace.specs.Tabulated.{tabulated}
use mathlib.Core.List.{List, [], ◌∷◌, flatten, map}

-- ---- the values of a row

-- the values of row r, of which there are so many
abbrev pub values_in : (text ws : List ℕ) → (r width : ℕ) → List Value
values_in text ws r width = tabulated (value_in text ws r) width

-- the sizes that are kept are those of the values
pub record Sizes (vs : List Value) (ns : List ℕ) : Type 0 where
  pub each : (c : ℕ) → 0 < get_or ns c 0 → get_or ns c 0 ≡ length (get_or vs c [])

-- the value of column c as it is written, shown or not
unfoldable pub cell_shown : Bool → List Value → ℕ → Value
cell_shown is_shown vs c = cond is_shown (get_or vs c []) (cond (ltb c (length vs)) gap [])

-- the values of row r of a table that is marked so as they are written, where os says what labels say: where there are gaps, one stands for each
-- closed cell (02, Q-10)
unfoldable pub shown_in : List Bool → Marking → (text ws : List ℕ) → Bool → (r width : ℕ) → List Value
shown_in os m text ws gaps r width = cond gaps (with_gaps (open_in os m (labels_in ws r)) 0 (values_in text ws r width)) (values_in text ws r width)

-- all that row r has
abbrev pub row_shown : List Bool → Marking → (text ws : List ℕ) → Bool → ℕ → List Value
row_shown os m text ws gaps r = shown_in os m text ws gaps r (value_count_in ws r)

-- values in these columns, each after a space
unfoldable pub spaced_values : List ℕ → List Value → List ℕ
spaced_values columns vs = flatten (map (λ c. 32 ∷ get_or vs c []) columns)

-- ---- whether there are gaps

-- the cells of a table of this scheme have labels of their own
abbrev pub labels_cells : Scheme → Bool
labels_cells s = has_brackets (scheme_by s 0 [])

-- gaps are written: they are left, and cells have labels of their own
unfoldable pub gaps_by : Verb → Scheme → Bool
gaps_by v s = leaves_gaps (verb_of v) && labels_cells s

-- ---- the lines, where `shown` gives the values of each row as they are written

-- the line of row r, where it is marked
unfoldable pub line_marked : (ℕ → List Value) → List ℕ → ℕ → Bool → List ℕ
line_marked shown columns r marked = cond marked (row_line columns (shown r)) []

-- the lines of those of the first k rows that are marked, with their values in these columns
unfoldable pub lines_marked : (ℕ → List Value) → List ℕ → List Bool → ℕ → List ℕ
lines_marked shown columns marks k = flatten (tabulated (λ r. line_marked shown columns r (get_or marks r false)) k)

-- the answer of the marked rows: their lines, if they are asked for, and the end line with these counts
unfoldable pub answer_marked : (ℕ → List Value) → List ℕ → List Bool → ℕ → Bool → Tally → Answer
answer_marked shown columns marks k asked x = counted (cond asked (lines_marked shown columns marks k) []) x.passed x.withheld x.unmatched

-- of that answer something holds, where the arrays hold the rows of a document d
abbrev pub OfMarked : (text ws : List ℕ) → List Bool → Marking → Bool → List ℕ → List Bool → ℕ → Bool → Tally → (Answer → Type 0) → Type 0
OfMarked text ws os m gaps columns marks k asked x holds =
    (d : Doc) → Rows text ws k d.rows → holds (answer_marked (row_shown os m text ws gaps) columns marks k asked x)
