-- Meaning: when two documents are alike for a query (01, "The no-difference claim"; 02, Q-8, Q-10). Which cells may differ is said by the policy
-- and the labels of the rows, which alike documents share.
use Rattle.std.specs.Prelude.{suc, ℕ, eqb, length, Bool, ◌&&◌, not, true, List, [], ◌∷◌, map, ◌≡◌}
use Rattle.std.proofs.Math.Option.{Option, none, some}
use Rattle.document.specs.Check.{Accepted, check}
use Rattle.document.specs.Lookup.{label_of, labelling_at, purpose_of, scheme_of, table_of}
use Rattle.document.specs.Open.{cell_open, open_to, row_withheld}
use Rattle.document.specs.Policy.{Policy, Row}
use Rattle.form.specs.Form.{table}
use Rattle.form.specs.RowText.{label_count, row_text}
use Rattle.query.specs.Query.{Source, sources}
use Rattle.query.specs.QueryForm.{QueryForm, query_of}
use Rattle.text.specs.Lines.{cut}
use Rattle.lists.specs.Lists.{all_of, any_of, holds_of, member, or_zero}
use Rattle.calendar.specs.CellValues.{is_cell_value}
use Rattle.text.specs.Amounts.{is_range}
use Rattle.text.specs.Bytes.{ascii}
use Rattle.text.specs.Names.{Name, is_name, same_name}
use Rattle.text.specs.Numbers.{Value}
use Rattle.text.specs.Refusal.{accepted}
use Rattle.text.specs.Words.{plain_word}

-- a query for the purpose p sees cell c of the row through a table that it reads: the row lies in that table and is not withheld,
-- the column is named, and the cell is open
unfoldable pub sees : Policy → ℕ → Row → ℕ → Source → Bool
sees d p r c x =
    eqb r.table x.table
    && (not (row_withheld (open_to d p) (labelling_at d x.table) x.withholding r.labels)
    && (member c x.named && cell_open (open_to d p) (labelling_at d x.table) r.labels c))

-- the value of cell c of the row may differ: the query, be it answered or refused, does not see it, since the cell is closed to the
-- purpose, stands in a table or column that the query does not name, or lies in a row withheld from it, which for a blank is one that its
-- condition's columns withhold, or by row its label (02, Q-10). To a purpose that the document does not know every cell is closed, and a
-- text that is no query names nothing
unfoldable pub free : Policy → Option QueryForm → Row → ℕ → Bool
free d none r c = true
free d (some q) r c = not (holds_of (λ p. any_of (sees d p r c) (sources d q)) (purpose_of d q.purpose))

-- two lists of values, the first for column c: each value is the same or free to differ, but a range stays one, and what is none
-- becomes none (02, Q-12)
pub data SameOrFree (f : ℕ → Bool) : ℕ → List Value → List Value → Type 0 where
  done : {c : ℕ} → SameOrFree f c [] []
  same : {c : ℕ} (v : Value) {vs ws : List Value} → SameOrFree f (suc c) vs ws → SameOrFree f c (v ∷ vs) (v ∷ ws)
  differs : {c : ℕ} (v w : Value) {vs ws : List Value} → f c ≡ true → is_range v ≡ is_range w → SameOrFree f (suc c) vs ws → SameOrFree f c (v ∷ vs) (w ∷ ws)

-- the row that a row line of these parts means
unfoldable pub row_of : Policy → Name → List Name → List Value → Row
row_of d t ls vs = record {
  table = or_zero (table_of d (plain_word t));
  values = vs;
  labels = map (λ l. or_zero (label_of d (plain_word l))) ls;
}

-- a row line, written out from its parts: the keyword, which is `row` in any case of letters (02, Q-8), the table, the labels and the
-- values
pub record RowLine (d : Policy) (line : List ℕ) : Type 0 where
  pub keyword : Name
  pub table : Name
  pub labels : List Name
  pub values : List Value
  pub is_row : same_name keyword (ascii "row") ≡ true
  pub is_table : is_name table ≡ true
  pub are_labels : all_of is_name labels ≡ true
  pub are_values : all_of is_cell_value values ≡ true
  pub enough_labels : length labels ≡ label_count (scheme_of d (plain_word table)) (length values)
  pub written : line ≡ row_text (scheme_of d (plain_word table)) keyword table labels values

-- two row lines with the same keyword, table and labels, byte for byte, whose values are the same or free to differ: values that differ
-- only in the case of letters differ, since answers print them (02, Q-8)
pub record AlikeRows (d : Policy) (q : Option QueryForm) (line line' : List ℕ) : Type 0 where
  pub keyword : Name
  pub table : Name
  pub labels : List Name
  pub values : List Value
  pub values' : List Value
  pub is_row : same_name keyword (ascii "row") ≡ true
  pub is_table : is_name table ≡ true
  pub are_labels : all_of is_name labels ≡ true
  pub are_values : all_of is_cell_value values ≡ true
  pub are_values' : all_of is_cell_value values' ≡ true
  pub enough_labels : length labels ≡ label_count (scheme_of d (plain_word table)) (length values)
  pub written : line ≡ row_text (scheme_of d (plain_word table)) keyword table labels values
  pub written' : line' ≡ row_text (scheme_of d (plain_word table)) keyword table labels values'
  pub alike : SameOrFree (free d q (row_of d table labels values)) 0 values values'

-- two lists of lines: equally many, and each line the same, or both row lines that are alike
pub data AlikeLines (d : Policy) (q : Option QueryForm) : List (List ℕ) → List (List ℕ) → Type 0 where
  no_more : AlikeLines d q [] []
  same_line : (l : List ℕ) {ls ms : List (List ℕ)} → AlikeLines d q ls ms → AlikeLines d q (l ∷ ls) (l ∷ ms)
  alike_rows : {l m : List ℕ} {ls ms : List (List ℕ)} → AlikeRows d q l m → AlikeLines d q ls ms → AlikeLines d q (l ∷ ls) (m ∷ ms)

-- a text's lines, and at the end what stands behind its last line feed: nothing, in an accepted document
unfoldable pub lines_of : List ℕ → List (List ℕ)
lines_of text = (cut text).head ∷ (cut text).others

-- two documents, neither refused in checking, are alike for the query text
pub record Alike (text a b : List ℕ) : Type 0 where
  pub first : Accepted
  pub second : Accepted
  pub accepts : check a ≡ accepted first
  pub accepts' : check b ≡ accepted second
  pub lines : AlikeLines first.doc.policy (query_of text) (lines_of a) (lines_of b)
