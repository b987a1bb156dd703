-- Meaning: lines that differ in free values only, said of the lines at each position, by their parts and as they are read: documents
-- of such lines are alike (proofs/AlikeComplete).
use Rattle.std.specs.Prelude.{ℕ, length, List, map, ◌⊎◌, ◌≡◌}
use Rattle.std.proofs.Math.ListN.{get_elem?}
use Rattle.std.proofs.Math.Option.{Option, some}
use Rattle.answer.specs.Alike.{RowLine, SameOrFree, free, row_of}
use Rattle.document.specs.Lookup.{scheme_of}
use Rattle.document.specs.Meaning.{row_meant}
use Rattle.document.specs.NameFaults.{row_labels}
use Rattle.document.specs.Policy.{Policy}
use Rattle.form.specs.Form.{Item, row}
use Rattle.form.specs.FormReader.{form_of}
use Rattle.form.specs.RowText.{keyword_in}
use Rattle.query.specs.QueryForm.{QueryForm}
use Rattle.text.specs.Words.{Word}

-- two lists of lines: equally many, and at each position the lines are the same or as R says
pub record SameBut (R : List ℕ → List ℕ → Type 0) (ls ms : List (List ℕ)) : Type 0 where
  pub equally_many : length ls ≡ length ms
  pub each : (i : ℕ) (l m : List ℕ) → get_elem? ls i ≡ some l → get_elem? ms i ≡ some m → (l ≡ m) ⊎ R l m

-- two row lines of documents with the policies d and e: their parts are one keyword, one table, the same labels, and values that are the
-- same or free to differ
pub record PartsAlike (d e : Policy) (q : Option QueryForm) (l m : List ℕ) : Type 0 where
  pub first : RowLine d l
  pub second : RowLine e m
  pub same_keyword : first.keyword ≡ second.keyword
  pub same_table : first.table ≡ second.table
  pub same_labels : first.labels ≡ second.labels
  pub alike : SameOrFree (free d q (row_of d first.table first.labels first.values)) 0 first.values second.values

-- two row lines as they are read: their keywords, the words of the tables and of the labels that they use have the same bytes, and the
-- values of the rows that they mean are the same or free to differ
pub record ReadAlike (d e : Policy) (q : Option QueryForm) (l m : List ℕ) : Type 0 where
  pub table : Word
  pub table' : Word
  pub items : List Item
  pub items' : List Item
  pub reads : form_of l ≡ some (row table items)
  pub reads' : form_of m ≡ some (row table' items')
  pub same_keyword : keyword_in l ≡ keyword_in m
  pub same_table : table.bytes ≡ table'.bytes
  pub same_labels : map (λ (w : Word). w.bytes) (row_labels (scheme_of d table) items) ≡ map (λ (w : Word). w.bytes) (row_labels (scheme_of e table') items')
  pub alike : SameOrFree (free d q (row_meant d table items)) 0 (row_meant d table items).values (row_meant e table' items').values
