-- A small document and a small file that fits it, so that the claim speaks of something. By computation.
use Prim.Native.Nat.{ℕ}
use mathlib.Core.List.{List, [], ◌++◌, ◌∷◌}
use mathlib.Core.Path.{◌∙◌, ◌≡◌, ap, refl, subst, sym}
use native.Mathlib.Omega.{arith}
use Rattle.appending.proofs.Imported.{file_appended}
use Rattle.appending.specs.Appended.{Appends, appended}
use Rattle.appending.specs.Computing.{computing}
use Rattle.document.specs.Check.{Accepted, check}
use Rattle.document.specs.Policy.{empty_doc}
use Rattle.import.specs.Importing.{importing}
use Rattle.csv_text.specs.Records.{Entry, Split, malformed, records, split}
use Rattle.text.proofs.RefusalLaws.{Accepts, accepted_is, accepted_or}
use Rattle.text.specs.Bytes.{ascii}
use Rattle.text.specs.Refusal.{accepted}

-- two tables, of which the second is labelled by row and has a row, and two labels
unfoldable pub desk : List ℕ
desk =
    ascii "(purpose all)\n"
    ++ ascii "(purpose ads all)\n"
    ++ ascii "(label free (allow all) (deny))\n"
    ++ ascii "(label noads (allow all) (deny ads))\n"
    ++ ascii "(table log none (day num))\n"
    ++ ascii "(table sub row (who name) (due num))\n"
    ++ ascii "(row sub free Ida 40)\n"

-- two records, one in quotes and without a line ending
unfoldable pub file : List ℕ
file = ascii "Bo,75\r\n\"Cy\",\"-60\""

unfoldable pub entries : List Entry
entries =
    record { at = 0; fields = ascii "Bo" ∷ ascii "75" ∷ [] }
    ∷ record { at = 7; fields = ascii "Cy" ∷ ascii "-60" ∷ [] }
    ∷ []

-- its lines
unfoldable pub row_lines : List ℕ
row_lines = ascii "(row sub noads Bo 75)\n(row sub noads Cy -60)\n"

pub sample_records : records file ≡ split entries
unfolding computing file entries
sample_records = refl

pub sample_imported : importing file (ascii "sub") (ascii "noads") 60021 ≡ accepted row_lines
unfolding computing file row_lines
sample_imported = refl

-- what the document means
unfoldable pub checked_desk : Accepted
checked_desk = accepted_or (record { lines = 0; doc = empty_doc }) (check desk)

pub desk_accepted : Accepts (check desk)
unfolding computing desk
desk_accepted = tt

unfoldable pub sample_appends : Appends desk row_lines (ascii "sub") (ascii "noads") entries
unfolding computing desk entries row_lines checked_desk
sample_appends = record {
  checked = checked_desk;
  accepts = accepted_is (record { lines = 0; doc = empty_doc }) (check desk) desk_accepted;
  table = 1;
  known_table = refl;
  is_by_row = refl;
  label = 1;
  known_label = refl;
  fit = refl;
  few = omega arith;
  short = omega arith;
}

entries_of : Split → List Entry
entries_of (malformed n) = []
entries_of (split es) = es

-- so the document with the file's lines behind it is accepted with these rows
pub sample_meant : check (desk ++ row_lines) ≡ accepted (appended sample_appends.checked sample_appends.table sample_appends.label entries)
unfolding entries_of
sample_meant =
    let w = file_appended desk file (ascii "sub") (ascii "noads") 60021 row_lines sample_imported in
    subst (λ (es : List Entry). (h : Appends desk row_lines (ascii "sub") (ascii "noads") es) → check (desk ++ row_lines) ≡ accepted (appended h.checked h.table h.label es))
    (ap entries_of (sym w.are ∙ sample_records)) w.meant sample_appends

-- which are, written out
pub sample_rows : (appended sample_appends.checked sample_appends.table sample_appends.label entries).doc.rows
    ≡ record { table = 1; values = ascii "Ida" ∷ ascii "40" ∷ []; labels = 0 ∷ [] }
    ∷ record { table = 1; values = ascii "Bo" ∷ ascii "75" ∷ []; labels = 1 ∷ [] }
    ∷ record { table = 1; values = ascii "Cy" ∷ ascii "-60" ∷ []; labels = 1 ∷ [] }
    ∷ []
unfolding computing sample_appends checked_desk desk entries
sample_rows = refl

-- that the table is labelled by row has to be said: behind this document, whose table has no labels, the same lines are accepted too
unfoldable pub unlabelled_desk : List ℕ
unlabelled_desk = ascii "(table sub none (kind name) (who name) (due num))\n"

pub unlabelled_accepted : Accepts (check (unlabelled_desk ++ row_lines))
unfolding computing unlabelled_desk row_lines
unlabelled_accepted = tt
