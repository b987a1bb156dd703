-- The lines that importing a file gives, behind a document (02, Q-1). Assumes nothing.
use Prim.Native.Nat.{ℕ}
use mathlib.Core.Bool.{false, true}
use mathlib.Core.List.{List, [], ◌++◌, ◌∷◌}
use mathlib.Core.Option.{none}
use mathlib.Core.Path.{◌≡◌, refl, subst, sym}
use Rattle.appending.proofs.Appended.{only_appended, rows_appended}
use Rattle.appending.specs.Appended.{Appended, Appends, appended}
use Rattle.document.specs.Check.{Accepted, check}
use Rattle.document.specs.Lookup.{scheme_of}
use Rattle.form.specs.Form.{by_row}
use Rattle.import.proofs.ReadBack.{was_accepted}
use Rattle.import.specs.Importing.{importing, record_lines}
use Rattle.csv_text.specs.Records.{Entry, first_unfit}
use Rattle.lists.proofs.Tests.{and_left, and_right, true_not_false}
use Rattle.lists.specs.Lists.{is_empty}
use Rattle.text.specs.Names.{Name, is_name}
use Rattle.text.specs.Refusal.{accepted}
use Rattle.text.specs.Words.{plain_word}

-- The lines of an imported file are accepted behind a document where its records fit, and only there; they then mean its rows.
pub file_appended : (doc file : List ℕ) (t l : Name) (room : ℕ) (bs : List ℕ) → importing file t l room ≡ accepted bs → Appended doc file t l bs
file_appended doc file t l room bs h =
    let w = was_accepted file t l room bs h in
    let is_t : is_name t ≡ true = and_left (is_name t) (is_name l) w.names in
    let is_l : is_name l ≡ true = and_right (is_name t) (is_name l) w.names in
    record {
      entries = w.entries;
      are = w.are;
      meant = subst (λ (ls : List ℕ). (k : Appends doc ls t l w.entries) → check (doc ++ ls) ≡ accepted (appended k.checked k.table k.label w.entries)) (sym w.lines)
          (rows_appended doc t l w.entries is_t is_l w.fit);
      only = subst (λ (ls : List ℕ). (a b : Accepted) → check doc ≡ accepted a → scheme_of a.doc.policy (plain_word t) ≡ by_row → is_empty w.entries ≡ false → check (doc ++ ls) ≡ accepted b → Appends doc ls t l w.entries) (sym w.lines)
          (some_record w.entries is_t is_l w.fit);
    }
  where
    some_record : (es : List Entry) → is_name t ≡ true → is_name l ≡ true → first_unfit es ≡ none → (a b : Accepted) → check doc ≡ accepted a → scheme_of a.doc.policy (plain_word t) ≡ by_row → is_empty es ≡ false
        → check (doc ++ record_lines t l es) ≡ accepted b → Appends doc (record_lines t l es) t l es
    some_record [] is_t is_l u a b h s e g = true_not_false refl e
    some_record (x ∷ es) is_t is_l u a b h s e g = only_appended doc t l x es is_t is_l u a b h s g
