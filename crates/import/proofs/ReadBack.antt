-- Reading the lines that importing writes gives the file's values in order (02, Q-1). Assumes nothing.
use Prim.Native.Nat.{ℕ}
use lib.Dec.{eqb}
use mathlib.Core.Bool.{◌&&◌, not, true}
use mathlib.Core.List.{List, [], ◌++◌, ◌∷◌, append_assoc, flatten, map}
use mathlib.Core.Option
use mathlib.Core.Option.{Option, some-injective, bind, none, some}
use mathlib.Core.Path.{◌∙◌, ◌≡◌, ap, refl, sym}
use Rattle.form.proofs.RowBack.{items_of, placeless_item, row_back, row_read, row_parts, row_text_bytes, value_items}
use Rattle.form.specs.Form.{Form, Item, attr, cond_role, grant, has_brackets, label, labelled, leads_label, note, plain, purpose, role, row, table, user}
use Rattle.form.specs.RowText.{item_texts, row_text, spaced, value_texts}
use Rattle.import.proofs.RowLaws.{lines_one, spaced_one, unfit_first}
use Rattle.csv_text.proofs.FieldLaws.{not_name}
use Rattle.import.proofs.ImportLaws.{was_taken}
use Rattle.import.specs.Importing.{importable, importing, one_label, record_line, record_lines}
use Rattle.import.specs.ReadBack.{ReadsBack, item_words, line_words, lines_read, row_words, whole_lines}
use Rattle.csv_text.specs.Fields.{Field}
use Rattle.csv_text.specs.Records.{Entry, first_unfit, records, split}
use Rattle.lists.proofs.KeptLaws.{all_append}
use Rattle.lists.proofs.Tests.{and_both, and_left, and_right}
use Rattle.lists.specs.Lists.{all_of}
use Rattle.calendar.proofs.CellValues.{values_cells}
use Rattle.text.proofs.ByteLaws.{name_value, value_name_bytes}
use Rattle.text.proofs.LineLaws.{cut_line, no_feed}
use Rattle.text.proofs.ReadBack.{placeless}
use Rattle.text.proofs.ReaderLaws.{not_read}
use Rattle.text.proofs.RefusalLaws.{accepted_same, bind_accepted}
use Rattle.text.specs.Refusal.{accepted}
use Rattle.text.proofs.NameLaws.{same_name_refl}
use Rattle.text.specs.Bytes.{ascii, is_digit, is_letter, is_name_byte}
use Rattle.text.specs.Lines.{Pieces, cut}
use Rattle.text.specs.Names.{Name, is_name}
use Rattle.text.specs.Numbers.{Value, is_value}
use Rattle.text.specs.Words.{Word, plain_word}

-- ---- the words of one line

words_placeless : (is : List Item) → item_words (map placeless_item is) ≡ item_words is
unfolding item_words placeless_item placeless plain_word
words_placeless [] = refl
words_placeless (plain w ∷ is) = ap (Option.map (λ ws. w.bytes ∷ ws)) (words_placeless is)
words_placeless (labelled v l ∷ is) = refl

words_plain : (vs : List Value) → item_words (map (λ v. plain (plain_word v)) vs) ≡ some vs
unfolding item_words plain_word
words_plain [] = refl
words_plain (v ∷ vs) = ap (Option.map (λ ws. v ∷ ws)) (words_plain vs)

row_words_lem : (f : Form) (t : Name) (vs : List Value) → row_parts f ≡ some (plain_word t, map (λ v. plain (plain_word v)) vs) → row_words f ≡ some (t ∷ vs)
unfolding row_parts row_words placeless plain_word
row_words_lem (purpose n p) t vs h = not_read _ h
row_words_lem (role n p) t vs h = not_read _ h
row_words_lem (attr r a k) t vs h = not_read _ h
row_words_lem (user u r gs) t vs h = not_read _ h
row_words_lem (cond_role c r x) t vs h = not_read _ h
row_words_lem (grant p c) t vs h = not_read _ h
row_words_lem (label l ps qs) t vs h = not_read _ h
row_words_lem (table x s cs) t vs h = not_read _ h
row_words_lem (note x n) t vs h = not_read _ h
row_words_lem (row x is) t vs h =
    let e : ◌≡◌ {A = Word × List Item} (plain_word x.bytes, map placeless_item is) (plain_word t, map (λ v. plain (plain_word v)) vs) = some-injective _ _ h in
    let b : x.bytes ≡ t = ap (λ (p : Word × List Item). p.0.bytes) e in
    let i : map placeless_item is ≡ map (λ v. plain (plain_word v)) vs = ap (λ (p : Word × List Item). p.1) e in
    let w : item_words is ≡ some vs = sym (words_placeless is) ∙ ap item_words i ∙ words_plain vs in
    ap (Option.map (λ ws. x.bytes ∷ ws)) w ∙ ap (λ (y : List ℕ). some (y ∷ vs)) b

module _ (t l : Name) (named : is_name t ≡ true) (labelled' : is_name l ≡ true) where
  line_words_lem : (vs : List Field) → all_of is_value vs ≡ true → line_words (row_text one_label (ascii "row") t (l ∷ []) vs) ≡ some (t ∷ l ∷ vs)
  unfolding line_words bind all_of items_of leads_label has_brackets value_items
  line_words_lem vs k =
      let r = row_read one_label (ascii "row") t (l ∷ []) vs (same_name_refl (ascii "row")) named (and_both (is_name l) true labelled' refl) (values_cells vs k) in
      ap (λ (o : Option Form). bind o row_words) r.1 ∙ row_words_lem r.0 t (l ∷ vs) (row_back one_label (ascii "row") t (l ∷ []) vs (same_name_refl (ascii "row")) named (and_both (is_name l) true labelled' refl) (values_cells vs k) r.0 r.1)

  -- ---- no line feed stands in a line

  feed_free : (bs : List ℕ) → all_of is_name_byte bs ≡ true → no_feed bs ≡ true
  unfolding no_feed all_of
  feed_free [] h = refl
  feed_free (b ∷ bs) h =
      and_both (not (eqb b 10)) (no_feed bs) (ap not (not_name 10 b (unfold is_name_byte is_letter is_digit in refl) (and_left (is_name_byte b) (all_of is_name_byte bs) h))) (feed_free bs (and_right (is_name_byte b) (all_of is_name_byte bs) h))

  free_both : (xs ys : List ℕ) → no_feed xs ≡ true → no_feed ys ≡ true → no_feed (xs ++ ys) ≡ true
  unfolding no_feed
  free_both xs ys h k = all_append (λ b. not (eqb b 10)) xs ys ∙ and_both (no_feed xs) (no_feed ys) h k

  spaced_free : (vs : List Value) → all_of is_value vs ≡ true → no_feed (spaced vs) ≡ true
  unfolding all_of
  spaced_free [] h = unfold spaced flatten no_feed all_of in refl
  spaced_free (v ∷ vs) h =
      let a = feed_free v (value_name_bytes v (and_left (is_value v) (all_of is_value vs) h)) in
      ap no_feed (spaced_one v vs) ∙ free_both (32 ∷ v) (spaced vs) (first_free v a) (spaced_free vs (and_right (is_value v) (all_of is_value vs) h))
    where
      first_free : (w : List ℕ) → no_feed w ≡ true → no_feed (32 ∷ w) ≡ true
      first_free w a = unfold no_feed all_of in a

  row_free : (vs : List Field) → all_of is_value vs ≡ true → no_feed (row_text one_label (ascii "row") t (l ∷ []) vs) ≡ true
  unfolding item_texts leads_label has_brackets value_texts all_of no_feed
  row_free vs k =
      let a = feed_free t (value_name_bytes t (name_value t named)) in
      let b = spaced_free (l ∷ vs) (and_both (is_value l) (all_of is_value vs) (name_value l labelled') k) in
      ap no_feed (row_text_bytes one_label (ascii "row") t (l ∷ []) vs) ∙ front (t ++ (spaced (l ∷ vs) ++ 41 ∷ [])) (free_both t (spaced (l ∷ vs) ++ 41 ∷ []) a (free_both (spaced (l ∷ vs)) (41 ∷ []) b (unfold no_feed all_of in refl)))
    where
      front : (bs : List ℕ) → no_feed bs ≡ true → no_feed (40 ∷ 114 ∷ 111 ∷ 119 ∷ 32 ∷ bs) ≡ true
      front bs h = unfold no_feed all_of in h

  -- ---- the lines one after the other

  pub lines_cut : (e : Entry) (es : List Entry) → all_of is_value e.fields ≡ true
      → cut (record_lines t l (e ∷ es)) ≡ record { head = row_text one_label (ascii "row") t (l ∷ []) e.fields; others = (cut (record_lines t l es)).head ∷ (cut (record_lines t l es)).others }
  unfolding record_line
  lines_cut e es k =
      ap cut (lines_one t l e es ∙ append_assoc (row_text one_label (ascii "row") t (l ∷ []) e.fields) (10 ∷ []) (record_lines t l es))
      ∙ cut_line (row_text one_label (ascii "row") t (l ∷ []) e.fields) (record_lines t l es) (row_free e.fields k)

  lines_read_lem : (es : List Entry) → first_unfit es ≡ none → lines_read (record_lines t l es) ≡ some (map (λ e. some (t ∷ l ∷ e.fields)) es)
  unfolding lines_read
  lines_read_lem [] h = unfold record_lines flatten cut whole_lines in refl
  lines_read_lem (e ∷ es) h =
      let u = unfit_first e es h in
      more e es (lines_cut e es u.0) (line_words_lem e.fields u.0) (lines_read_lem es u.1)
    where
      more : (e : Entry) (es : List Entry)
          → cut (record_lines t l (e ∷ es)) ≡ record { head = row_text one_label (ascii "row") t (l ∷ []) e.fields; others = (cut (record_lines t l es)).head ∷ (cut (record_lines t l es)).others }
          → line_words (row_text one_label (ascii "row") t (l ∷ []) e.fields) ≡ some (t ∷ l ∷ e.fields)
          → Option.map (map line_words) (whole_lines (cut (record_lines t l es)).head (cut (record_lines t l es)).others) ≡ some (map (λ e. some (t ∷ l ∷ e.fields)) es)
          → Option.map (map line_words) (whole_lines (cut (record_lines t l (e ∷ es))).head (cut (record_lines t l (e ∷ es))).others) ≡ some (map (λ e. some (t ∷ l ∷ e.fields)) (e ∷ es))
      more e es c w ih = unfold whole_lines in
          (ap (λ (p : Pieces). Option.map (map line_words) (whole_lines p.head p.others)) c
          ∙ twice (row_text one_label (ascii "row") t (l ∷ []) e.fields) (whole_lines (cut (record_lines t l es)).head (cut (record_lines t l es)).others)
          ∙ ap (Option.map (λ ws. line_words (row_text one_label (ascii "row") t (l ∷ []) e.fields) ∷ ws)) ih
          ∙ ap (λ (x : Option (List Value)). some (x ∷ map (λ e. some (t ∷ l ∷ e.fields)) es)) w)
        where
          twice : (x : List ℕ) (o : Option (List (List ℕ))) → Option.map (map line_words) (Option.map (λ ls. x ∷ ls) o) ≡ Option.map (λ ws. line_words x ∷ ws) (Option.map (map line_words) o)
          twice x none = refl
          twice x (some ls) = refl

-- ---- what is accepted

-- what an accepted file was
pub record Was (bytes : List ℕ) (t l : Name) (ls : List ℕ) : Type 0 where
  pub entries : List Entry
  pub are : records bytes ≡ split entries
  pub names : (is_name t && is_name l) ≡ true
  pub fit : first_unfit entries ≡ none
  pub lines : ls ≡ record_lines t l entries

pub was_accepted : (bytes : List ℕ) (t l : Name) (room : ℕ) (ls : List ℕ) → importing bytes t l room ≡ accepted ls → Was bytes t l ls
unfolding importing
was_accepted bytes t l room ls h =
    let b = bind_accepted (importable bytes t l room) (λ es. accepted (record_lines t l es)) ls h in
    let k = was_taken bytes t l room b.0 b.1 in
    record { entries = b.0; are = k.are; names = k.names; fit = k.fit; lines = sym (accepted_same b.2) }

-- Reading what was written gives the file's values in order.
pub reads_back : (bytes : List ℕ) (t l : Name) (room : ℕ) (ls : List ℕ) → importing bytes t l room ≡ accepted ls → ReadsBack bytes t l ls
reads_back bytes t l room ls h =
    let w = was_accepted bytes t l room ls h in
    record {
      entries = w.entries;
      are = w.are;
      read = ap lines_read w.lines ∙ lines_read_lem t l (and_left (is_name t) (is_name l) w.names) (and_right (is_name t) (is_name l) w.names) w.entries w.fit;
    }
