-- A value of a type, a name, a number, a range or a date: where it ends, that readers read it, and one turn of a walk over items that have such values.
-- Assumes nothing.
use Prim.Native.Nat.{◌+◌, ◌<◌, ℕ}
use borrow.Author.Tests.{eqb-false, eqb-true}
use lib.Dec.{eqb}
use lib.ListN.{drop, get_or, length}
use mathlib.Core.Bool.{Bool, ◌&&◌, ◌||◌, cond, false, true}
use mathlib.Core.List.{List}
use mathlib.Core.Option.{Option, map, none-ne-some, none, some}
use mathlib.Core.Path.{◌∙◌, ◌≡◌, ap, refl, sym}
use native.Mathlib.Omega.{arith}
use Rattle.calendar.proofs.CellValues.{date_no_range, written_cell}
use Rattle.calendar.proofs.DateValues.{DateShape, enclosed_date, is_date_lem, word_no_date, written_date}
use Rattle.calendar.specs.Calendar.{Date, date_rank}
use Rattle.calendar.specs.DateText.{date_of, date_text, is_date}
use Rattle.calendar.specs.Found.{date_read_of, ranked_at}
use Rattle.condition.specs.Kinds.{Kind, dates, has_kind, names, numbers}
use Rattle.document.specs.AmountFaults.{date_exists, in_order}
use Rattle.document.specs.Lookup.{columns_at}
use Rattle.document.specs.Policy.{Column, Policy}
use Rattle.document.specs.TypeFaults.{cell_has_kind, mistyped_value}
use Rattle.document.specs.ValueFaults.{shaped_values}
use Rattle.rows.proofs.RowChecks.{first_broken, first_unreal, test_on, types_on}
use Rattle.rows.proofs.RowItems.{count_start, count_fits, fits_more, width_fits}
use Rattle.rows.proofs.RowTypes.{bracket_date, bracket_name, bracket_number, rank_there, word_kind}
use Rattle.rows.specs.RowWords.{values_at}
use Rattle.form.proofs.FormForward.{forward_item}
use Rattle.form.proofs.PartLaws.{item_ends}
use Rattle.form.proofs.WalkLaws.{value_unlabelled}
use Rattle.form.specs.FormReader.{item}
use Rattle.form.specs.Walks.{is_labelled_at, item_end_at, items_at, value_place}
use Rattle.workspace.proofs.TabulatedLaws.{length_tabulated}
use Rattle.relations.proofs.TableLaws.{columns_at_lem}
use Rattle.relations.specs.Tables.{Cut, Tables, column_count_in, column_in, column_kind_in}
use Rattle.lists.proofs.Tests.{and_left, and_right, or_cases, or_left, or_right}
use Rattle.lists.specs.Lists.{there}
use Rattle.walks.specs.Walked.{ItemsWalked, existing_end, is_sound, is_taken, ordered_end, typed_end}
use Rattle.text.proofs.Closings.{written_end, written_word}
use Rattle.text.proofs.Enclosed.{enclosed_at}
use Rattle.text.proofs.EndLaws.{list_more}
use Rattle.text.proofs.NumberLaws.{number_read, number_refused}
use Rattle.text.proofs.RangeLaws.{is_range_lem, range_at, range_unopened, range_whole, written_range}
use Rattle.text.proofs.ReadBack.{left}
use Rattle.text.proofs.WordLaws.{not_name_letter, word_read, word_refused}
use Rattle.calendar.specs.CellValues.{cell_value, is_cell_value}
use Rattle.text.specs.Amounts.{Range, is_range, range, range_of}
use Rattle.text.specs.Brackets.{many}
use Rattle.text.specs.Bytes.{is_letter}
use Rattle.text.specs.CodeEnds.{end_of_number, end_of_range, word_end}
use Rattle.text.specs.Names.{is_name}
use Rattle.text.specs.Numbers.{is_number, is_value, rank}
use Rattle.text.specs.Reader.{Left, from}
use Rattle.text.specs.Walking.{word_end_at, written_end_at}
use Rattle.text.specs.Words.{name, read_number, word_at, written_at}
use Rattle.std.specs.Prelude as prelude
use Rattle.std.specs.Prelude.{None, Some}

-- ---- what is of a type is a value, and it is read as an item without a label

kind_cell : (type : Kind) (bs : List ℕ) → cell_has_kind type bs ≡ true → is_cell_value bs ≡ true
unfolding cell_has_kind has_kind is_cell_value is_value
kind_cell names bs h = or_left (is_name bs || is_number bs) (is_range bs || is_date bs) (or_left (is_name bs) (is_number bs) h)
kind_cell numbers bs h =
    or_cases (is_number bs) (is_range bs) h
    (λ e. or_left (is_name bs || is_number bs) (is_range bs || is_date bs) (or_right (is_name bs) (is_number bs) e))
    (λ e. or_right (is_name bs || is_number bs) (is_range bs || is_date bs) (or_left (is_range bs) (is_date bs) e))
kind_cell dates bs h = or_right (is_name bs || is_number bs) (is_range bs || is_date bs) (or_right (is_range bs) (is_date bs) h)

-- an end: something was read
pub end_some : {A : Type 0} (o : Option (A × Left)) {e : ℕ} → word_end o ≡ Some e → (r : A × Left) × (o ≡ some r)
end_some none h = let z : ◌≡◌ {A = ℕ} 0 1 = cc in absurd (omega arith)
end_some (some r) h = (r, refl)

module _ (line : List ℕ) (v : ℕ) (type : Kind) (h : cell_has_kind type (written_at line v) ≡ true) where
  pub typed_value : word_end (cell_value (from line v)) ≡ Some (written_end_at line v)
  typed_value = written_cell line v (kind_cell type (written_at line v) h)

  pub typed_bare : is_labelled_at line v ≡ false
  unfolding there
  typed_bare = value_unlabelled line v (ap there (end_some (cell_value (from line v)) typed_value).1)

  -- it is read as an item
  pub typed_plain : word_end (item (from line v)) ≡ Some (written_end_at line v)
  typed_plain = sym (item_ends line v (written_end_at line v) typed_value)

-- ---- where the value of a type ends, as the code finds it

-- the end of a number, without its rank
abbrev pub number_end : prelude.Option (ℕ × ℕ) → prelude.Option ℕ
number_end (Some (e, k)) = Some e
number_end None = None

and-true : (b : Bool) → (b && true) ≡ b
and-true true = refl
and-true false = refl

module _ (line : List ℕ) (v : ℕ) where
  typed_yes : (type : Kind) → is_taken type (written_at line v) ≡ true → typed_end line v type ≡ Some (written_end_at line v)
  unfolding typed_end
  typed_yes type h = ap (λ t. cond t (Some (written_end_at line v)) None) h

  typed_no : (type : Kind) → is_taken type (written_at line v) ≡ false → typed_end line v type ≡ None
  unfolding typed_end
  typed_no type h = ap (λ t. cond t (Some (written_end_at line v)) None) h

  -- an end: the value is of the type, ends there, and is sound
  pub typed_at : (type : Kind) (e : ℕ) → typed_end line v type ≡ Some e → (cell_has_kind type (written_at line v) ≡ true) × (e ≡ written_end_at line v) × (is_sound (written_at line v) ≡ true)
  unfolding is_taken
  typed_at type e h = go (is_taken type (written_at line v)) refl
    where
      go : (t : Bool) → is_taken type (written_at line v) ≡ t → (cell_has_kind type (written_at line v) ≡ true) × (e ≡ written_end_at line v) × (is_sound (written_at line v) ≡ true)
      go true k =
          let q : Some (written_end_at line v) ≡ Some e = sym (typed_yes type k) ∙ h in
          let r : e ≡ written_end_at line v = cc in
          (and_left (cell_has_kind type (written_at line v)) _ k, r, and_right (cell_has_kind type (written_at line v)) _ k)
      go false k =
          let q : None ≡ Some e = sym (typed_no type k) ∙ h in
          let z : ◌≡◌ {A = ℕ} 0 1 = cc in
          absurd (omega arith)

  -- where no bracket opens, the word there is judged
  sound_word : (get_or line v 0 ≡ 40 → ⊥) → is_sound (written_at line v) ≡ true
  unfolding is_sound in_order date_exists
  sound_word n =
      ap (λ (o : Option Range). in_order o && date_exists (date_of (written_at line v))) (written_range line v ∙ ap (map (λ x. x.0)) (range_unopened line v n))
      ∙ ap date_exists (ap date_of (written_word line v n) ∙ word_no_date line v)

  taken_word : (type : Kind) → (get_or line v 0 ≡ 40 → ⊥) → is_taken type (written_at line v) ≡ has_kind type (word_at line v)
  unfolding is_taken
  taken_word type n =
      ap (λ (b : Bool). cell_has_kind type (written_at line v) && b) (sound_word n)
      ∙ and-true (cell_has_kind type (written_at line v)) ∙ sym (word_kind line v type n)

  -- the reader of names
  pub typed_name : word_end (name (from line v)) ≡ typed_end line v names
  unfolding has_kind is_taken word_end_at is_letter
  typed_name = opened (eqb (get_or line v 0) 40) refl
    where
      named : (get_or line v 0 ≡ 40 → ⊥) → (t : Bool) → is_name (word_at line v) ≡ t → word_end (name (from line v)) ≡ typed_end line v names
      named n true k = ap word_end (word_read line v is_name k) ∙ ap Some (sym (written_end line v n)) ∙ sym (typed_yes names (taken_word names n ∙ k))
      named n false k = ap word_end (word_refused line v is_name k) ∙ sym (typed_no names (taken_word names n ∙ k))

      opened : (t : Bool) → eqb (get_or line v 0) 40 ≡ t → word_end (name (from line v)) ≡ typed_end line v names
      opened true k =
          ap word_end (word_refused line v is_name (not_name_letter line v (ap is_letter (eqb-true (get_or line v 0) 40 k))))
          ∙ sym (typed_no names (ap (λ (b : Bool). b && is_sound (written_at line v)) (bracket_name line v (eqb-true _ _ k))))
      opened false k = named (eqb-false _ _ k) (is_name (word_at line v)) refl

  -- the reader of numbers
  pub typed_number : (get_or line v 0 ≡ 40 → ⊥) → number_end (end_of_number (read_number (from line v))) ≡ typed_end line v numbers
  unfolding has_kind is_number there word_end_at
  typed_number n = go (rank (word_at line v)) refl
    where
      go : (o : Option ℕ) → rank (word_at line v) ≡ o → number_end (end_of_number (read_number (from line v))) ≡ typed_end line v numbers
      go (some k) e = ap (λ x. number_end (end_of_number x)) (number_read line v k e) ∙ ap Some (sym (written_end line v n)) ∙ sym (typed_yes numbers (taken_word numbers n ∙ ap there e))
      go none e = ap (λ x. number_end (end_of_number x)) (number_refused line v e) ∙ sym (typed_no numbers (taken_word numbers n ∙ ap there e))

  -- what is read as a date is no range, and what is read as a range no date
  date_unranged : (x : Date × Left) → date_text (from line v) ≡ some x → range (from line v) ≡ none
  date_unranged x e =
      let a = enclosed_at DateShape date_text enclosed_date line v x.0 x.1 e in
      ap (λ (bs : List ℕ). range (left v bs)) a.stood ∙ date_no_range a.text (drop (written_end_at line v) line) v

  range_undated : (x : Range × Left) → range (from line v) ≡ some x → date_exists (date_of (written_at line v)) ≡ true
  unfolding date_exists
  range_undated x e = ap date_exists (written_date line v) ∙ go (date_text (from line v)) refl
    where
      go : (o : Option (Date × Left)) → date_text (from line v) ≡ o → date_exists (map (λ x. x.0) o) ≡ true
      go none k = refl
      go (some y) k = absurd (none-ne-some x (sym (date_unranged y k) ∙ e))

  -- the reader of ranges
  pub typed_range : get_or line v 0 ≡ 40 → ordered_end (end_of_range (range (from line v))) ≡ typed_end line v numbers
  unfolding is_taken is_sound in_order there typed_end
  typed_range b = go (range (from line v)) refl
    where
      is_number_lem : (t : Bool) → there (range (from line v)) ≡ t → cell_has_kind numbers (written_at line v) ≡ t
      is_number_lem t k = bracket_number line v b ∙ is_range_lem line v ∙ k

      go : (o : Option (Range × Left)) → range (from line v) ≡ o → ordered_end (end_of_range (range (from line v))) ≡ cond (is_taken numbers (written_at line v)) (Some (written_end_at line v)) None
      go none e =
          ap (λ x. ordered_end (end_of_range x)) e
          ∙ sym (ap (λ (t : Bool). cond (t && is_sound (written_at line v)) (Some (written_end_at line v)) None) (is_number_lem false (ap there e)))
      go (some x) e =
          let a = range_at line v x.0 x.1 e in
          ap (λ y. ordered_end (end_of_range y)) a.read
          ∙ sym (ap (λ (t : Bool). cond (t && is_sound (written_at line v)) (Some (written_end_at line v)) None) (is_number_lem true (ap there e))
          ∙ ap (λ (t : Bool). cond (in_order (range_of (written_at line v)) && t) (Some (written_end_at line v)) None) (range_undated x e)
          ∙ ap (λ (t : Bool). cond t (Some (written_end_at line v)) None) (and-true (in_order (range_of (written_at line v))))
          ∙ ap (λ (o : Option Range). cond (in_order o) (Some (written_end_at line v)) None) (range_whole a.text))

  -- that of dates
  pub typed_date : existing_end (date_read_of (date_text (from line v))) ≡ typed_end line v dates
  unfolding is_taken is_sound in_order date_exists there typed_end
  typed_date = go (date_text (from line v)) refl
    where
      is_dated : (t : Bool) → there (date_text (from line v)) ≡ t → cell_has_kind dates (written_at line v) ≡ t
      is_dated t k = bracket_date line v ∙ is_date_lem line v ∙ k

      existing : (e : ℕ) (o : Option ℕ) → existing_end (ranked_at e o) ≡ cond (there o) (Some e) None
      existing e none = refl
      existing e (some r) = refl

      go : (o : Option (Date × Left)) → date_text (from line v) ≡ o → existing_end (date_read_of (date_text (from line v))) ≡ cond (is_taken dates (written_at line v)) (Some (written_end_at line v)) None
      go none e =
          ap (λ x. existing_end (date_read_of x)) e
          ∙ sym (ap (λ (t : Bool). cond (t && is_sound (written_at line v)) (Some (written_end_at line v)) None) (is_dated false (ap there e)))
      go (some x) e =
          let a = enclosed_at DateShape date_text enclosed_date line v x.0 x.1 e in
          ap (λ y. existing_end (date_read_of y)) a.read
          ∙ existing (written_end_at line v) (date_rank x.0)
          ∙ ap (λ (t : Bool). cond t (Some (written_end_at line v)) None) (rank_there x.0)
          ∙ sym (ap (λ (t : Bool). cond (t && is_sound (written_at line v)) (Some (written_end_at line v)) None) (is_dated true (ap there e))
          ∙ ap (λ (o : Option Range). cond (in_order o && date_exists (date_of (written_at line v))) (Some (written_end_at line v)) None) (written_range line v ∙ ap (map (λ y. y.0)) (date_unranged x e))
          ∙ ap (λ (o : Option Date). cond (date_exists o) (Some (written_end_at line v)) None) (written_date line v ∙ ap (map (λ y. y.0)) e))

-- ---- a walk over items, each with a value of its column's type

-- c items, of which n are wanted, stand from `is` to j
pub record ItemsPassed (bracketed : Bool) (line : List ℕ) (n c : ℕ) (cs : List Column) (is j : ℕ) : Type 0 where
  pub ends : word_end (many item (from line is)) ≡ word_end (many item (from line j))
  pub fits : width_fits n (shaped_values bracketed (items_at line is)) ≡ count_fits c n (shaped_values bracketed (items_at line j))
  pub typed : mistyped_value cs (values_at line is) ≡ mistyped_value (drop c cs) (values_at line j)
  pub ordered : first_broken (values_at line is) ≡ first_broken (values_at line j)
  pub dated : first_unreal (values_at line is) ≡ first_unreal (values_at line j)

pub none_passed : (bracketed : Bool) (line : List ℕ) (n : ℕ) (cs : List Column) (is : ℕ) → ItemsPassed bracketed line n 0 cs is is
none_passed bracketed line n cs is = record { ends = refl; fits = count_start n (shaped_values bracketed (items_at line is)); typed = refl; ordered = refl; dated = refl }

pub all_passed : {bracketed : Bool} {line : List ℕ} {n : ℕ} {cs : List Column} {is e : ℕ} → ItemsPassed bracketed line n n cs is e → ItemsWalked bracketed line n cs is e
all_passed p = record { ends = p.ends; fits = p.fits; typed = p.typed; ordered = p.ordered; dated = p.dated }

module _ {text tables : List ℕ} {count x : ℕ} (d : Policy) (T : Tables text tables count d.tables) (l : x < count) {n : ℕ} (wide : n ≡ length (columns_at d x)) where
  width_cut : Cut 16 x 8 (column_count_in tables x) n
  width_cut =
      let counted : length (columns_at d x) ≡ column_count_in tables x = ap length (columns_at_lem text tables count x d T l) ∙ length_tabulated (column_in text tables x) (column_count_in tables x) in
      record { few = omega (arith, wide, counted, T.narrow x l); is = λ a b. wide ∙ counted }

  -- one item more: it stands at j + 1 and ends at e, and its value stands at v
  pub items_turn : (b : Bool) (line : List ℕ) (c is j e v : ℕ) (type : Kind) → c < n → get_or line j 0 ≡ 32 → is_labelled_at line (j + 1) ≡ b
      → (x < 8 → c < 16 → type ≡ column_kind_in tables x c) → v ≡ value_place line (j + 1) → cell_has_kind type (written_at line v) ≡ true → is_sound (written_at line v) ≡ true
      → word_end (item (from line (j + 1))) ≡ Some e → e ≡ item_end_at line (j + 1)
      → ItemsPassed b line n c (columns_at d x) is j → ItemsPassed b line n (c + 1) (columns_at d x) is e
  unfolding is_sound
  items_turn b line c is j e v type small space shape kind place is_typed sound_so read end p = record {
    ends = p.ends ∙ sym (list_more item forward_item line j refl space refl read refl);
    fits = p.fits ∙ fits_more line j c n b space shape ∙ ap (λ i. count_fits (c + 1) n (shaped_values b (items_at line i))) (sym end);
    typed =
        p.typed
        ∙ types_on text tables count x d T l n width_cut line c j small space type kind v place true (sym is_typed) refl
        ∙ ap (λ i. mistyped_value (drop (c + 1) (columns_at d x)) (values_at line i)) (sym end);
    ordered =
        p.ordered
        ∙ test_on (λ v. in_order (range_of v)) line j space v place true (sym (and_left (in_order (range_of (written_at line v))) _ sound_so)) refl
        ∙ ap (λ i. first_broken (values_at line i)) (sym end);
    dated =
        p.dated
        ∙ test_on (λ v. date_exists (date_of v)) line j space v place true (sym (and_right (in_order (range_of (written_at line v))) _ sound_so)) refl
        ∙ ap (λ i. first_unreal (values_at line i)) (sym end);
  }
