-- The cells `(v L)` of a row line, taken one by one: what the walk over them keeps, and that one cell more keeps it. Assumes nothing.
use Prim.Native.Nat.{◌+◌, ◌<◌, ◌≤◌, ℕ}
use lib.ListN.{get_or, length}
use mathlib.Core.Bool.{true}
use mathlib.Core.List.{List, [], ◌++◌, ◌∷◌, map}
use mathlib.Core.Option.{some}
use mathlib.Core.Path.{◌∙◌, ◌≡◌, ap, refl, subst, sym}
use native.Mathlib.Omega.{arith}
use Rattle.condition.specs.Kinds.{Kind}
use Rattle.document.specs.Lookup.{columns_at, label_of}
use Rattle.document.specs.NameFaults.{bracket_labels}
use Rattle.document.specs.Policy.{Column, Policy}
use Rattle.rows.proofs.RowChecks.{bracket_known, labels_on}
use Rattle.document.specs.TypeFaults.{cell_has_kind}
use Rattle.form.proofs.RowWritten.{labelled_here, labelled_item_lem}
use Rattle.form.proofs.WalkSteps.{cells_more, item_bracket_end, place_bracket}
use Rattle.form.specs.Form.{Item, labelled}
use Rattle.form.specs.FormReader.{item, labelled_item}
use Rattle.form.specs.Walks.{cell_at, cell_end_at, cell_label_in, cells_at, first_in, is_labelled_at, item_end_at, items_at, value_place}
use Rattle.relations.proofs.TableLaws.{column_inside}
use Rattle.relations.specs.Rows.{FillingRow, LabelStored, ValueStored}
use Rattle.relations.specs.Tables.{Tables, column_kind_in}
use Rattle.lists.specs.Lists.{or_zero, there}
use Rattle.walks.proofs.Typed.{ItemsPassed, all_passed, end_some, items_turn, none_passed, typed_at, typed_value}
use Rattle.walks.specs.Walked.{CellsTaken, LabelTaken, LabelWalked, typed_end}
use Rattle.stepping.proofs.PlaceLaws.{written_placed}
use Rattle.rows.proofs.RowTurns.{Rowed, label_added, rowed_all, rowed_begun, value_added}
use Rattle.stepping.specs.Stored.{LineAt}
use Rattle.calendar.proofs.CellValues.{forward_cell_value}
use Rattle.text.proofs.CodeLaws.{word_at_lem}
use Rattle.text.proofs.EndLaws.{held_end}
use Rattle.text.proofs.Forward.{forward_next, forward_word_that}
use Rattle.text.proofs.Lefts.{before_end}
use Rattle.text.proofs.ReaderLaws.{byte_at_read}
use Rattle.text.proofs.Spaces.{next_here}
use Rattle.text.proofs.WalkingLaws.{past_here}
use Rattle.text.proofs.WordLaws.{word_read}
use Rattle.calendar.specs.CellValues.{cell_value}
use Rattle.text.specs.Brackets.{next}
use Rattle.text.specs.CodeEnds.{word_end}
use Rattle.text.specs.Names.{is_name}
use Rattle.text.specs.Offending.{missing}
use Rattle.text.specs.Reader.{Left, from}
use Rattle.text.specs.Walking.{past, word_end_at, written_end_at}
use Rattle.text.specs.Words.{Word, name, word_at, word_of, written_at}
use Rattle.std.specs.Prelude.{Option, Some}

-- ---- the label of a known name behind a space

pub label_taken : {before after line : List ℕ} {d : Policy} {k m at e y : ℕ} → get_or line at 0 ≡ 32 → word_end (name (from line (at + 1))) ≡ Some e
    → (e ≡ at + 1 + length (word_at line (at + 1)) → some y ≡ label_of d (word_of line (at + 1))) → LabelStored before after k m y → LabelTaken before after line d k m at e
unfolding word_end_at there or_zero
label_taken {before} {after} {line} {d} {k} {m} {at} {e} {y} space read to s =
    let w = word_at_lem line (at + 1) is_name e read in
    let found = to w.1 in
    record {
      space = space;
      named = w.0;
      end = w.1;
      found = sym (ap there found);
      stored = subst (λ z. LabelStored before after k m z) (ap or_zero found) s;
    }

-- the code says where it ends
pub label_at : {before after line : List ℕ} {d : Policy} {k m at e : ℕ} {r : Option ℕ} → r ≡ Some e → LabelWalked before after line d k m at r → LabelTaken before after line d k m at e
label_at {before} {after} {line} {d} {k} {m} {at} q h = subst (λ z. LabelWalked before after line d k m at z) q h

-- ---- what the walk keeps

-- c cells, of which n are wanted, stand from `is` to j and are stored as those of row k, which had the labels ls before them, m of them
pub record CellsPassed (text before after line : List ℕ) (k n m : ℕ) (ls : List ℕ) (c : ℕ) (d : Policy) (cs : List Column) (is j : ℕ) : Type 0 where
  pub items : ItemsPassed true line n c cs is j
  pub labelled : missing (λ w. there (label_of d w)) (bracket_labels (items_at line is)) ≡ missing (λ w. there (label_of d w)) (bracket_labels (items_at line j))
  pub rowed : Rowed text before after k c (m + c) (map (λ g. g.0.bytes) (cells_at line is)) (map (λ g. g.0.bytes) (cells_at line j)) (ls ++ map (λ g. or_zero (label_of d g.1)) (cells_at line is)) (map (λ g. or_zero (label_of d g.1)) (cells_at line j))

pub no_cells_passed : {text ws line : List ℕ} {k n m : ℕ} {ls : List ℕ} {d : Policy} {cs : List Column} {is : ℕ} → FillingRow text ws k 0 m [] ls → CellsPassed text ws ws line k n m ls 0 d cs is is
no_cells_passed {text} {ws} {line} {k} {n} {m} {ls} {d} {cs} {is} h = record {
  items = none_passed true line n cs is;
  labelled = refl;
  rowed = rowed_begun _ _ h;
}

pub all_cells_passed : {text before after line : List ℕ} {k n m : ℕ} {ls : List ℕ} {c : ℕ} {d : Policy} {cs : List Column} {is j : ℕ} → c ≡ n → CellsPassed text before after line k n m ls c d cs is j → CellsTaken text before after line k n m ls d cs is j
all_cells_passed {text} {before} {after} {line} {k} {n} {m} {ls} {c} {d} {cs} {is} {j} q h =
    let g = subst (λ i. CellsPassed text before after line k n m ls i d cs is j) q h in
    record {
      walked = all_passed g.items;
      labelled = g.labelled;
      filled = λ z. rowed_all g.rowed (ap (map (λ g. g.0.bytes)) z) (ap (map (λ g. or_zero (label_of d g.1))) z);
    }

-- ---- one cell: where its words stand, and that it is read as an item

module _ (line : List ℕ) (j e f : ℕ) (opened : get_or line (j + 1) 0 ≡ 40) (first : e ≡ written_end_at line (j + 2)) (gap : get_or line e 0 ≡ 32) (second : f ≡ word_end_at line (e + 1)) (closed : get_or line f 0 ≡ 41) where
  first_at : j + 2 ≡ past 40 line (j + 1)
  first_at = omega (arith, past_here 40 line (j + 1) (λ z. absurd (omega arith)) opened)

  second_at : e + 1 ≡ cell_label_in line (j + 1)
  unfolding cell_label_in first_in
  second_at = sym (past_here 32 line e (λ z. absurd (omega arith)) gap) ∙ ap (past 32 line) (first ∙ ap (written_end_at line) first_at)

  pair_at : f + 1 ≡ cell_end_at line (j + 1)
  unfolding cell_end_at
  pair_at = sym (past_here 41 line f (λ z. absurd (omega arith)) closed) ∙ ap (past 41 line) (second ∙ ap (word_end_at line) second_at)

  module _ (type : Kind) (v : cell_has_kind type (written_at line (j + 2)) ≡ true) (n : is_name (word_at line (e + 1)) ≡ true) where
    pair_read : word_end (labelled_item (from line (j + 1))) ≡ Some (f + 1)
    unfolding labelled_item word_end_at
    pair_read =
        let two : j + 1 + 1 ≡ j + 2 = omega arith in
        sym (held_end cell_value (next name) labelled forward_cell_value line (j + 1) refl (ap word_end (byte_at_read line (j + 1) 40 opened) ∙ ap Some two)
        refl (typed_value line (j + 2) type v ∙ ap Some (sym first))
        refl (forward_next name (forward_word_that is_name)) (ap word_end (next_here name line e gap ∙ word_read line (e + 1) is_name n) ∙ ap Some (sym second))
        (sym (ap word_end (byte_at_read line f 41 closed))))

    is_pair : (r : Item × Left) × (labelled_item (from line (j + 1)) ≡ some r)
    is_pair = end_some (labelled_item (from line (j + 1))) pair_read

    cell_labelled : is_labelled_at line (j + 1) ≡ true
    cell_labelled = labelled_here line (j + 1) is_pair.0.0 is_pair.0.1 is_pair.1

    cell_end : f + 1 ≡ item_end_at line (j + 1)
    cell_end = pair_at ∙ sym (item_bracket_end line (j + 1) cell_labelled)

    value_at_lem : j + 2 ≡ value_place line (j + 1)
    unfolding first_in
    value_at_lem = first_at ∙ sym (place_bracket line (j + 1) cell_labelled)

    cell_read : word_end (item (from line (j + 1))) ≡ Some (f + 1)
    cell_read = ap word_end (labelled_item_lem (from line (j + 1)) is_pair.0.0 is_pair.0.1 is_pair.1) ∙ ap word_end (sym is_pair.1) ∙ pair_read

  cell_stored : {text : List ℕ} {at : ℕ} (l : LineAt text at line) {before ws mid after : List ℕ} {k c m : ℕ} (ls : List ℕ) (d : Policy) (is pos : ℕ) → get_or line j 0 ≡ 32 → (at + (j + 2) ≤ length text → pos ≡ at + (j + 2))
      → ValueStored ws mid k c pos → LabelStored mid after k (m + c) (or_zero (label_of d (word_of line (e + 1)))) → k < 1024 → c < 16 → m ≤ 1
      → Rowed text before ws k c (m + c) (map (λ g. g.0.bytes) (cells_at line is)) (map (λ g. g.0.bytes) (cells_at line j)) (ls ++ map (λ g. or_zero (label_of d g.1)) (cells_at line is)) (map (λ g. or_zero (label_of d g.1)) (cells_at line j))
      → Rowed text before after k (c + 1) (m + (c + 1)) (map (λ g. g.0.bytes) (cells_at line is)) (map (λ g. g.0.bytes) (cells_at line (f + 1))) (ls ++ map (λ g. or_zero (label_of d g.1)) (cells_at line is)) (map (λ g. or_zero (label_of d g.1)) (cells_at line (f + 1)))
  unfolding cell_at first_in
  cell_stored {text} {at} l {before} {ws} {mid} {after} {k} {c} {m} ls d is pos space placed s t small inside one g =
      let begins : j + 1 < length line = before_end line (j + 1) (λ z. absurd (omega (arith, opened, z))) in
      let counted : m + c + 1 ≡ m + (c + 1) = omega arith in
      subst (λ n. Rowed text before after k (c + 1) n (map (λ g. g.0.bytes) (cells_at line is)) (map (λ g. g.0.bytes) (cells_at line (f + 1))) (ls ++ map (λ g. or_zero (label_of d g.1)) (cells_at line is)) (map (λ g. or_zero (label_of d g.1)) (cells_at line (f + 1))))
      counted
      (label_added (or_zero (label_of d (word_of line (cell_label_in line (j + 1)))))
      (value_added (written_at line (first_in line (j + 1)))
      (subst (λ (xs : List (Word × Word)). Rowed text before ws k c (m + c) (map (λ g. g.0.bytes) (cells_at line is)) (map (λ g. g.0.bytes) xs) (ls ++ map (λ g. or_zero (label_of d g.1)) (cells_at line is)) (map (λ g. or_zero (label_of d g.1)) xs))
      (cells_more line j space ∙ ap (λ n. cell_at line (j + 1) ∷ cells_at line n) (sym pair_at)) g)
      small inside s (written_placed l (j + 2) pos (omega arith) placed ∙ ap (written_at line) first_at))
      small (omega (arith, inside, one)) t (ap (λ n. or_zero (label_of d (word_of line n))) second_at))

-- ---- one cell more

module _ {text tables : List ℕ} {count x : ℕ} (d : Policy) (T : Tables text tables count d.tables) (b : x < count) {n : ℕ} (wide : n ≡ length (columns_at d x)) where
  pub cells_turn : {before ws mid after line : List ℕ} {k c m at e f pos : ℕ} (ls : List ℕ) (is j : ℕ) (type : Kind) → LineAt text at line → k < 1024 → m ≤ 1 → c < n → get_or line j 0 ≡ 32 → get_or line (j + 1) 0 ≡ 40
      → (x < 8 → c < 16 → type ≡ column_kind_in tables x c) → typed_end line (j + 2) type ≡ Some e
      → (at + (j + 2) ≤ length text → pos ≡ at + (j + 2)) → ValueStored ws mid k c pos → LabelTaken mid after line d k (m + c) e f → get_or line f 0 ≡ 41
      → CellsPassed text before ws line k n m ls c d (columns_at d x) is j → CellsPassed text before after line k n m ls (c + 1) d (columns_at d x) is (f + 1)
  cells_turn {before} {ws} {mid} {after} {line} {k} {c} {m} {at} {e} {f} {pos} ls is j type stands small one inside space opened kind ends placed s t closed p =
      let v = typed_at line (j + 2) type e ends in
      let to : f + 1 ≡ item_end_at line (j + 1) = cell_end line j e f opened v.1 t.space t.end closed type v.0 t.named in
      let marked : is_labelled_at line (j + 1) ≡ true = cell_labelled line j e f opened v.1 t.space t.end closed type v.0 t.named in
      let mark : there (label_of d (word_of line (cell_label_in line (j + 1)))) ≡ true = ap (λ q. there (label_of d (word_of line q))) (sym (second_at line j e f opened v.1 t.space t.end closed)) ∙ t.found in
      record {
        items =
            items_turn d T b wide true line c is j (f + 1) (j + 2) type inside space marked kind (value_at_lem line j e f opened v.1 t.space t.end closed type v.0 t.named) v.0 v.2
            (cell_read line j e f opened v.1 t.space t.end closed type v.0 t.named) to p.items;
        labelled =
            p.labelled
            ∙ labels_on (λ w. there (label_of d w)) line j space true (bracket_known (λ w. there (label_of d w)) line (j + 1) marked true mark) refl
            ∙ ap (λ i. missing (λ w. there (label_of d w)) (bracket_labels (items_at line i))) (sym to);
        rowed =
            cell_stored line j e f opened v.1 t.space t.end closed stands ls d is pos space placed s t.stored small
            (column_inside text tables count x d T b c (subst (λ q. c < q) wide inside)) one p.rowed;
      }
