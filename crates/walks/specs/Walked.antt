-- Contract: what one walk over the items of a row line finds and stores; for the functions that are not called from outside.
use Rattle.std.specs.Prelude.{◌+◌, ℕ, eqb, leb, drop, get_or, length, Bool, ◌&&◌, cond, false, true, List, [], ◌++◌, map, ◌≡◌}
use Rattle.calendar.specs.DateText.{date_of}
use Rattle.condition.specs.Kinds.{Kind}
use Rattle.document.specs.AmountFaults.{date_exists, in_order}
use Rattle.document.specs.Lookup.{label_of}
use Rattle.document.specs.NameFaults.{bracket_labels}
use Rattle.document.specs.Policy.{Column, Policy, Row}
use Rattle.document.specs.TypeFaults.{cell_has_kind, mistyped_value}
use Rattle.document.specs.ValueFaults.{shaped_values}
use Rattle.rows.specs.RowWords.{values_at}
use Rattle.form.specs.FormReader.{item}
use Rattle.form.specs.Walks.{cells_at, items_at, plain_at}
use Rattle.relations.specs.Rows.{LabelStored, Rows}
use Rattle.lists.specs.Lists.{holds_of, or_zero, there}
use Rattle.stepping.specs.Stored.{RowFilled}
use Rattle.text.specs.Amounts.{range_of}
use Rattle.text.specs.Brackets.{many}
use Rattle.text.specs.CodeEnds.{word_end}
use Rattle.text.specs.Names.{is_name}
use Rattle.text.specs.Numbers.{Value}
use Rattle.text.specs.Offending.{missing}
use Rattle.text.specs.Reader.{from}
use Rattle.text.specs.Walking.{word_end_at, written_end_at}
use Rattle.text.specs.Words.{word_at, word_of, written_at}
use Rattle.std.specs.Prelude.{None, Option, Some}

-- the value is in order if it is a range, and exists if it is a date
unfoldable pub is_sound : Value → Bool
is_sound v = in_order (range_of v) && date_exists (date_of v)

-- the value is of the type, and sound
unfoldable pub is_taken : Kind → Value → Bool
is_taken kind v = cell_has_kind kind v && is_sound v

-- where the value at a place ends, if it is so
unfoldable pub typed_end : List ℕ → ℕ → Kind → Option ℕ
typed_end line at kind = cond (is_taken kind (written_at line at)) (Some (written_end_at line at)) None

-- where a range ends, if LOW is at most HIGH, by the code's answer for its reader
abbrev pub ordered_end : Option (ℕ × ℕ × ℕ) → Option ℕ
ordered_end None = None
ordered_end (Some (e, l, h)) = cond (leb l h) (Some e) None

-- where a date ends, if it exists, by the code's answer for its reader
abbrev pub existing_end : Option (ℕ × Option ℕ) → Option ℕ
existing_end None = None
existing_end (Some (e, None)) = None
existing_end (Some (e, Some r)) = Some e

-- the first k rows stay
abbrev pub KeepsRows : (text before after : List ℕ) → ℕ → Type 0
KeepsRows text before after k = (rs : List Row) → Rows text before k rs → Rows text after k rs

-- n items, with labels (true) or without (false), stand from `is` to e, and each has a value of its column's type that is sound
pub record ItemsWalked (bracketed : Bool) (line : List ℕ) (n : ℕ) (cs : List Column) (is e : ℕ) : Type 0 where
  pub ends : word_end (many item (from line is)) ≡ word_end (many item (from line e))
  pub fits : holds_of (λ ws. eqb (length ws) n) (shaped_values bracketed (items_at line is)) ≡ holds_of (λ ws. eqb (n + length ws) n) (shaped_values bracketed (items_at line e))
  pub typed : mistyped_value cs (values_at line is) ≡ mistyped_value (drop n cs) (values_at line e)
  pub ordered : missing (λ w. in_order (range_of w.bytes)) (values_at line is) ≡ missing (λ w. in_order (range_of w.bytes)) (values_at line e)
  pub dated : missing (λ w. date_exists (date_of w.bytes)) (values_at line is) ≡ missing (λ w. date_exists (date_of w.bytes)) (values_at line e)

-- n values stand from `is` to e, and if they are all, they are stored as those of row k, which has m labels already
pub record ValuesTaken (text before after line : List ℕ) (k n m : ℕ) (ls : List ℕ) (cs : List Column) (is e : ℕ) : Type 0 where
  pub walked : ItemsWalked false line n cs is e
  pub filled : plain_at line e ≡ [] → RowFilled text before after k n m (map (λ w. w.bytes) (plain_at line is)) ls

-- the same for n cells with a known label at each, where the row has the labels ls already, m of them
pub record CellsTaken (text before after line : List ℕ) (k n m : ℕ) (ls : List ℕ) (d : Policy) (cs : List Column) (is e : ℕ) : Type 0 where
  pub walked : ItemsWalked true line n cs is e
  pub labelled : missing (λ w. there (label_of d w)) (bracket_labels (items_at line is)) ≡ missing (λ w. there (label_of d w)) (bracket_labels (items_at line e))
  pub filled : cells_at line e ≡ [] → RowFilled text before after k n (m + n) (map (λ g. g.0.bytes) (cells_at line is)) (ls ++ map (λ g. or_zero (label_of d g.1)) (cells_at line is))

-- the name of a known label stands behind a space and ends at e, and it is stored as label m of row k
pub record LabelTaken (before after line : List ℕ) (d : Policy) (k m at e : ℕ) : Type 0 where
  pub space : get_or line at 0 ≡ 32
  pub named : is_name (word_at line (at + 1)) ≡ true
  pub end : e ≡ word_end_at line (at + 1)
  pub found : there (label_of d (word_of line (at + 1))) ≡ true
  pub stored : LabelStored before after k m (or_zero (label_of d (word_of line (at + 1))))

-- the code's answer for values: they were taken up to an end, or nothing is said
abbrev pub ValuesWalked : (text before after line : List ℕ) → ℕ → ℕ → ℕ → List ℕ → List Column → ℕ → Option ℕ → Type 0
ValuesWalked text before after line k n m ls cs is None = Unit {0}
ValuesWalked text before after line k n m ls cs is (Some e) = ValuesTaken text before after line k n m ls cs is e

-- its answer for cells
abbrev pub CellsWalked : (text before after line : List ℕ) → ℕ → ℕ → ℕ → List ℕ → Policy → List Column → ℕ → Option ℕ → Type 0
CellsWalked text before after line k n m ls d cs is None = Unit {0}
CellsWalked text before after line k n m ls d cs is (Some e) = CellsTaken text before after line k n m ls d cs is e

-- its answer for a label
abbrev pub LabelWalked : (before after line : List ℕ) → Policy → ℕ → ℕ → ℕ → Option ℕ → Type 0
LabelWalked before after line d k m at None = Unit {0}
LabelWalked before after line d k m at (Some e) = LabelTaken before after line d k m at e
