-- Contract: how the workspace holds rows: tables from 0, the numbers of values from 1,024 and of labels from 2,048; for each row
-- 16 places for values, from 3,072, and 17 for labels, from 19,456.
use Rattle.std.specs.Prelude.{◌*◌, ◌+◌, ◌<◌, ◌≤◌, ℕ, get_or, List, [], ◌++◌, ◌∷◌, ◌≡◌}
use Rattle.document.specs.Policy.{Row}
use Rattle.workspace.specs.Tabulated.{tabulated}
use Rattle.text.specs.Numbers.{Value}
use Rattle.text.specs.Words.{written_at}

-- how many labels a row has room for
abbrev pub label_room : ℕ
label_room = 17

-- how many values row r has
abbrev pub value_count_in : List ℕ → ℕ → ℕ
value_count_in ws r = get_or ws (1024 + r) 0

-- how many labels
abbrev pub label_count_in : List ℕ → ℕ → ℕ
label_count_in ws r = get_or ws (2048 + r) 0

-- where value c of row r stands in the text
abbrev pub value_place_in : List ℕ → ℕ → ℕ → ℕ
value_place_in ws r c = get_or ws (3072 + 16 * r + c) 0

-- the value of column c in row r
abbrev pub value_in : List ℕ → List ℕ → ℕ → ℕ → Value
value_in text ws r c = written_at text (value_place_in ws r c)

-- label c of row r
abbrev pub row_label_in : List ℕ → ℕ → ℕ → ℕ
row_label_in ws r c = get_or ws (19456 + 17 * r + c) 0

-- the labels of row r
abbrev pub labels_in : List ℕ → ℕ → List ℕ
labels_in ws r = tabulated (row_label_in ws r) (label_count_in ws r)

-- the table of row r
abbrev pub row_table_in : List ℕ → ℕ → ℕ
row_table_in ws r = get_or ws r 0

unfoldable pub row_in : List ℕ → List ℕ → ℕ → Row
row_in text ws r = record {
  table = row_table_in ws r;
  values = tabulated (value_in text ws r) (value_count_in ws r);
  labels = labels_in ws r;
}

pub record Rows (text ws : List ℕ) (k : ℕ) (rs : List Row) : Type 0 where
  pub few : k ≤ 1024
  pub narrow : (r : ℕ) → r < k → value_count_in ws r ≤ 16
  pub marked : (r : ℕ) → r < k → label_count_in ws r ≤ label_room
  pub are : tabulated (row_in text ws) k ≡ rs

-- the first c values and the first m labels of row r, whatever its numbers of them say: a row that is being written
pub record FillingRow (text ws : List ℕ) (r c m : ℕ) (vs : List Value) (ls : List ℕ) : Type 0 where
  pub few : c ≤ 16
  pub few_labels : m ≤ label_room
  pub values : tabulated (value_in text ws r) c ≡ vs
  pub labels : tabulated (row_label_in ws r) m ≡ ls

-- value c of row r is stored: the rows before it stay, and the row has one value more
pub record ValueStored (before after : List ℕ) (r c pos : ℕ) : Type 0 where
  pub kept : (text : List ℕ) (k : ℕ) (rs : List Row) → k ≤ r → Rows text before k rs → Rows text after k rs
  pub grown : (text : List ℕ) (m : ℕ) (vs : List Value) (ls : List ℕ) → r < 1024 → c < 16 → FillingRow text before r c m vs ls →
      FillingRow text after r (c + 1) m (vs ++ (written_at text pos ∷ [])) ls

-- label m of row r is stored: the rows before it stay, and the row has one label more
pub record LabelStored (before after : List ℕ) (r m label : ℕ) : Type 0 where
  pub kept : (text : List ℕ) (k : ℕ) (rs : List Row) → k ≤ r → Rows text before k rs → Rows text after k rs
  pub grown : (text : List ℕ) (c : ℕ) (vs : List Value) (ls : List ℕ) → r < 1024 → m < label_room → FillingRow text before r c m vs ls →
      FillingRow text after r c (m + 1) vs (ls ++ (label ∷ []))
