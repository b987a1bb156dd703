-- The values and labels of a row that is being stored: what the loops over them keep, and the row that is stored in the end. Assumes
-- nothing.
use Prim.Native.Nat.{◌+◌, ◌<◌, ◌≤◌, ℕ}
use Rattle.document.specs.Lookup.{label_of}
use Rattle.document.specs.Policy.{Policy, Row}
use Rattle.form.proofs.WalkSteps.{cells_more, plain_more}
use Rattle.form.specs.Walks.{cell_at, cell_end_at, cell_label_in, cells_at, first_in, plain_at}
use Rattle.lists.specs.Lists.{or_zero}
use Rattle.relations.specs.Rows.{FillingRow, LabelStored, Rows, ValueStored, label_room, value_in}
use Rattle.stepping.proofs.PlaceLaws.{written_placed}
use Rattle.stepping.specs.Stored.{LineAt, RowFilled}
use Rattle.text.proofs.WalkingLaws.{past_within}
use Rattle.text.specs.Numbers.{Value}
use Rattle.text.specs.Walking.{written_end_at}
use Rattle.text.specs.Words.{Word, word_of, written_at, written_of}
use Rattle.workspace.proofs.TabulatedLaws.{length_tabulated}
use lib.ListN.{get_or, length, length-append, length-map}
use mathlib.Core.List.{List, [], ◌++◌, ◌∷◌, append_assoc, append-nil, map}
use mathlib.Core.Path.{◌∙◌, ◌≡◌, ap, refl, subst, sym}
use native.Mathlib.Omega.{arith}

-- of all the values and labels some were stored, and the others are left
pub record Rowed (text before after : List ℕ) (k c m : ℕ) (all left : List Value) (labels behind : List ℕ) : Type 0 where
  pub kept : (rs : List Row) → Rows text before k rs → Rows text after k rs
  pub passed : List Value
  pub marked : List ℕ
  pub filling : FillingRow text after k c m passed marked
  pub values : all ≡ passed ++ left
  pub labelled : labels ≡ marked ++ behind

-- where some of the labels stand already
pub rowed_begun : {text ws : List ℕ} {k m : ℕ} {ls : List ℕ} (all : List Value) (behind : List ℕ) → FillingRow text ws k 0 m [] ls → Rowed text ws ws k 0 (m + 0) all all (ls ++ behind) behind
rowed_begun {text} {ws} {k} {m} {ls} all behind h = record {
  kept = λ rs h. h;
  passed = [];
  marked = ls;
  filling = subst (λ n. FillingRow text ws k 0 n [] ls) (let e : m ≡ m + 0 = omega arith in e) h;
  values = refl;
  labelled = refl;
}

-- where all of them do
pub rowed_marked : {text ws : List ℕ} {k m : ℕ} {ls : List ℕ} (all : List Value) → FillingRow text ws k 0 m [] ls → Rowed text ws ws k 0 m all all ls []
rowed_marked {text} {ws} {k} {m} {ls} all h = record {
  kept = λ rs h. h;
  passed = [];
  marked = ls;
  filling = h;
  values = refl;
  labelled = sym (append-nil ls);
}

-- one value more is stored, where it has room
pub value_added : {text before ws after : List ℕ} {k c m pos : ℕ} {all left : List Value} {labels behind : List ℕ} (x : Value) → Rowed text before ws k c m all (x ∷ left) labels behind → k < 1024 → c < 16
    → ValueStored ws after k c pos → written_at text pos ≡ x → Rowed text before after k (c + 1) m all left labels behind
value_added {text} {before} {ws} {after} {k} {c} {m} {pos} {all} {left} x g small room s n = record {
  kept = λ rs h. s.kept text k rs (omega arith) (g.kept rs h);
  passed = g.passed ++ (x ∷ []);
  marked = g.marked;
  filling = subst (λ z. FillingRow text after k (c + 1) m (g.passed ++ (z ∷ [])) g.marked) n (s.grown text m g.passed g.marked small room g.filling);
  values = g.values ∙ sym (append_assoc g.passed (x ∷ []) left);
  labelled = g.labelled;
}

-- it has room where all have
value_room : {text before ws : List ℕ} {k c m : ℕ} {all left : List Value} {labels behind : List ℕ} (x : Value) → Rowed text before ws k c m all (x ∷ left) labels behind → length all ≤ 16 → c < 16
value_room {text} {before} {ws} {k} {c} {m} {all} {left} x g few =
    let long : length g.passed ≡ c = sym (ap length g.filling.values) ∙ length_tabulated (value_in text ws k) c in
    omega (arith, ap length g.values, length-append g.passed (x ∷ left), long, few)

pub rowed_value : {text before ws after : List ℕ} {k c m pos : ℕ} {all left : List Value} {labels behind : List ℕ} (x : Value) → Rowed text before ws k c m all (x ∷ left) labels behind → k < 1024 → length all ≤ 16
    → ValueStored ws after k c pos → written_at text pos ≡ x → Rowed text before after k (c + 1) m all left labels behind
rowed_value {text} {before} {ws} {after} {k} {c} {m} {pos} {all} {left} x g small few s n = value_added x g small (value_room x g few) s n

-- one label more, likewise
pub label_added : {text before ws after : List ℕ} {k c m label : ℕ} {all left : List Value} {labels behind : List ℕ} (y : ℕ) → Rowed text before ws k c m all left labels (y ∷ behind) → k < 1024 → m < label_room
    → LabelStored ws after k m label → label ≡ y → Rowed text before after k c (m + 1) all left labels behind
label_added {text} {before} {ws} {after} {k} {c} {m} {label} {all} {left} {labels} {behind} y g small room s n = record {
  kept = λ rs h. s.kept text k rs (omega arith) (g.kept rs h);
  passed = g.passed;
  marked = g.marked ++ (y ∷ []);
  filling = subst (λ z. FillingRow text after k c (m + 1) g.passed (g.marked ++ (z ∷ []))) n (s.grown text c g.passed g.marked small room g.filling);
  values = g.values;
  labelled = g.labelled ∙ sym (append_assoc g.marked (y ∷ []) behind);
}

pub rowed_all : {text before after : List ℕ} {k c m : ℕ} {all left : List Value} {labels behind : List ℕ} → Rowed text before after k c m all left labels behind → left ≡ [] → behind ≡ [] → RowFilled text before after k c m all labels
rowed_all {text} {before} {after} {k} {c} {m} g e f = record {
  kept = g.kept;
  filling = subst (λ (z : List Value × List ℕ). FillingRow text after k c m z.0 z.1)
      (λ j. (sym (g.values ∙ ap (λ x. g.passed ++ x) e ∙ append-nil g.passed) j, sym (g.labelled ∙ ap (λ x. g.marked ++ x) f ∙ append-nil g.marked) j)) g.filling;
}

-- ---- one turn of the loops

module _ {text : List ℕ} {at : ℕ} {line : List ℕ} (l : LineAt text at line) (j e pos : ℕ) (space : get_or line j 0 ≡ 32) (inside : j < length line) where
  pub value_turn : {before ws after : List ℕ} {k c m : ℕ} {ls : List ℕ} (is : ℕ) → (at + (j + 1) ≤ length text → pos ≡ at + (j + 1)) → e ≡ j + 1 + length (written_at line (j + 1)) → ValueStored ws after k c pos → k < 1024 → length (plain_at line is) ≤ 16
      → Rowed text before ws k c m (map (λ w. w.bytes) (plain_at line is)) (map (λ w. w.bytes) (plain_at line j)) ls []
      → Rowed text before after k (c + 1) m (map (λ w. w.bytes) (plain_at line is)) (map (λ w. w.bytes) (plain_at line e)) ls []
  unfolding written_end_at
  value_turn {before} {ws} {after} {k} {c} {m} {ls} is placed ends s small few g =
      rowed_value (written_at line (j + 1))
      (subst (λ (xs : List Word). Rowed text before ws k c m (map (λ w. w.bytes) (plain_at line is)) (map (λ w. w.bytes) xs) ls [])
      (plain_more line j space ∙ ap (λ n. written_of line (j + 1) ∷ plain_at line n) (sym ends)) g)
      small (subst (λ n. n ≤ 16) (sym (length-map (plain_at line is) (λ (w : Word). w.bytes))) few) s (written_placed l (j + 1) pos (omega arith) placed)

  pub cell_turn : {before ws mid after : List ℕ} {k c m : ℕ} (ls : List ℕ) (d : Policy) (is w q label : ℕ) → w ≡ first_in line (j + 1) → q ≡ cell_label_in line (j + 1) → (at + w ≤ length text → pos ≡ at + w) → label ≡ or_zero (label_of d (word_of line q))
      → e ≡ cell_end_at line (j + 1) → ValueStored ws mid k c pos → LabelStored mid after k (m + c) label → k < 1024 → m ≤ 1 → length (cells_at line is) ≤ 16
      → Rowed text before ws k c (m + c) (map (λ g. g.0.bytes) (cells_at line is)) (map (λ g. g.0.bytes) (cells_at line j)) (ls ++ map (λ g. or_zero (label_of d g.1)) (cells_at line is)) (map (λ g. or_zero (label_of d g.1)) (cells_at line j))
      → Rowed text before after k (c + 1) (m + (c + 1)) (map (λ g. g.0.bytes) (cells_at line is)) (map (λ g. g.0.bytes) (cells_at line e)) (ls ++ map (λ g. or_zero (label_of d g.1)) (cells_at line is)) (map (λ g. or_zero (label_of d g.1)) (cells_at line e))
  unfolding cell_at first_in
  cell_turn {before} {ws} {mid} {after} {k} {c} {m} ls d is w q label first second placed named ends s t small one few g =
      let within : w ≤ length line = subst (λ n. n ≤ length line) (sym first) (past_within 40 line (j + 1) (omega arith)) in
      let short : length (map (λ (g : Word × Word). g.0.bytes) (cells_at line is)) ≤ 16 = subst (λ n. n ≤ 16) (sym (length-map (cells_at line is) (λ (g : Word × Word). g.0.bytes))) few in
      let next : Rowed text before ws k c (m + c) (map (λ g. g.0.bytes) (cells_at line is)) (written_at line (first_in line (j + 1)) ∷ map (λ g. g.0.bytes) (cells_at line e)) (ls ++ map (λ g. or_zero (label_of d g.1)) (cells_at line is)) (or_zero (label_of d (word_of line (cell_label_in line (j + 1)))) ∷ map (λ g. or_zero (label_of d g.1)) (cells_at line e))
      = subst (λ (xs : List (Word × Word)). Rowed text before ws k c (m + c) (map (λ g. g.0.bytes) (cells_at line is)) (map (λ g. g.0.bytes) xs) (ls ++ map (λ g. or_zero (label_of d g.1)) (cells_at line is)) (map (λ g. or_zero (label_of d g.1)) xs))
      (cells_more line j space ∙ ap (λ n. cell_at line (j + 1) ∷ cells_at line n) (sym ends)) g in
      let room : c < 16 = value_room (written_at line (first_in line (j + 1))) next short in
      let count : m + c + 1 ≡ m + (c + 1) = omega arith in
      subst (λ n. Rowed text before after k (c + 1) n (map (λ g. g.0.bytes) (cells_at line is)) (map (λ g. g.0.bytes) (cells_at line e)) (ls ++ map (λ g. or_zero (label_of d g.1)) (cells_at line is)) (map (λ g. or_zero (label_of d g.1)) (cells_at line e)))
      count
      (label_added (or_zero (label_of d (word_of line (cell_label_in line (j + 1)))))
      (value_added (written_at line (first_in line (j + 1))) next small room s (written_placed l w pos within placed ∙ ap (written_at line) first))
      small (omega (arith, room, one)) t
      (named ∙ ap (λ n. or_zero (label_of d (word_of line n))) second))
