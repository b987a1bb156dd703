-- The values of a row without brackets: one turn of the walk that reads, judges and stores them. Assumes nothing.
use Prim.Native.Nat.{◌+◌, ◌<◌, ◌≤◌, ℕ}
use lib.ListN.{get_or, length}
use mathlib.Core.Bool.{false}
use mathlib.Core.List.{List, [], ◌∷◌, map}
use mathlib.Core.Path.{◌∙◌, ◌≡◌, ap, refl, subst, sym}
use native.Mathlib.Omega.{arith}
use Rattle.condition.specs.Kinds.{Kind}
use Rattle.document.specs.Lookup.{columns_at}
use Rattle.document.specs.Policy.{Column, Policy}
use Rattle.form.proofs.WalkSteps.{item_plain_end, place_plain, plain_more}
use Rattle.form.specs.Walks.{plain_at}
use Rattle.relations.proofs.TableLaws.{column_inside}
use Rattle.relations.specs.Rows.{FillingRow, ValueStored}
use Rattle.relations.specs.Tables.{Tables, column_kind_in}
use Rattle.walks.proofs.Typed.{ItemsPassed, all_passed, items_turn, none_passed, typed_at, typed_bare, typed_plain}
use Rattle.walks.specs.Walked.{ValuesTaken, typed_end}
use Rattle.stepping.proofs.PlaceLaws.{written_placed}
use Rattle.rows.proofs.RowTurns.{Rowed, rowed_all, rowed_marked, value_added}
use Rattle.stepping.specs.Stored.{LineAt}
use Rattle.text.specs.Words.{Word, written_at, written_of}
use Rattle.std.specs.Prelude.{Some}

-- c values, of which n are wanted, stand from `is` to j and are stored as those of row k, which has m labels already
pub record ValuesPassed (text before after line : List ℕ) (k n c m : ℕ) (ls : List ℕ) (cs : List Column) (is j : ℕ) : Type 0 where
  pub items : ItemsPassed false line n c cs is j
  pub rowed : Rowed text before after k c m (map (λ w. w.bytes) (plain_at line is)) (map (λ w. w.bytes) (plain_at line j)) ls []

pub no_values_passed : {text ws : List ℕ} {k m : ℕ} {ls : List ℕ} (line : List ℕ) (n : ℕ) (cs : List Column) (is : ℕ) → FillingRow text ws k 0 m [] ls → ValuesPassed text ws ws line k n 0 m ls cs is is
no_values_passed line n cs is h = record { items = none_passed false line n cs is; rowed = rowed_marked _ h }

pub all_values_passed : {text before after line : List ℕ} {k n c m : ℕ} {ls : List ℕ} {cs : List Column} {is e : ℕ} → c ≡ n → ValuesPassed text before after line k n c m ls cs is e → ValuesTaken text before after line k n m ls cs is e
all_values_passed {text} {before} {after} {line} {k} {n} {c} {m} {ls} {cs} {is} {e} h p =
    let q : ValuesPassed text before after line k n n m ls cs is e = subst (λ i. ValuesPassed text before after line k n i m ls cs is e) h p in
    record { walked = all_passed q.items; filled = λ f. rowed_all q.rowed (ap (map (λ w. w.bytes)) f) refl }

module _ {text tables : List ℕ} {count x : ℕ} (d : Policy) (T : Tables text tables count d.tables) (l : x < count) {n : ℕ} (wide : n ≡ length (columns_at d x)) where
  pub values_turn : {before ws after line : List ℕ} {k c m at e pos : ℕ} {ls : List ℕ} (is j : ℕ) (type : Kind) → LineAt text at line → k < 1024 → c < n → (get_or line j 0 ≡ 32) × (j < length line)
      → (x < 8 → c < 16 → type ≡ column_kind_in tables x c) → typed_end line (j + 1) type ≡ Some e
      → (at + (j + 1) ≤ length text → pos ≡ at + (j + 1)) → ValueStored ws after k c pos
      → ValuesPassed text before ws line k n c m ls (columns_at d x) is j → ValuesPassed text before after line k n (c + 1) m ls (columns_at d x) is e
  values_turn {before} {ws} {after} {line} {k} {c} {m} {at} {e} {pos} {ls} is j type stands small inside space kind ends placed s p =
      let v = typed_at line (j + 1) type e ends in
      let bare = typed_bare line (j + 1) type v.0 in
      record {
        items =
            items_turn d T l wide false line c is j e (j + 1) type inside space.0 bare kind (sym (place_plain line (j + 1) bare)) v.0 v.2
            (typed_plain line (j + 1) type v.0 ∙ ap Some (sym v.1)) (v.1 ∙ sym (item_plain_end line (j + 1) bare)) p.items;
        rowed =
            value_added (written_at line (j + 1))
            (subst (λ (xs : List Word). Rowed text before ws k c m (map (λ w. w.bytes) (plain_at line is)) (map (λ w. w.bytes) xs) ls [])
            (plain_more line j space.0 ∙ ap (λ q. written_of line (j + 1) ∷ plain_at line q) (sym v.1)) p.rowed)
            small (column_inside text tables count x d T l c (subst (λ q. c < q) wide inside)) s (written_placed stands (j + 1) pos (omega (arith, space.1)) placed);
      }
