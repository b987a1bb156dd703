-- What is open to a purpose, and to those below it. Assumes nothing.
use Prim.Native.Nat.{◌<◌, suc, ℕ}
use borrow.Author.Tests.{lt-ltb}
use lib.ListN.{get_elem?, length, length-map}
use mathlib.Core.Bool.{Bool, false, not, true, true≢false}
use mathlib.Core.List.{List, [], ◌++◌, ◌∷◌, map}
use mathlib.Core.Option.{Option, bind, none, some}
use mathlib.Core.Path.{◌≡◌, ap, refl}
use Rattle.document.specs.Lookup.{given_by, settled, strong_in, weak_in}
use Rattle.document.specs.NoteFaults.{is_nested}
use Rattle.document.specs.Open.{Opening, cell_open, column_open, label_open, marks_at, nest_open, open_to, row_withheld, table_open}
use Rattle.document.specs.Policy.{Label, Node, Policy, tree_of}
use Rattle.form.specs.Form.{Note, Scheme, by_cell, by_column, by_row, by_table, nested, public, strong, unlabelled, weak}
use Rattle.purpose.proofs.Compliance.{opens_below}
use Rattle.purpose.proofs.Nesting.{nest_below}
use Rattle.purpose.specs.Compliance.{descends, in_tree, opens}
use Rattle.lists.proofs.ListLaws.{any_at, any_mono}
use Rattle.lists.proofs.Tests.{not-false, true_not_false}
use Rattle.lists.specs.Lists.{found, holds_of, member}

-- a row that is not withheld, of an open table with open columns, shows open cells only
pub shown_open : (opening : Opening) (s : Scheme ℕ) (cs labels : List ℕ) → table_open opening s ≡ true
    → ((k : ℕ) → member k cs ≡ true → column_open opening s k ≡ true) → row_withheld opening s cs labels ≡ false
    → (c : ℕ) → member c cs ≡ true → cell_open opening s labels c ≡ true
unfolding table_open column_open row_withheld cell_open
shown_open opening (unlabelled b) cs labels t k w c m = t
shown_open opening (by_table l) cs labels t k w c m = t
shown_open opening (by_column ls) cs labels t k w c m = k c m
shown_open opening by_row cs labels t k w c m = not-false _ w
shown_open opening by_cell cs labels t k w c m = any_at (λ c. opening.label (get_elem? labels c)) cs w c m
shown_open opening (nested u s) cs labels t k w c m = any_at (λ c. opening.nest s u (get_elem? labels 0) (get_elem? labels (suc c))) cs w c m

-- what notes say of a table moves none of its columns
module _ (opening : Opening) (ns : List (Note ℕ)) where
  pub settled_column : (s : Scheme ℕ) (c : ℕ) → column_open opening (settled ns s) c ≡ column_open opening s c
  unfolding settled column_open
  settled_column (unlabelled b) c = refl
  settled_column (by_table l) c = refl
  settled_column (by_column ls) c = refl
  settled_column by_row c = refl
  settled_column by_cell c = refl
  settled_column (nested w s) c = refl

  -- declaring a labelled table public does nothing: its rows are withheld as before (02, Q-2); a nest table goes by its notes, of which
  -- `public_silent` says it
  pub settled_withheld : (s : Scheme ℕ) → is_nested s ≡ false → (cs labels : List ℕ) → row_withheld opening (settled ns s) cs labels ≡ row_withheld opening s cs labels
  unfolding settled row_withheld is_nested
  settled_withheld (unlabelled b) h cs labels = refl
  settled_withheld (by_table l) h cs labels = refl
  settled_withheld (by_column ls) h cs labels = refl
  settled_withheld by_row h cs labels = refl
  settled_withheld by_cell h cs labels = refl
  settled_withheld (nested w s) h cs labels = absurd (true≢false h)

-- declaring a nest table public does nothing: the notes give it the labels that they give without that line (02, Q-2, Q-11)
weak_found : (ns ms : List (Note ℕ)) → found (map weak_in (ns ++ public ∷ ms)) ≡ found (map weak_in (ns ++ ms))
unfolding found weak_in
weak_found [] ms = refl
weak_found (public ∷ ns) ms = weak_found ns ms
weak_found (weak l ∷ ns) ms = ap (λ (xs : List ℕ). l ∷ xs) (weak_found ns ms)
weak_found (strong l ∷ ns) ms = weak_found ns ms

strong_found : (ns ms : List (Note ℕ)) → found (map strong_in (ns ++ public ∷ ms)) ≡ found (map strong_in (ns ++ ms))
unfolding found strong_in
strong_found [] ms = refl
strong_found (public ∷ ns) ms = strong_found ns ms
strong_found (weak l ∷ ns) ms = strong_found ns ms
strong_found (strong l ∷ ns) ms = ap (λ (xs : List ℕ). l ∷ xs) (strong_found ns ms)

pub public_silent : (ns ms : List (Note ℕ)) (w s : Option ℕ) → settled (ns ++ public ∷ ms) (nested w s) ≡ settled (ns ++ ms) (nested w s)
unfolding settled given_by
public_silent ns ms w s = λ i. nested (get_elem? (weak_found ns ms i) 0) (get_elem? (strong_found ns ms i) 0)

-- all that is open by the first is open by the second
pub record Wider (opening opening' : Opening) : Type 0 where
  pub label : (l : Option ℕ) → opening.label l ≡ true → opening'.label l ≡ true
  pub nest : (s t r c : Option ℕ) → opening.nest s t r c ≡ true → opening'.nest s t r c ≡ true

-- where more labels are open, more is open and less is withheld
module _ (opening opening' : Opening) (wider : Wider opening opening') where
  pub table_open_more : (s : Scheme ℕ) → table_open opening s ≡ true → table_open opening' s ≡ true
  unfolding table_open
  table_open_more (unlabelled b) h = h
  table_open_more (by_table l) h = wider.label (some l) h
  table_open_more (by_column ls) h = h
  table_open_more by_row h = h
  table_open_more by_cell h = h
  table_open_more (nested w s) h = h

  pub column_open_more : (s : Scheme ℕ) (c : ℕ) → column_open opening s c ≡ true → column_open opening' s c ≡ true
  unfolding column_open
  column_open_more (unlabelled b) c h = h
  column_open_more (by_table l) c h = h
  column_open_more (by_column ls) c h = wider.label (get_elem? ls c) h
  column_open_more by_row c h = h
  column_open_more by_cell c h = h
  column_open_more (nested w s) c h = h

  closed_less : (a b : Bool) → (a ≡ true → b ≡ true) → not b ≡ true → not a ≡ true
  closed_less true b f h = true_not_false h (rw (f refl))
  closed_less false b f h = refl

  pub row_withheld_less : (s : Scheme ℕ) (cs labels : List ℕ) → row_withheld opening' s cs labels ≡ true → row_withheld opening s cs labels ≡ true
  unfolding row_withheld
  row_withheld_less (unlabelled b) cs labels h = h
  row_withheld_less (by_table l) cs labels h = h
  row_withheld_less (by_column ls) cs labels h = h
  row_withheld_less by_row cs labels h = closed_less (opening.label (get_elem? labels 0)) (opening'.label (get_elem? labels 0)) (wider.label (get_elem? labels 0)) h
  row_withheld_less by_cell cs labels h =
      any_mono (λ c. not (opening'.label (get_elem? labels c))) (λ c. not (opening.label (get_elem? labels c))) (λ c.
      closed_less (opening.label (get_elem? labels c)) (opening'.label (get_elem? labels c)) (wider.label (get_elem? labels c))) cs h
  row_withheld_less (nested w s) cs labels h =
      any_mono (λ c. not (opening'.nest s w (get_elem? labels 0) (get_elem? labels (suc c)))) (λ c. not (opening.nest s w (get_elem? labels 0) (get_elem? labels (suc c)))) (λ c.
      closed_less (opening.nest s w (get_elem? labels 0) (get_elem? labels (suc c))) (opening'.nest s w (get_elem? labels 0) (get_elem? labels (suc c)))
      (wider.nest s w (get_elem? labels 0) (get_elem? labels (suc c)))) cs h

-- a label that is open to p is open to every purpose below p
pub label_below : (d : Policy) (p q : ℕ) → q < length d.purposes → descends (tree_of d.purposes) q p ≡ true
    → (l : Option ℕ) → label_open d p l ≡ true → label_open d q l ≡ true
unfolding label_open
label_below d p q is_in below l h = go (bind l (get_elem? d.labels)) h
  where
    in_tree_lem : in_tree (tree_of d.purposes) q ≡ true
    in_tree_lem = unfold tree_of in lt-ltb q (length (map (λ (n : Node). n.parent) d.purposes)) (rw (length-map d.purposes) is_in)

    go : (o : Option Label) → holds_of (λ x. opens (tree_of d.purposes) x.marks p) o ≡ true → holds_of (λ x. opens (tree_of d.purposes) x.marks q) o ≡ true
    go none h = unfold holds_of in h
    go (some x) h = unfold holds_of in opens_below (tree_of d.purposes) x.marks p q in_tree_lem below h

-- all that is open to p is open to every purpose below p, cells of nest tables too
pub open_below : (d : Policy) (p q : ℕ) → q < length d.purposes → descends (tree_of d.purposes) q p ≡ true → Wider (open_to d p) (open_to d q)
unfolding nest_open
open_below d p q is_in below = record {
  label = label_below d p q is_in below;
  nest = λ s t r c. nest_below (tree_of d.purposes) (marks_at d s) (marks_at d t) (marks_at d r) (marks_at d c) p q in_tree_lem below;
}
  where
    in_tree_lem : in_tree (tree_of d.purposes) q ≡ true
    in_tree_lem = unfold tree_of in lt-ltb q (length (map (λ (n : Node). n.parent) d.purposes)) (rw (length-map d.purposes) is_in)
