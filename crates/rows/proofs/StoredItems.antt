-- The items of a row that are shaped for the table's scheme, as the code walks through them: values, or brackets of a value and a label. Assumes
-- nothing.
use Prim.Native.Nat.{◌+◌, suc, zero, ℕ}
use Rattle.document.proofs.RowItems.{bracket_behind, led_name, led_values, no_values_behind}
use Rattle.document.specs.NameFaults.{bracket_labels, leading_name}
use Rattle.document.specs.ValueFaults.{bracket_values, plain_values, values_behind_label}
use Rattle.form.proofs.WalkLaws.{unopened_unlabelled}
use Rattle.form.proofs.WalkSteps.{item_plain, item_plain_end, items_more}
use Rattle.form.specs.Form.{Item, labelled, plain}
use Rattle.form.specs.Walks.{cell_at, cell_end_at, cell_label_in, cells_at, first_in, is_labelled_at, item_at, item_end_at, items_at, list_at, list_up_to, plain_at}
use Rattle.lists.proofs.ListLaws.{map_inv}
use Rattle.text.proofs.Closings.{written_end}
use Rattle.text.specs.Names.{is_name}
use Rattle.text.specs.Walking.{word_end_at, written_end_at}
use Rattle.text.specs.Words.{Word, word_at, word_of, written_of}
use borrow.Author.Tests.{eqb-false, eqb-true}
use lib.Dec.{eqb}
use lib.ListN.{get_or, length}
use mathlib.Core.Bool.{Bool, cond, false, true}
use mathlib.Core.List.{List, [], ◌∷◌, map}
use mathlib.Core.Option.{Option, none-ne-some, some-injective, some}
use mathlib.Core.Path.{◌∙◌, ◌≡◌, ap, refl, sym}

-- ---- values without labels

plain_turn : (s : List ℕ) (n p : ℕ) (ws : List Word) → ((q : ℕ) (vs : List Word) → plain_values (list_up_to item_at item_end_at n s q) ≡ some vs → vs ≡ list_up_to written_of written_end_at n s q)
    → (b o : Bool) → plain_values (cond b (cond o (labelled (written_of s (first_in s p)) (word_of s (cell_label_in s p))) (plain (written_of s p)) ∷ list_up_to item_at item_end_at n s (cond o (cell_end_at s p) (written_end_at s p))) []) ≡ some ws
    → ws ≡ cond b (written_of s p ∷ list_up_to written_of written_end_at n s (written_end_at s p)) []
unfolding plain_values
plain_turn s n p ws ih false o h = sym (some-injective _ _ h)
plain_turn s n p ws ih true true h = absurd (none-ne-some _ h)
plain_turn s n p ws ih true false h =
    let x = map_inv (λ (vs : List Word). written_of s p ∷ vs) (plain_values (list_up_to item_at item_end_at n s (written_end_at s p))) ws h in
    x.2 ∙ ap (λ vs. written_of s p ∷ vs) (ih (written_end_at s p) x.0 x.1)

plain_up_to : (s : List ℕ) (n at : ℕ) (ws : List Word) → plain_values (list_up_to item_at item_end_at n s at) ≡ some ws → ws ≡ list_up_to written_of written_end_at n s at
unfolding plain_values list_up_to item_at item_end_at
plain_up_to s zero at ws h = sym (some-injective _ _ h)
plain_up_to s (suc n) at ws h = plain_turn s n (at + 1) ws (plain_up_to s n) (eqb (get_or s at 0) 32) (is_labelled_at s (at + 1)) h

pub plain_values_lem : (s : List ℕ) (at : ℕ) (ws : List Word) → plain_values (items_at s at) ≡ some ws → ws ≡ plain_at s at
unfolding items_at plain_at list_at
plain_values_lem s at ws h = plain_up_to s (length s) at ws h

-- ---- a label at each value: the items are brackets

record Bracketed (gs : List (Word × Word)) (is : List Item) (ws : List Word) : Type 0 where
  values : ws ≡ map (λ g. g.0) gs
  labels : bracket_labels is ≡ map (λ g. g.1) gs

bracket_turn : (s : List ℕ) (n p : ℕ) (ws : List Word) → ((q : ℕ) (vs : List Word) → bracket_values (list_up_to item_at item_end_at n s q) ≡ some vs → Bracketed (list_up_to cell_at cell_end_at n s q) (list_up_to item_at item_end_at n s q) vs)
    → (b o : Bool) → bracket_values (cond b (cond o (labelled (written_of s (first_in s p)) (word_of s (cell_label_in s p))) (plain (written_of s p)) ∷ list_up_to item_at item_end_at n s (cond o (cell_end_at s p) (written_end_at s p))) []) ≡ some ws
    → Bracketed (cond b (cell_at s p ∷ list_up_to cell_at cell_end_at n s (cell_end_at s p)) []) (cond b (cond o (labelled (written_of s (first_in s p)) (word_of s (cell_label_in s p))) (plain (written_of s p)) ∷ list_up_to item_at item_end_at n s (cond o (cell_end_at s p) (written_end_at s p))) []) ws
unfolding bracket_values bracket_labels cell_at
bracket_turn s n p ws ih false o h = record { values = sym (some-injective _ _ h); labels = refl }
bracket_turn s n p ws ih true false h = absurd (none-ne-some _ h)
bracket_turn s n p ws ih true true h =
    let x = map_inv (λ (vs : List Word). written_of s (first_in s p) ∷ vs) (bracket_values (list_up_to item_at item_end_at n s (cell_end_at s p))) ws h in
    let r = ih (cell_end_at s p) x.0 x.1 in
    record {
      values = x.2 ∙ ap (λ vs. written_of s (first_in s p) ∷ vs) r.values;
      labels = ap (λ vs. word_of s (cell_label_in s p) ∷ vs) r.labels;
    }

bracket_up_to : (s : List ℕ) (n at : ℕ) (ws : List Word) → bracket_values (list_up_to item_at item_end_at n s at) ≡ some ws → Bracketed (list_up_to cell_at cell_end_at n s at) (list_up_to item_at item_end_at n s at) ws
unfolding bracket_values bracket_labels list_up_to item_at item_end_at
bracket_up_to s zero at ws h = record { values = sym (some-injective _ _ h); labels = refl }
bracket_up_to s (suc n) at ws h = bracket_turn s n (at + 1) ws (bracket_up_to s n) (eqb (get_or s at 0) 32) (is_labelled_at s (at + 1)) h

module _ (s : List ℕ) (at : ℕ) (ws : List Word) (h : bracket_values (items_at s at) ≡ some ws) where
  pub bracket_values_lem : ws ≡ map (λ g. g.0) (cells_at s at)
  unfolding items_at cells_at list_at
  bracket_values_lem = (bracket_up_to s (length s) at ws h).values

  pub bracket_labels_lem : bracket_labels (items_at s at) ≡ map (λ g. g.1) (cells_at s at)
  unfolding items_at cells_at list_at
  bracket_labels_lem = (bracket_up_to s (length s) at ws h).labels

-- ---- a label in front of the values: the first item is a name, and the others are read as the scheme says

pub record Leading (values : List Item → Option (List Word)) (s : List ℕ) (at : ℕ) (ws : List Word) : Type 0 where
  pub label : leading_name (items_at s at) ≡ word_of s (at + 1) ∷ []
  pub behind : values (items_at s (word_end_at s (at + 1))) ≡ some ws
  pub brackets : bracket_labels (items_at s at) ≡ bracket_labels (items_at s (word_end_at s (at + 1)))

-- the brackets' labels are those of the items behind the first
pub brackets_behind : (s : List ℕ) (at : ℕ) → get_or s at 0 ≡ 32 → (get_or s (at + 1) 0 ≡ 40 → ⊥) → bracket_labels (items_at s at) ≡ bracket_labels (items_at s (word_end_at s (at + 1)))
unfolding bracket_labels
brackets_behind s at g o =
    ap bracket_labels (items_more s at g)
    ∙ ap (λ i. bracket_labels (i ∷ items_at s (item_end_at s (at + 1)))) (item_plain s (at + 1) (unopened_unlabelled s (at + 1) o))
    ∙ ap (λ n. bracket_labels (items_at s n)) (item_plain_end s (at + 1) (unopened_unlabelled s (at + 1) o) ∙ written_end s (at + 1) o)

module _ (values : List Item → Option (List Word)) (s : List ℕ) (at : ℕ) (ws : List Word) (h : values_behind_label values (items_at s at) ≡ some ws) where
  pub leading_space : (get_or s at 0 ≡ 32 → ⊥) → ⊥
  leading_space g = none-ne-some ws (sym (no_values_behind s at values g) ∙ h)

  pub leading : get_or s at 0 ≡ 32 → Leading values s at ws
  leading g = go (eqb (get_or s (at + 1) 0) 40) refl (is_name (word_at s (at + 1))) refl
    where
      go : (o : Bool) → eqb (get_or s (at + 1) 0) 40 ≡ o → (n : Bool) → is_name (word_at s (at + 1)) ≡ n → Leading values s at ws
      go true o n e = absurd (none-ne-some ws (sym (bracket_behind s at values g (eqb-true _ _ o)) ∙ h))
      go false o false e = absurd (none-ne-some ws (sym (led_values s at g (eqb-false _ _ o) false e values) ∙ h))
      go false o true e = record { label = led_name s at g (eqb-false _ _ o) true e; behind = sym (led_values s at g (eqb-false _ _ o) true e values) ∙ h; brackets = brackets_behind s at g (eqb-false _ _ o) }
