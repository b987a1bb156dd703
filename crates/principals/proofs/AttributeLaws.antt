-- Attributes in their array, behind the clock's: one more, what stands at a number, and looking up. Assumes nothing.
use Prim.Native.Nat.{◌+◌, ◌-◌, ◌<◌, ◌≤◌, suc, zero, ℕ}
use lib.ListN.{get_or, get_elem?, length}
use mathlib.Core.Bool.{false, true}
use mathlib.Core.List.{List, [], ◌++◌, ◌∷◌, append_assoc}
use mathlib.Core.Option.{Option, map, some-injective, none, some}
use mathlib.Core.Path.{◌∙◌, ◌≡◌, ap, refl, sym}
use native.Mathlib.Omega.{arith}
use Rattle.condition.specs.Kinds.{numbers}
use Rattle.document.specs.Policy.{Attribute, clock_attributes}
use Rattle.workspace.proofs.Finding.{found_first}
use Rattle.workspace.proofs.TabulatedLaws.{find_index_from_shift, tabulated_pushed, tabulated_there}
use Rattle.workspace.proofs.Stores.{Store, stores, stores_other, stores_same}
use Rattle.principals.specs.Attributes.{Attributes, attribute_in}
use Rattle.workspace.specs.Cells.{kind_of_cell}
use Rattle.workspace.specs.Tabulated.{tabulated}
use Rattle.lists.specs.Lists.{find_index, find_index_from}
use Rattle.text.specs.Bytes.{ascii}
use Rattle.text.specs.Words.{Word, is_called, word_at}

-- one more: its name, its role and its type
abbrev pub attribute_stores : ℕ → ℕ → ℕ → ℕ → List Store
attribute_stores k pos role cell = record { place = k; value = pos } ∷ record { place = 32 + k; value = role } ∷ record { place = 64 + k; value = cell } ∷ []

module _ (text ws : List ℕ) (k pos role cell : ℕ) (small : k < 32) (long : 64 + k < length ws) where
  ss : List Store
  ss = attribute_stores k pos role cell

  attribute_kept : (i : ℕ) → i < k → attribute_in text (stores ws ss) i ≡ attribute_in text ws i
  unfolding attribute_in ss
  attribute_kept i l = λ j. record {
    name = word_at text (stores_other ws (attribute_stores k pos role cell) i (omega arith) j);
    role = some (stores_other ws (attribute_stores k pos role cell) (32 + i) (omega arith) j);
    kind = kind_of_cell (stores_other ws (attribute_stores k pos role cell) (64 + i) (omega arith) j);
  }

  attribute_new : attribute_in text (stores ws ss) k ≡ record { name = word_at text pos; role = some role; kind = kind_of_cell cell }
  unfolding attribute_in ss
  attribute_new = λ j. record {
    name = word_at text (stores_same ws (attribute_stores k pos role cell) 0 (omega arith) (omega arith) (omega arith) j);
    role = some (stores_same ws (attribute_stores k pos role cell) 1 (omega arith) (omega arith) (omega arith) j);
    kind = kind_of_cell (stores_same ws (attribute_stores k pos role cell) 2 (omega arith) (omega arith) (omega arith) j);
  }

  pub attributes_pushed : (xs : List Attribute) → Attributes text ws k xs
      → Attributes text (stores ws (attribute_stores k pos role cell)) (k + 1) (xs ++ (record { name = word_at text pos; role = some role; kind = kind_of_cell cell } ∷ []))
  unfolding ss
  attributes_pushed xs n = record {
    few = omega (arith, small);
    are =
        ap (λ l. clock_attributes ++ l) (tabulated_pushed (attribute_in text ws) (attribute_in text (stores ws ss)) k (tabulated (attribute_in text ws) k) _ refl attribute_kept attribute_new)
        ∙ sym (append_assoc clock_attributes (tabulated (attribute_in text ws) k) _)
        ∙ ap (λ l. l ++ (record { name = word_at text pos; role = some role; kind = kind_of_cell cell } ∷ [])) n.are;
  }

-- ---- what stands at a number

clock_at_lem : (l : List Attribute) (n : ℕ) (a : Attribute) → n < 3 → get_elem? (clock_attributes ++ l) n ≡ some a → (a.role ≡ none) × (a.kind ≡ numbers)
unfolding clock_attributes
clock_at_lem l zero a h e = (sym (ap (λ (x : Attribute). x.role) (some-injective _ a e)), sym (ap (λ (x : Attribute). x.kind) (some-injective _ a e)))
clock_at_lem l (suc zero) a h e = (sym (ap (λ (x : Attribute). x.role) (some-injective _ a e)), sym (ap (λ (x : Attribute). x.kind) (some-injective _ a e)))
clock_at_lem l (suc (suc zero)) a h e = (sym (ap (λ (x : Attribute). x.role) (some-injective _ a e)), sym (ap (λ (x : Attribute). x.kind) (some-injective _ a e)))
clock_at_lem l (suc (suc (suc n))) a h e = absurd (omega (arith, h))

behind_clock : (l : List Attribute) (n : ℕ) → 3 ≤ n → get_elem? (clock_attributes ++ l) n ≡ get_elem? l (n - 3)
unfolding clock_attributes
behind_clock l zero h = absurd (omega (arith, h))
behind_clock l (suc zero) h = absurd (omega (arith, h))
behind_clock l (suc (suc zero)) h = absurd (omega (arith, h))
behind_clock l (suc (suc (suc n))) h = ap (get_elem? l) (omega arith)

module _ {text ws : List ℕ} {k : ℕ} {xs : List Attribute} (h : Attributes text ws k xs) (n : ℕ) (a : Attribute) (e : get_elem? xs n ≡ some a) where
  -- the clock's
  pub attribute_clock : n < 3 → (a.role ≡ none) × (a.kind ≡ numbers)
  attribute_clock l = clock_at_lem (tabulated (attribute_in text ws) k) n a l (ap (λ l. get_elem? l n) h.are ∙ e)

  -- the others
  pub attribute_there : 3 ≤ n → (n - 3 < k) × (a ≡ attribute_in text ws (n - 3))
  attribute_there l =
      tabulated_there (attribute_in text ws) k (n - 3) a (sym (behind_clock (tabulated (attribute_in text ws) k) n l) ∙ ap (λ l. get_elem? l n) h.are ∙ e)

-- ---- looking up

module _ (w : Word) {text ws : List ℕ} {k : ℕ} {xs : List Attribute} (h : Attributes text ws k xs) where
  pub found_year : is_called w (ascii "year") ≡ true → find_index (λ (x : Attribute). is_called w x.name) xs ≡ some 0
  unfolding find_index find_index_from clock_attributes
  found_year e = rw (← h.are, e)

  pub found_day : is_called w (ascii "year") ≡ false → is_called w (ascii "day") ≡ true → find_index (λ (x : Attribute). is_called w x.name) xs ≡ some 1
  unfolding find_index find_index_from clock_attributes
  found_day e₁ e₂ = rw (← h.are, e₁, e₂)

  pub found_hour : is_called w (ascii "year") ≡ false → is_called w (ascii "day") ≡ false → is_called w (ascii "hour") ≡ true → find_index (λ (x : Attribute). is_called w x.name) xs ≡ some 2
  unfolding find_index find_index_from clock_attributes
  found_hour e₁ e₂ e₃ = rw (← h.are, e₁, e₂, e₃)

  pub found_behind_clock : is_called w (ascii "year") ≡ false → is_called w (ascii "day") ≡ false → is_called w (ascii "hour") ≡ false
      → find_index (λ (x : Attribute). is_called w x.name) xs ≡ map (λ i. 3 + i) (find_index (λ (x : Attribute). is_called w x.name) (tabulated (attribute_in text ws) k))
  unfolding find_index find_index_from clock_attributes
  found_behind_clock e₁ e₂ e₃ = rw (← h.are, e₁, e₂, e₃) (find_index_from_shift (λ (x : Attribute). is_called w x.name) 3 0 (tabulated (attribute_in text ws) k))

  -- what is found in the array has its number behind the clock's
  pub found_later : is_called w (ascii "year") ≡ false → is_called w (ascii "day") ≡ false → is_called w (ascii "hour") ≡ false
      → (r : Option ℕ) → r ≡ find_index (λ p. is_called w (word_at text p)) (tabulated (λ i. get_or ws (0 + i) 0) k)
      → map (λ i. 3 + i) r ≡ find_index (λ (x : Attribute). is_called w x.name) xs
  found_later e₁ e₂ e₃ r e =
      ap (map (λ i. 3 + i)) (e ∙ found_first (is_called w) (λ (x : Attribute). x.name) text ws (attribute_in text ws) k (tabulated (attribute_in text ws) k) (λ i. unfold attribute_in in refl) refl)
      ∙ sym (found_behind_clock e₁ e₂ e₃)
