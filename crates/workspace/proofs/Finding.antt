-- What find_name finds among positions, said of a kind's list by its names. Assumes nothing.
use Prim.Native.Nat.{◌+◌, ℕ}
use lib.ListN.{get_or}
use mathlib.Core.Bool.{Bool}
use mathlib.Core.List.{List}
use mathlib.Core.Path.{◌∙◌, ◌≡◌, ap, sym}
use native.Mathlib.Nat.{zero-add}
use Rattle.workspace.proofs.TabulatedLaws.{find_index_map, tabulated_map, tabulated_same}
use Rattle.workspace.specs.Tabulated.{tabulated}
use Rattle.lists.specs.Lists.{find_index}
use Rattle.text.specs.Names.{Name}
use Rattle.text.specs.Words.{word_at}

module _ {A : Type 0} (t : Name → Bool) (called : A → Name) (text ws : List ℕ) (f : ℕ → A) (k : ℕ) where
  -- names whose positions stand from `base` on
  pub found_from : (base : ℕ) (xs : List A) → ((i : ℕ) → called (f i) ≡ word_at text (get_or ws (base + i) 0)) → tabulated f k ≡ xs
      → find_index (λ p. t (word_at text p)) (tabulated (λ i. get_or ws (base + i) 0) k) ≡ find_index (λ x. t (called x)) xs
  found_from base xs n are =
      sym (find_index_map t (word_at text) (tabulated (λ i. get_or ws (base + i) 0) k))
      ∙ ap (find_index t)
      (tabulated_map (word_at text) (λ i. get_or ws (base + i) 0) k
      ∙ tabulated_same (λ i. word_at text (get_or ws (base + i) 0)) (λ i. called (f i)) k (λ i l. sym (n i))
      ∙ sym (tabulated_map called f k))
      ∙ find_index_map t called (tabulated f k)
      ∙ ap (find_index (λ x. t (called x))) are

  -- names whose positions stand first
  pub found_first : (xs : List A) → ((i : ℕ) → called (f i) ≡ word_at text (get_or ws i 0)) → tabulated f k ≡ xs
      → find_index (λ p. t (word_at text p)) (tabulated (λ i. get_or ws (0 + i) 0) k) ≡ find_index (λ x. t (called x)) xs
  found_first xs n are = found_from 0 xs (λ i. n i ∙ ap (λ m. word_at text (get_or ws m 0)) (sym (zero-add i))) are
