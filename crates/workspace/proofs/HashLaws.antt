-- Names and their hashes: names that are the same have the same hash, and the hash of a word by its bytes. Assumes nothing.
use Prim.Native.Nat.{◌%◌, ◌*◌, ◌+◌, ◌<◌, ℕ}
use borrow.Author.Tests.{eqb-true}
use lib.ListN.{get_or}
use mathlib.Core.Bool.{false, true, true≢false}
use mathlib.Core.List.{List, [], ◌∷◌}
use mathlib.Core.Path.{◌∙◌, ◌≡◌, ap, refl, sym}
use native.Mathlib.Nat.{mod-lt}
use native.Mathlib.Omega.{arith}
use Rattle.workspace.specs.Hash.{hash_by, hash_of, print_of, prints, slots}
use Rattle.lists.proofs.Tests.{and_left, and_right, never}
use Rattle.text.proofs.WordLaws.{word_more, word_stop}
use Rattle.text.specs.Bytes.{is_letter, is_name_byte}
use Rattle.text.specs.Names.{Name, lower, same_byte, same_name}
use Rattle.text.specs.Words.{word_at}

same_from : (f m h : ℕ) (a b : Name) → same_name a b ≡ true → hash_by f m h a ≡ hash_by f m h b
unfolding same_name same_byte hash_by
same_from f m h [] [] e = refl
same_from f m h [] (y ∷ b) e = absurd (true≢false (sym e))
same_from f m h (x ∷ a) [] e = absurd (true≢false (sym e))
same_from f m h (x ∷ a) (y ∷ b) e =
    ap (λ (z : ℕ). hash_by f m ((f * h + z) % m) a) (eqb-true (lower x) (lower y) (and_left (same_byte x y) (same_name a b) e))
    ∙ same_from f m ((f * h + lower y) % m) a b (and_right (same_byte x y) (same_name a b) e)

-- all that is needed of `same_name`
pub same_hash : (a b : Name) → same_name a b ≡ true → hash_of a ≡ hash_of b
unfolding hash_of
same_hash a b e = same_from 105 slots 0 a b e

pub same_print : (a b : Name) → same_name a b ≡ true → print_of a ≡ print_of b
unfolding print_of
same_print a b e = same_from 2654435761 prints 0 a b e

-- names with different hashes are not the same
pub other_hash : (a b : Name) → (hash_of b ≡ hash_of a → ⊥) → same_name a b ≡ false
other_hash a b h = never (same_name a b) (λ e. h (sym (same_hash a b e)))

-- nor are names with different prints
pub other_print : (a b : Name) → (print_of b ≡ print_of a → ⊥) → same_name a b ≡ false
other_print a b h = never (same_name a b) (λ e. h (sym (same_print a b e)))

below_from : (f m h : ℕ) (a : Name) → 0 < m → h < m → hash_by f m h a < m
unfolding hash_by
below_from f m h [] z l = l
below_from f m h (x ∷ a) z l = below_from f m ((f * h + lower x) % m) a z (mod-lt (f * h + lower x) z)

-- a letter is a name byte
pub letter_in_name : (b : ℕ) → is_letter b ≡ true → true ≡ is_name_byte b
unfolding is_name_byte
letter_in_name b h = sym (rw h)

-- a hash is the number of a slot
pub hash_below : (a : Name) → hash_of a < slots
unfolding hash_of
hash_below a = below_from 105 slots 0 a (omega arith) (omega arith)

pub print_below : (a : Name) → print_of a < prints
unfolding print_of
print_below a = below_from 2654435761 prints 0 a (omega arith) (omega arith)

module _ (f m : ℕ) (s : List ℕ) (at h : ℕ) where
  -- one byte more, and the last
  pub hash_more : is_name_byte (get_or s at 0) ≡ true → hash_by f m ((f * h + lower (get_or s at 0)) % m) (word_at s (at + 1)) ≡ hash_by f m h (word_at s at)
  unfolding hash_by
  hash_more k = sym (ap (hash_by f m h) (word_more s at k))

  pub hash_stop : is_name_byte (get_or s at 0) ≡ false → h ≡ hash_by f m h (word_at s at)
  unfolding hash_by
  hash_stop k = sym (ap (hash_by f m h) (word_stop s at k))
