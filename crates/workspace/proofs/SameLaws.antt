-- Two words that are the same are so from each of their bytes on, as code goes through them from the last byte. Assumes nothing.
use Prim.Native.Nat.{◌+◌, ◌-◌, ◌<◌, ◌≤◌, suc, zero, ℕ}
use borrow.Author.Tests.{eqb-false, eqb-true}
use lib.Dec.{eqb}
use lib.ListN.{get_or, length}
use mathlib.Core.Bool.{Bool, false, true}
use mathlib.Core.List.{List}
use mathlib.Core.Path.{◌∙◌, ◌≡◌, ap, ap₂, refl, sym}
use native.Mathlib.Nat.{add-zero}
use native.Mathlib.Omega.{arith}
use Rattle.lists.proofs.Tests.{never, true_not_false}
use Rattle.text.proofs.WordLaws.{name_byte_here, same_differ, same_more, same_name_byte, same_stop, word_more, word_stop}
use Rattle.text.specs.Bytes.{is_name_byte}
use Rattle.text.specs.Names.{same_byte, same_name}
use Rattle.text.specs.Words.{word_at}

-- the place of a later byte, from the next byte on
later : (at q : ℕ) → (at + 1) + q ≡ at + suc q
later at q = omega arith

-- ---- one word

-- what is left of a word behind its first q bytes
word_left : (s : List ℕ) (at q : ℕ) → q ≤ length (word_at s at) → length (word_at s (at + q)) + q ≡ length (word_at s at)
word_left s at zero h = ap (λ (k : ℕ). length (word_at s k) + 0) (add-zero at) ∙ add-zero (length (word_at s at))
word_left s at (suc q) h = go (is_name_byte (get_or s at 0)) refl (word_left s (at + 1) q)
  where
    go : (t : Bool) → is_name_byte (get_or s at 0) ≡ t → (q ≤ length (word_at s (at + 1)) → length (word_at s ((at + 1) + q)) + q ≡ length (word_at s (at + 1)))
        → length (word_at s (at + suc q)) + suc q ≡ length (word_at s at)
    go true k rest =
        let one = ap length (word_more s at k) in
        omega (arith, one, rest (omega (arith, one)), ap (λ (k : ℕ). length (word_at s k)) (later at q))
    go false k rest = absurd (omega (arith, ap length (word_stop s at k)))

-- its bytes are name bytes
word_byte : (s : List ℕ) (at q : ℕ) → q < length (word_at s at) → is_name_byte (get_or s (at + q) 0) ≡ true
word_byte s at q h = go (is_name_byte (get_or s (at + q) 0)) refl
  where
    go : (t : Bool) → is_name_byte (get_or s (at + q) 0) ≡ t → t ≡ true
    go true k = refl
    go false k = absurd (omega (arith, word_left s at q (omega arith), ap length (word_stop s (at + q) k)))

-- which stand in the text
byte_within : (s : List ℕ) (at q : ℕ) → q < length (word_at s at) → at + q < length s
byte_within s at q h = name_byte_here s (at + q) (word_byte s at q h)

-- and the byte behind it is none
word_behind : (s : List ℕ) (at n : ℕ) → n ≡ length (word_at s at) → is_name_byte (get_or s (at + n) 0) ≡ false
word_behind s at n h =
    never (is_name_byte (get_or s (at + n) 0)) (λ k. omega (arith, word_left s at n (omega arith), ap length (word_more s (at + n) k)))

-- ---- two words

-- two words that are the same are so from each byte on
same_later : (a : List ℕ) (x : ℕ) (b : List ℕ) (y q : ℕ) → q ≤ length (word_at a x) → same_name (word_at a x) (word_at b y) ≡ true
    → same_name (word_at a (x + q)) (word_at b (y + q)) ≡ true
same_later a x b y zero h e = rw (add-zero x, add-zero y) e
same_later a x b y (suc q) h e = go (is_name_byte (get_or a x 0)) refl (same_byte (get_or a x 0) (get_or b y 0)) refl (same_later a (x + 1) b (y + 1) q)
  where
    go : (t : Bool) → is_name_byte (get_or a x 0) ≡ t → (u : Bool) → same_byte (get_or a x 0) (get_or b y 0) ≡ u
        → (q ≤ length (word_at a (x + 1)) → same_name (word_at a (x + 1)) (word_at b (y + 1)) ≡ true → same_name (word_at a ((x + 1) + q)) (word_at b ((y + 1) + q)) ≡ true)
        → same_name (word_at a (x + suc q)) (word_at b (y + suc q)) ≡ true
    go true k true j rest =
        rw (later x q, later y q) at (rest (omega (arith, ap length (word_more a x k))) (sym (same_more a x b y k j) ∙ e))
    go true k false j rest = true_not_false e (same_differ a x b y k j)
    go false k u j rest = absurd (omega (arith, ap length (word_stop a x k)))

module _ (a : List ℕ) (x n : ℕ) (b : List ℕ) (y : ℕ) (sized : n ≡ length (word_at a x)) where
  -- behind its last byte the word is the same as the other, if that ends there too
  pub same_behind : is_name_byte (get_or b (y + n) 0) ≡ false → same_name (word_at a (x + n)) (word_at b (y + n)) ≡ true
  same_behind h = same_stop a (x + n) b (y + n) false (word_behind a x n sized) h

  -- a word that goes on there is another
  pub differ_behind : is_name_byte (get_or b (y + n) 0) ≡ true → same_name (word_at a x) (word_at b y) ≡ false
  differ_behind h =
      never (same_name (word_at a x) (word_at b y)) (λ e.
      true_not_false (same_later a x b y n (omega arith) e) (same_stop a (x + n) b (y + n) true (word_behind a x n sized) h))

  module _ (q : ℕ) (before : q < n) where
    here : is_name_byte (get_or a (x + q) 0) ≡ true
    here = word_byte a x q (omega arith)

    -- the same byte in front of words that are the same
    pub same_before : (m : ℕ) → m ≡ q + 1 → same_byte (get_or a (x + q) 0) (get_or b (y + q) 0) ≡ true → same_name (word_at a (x + m)) (word_at b (y + m)) ≡ true
        → same_name (word_at a (x + q)) (word_at b (y + q)) ≡ true
    same_before m after j e =
        let behind_a : x + q + 1 ≡ x + m = omega arith in
        let behind_b : y + q + 1 ≡ y + m = omega arith in
        same_more a (x + q) b (y + q) here j ∙ ap₂ (λ (k l : ℕ). same_name (word_at a k) (word_at b l)) behind_a behind_b ∙ e

    -- words in which a byte differs are not the same
    pub differ_at : same_byte (get_or a (x + q) 0) (get_or b (y + q) 0) ≡ false → same_name (word_at a x) (word_at b y) ≡ false
    differ_at j =
        never (same_name (word_at a x) (word_at b y)) (λ e.
        true_not_false (same_later a x b y q (omega arith) e) (same_differ a (x + q) b (y + q) here j))

    -- nor are they where the other text ends before the word does
    differ_short : length b ≤ y + q → same_name (word_at a x) (word_at b y) ≡ false
    differ_short h = differ_at (never (same_byte (get_or a (x + q) 0) (get_or b (y + q) 0)) (λ j.
        omega (arith, name_byte_here b (y + q) (same_name_byte _ _ j here))))

  -- words whose first or last bytes differ are not the same
  pub differ_first : 0 < n → same_byte (get_or a x 0) (get_or b y 0) ≡ false → same_name (word_at a x) (word_at b y) ≡ false
  differ_first l j = differ_at 0 l (rw (add-zero x, add-zero y) j)

  pub differ_last : 0 < n → same_byte (get_or a (x + n - 1) 0) (get_or b (y + (n - 1)) 0) ≡ false → same_name (word_at a x) (word_at b y) ≡ false
  differ_last l j =
      let place : x + n - 1 ≡ x + (n - 1) = omega arith in
      differ_at (n - 1) (omega arith) (ap (λ (k : ℕ). same_byte (get_or a k 0) (get_or b (y + (n - 1)) 0)) (sym place) ∙ j)

  -- where the other text ends before the word does, the two are the same only if the word is empty
  pub same_beyond : length b < y + n → same_name (word_at a x) (word_at b y) ≡ eqb n 0
  same_beyond h = go (eqb n 0) refl
    where
      go : (t : Bool) → eqb n 0 ≡ t → same_name (word_at a x) (word_at b y) ≡ t
      go true k =
          let empty = eqb-true n 0 k in
          same_stop a x b y false
          (never (is_name_byte (get_or a x 0)) (λ j. omega (arith, empty, ap length (word_more a x j))))
          (never (is_name_byte (get_or b y 0)) (λ j. omega (arith, empty, name_byte_here b y j)))
      go false k =
          let longer : 0 < n = omega (arith, eqb-false n 0 k) in
          differ_short (n - 1) (omega arith) (omega arith)

  -- where its own text ends before the word would, the word is empty, and the same as the other if that is empty too
  pub same_empty : length a < x + n → is_name_byte (get_or b (y + n) 0) ≡ false → same_name (word_at a x) (word_at b y) ≡ eqb n 0
  same_empty short h = go (eqb n 0) refl
    where
      go : (t : Bool) → eqb n 0 ≡ t → same_name (word_at a x) (word_at b y) ≡ t
      go true k =
          let first : x ≡ x + n = omega (arith, eqb-true n 0 k) in
          let first_of_other : y ≡ y + n = omega (arith, eqb-true n 0 k) in
          ap₂ (λ (i j : ℕ). same_name (word_at a i) (word_at b j)) first first_of_other ∙ same_behind h
      go false k =
          let longer : 0 < n = omega (arith, eqb-false n 0 k) in
          absurd (omega (arith, byte_within a x (n - 1) (omega arith)))
