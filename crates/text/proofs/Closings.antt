-- The bytes from a position to the first closing bracket, as code goes through them. Assumes nothing.
use Prim.Native.Nat.{◌+◌, ◌<◌, ◌≤◌, suc, ℕ}
use borrow.Author.Tests.{eqb-true, ne_eqb}
use lib.Dec.{eqb}
use lib.ListN.{drop, drop_of_length-le, get_or, length, length-drop, take}
use mathlib.Core.Bool.{Bool, cond, false, true}
use mathlib.Core.List.{List, [], ◌++◌, ◌∷◌}
use mathlib.Core.Path.{◌∙◌, ◌≡◌, ap, refl}
use native.Mathlib.Omega.{arith}
use Rattle.lists.proofs.Tests.{and_left, and_right, never, true_not_false}
use Rattle.lists.specs.Lists.{all_of}
use Rattle.text.proofs.ByteLaws.{run_within}
use Rattle.text.proofs.Lefts.{before_end, drop_here}
use Rattle.text.specs.Bytes.{first_byte, is_digit, is_letter, is_name_byte}
use Rattle.text.specs.Walking.{word_end_at, written_end_at}
use Rattle.text.specs.Words.{name_bytes, to_closing, word_at, written_at}

module _ (s : List ℕ) (at : ℕ) where
  -- another byte stands there: it, and what stands behind it up to the bracket
  pub closing_more : at < length s → (get_or s at 0 ≡ 10 → ⊥) → (get_or s at 0 ≡ 41 → ⊥) → to_closing (drop at s) ≡ get_or s at 0 ∷ to_closing (drop (at + 1) s)
  unfolding to_closing
  closing_more l n h = rw (drop_here s at l, ne_eqb _ _ n, ne_eqb _ _ h)

  -- the bracket stands there
  pub closing_here : at < length s → get_or s at 0 ≡ 41 → to_closing (drop at s) ≡ 41 ∷ []
  unfolding to_closing
  closing_here l h = rw (drop_here s at l, h)

  -- a line feed stands there
  pub closing_feed : at < length s → get_or s at 0 ≡ 10 → to_closing (drop at s) ≡ []
  unfolding to_closing
  closing_feed l h = rw (drop_here s at l, h)

  -- the text ends there
  pub closing_none : length s ≤ at → to_closing (drop at s) ≡ []
  unfolding to_closing
  closing_none l = rw (drop_of_length-le s l)

-- they stand at the front
pub closing_stands : (bs : List ℕ) → bs ≡ to_closing bs ++ drop (length (to_closing bs)) bs
unfolding to_closing
closing_stands [] = refl
closing_stands (b ∷ bs) = go (eqb b 10) (eqb b 41) (closing_stands bs)
  where
    go : (t u : Bool) → bs ≡ to_closing bs ++ drop (length (to_closing bs)) bs
        → b ∷ bs ≡ cond t [] (b ∷ cond u [] (to_closing bs)) ++ drop (length (cond t [] (b ∷ cond u [] (to_closing bs)))) (b ∷ bs)
    go true u h = refl
    go false true h = refl
    go false false h = ap (λ (cs : List ℕ). b ∷ cs) h

pub closing_within : (bs : List ℕ) → length (to_closing bs) ≤ length bs
unfolding to_closing
closing_within [] = omega arith
closing_within (b ∷ bs) = go (eqb b 10) (eqb b 41) (closing_within bs)
  where
    go : (t u : Bool) → length (to_closing bs) ≤ length bs → length (cond t [] (b ∷ cond u [] (to_closing bs))) ≤ suc (length bs)
    go true u h = omega arith
    go false true h = omega arith
    go false false h = omega (arith, h)

-- as many bytes from there are they
closing_taken : (bs : List ℕ) → take (length (to_closing bs)) bs ≡ to_closing bs
unfolding to_closing
closing_taken [] = refl
closing_taken (b ∷ bs) = go (eqb b 10) (eqb b 41) (closing_taken bs)
  where
    go : (t u : Bool) → take (length (to_closing bs)) bs ≡ to_closing bs → take (length (cond t [] (b ∷ cond u [] (to_closing bs)))) (b ∷ bs) ≡ cond t [] (b ∷ cond u [] (to_closing bs))
    go true u h = refl
    go false true h = refl
    go false false h = ap (λ (cs : List ℕ). b ∷ cs) h

run_taken : (bs : List ℕ) → take (length (name_bytes bs)) bs ≡ name_bytes bs
unfolding name_bytes
run_taken [] = refl
run_taken (b ∷ bs) = go (is_name_byte b) (run_taken bs)
  where
    go : (t : Bool) → take (length (name_bytes bs)) bs ≡ name_bytes bs → take (length (cond t (b ∷ name_bytes bs) [])) (b ∷ bs) ≡ cond t (b ∷ name_bytes bs) []
    go true e = ap (λ (l : List ℕ). b ∷ l) e
    go false e = refl

-- behind the line nothing counts
pub closing_append : (bs rest : List ℕ) → to_closing rest ≡ [] → to_closing (bs ++ rest) ≡ to_closing bs
unfolding to_closing
closing_append [] rest h = h
closing_append (b ∷ bs) rest h = ap (λ (cs : List ℕ). cond (eqb b 10) [] (b ∷ cond (eqb b 41) [] cs)) (closing_append bs rest h)

-- a name byte is no other byte
pub name_byte_not : (b c : ℕ) → is_name_byte b ≡ true → is_name_byte c ≡ false → eqb b c ≡ false
name_byte_not b c h k = never (eqb b c) (λ e. true_not_false h (ap is_name_byte (eqb-true b c e) ∙ k))

-- name bytes do not end them
pub closing_over : (w rest : List ℕ) → all_of is_name_byte w ≡ true → to_closing (w ++ rest) ≡ w ++ to_closing rest
unfolding to_closing all_of is_name_byte is_letter is_digit
closing_over [] rest h = refl
closing_over (b ∷ w) rest h = rw (name_byte_not b 10 (and_left (is_name_byte b) _ h) refl, name_byte_not b 41 (and_left (is_name_byte b) _ h) refl) (ap (λ (cs : List ℕ). b ∷ cs) (closing_over w rest (and_right (is_name_byte b) _ h)))

-- ---- values as they are written

module _ (s : List ℕ) (at : ℕ) where
  -- where a bracket opens
  pub written_bracket : get_or s at 0 ≡ 40 → written_at s at ≡ to_closing (drop at s)
  unfolding written_at
  written_bracket h = rw h

  -- where none does, a value is a word
  pub written_word : (get_or s at 0 ≡ 40 → ⊥) → written_at s at ≡ word_at s at
  unfolding written_at
  written_word h = rw (ne_eqb _ _ h)

  -- so where a name byte stands
  pub written_named : is_name_byte (get_or s at 0) ≡ true → written_at s at ≡ word_at s at
  written_named h = written_word (λ z. true_not_false h (ap is_name_byte z ∙ unfold is_name_byte is_letter is_digit in refl))

  -- and it ends where the word does
  pub written_end : (get_or s at 0 ≡ 40 → ⊥) → written_end_at s at ≡ word_end_at s at
  unfolding written_end_at word_end_at
  written_end h = ap (λ (v : List ℕ). at + length v) (written_word h)

  -- a bracket is the first byte of what is written there
  pub written_opens : get_or s at 0 ≡ 40 → first_byte (written_at s at) ≡ 40
  unfolding to_closing
  written_opens h = ap first_byte (written_bracket h) ∙ rw (drop_here s at (before_end s at (λ z. absurd (omega (arith, h, z)))), h)

  -- it is the first bytes of what stands there
  pub written_length : length (written_at s at) ≤ length (drop at s)
  unfolding written_at
  written_length = go (eqb (get_or s at 0) 40)
    where
      go : (t : Bool) → length (cond t (to_closing (drop at s)) (word_at s at)) ≤ length (drop at s)
      go true = closing_within (drop at s)
      go false = run_within (drop at s)

  pub written_taken : take (length (written_at s at)) (drop at s) ≡ written_at s at
  unfolding written_at
  written_taken = go (eqb (get_or s at 0) 40)
    where
      go : (t : Bool) → take (length (cond t (to_closing (drop at s)) (word_at s at))) (drop at s) ≡ cond t (to_closing (drop at s)) (word_at s at)
      go true = closing_taken (drop at s)
      go false = run_taken (drop at s)

  -- it ends in the text
  pub value_onward : at ≤ written_end_at s at
  unfolding written_end_at
  value_onward = omega arith

  pub value_within : at ≤ length s → written_end_at s at ≤ length s
  unfolding written_end_at
  value_within h = omega (arith, written_length, length-drop at s)
