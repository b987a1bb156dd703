-- A text that is one bracket with nothing behind it, whatever stands in the bracket. Assumes nothing.
use Prim.Native.Nat.{◌+◌, ◌<◌, ℕ}
use lib.ListN.{drop_of_length-le, get_or, length}
use mathlib.Core.List.{List}
use mathlib.Core.Option.{Option, map, none, some}
use mathlib.Core.Path.{◌≡◌}
use native.Mathlib.Omega.{arith}
use Rattle.text.proofs.Lefts.{before_end, drop_here}
use Rattle.text.proofs.ReaderLaws.{byte_at_read, byte_at_refused}
use Rattle.text.specs.Brackets.{bracketed}
use Rattle.text.specs.Reader.{Reader, ended, from, whole}

-- a closing bracket stands before the end
pub closes_before : (s : List ℕ) (e : ℕ) → get_or s e 0 ≡ 41 → e < length s
closes_before s e h = before_end s e (λ z. absurd (omega (arith, h, z)))

module _ {A : Type 0} (R : Reader A) (s : List ℕ) where
  -- no bracket opens the text
  pub whole_shut : (get_or s 0 0 ≡ 40 → ⊥) → whole (bracketed R) s ≡ none
  unfolding whole ended bracketed
  whole_shut h = rw (byte_at_refused s 0 40 h)

  module _ (opens : get_or s 0 0 ≡ 40) where
    -- what stands in the bracket is wrong
    pub whole_wrong : R (from s 1) ≡ none → whole (bracketed R) s ≡ none
    unfolding whole ended bracketed
    whole_wrong h = rw (byte_at_read s 0 40 opens, h)

    module _ (e : ℕ) where
      -- the bracket does not close where its content ends
      pub whole_open : (o : Option A) → R (from s 1) ≡ map (λ x. (x, from s e)) o → (get_or s e 0 ≡ 41 → ⊥) → whole (bracketed R) s ≡ none
      unfolding whole ended bracketed
      whole_open none h k = whole_wrong h
      whole_open (some x) h k = rw (byte_at_read s 0 40 opens, h, byte_at_refused s e 41 k)

      -- something stands behind it
      pub whole_long : (o : Option A) → R (from s 1) ≡ map (λ x. (x, from s e)) o → get_or s e 0 ≡ 41 → (e + 1 ≡ length s → ⊥) → whole (bracketed R) s ≡ none
      unfolding whole ended bracketed
      whole_long none h k z = whole_wrong h
      whole_long (some x) h k z =
          let b : e < length s = closes_before s e k in
          let m : e + 1 < length s = omega arith in
          rw (byte_at_read s 0 40 opens, h, byte_at_read s e 41 k, drop_here s (e + 1) m)

      -- nothing does
      pub whole_read : (o : Option A) → R (from s 1) ≡ map (λ x. (x, from s e)) o → get_or s e 0 ≡ 41 → e + 1 ≡ length s → whole (bracketed R) s ≡ o
      unfolding whole ended bracketed
      whole_read none h k z = whole_wrong h
      whole_read (some x) h k z = rw (byte_at_read s 0 40 opens, h, byte_at_read s e 41 k, drop_of_length-le s {i = e + 1} (omega arith))
