-- An item behind a space, and one that may be absent, as code finds them at a position of a text. Assumes nothing.
use Prim.Native.Nat.{◌+◌, ◌<◌, ℕ}
use borrow.Author.Tests.{eq-eqb, ne_eqb}
use lib.ListN.{get_or, length}
use mathlib.Core.List.{List}
use mathlib.Core.Option.{none, some}
use mathlib.Core.Path.{◌∙◌, ◌≡◌, sym}
use native.Mathlib.Omega.{arith}
use Rattle.text.proofs.Lefts.{before_end, first_drop}
use Rattle.text.proofs.ReaderLaws.{byte_at_read, byte_at_refused}
use Rattle.text.specs.Brackets.{next, optional}
use Rattle.text.specs.Reader.{Reader, and_then, from, give, if_next}

-- where code reads a space, a space stands, and it stands before the end
pub space_here : (s : List ℕ) (i b : ℕ) → b ≡ get_or s i 0 → b ≡ 32 → (get_or s i 0 ≡ 32) × (i < length s)
space_here s i b e h = let z : get_or s i 0 ≡ 32 = sym e ∙ h in (z, before_end s i (λ k. absurd (omega (arith, z, k))))

-- one reader where the byte b stands, and another elsewhere
module _ {A : Type 0} (b : ℕ) (R S : Reader A) (s : List ℕ) (at : ℕ) where
  pub if_here : get_or s at 0 ≡ b → if_next b R S (from s at) ≡ R (from s at)
  unfolding if_next
  if_here h = rw (first_drop s at, eq-eqb _ _ h)

  pub if_not : (get_or s at 0 ≡ b → ⊥) → if_next b R S (from s at) ≡ S (from s at)
  unfolding if_next
  if_not h = rw (first_drop s at, ne_eqb _ _ h)

module _ {A : Type 0} (R : Reader A) (s : List ℕ) (at : ℕ) where
  -- behind a space stands what the reader reads there
  pub next_here : get_or s at 0 ≡ 32 → next R (from s at) ≡ R (from s (at + 1))
  unfolding next
  next_here h = rw (byte_at_read s at 32 h)

  -- no space
  pub next_not : (get_or s at 0 ≡ 32 → ⊥) → next R (from s at) ≡ none
  unfolding next
  next_not h = rw (byte_at_refused s at 32 h)

  -- the same where the item may be absent: a space calls for one
  pub optional_here : get_or s at 0 ≡ 32 → optional R (from s at) ≡ and_then (R (from s (at + 1))) (λ x. give (some x))
  unfolding optional
  optional_here h = if_here 32 _ _ s at h ∙ rw (next_here h)

  -- and elsewhere there is none
  pub optional_not : (get_or s at 0 ≡ 32 → ⊥) → optional R (from s at) ≡ some (none, from s at)
  unfolding optional
  optional_not h = if_not 32 _ _ s at h
