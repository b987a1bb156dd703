-- Whether code found something, by what the reader or the definition gives. Assumes nothing.
use Prim.Native.Nat.{ℕ}
use mathlib.Core.Bool.{Bool, false, true}
use mathlib.Core.List.{List}
use mathlib.Core.Option.{Option, none, some}
use mathlib.Core.Path.{◌≡◌, refl}
use Rattle.lists.specs.Lists.{or_zero, there}
use Rattle.std.specs.Prelude.{is_some, unwrap_or}
use Rattle.text.proofs.WordLaws.{word_read, word_refused}
use Rattle.text.specs.CodeEnds.{amount_of, word_end}
use Rattle.text.specs.Reader.{Left, from}
use Rattle.text.specs.Words.{word_at, word_that}

-- a number
pub amount_found : (o : Option ℕ) → is_some (amount_of o) ≡ there o
unfolding there
amount_found none = refl
amount_found (some n) = refl

-- the number, or zero
pub amount_or_zero : (o : Option ℕ) → unwrap_or (amount_of o) 0 ≡ or_zero o
unfolding or_zero
amount_or_zero none = refl
amount_or_zero (some n) = refl

-- an end
pub end_found : {A : Type 0} (o : Option (A × Left)) → is_some (word_end o) ≡ there o
unfolding there
end_found none = refl
end_found (some r) = refl

-- the end of a word that passes a test
pub word_found : (p : List ℕ → Bool) (s : List ℕ) (at : ℕ) → is_some (word_end (word_that p (from s at))) ≡ p (word_at s at)
word_found p s at = go (p (word_at s at)) refl
  where
    go : (t : Bool) → p (word_at s at) ≡ t → is_some (word_end (word_that p (from s at))) ≡ p (word_at s at)
    go true k = rw (word_read s at p k, k)
    go false k = rw (word_refused s at p k, k)
