-- What a walk through a line found, as the word of the line. Assumes nothing.
use Prim.Native.Nat.{◌≤◌, ℕ}
use lib.ListN.{length}
use mathlib.Core.List.{List}
use mathlib.Core.Option.{Option, none, some}
use mathlib.Core.Path.{◌∙◌, ◌≡◌, ap, subst, sym}
use Rattle.stepping.specs.Places.{Near}
use Rattle.text.specs.CodeEnds.{offending_of}
use Rattle.std.specs.Prelude as prelude
use Rattle.std.specs.Prelude.{None, Some}
use Rattle.text.specs.Words.{Word, word_of}

module _ (s : List ℕ) (r : prelude.Option ℕ) where
  pub place_word : (o : Option Word) → offending_of s r ≡ o → (v : ℕ) → r ≡ Some v → o ≡ some (word_of s v)
  place_word o is v e = sym is ∙ ap (offending_of s) e

  pub place_none : (o : Option Word) → offending_of s r ≡ o → r ≡ None → o ≡ none
  place_none o is e = sym is ∙ ap (offending_of s) e

  pub place_near : Near s r → (v : ℕ) → r ≡ Some v → v ≤ length s
  place_near n v e = subst (λ (x : prelude.Option ℕ). Near s x) e n
