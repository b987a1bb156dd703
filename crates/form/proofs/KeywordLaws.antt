-- Keywords as code finds them at a position of a text: the word there decides what is read behind it. Assumes nothing.
use Prim.Native.Nat.{◌+◌, ℕ}
use lib.ListN.{length}
use mathlib.Core.List.{List}
use mathlib.Core.Path.{◌≡◌}
use Rattle.text.proofs.WordLaws.{word_always}
use Rattle.text.specs.Brackets.{Keywords, among, keyword}
use Rattle.text.specs.Reader.{from}
use Rattle.text.specs.Words.{word_at, word_of}

-- what is read behind the word that ends at e
pub keyword_at : {A : Type 0} (ks : Keywords A) (s : List ℕ) (at e : ℕ) → e ≡ at + length (word_at s at) → keyword ks (from s at) ≡ among ks (word_of s at) (from s e)
unfolding keyword
keyword_at ks s at e h = rw (word_always s at, h)
