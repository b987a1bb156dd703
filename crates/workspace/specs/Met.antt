-- Contract: The names that were met on a walk, told by two bits of each name's print. A name that lacks one of them is new; of one that has
-- both nothing is said. With fewer words than `met_words` nothing is said of any.
use Rattle.std.specs.Prelude.{◌%◌, ◌*◌, ◌+◌, ◌/◌, ◌≤◌, ℕ, length, Bool, ◌&&◌, ◌||◌, false, true, List, ◌≡◌}
use Rattle.workspace.specs.Hash.{print_of, prints}
use Rattle.lists.specs.Lists.{any_of}
use Rattle.purpose.specs.Members.{has}
use Rattle.text.specs.Words.{Word, is_called}

-- how many words hold the bits
abbrev pub met_words : ℕ
met_words = 2048

-- how many there are for the first bits of names, and for the second
abbrev pub half : ℕ
half = 65536

-- the two bits of a print: by what is left of it, and by what stands in front once it is multiplied, where the last byte counts too
abbrev pub low_bit : ℕ → ℕ
low_bit h = h % half

abbrev pub high_bit : ℕ → ℕ
high_bit h = half + 668265263 * h % prints / half

-- both bits of a print are set
unfoldable pub marked : List ℕ → ℕ → Bool
marked ms h = has ms (low_bit h) && has ms (high_bit h)

-- a name that is the same as one of these has both its bits set
pub record Met (ms : List ℕ) (ws : List Word) : Type 0 where
  pub told : met_words ≤ length ms → (w : Word) → any_of (λ v. is_called w v.bytes) ws ≡ true → marked ms (print_of w.bytes) ≡ true

-- the name w is met: it is said to be new only if it is none of those before, and with them it was met then
pub record Meets (before after : List ℕ) (w : Word) (new : Bool) : Type 0 where
  pub none : (ws : List Word) → Met before ws → new ≡ true → any_of (λ v. is_called w v.bytes) ws ≡ false
  pub more : (ws all : List Word) → Met before ws → ((f : Word → Bool) → any_of f all ≡ (f w || any_of f ws)) → Met after all
