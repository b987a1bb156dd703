-- Contract: A name's hash, by which purposes and roles are looked up, and its print, a longer one, by which other names are told apart.
-- What is found does not depend on them: only how many names are compared.
use Rattle.std.specs.Prelude.{◌%◌, ◌*◌, ◌+◌, ℕ, get_or, length, List, [], ◌∷◌, ◌≡◌}
use Rattle.text.specs.Names.{Name, lower}
use Rattle.text.specs.Words.{word_at}
use Rattle.workspace.specs.declared.hashes.Hashed.{Hashed}

-- how many hashes there are
abbrev pub slots : ℕ
slots = 1024

-- how many prints there are
abbrev pub prints : ℕ
prints = 4294967296

-- the hash of a name by a factor, below a bound, where h is that of the bytes before. It goes through each byte when lowered, so that
-- names that are the same (`same_name`) have the same (02, Q-8)
unfoldable pub hash_by : (factor bound h : ℕ) → Name → ℕ
hash_by f m h [] = h
hash_by f m h (b ∷ bs) = hash_by f m ((f * h + lower b) % m) bs

-- the hash of a name
unfoldable pub hash_of : Name → ℕ
hash_of n = hash_by 105 slots 0 n

-- the print of a name
unfoldable pub print_of : Name → ℕ
print_of n = hash_by 2654435761 prints 0 n

-- r says where the word at a position ends, and its hash
pub record HashedAt (s : List ℕ) (at : ℕ) (r : Hashed) : Type 0 where
  pub ends : r.end ≡ at + length (word_at s at)
  pub is : r.hash ≡ hash_of (word_at s at)

-- r says where the word at a position ends, and its print
pub record PrintedAt (s : List ℕ) (at : ℕ) (r : Hashed) : Type 0 where
  pub ends : r.end ≡ at + length (word_at s at)
  pub is : r.hash ≡ print_of (word_at s at)

-- of names whose positions stand from 0 on, the print of name i stands at `base` and i
abbrev pub Printed : ℕ → List ℕ → List ℕ → ℕ → Type 0
Printed base text ws i = get_or ws (base + i) 0 ≡ print_of (word_at text (get_or ws i 0))
