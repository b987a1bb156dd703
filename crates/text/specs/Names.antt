-- Meaning: names (01, "Bracket texts"): which bytes are one, and when two are the same.
use Rattle.std.specs.Prelude.{◌+◌, ℕ, eqb, leb, length, Bool, ◌&&◌, cond, false, true, List, [], ◌∷◌}
use Rattle.text.specs.Bytes.{first_byte, is_letter, is_name_byte, within}
use Rattle.lists.specs.Lists.{all_of}

-- a name, as its bytes
abbrev pub Name : Type 0
Name = List ℕ

-- a name: 1 to 24 name bytes, the first a letter
unfoldable pub is_name : List ℕ → Bool
is_name bs = is_letter (first_byte bs) && (all_of is_name_byte bs && leb (length bs) 24)

-- a letter in lower case, and any other byte as it is
unfoldable pub lower : ℕ → ℕ
lower b = cond (within 65 90 b) (b + 32) b

-- two bytes are the same in a name: the case of letters does not count (02, Q-8)
unfoldable pub same_byte : ℕ → ℕ → Bool
same_byte a b = eqb (lower a) (lower b)

-- two names are the same (01; 02, Q-8). Every comparison of names goes through this definition.
unfoldable pub same_name : Name → Name → Bool
same_name [] [] = true
same_name [] (b ∷ bs) = false
same_name (a ∷ cs) [] = false
same_name (a ∷ cs) (b ∷ bs) = same_byte a b && same_name cs bs
