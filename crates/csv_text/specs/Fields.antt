-- Meaning: fields of a comma-separated file (02, Q-1; RFC 4180). Readers are those of bracket texts.
use Rattle.std.specs.Prelude.{suc, ℕ, eqb, length, Bool, ◌||◌, cond, false, not, true, List, [], ◌++◌, ◌∷◌}
use Rattle.std.proofs.Math.Option.{Option, none, some}
use Rattle.text.specs.Reader.{Left, Reader, ◌>>◌, byte, if_next, skip}

-- what a field says, as its bytes: without its quotes, and with doubled quotes made one
abbrev pub Field : Type 0
Field = List ℕ

-- a byte that may stand in a field without quotes: no `"`, no `,`, no line feed, no carriage return
unfoldable pub is_plain : ℕ → Bool
is_plain b = not (eqb b 34 || (eqb b 44 || (eqb b 10 || eqb b 13)))

-- the plain bytes at the front, as many as there are
unfoldable pub plain_bytes : List ℕ → List ℕ
plain_bytes [] = []
plain_bytes (b ∷ bs) = cond (is_plain b) (b ∷ plain_bytes bs) []

-- read a field without quotes, perhaps an empty one
unfoldable pub bare : Reader Field
bare l = some (plain_bytes l.bytes, skip (length (plain_bytes l.bytes)) l)

-- a field in quotes with these bytes in front of it, after one byte more of the file
unfoldable pub wrap : List ℕ → Option (Field × ℕ) → Option (Field × ℕ)
wrap bs none = none
wrap bs (some q) = some (bs ++ q.0, suc q.1)

-- the field that stands in quotes, and how many bytes of the file it takes with the closing quote; none where no quote closes it.
-- `true` says that a quote stands right before: that closed the field, unless another quote follows. Two quotes say one.
unfoldable pub quoted : Bool → List ℕ → Option (Field × ℕ)
quoted false [] = none
quoted true [] = some ([], 0)
quoted false (b ∷ bs) = wrap (cond (eqb b 34) [] (b ∷ [])) (quoted (eqb b 34) bs)
quoted true (b ∷ bs) = cond (eqb b 34) (wrap (b ∷ []) (quoted false bs)) (some ([], 0))

-- what was found, and what is left behind it
unfoldable pub with_left : Left → Option (Field × ℕ) → Option (Field × Left)
with_left l none = none
with_left l (some q) = some (q.0, skip q.1 l)

-- read a field behind its opening quote
unfoldable pub in_quotes : Reader Field
in_quotes l = with_left l (quoted false l.bytes)

-- read a field
unfoldable pub field : Reader Field
field = if_next 34 (do byte 34; in_quotes) bare
