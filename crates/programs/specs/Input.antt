-- Contract: what reading to the end of an input promises: what it says of the buffer, and where the input's bytes are known, which it has.
use Rattle.std.specs.Prelude.{◌≡◌, ℕ, List, length, take, Option, None, Some}
use Rattle.programs.specs.Counts.{IsPrefixLen}

-- a text that was read lies within the buffer
abbrev pub ReadsWithin : List ℕ → Option ℕ → Type 0
ReadsWithin buffer (Some n) = IsPrefixLen n buffer
ReadsWithin buffer None = Unit {0}

-- a text that was read is all of the known bytes, or as many as the buffer has room for
abbrev pub ReadsFront : Option (List ℕ) → List ℕ → Option ℕ → Type 0
ReadsFront None buffer l = Unit {0}
ReadsFront (Some xs) buffer None = Unit {0}
ReadsFront (Some xs) buffer (Some n) = take n buffer ≡ take (length buffer) xs
