-- Contract: writing into a lent buffer: bytes past its end are counted and not stored.
use Rattle.std.specs.Prelude.{◌+◌, ◌<◌, ◌^◌, ℕ, length, List, ◌≡◌}
use Rattle.std.proofs.lemmas.List.Edits.{sets}

-- the bytes were stored from a place on, as far as the buffer goes, and next is the place behind them
pub record Stored (before : List ℕ) (at : ℕ) (bytes after : List ℕ) (next : ℕ) : Type 0 where
  pub behind : next ≡ at + length bytes
  pub stored : after ≡ sets before at bytes

-- the same, where that place is a machine's length; in any case the buffer keeps its own
pub record Wrote (before : List ℕ) (at : ℕ) (bytes after : List ℕ) (next : ℕ) : Type 0 where
  pub kept : length after ≡ length before
  pub room : at + length bytes < 2 ^ 63 → Stored before at bytes after next
