-- Contract: lines of which a program keeps the first bytes alone: what becomes of a refusal's part.
use Rattle.std.specs.Prelude.{ℕ, eqb, ltb, cond}

-- the length of a refusal's part, of a line of len bytes of which the first `kept` were seen: that of the whole line where not all were
unfoldable pub part_length : (part kept len : ℕ) → ℕ
part_length part kept len = cond (eqb part 0) 0 (cond (ltb kept len) len part)
