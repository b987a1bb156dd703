-- Meaning: what the exported functions hand to a host for a why line (02, Q-7): a code and five figures, and the line in the lent buffer.
use Rattle.std.specs.Prelude.{ℕ, get_or, List, ◌≡◌}
use Rattle.answer.specs.Why.{why}
use Rattle.gate.specs.Arrays.{NotLoaded}
use Rattle.gate.specs.Exports.{StoresLength}
use Rattle.loaded.specs.Cells.{version}
use Rattle.telling.specs.Holds.{HoldsLabels}
use Rattle.telling.specs.Telling.{after_line, line_length}

-- the code n and the figures are those of the line's length, or of a refusal, and the lent buffer afterwards is what the reason says
pub record ExportsWhy (doc line before after figures : List ℕ) (n : ℕ) : Type 0 where
  pub stores : StoresLength (line_length (why doc line)) figures n
  pub buffer : after ≡ after_line (why doc line) before

-- over arrays that hold this very text the call is that of explaining the text; over arrays of no or another version it says so, and
-- leaves the buffer
pub record ExportsWhyArrays (doc ps ls ms ts ws cells line before after figures : List ℕ) (n : ℕ) : Type 0 where
  pub loaded : HoldsLabels doc ps ls ms ts ws cells → ExportsWhy doc line before after figures n
  pub other : (get_or cells 0 0 ≡ version → ⊥) → NotLoaded figures n
  pub kept : (get_or cells 0 0 ≡ version → ⊥) → after ≡ before
