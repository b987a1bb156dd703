-- Meaning: what the exported functions over a loaded document hand to a host: what those over its text do, or that it is not loaded.
use Rattle.std.specs.Prelude.{ℕ, get_or, List, [], ◌∷◌, ◌≡◌}
use Rattle.gate.specs.Exports.{ExportsAsk, ExportsCheck, ExportsMeasure, clock_at}
use Rattle.loaded.specs.Cells.{version}
use Rattle.loaded.specs.Holds.{Holds}
use Rattle.query.specs.Authority.{Clock}
use Rattle.telling.specs.Holds.{HoldsLabels}

-- the clock of three numbers: year, day and hour
unfoldable pub clock_in : List ℕ → Clock
unfolding clock_at
clock_in l = clock_at (get_or l 0 0) (get_or l 1 0) (get_or l 2 0)

-- the code n and the figures of a call over arrays that this version did not fill: no refusal has this number
pub record NotLoaded (figures : List ℕ) (n : ℕ) : Type 0 where
  pub code : n ≡ 255
  pub filled : figures ≡ 0 ∷ 0 ∷ 0 ∷ 0 ∷ 0 ∷ []

-- the code n and the figures are those of the check of the document; where n is 0, the arrays hold it, for asking and for explaining,
-- else they are of no version
pub record ExportsLoad (doc ps rs bs us cs gs ls ms ts ws cells figures : List ℕ) (n : ℕ) : Type 0 where
  pub checks : ExportsCheck doc figures n
  pub accepts : n ≡ 0 → Holds doc ps rs bs us cs gs ms ts ws cells
  pub explains : n ≡ 0 → HoldsLabels doc ps ls ms ts ws cells
  pub refuses : (n ≡ 0 → ⊥) → get_or cells 0 0 ≡ 0

-- over arrays that hold this very text the call is that of asking the text; over arrays of no or another version it says so, and
-- leaves the buffer
pub record ExportsAskArrays (doc ps rs bs us cs gs ms ts ws cells text : List ℕ) (c : Clock) (before after' figures : List ℕ) (n : ℕ) : Type 0 where
  pub loaded : Holds doc ps rs bs us cs gs ms ts ws cells → ExportsAsk doc text c before after' figures n
  pub other : (get_or cells 0 0 ≡ version → ⊥) → NotLoaded figures n
  pub kept : (get_or cells 0 0 ≡ version → ⊥) → after' ≡ before

-- likewise of measuring
pub record ExportsMeasureArrays (doc ps rs bs us cs gs ms ts ws cells text : List ℕ) (c : Clock) (figures : List ℕ) (n : ℕ) : Type 0 where
  pub loaded : Holds doc ps rs bs us cs gs ms ts ws cells → ExportsMeasure doc text c figures n
  pub other : (get_or cells 0 0 ≡ version → ⊥) → NotLoaded figures n
