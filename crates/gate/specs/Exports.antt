-- Meaning: what the exported functions hand to a host (01, "Asking"; 02, Q-1 and Q-4): a code, and five figures.
use Rattle.std.specs.Prelude.{ℕ, get_or, length, List, [], ◌∷◌, ◌≡◌}
use Rattle.answer.specs.Ask.{Answered, after, ask, measure}
use Rattle.answer.specs.Reserve.{IsReserve, Taken, checked}
use Rattle.document.specs.Check.{Accepted, check}
use Rattle.import.specs.Importing.{after_import, importing, length_only, measure_import}
use Rattle.query.specs.Authority.{Clock}
use Rattle.text.specs.Names.{Name}
use Rattle.text.specs.Refusal.{Refusal, Result, Source, accepted, document, file, query, refused}
use Rattle.stages.specs.Figures.{Figures, in_figures}

-- the code of a result: 0, or the refusal's number
unfoldable pub code_of : {A : Type 0} → Result A → ℕ
code_of (refused r) = r.number
code_of (accepted x) = 0

-- the text that a refusal points into: 1 for the document, 2 for the query, 3 for a file
unfoldable pub source_code : Source → ℕ
source_code document = 1
source_code query = 2
source_code file = 3

-- the figures of a refusal: the text, and the part that it points to
unfoldable pub refusal_figures : Refusal → List ℕ
refusal_figures r = source_code r.source ∷ r.start ∷ r.len ∷ 0 ∷ 0 ∷ []

-- the figures of a check: the number of lines and the reserve, or those of the refusal
unfoldable pub check_figures : Result Taken → List ℕ
check_figures (refused r) = refusal_figures r
check_figures (accepted t) = t.lines ∷ t.reserve ∷ 0 ∷ 0 ∷ 0 ∷ []

-- the figures of asking: the answer's length, the grant and the three counts, or those of the refusal
unfoldable pub ask_figures : Result Figures → List ℕ
ask_figures (refused r) = refusal_figures r
ask_figures (accepted x) = x.len ∷ x.grant ∷ x.passed ∷ x.withheld ∷ x.unmatched ∷ []

-- the figures of measuring and of importing: the length of the answer or of the lines, or those of the refusal
unfoldable pub measure_figures : Result ℕ → List ℕ
measure_figures (refused r) = refusal_figures r
measure_figures (accepted n) = n ∷ 0 ∷ 0 ∷ 0 ∷ 0 ∷ []

-- the clock of a year, a day and an hour
unfoldable pub clock_at : (year day hour : ℕ) → Clock
clock_at y d h = record { year = y; day = d; hour = h }

-- the code n and the figures are those of the refusal
pub record ExportsRefusal (r : Refusal) (figures : List ℕ) (n : ℕ) : Type 0 where
  pub code : n ≡ r.number
  pub filled : figures ≡ refusal_figures r

-- the code n and the figures are those of the check of the document; where n is 0, the document is accepted, and the second
-- figure does as a reserve of it
pub record ExportsCheck (doc figures : List ℕ) (n : ℕ) : Type 0 where
  pub code : n ≡ code_of (check doc)
  pub filled : figures ≡ check_figures (checked doc)
  pub accepts : n ≡ 0 → (a : Accepted) × (check doc ≡ accepted a)
  pub reserve : n ≡ 0 → IsReserve doc (get_or figures 1 0)

-- the code n and the figures are those of asking the document, and the lent buffer afterwards is what asking says; where n is
-- 0, the query is answered
pub record ExportsAsk (doc text : List ℕ) (c : Clock) (before after' figures : List ℕ) (n : ℕ) : Type 0 where
  pub code : n ≡ code_of (ask doc text c (length before))
  pub filled : figures ≡ ask_figures (in_figures (ask doc text c (length before)))
  pub buffer : after' ≡ after (ask doc text c (length before)) before
  pub answers : n ≡ 0 → (a : Answered) × (ask doc text c (length before) ≡ accepted a)

-- the code n and the figures are those of measuring the answer; where n is 0, the query has an answer of that length (02, Q-4)
pub record ExportsMeasure (doc text : List ℕ) (c : Clock) (figures : List ℕ) (n : ℕ) : Type 0 where
  pub code : n ≡ code_of (measure doc text c)
  pub filled : figures ≡ measure_figures (measure doc text c)
  pub answers : n ≡ 0 → measure doc text c ≡ accepted (get_or figures 0 0)

-- the code n and the figures are those of an answer, or of a refusal
pub record StoresAnswer (o : Result Figures) (figures : List ℕ) (n : ℕ) : Type 0 where
  pub code : n ≡ code_of o
  pub filled : figures ≡ ask_figures o
  pub accepts : n ≡ 0 → (x : Figures) × (o ≡ accepted x)

-- the code n and the figures are those of a length, or of a refusal
pub record StoresLength (o : Result ℕ) (figures : List ℕ) (n : ℕ) : Type 0 where
  pub code : n ≡ code_of o
  pub filled : figures ≡ measure_figures o
  pub accepts : n ≡ 0 → o ≡ accepted (get_or figures 0 0)

-- the code n and the figures are those of importing the file, and the lent buffer afterwards is what importing says; where n is
-- 0, the file is accepted (02, Q-1)
pub record ExportsImport (bytes : List ℕ) (t l : Name) (before after' figures : List ℕ) (n : ℕ) : Type 0 where
  pub stores : StoresLength (length_only (importing bytes t l (length before))) figures n
  pub buffer : after' ≡ after_import (importing bytes t l (length before)) before

-- the code n and the figures are those of measuring the lines of the file
abbrev pub ExportsMeasureImport : (bytes : List ℕ) (table label : Name) (figures : List ℕ) (n : ℕ) → Type 0
ExportsMeasureImport bytes t l figures n = StoresLength (measure_import bytes t l) figures n
