-- Contract: why lines of which the program keeps the first bytes alone.
use Rattle.std.specs.Prelude.{ℕ, length, take, List, ◌≡◌}
use Rattle.document.specs.Policy.{Doc}
use Rattle.index.specs.declared.counts.Counts.{Counts}
use Rattle.reasons.specs.Explaining.{Known, explain_line, explained_as}
use Rattle.std.specs.Prelude.{Result}
use Rattle.text.specs.declared.refusals.Refusal.{Refusal}
use Rattle.reasons.specs.declared.explained.Cause.{Cause}

-- how many bytes of a line are kept: one more than a right line may have (proofs/WhyLength `why_length`)
unfoldable pub line_bytes : ℕ
line_bytes = 102

-- kept_line::explain_kept: what is kept of a line and its length give what the whole line gives
abbrev pub ExplainKeptPromise : (text purposes labels sets tables rows : List ℕ) (c : Counts) (kept : List ℕ) (len : ℕ) (x : Result Cause Refusal) → Type 0
ExplainKeptPromise text purposes labels sets tables rows c kept len x =
    (d : Doc) (line : List ℕ) → Known text purposes labels sets tables rows c d → kept ≡ take line_bytes line → len ≡ length line → explained_as text x ≡ explain_line d line
