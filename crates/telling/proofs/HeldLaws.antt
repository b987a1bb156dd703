-- A why line over arrays that hold the document: what they hold is known, and what the line finds there is told. Assumes nothing.
use Prim.Native.Nat.{ℕ}
use lib.ListN.{get_or}
use mathlib.Core.List.{List}
use mathlib.Core.Path.{◌∙◌, ◌≡◌, ap, subst, sym}
use Rattle.answer.specs.Why.{why}
use Rattle.checker.specs.Loading.{HoldsDocument}
use Rattle.document.specs.Policy.{Doc}
use Rattle.index.specs.declared.counts.Counts.{Counts}
use Rattle.loaded.proofs.CellLaws.{counts_stored, version_stored}
use Rattle.loaded.specs.Cells.{cells_of, counts_in}
use Rattle.reasons.specs.Explaining.{Known, explain_line, explained_as}
use Rattle.std.specs.Prelude.{Result}
use Rattle.telling.proofs.TextLaws.{line_told, loaded_known}
use Rattle.telling.specs.Holds.{HoldsLabels}
use Rattle.telling.specs.Telling.{Fitting, Tells}
use Rattle.text.specs.declared.refusals.Refusal.{Refusal}
use Rattle.reasons.specs.declared.explained.Cause.{Cause}

-- the arrays of an accepted document, and beside them how many of each kind there are
pub holds_labels : {doc ps rs bs us cs gs ls ms ts ws cells : List ℕ} {c : Counts} {n : ℕ} → HoldsDocument doc ps rs bs us cs gs ls ms ts ws c n → cells ≡ cells_of c → HoldsLabels doc ps ls ms ts ws cells
holds_labels {doc} {ps} {ls} {ms} {ts} {ws} {c} {n} h e = record {
  what = record { lines = n; doc = h.what };
  is = h.is;
  filled = ap (λ l. get_or l 0 0) e ∙ version_stored c;
  known = subst (λ k. Known doc ps ls ms ts ws k h.what) (sym (ap counts_in e ∙ counts_stored c)) (loaded_known h);
}

-- what the line finds over the arrays, told
pub held_told : (line : List ℕ) (x : Result Cause Refusal) {text ps ls ms ts ws cells before after : List ℕ} {k : Counts} {r : Result ℕ Refusal} → k ≡ counts_in cells
    → ((d : Doc) → Known text ps ls ms ts ws k d → explained_as text x ≡ explain_line d line) → (Fitting (explained_as text x) → Tells (explained_as text x) before after r)
    → HoldsLabels text ps ls ms ts ws cells → Tells (why text line) before after r
held_told line x {text} {ps} {ls} {ms} {ts} {ws} {before} {after} {r} same found told h =
    line_told text line before after r h.what h.is (explained_as text x) (found h.what.doc (subst (λ c. Known text ps ls ms ts ws c h.what.doc) (sym same) h.known)) told
