-- The exports over a loaded document, by the version of its arrays. Assumes nothing.
use Prim.Native.Nat.{ℕ}
use borrow.Author.Tests.{eqb-false, eqb-true}
use lib.Dec.{eqb}
use lib.ListN.{get_or}
use mathlib.Core.Bool.{Bool, false, true}
use mathlib.Core.List.{List}
use mathlib.Core.Path.{◌∙◌, ◌≡◌, refl, subst, sym}
use Rattle.gate.proofs.ExportLaws.{exports_ask, exports_measure}
use Rattle.gate.specs.Arrays.{ExportsAskArrays, ExportsMeasureArrays, NotLoaded}
use Rattle.gate.specs.Exports.{ExportsAsk, ExportsMeasure, StoresAnswer, StoresLength}
use Rattle.loaded.specs.Cells.{version}
use Rattle.loaded.specs.Holds.{Holds}
use Rattle.loaded.specs.Outside.{Asks, Measures, measured_as}
use Rattle.query.specs.Authority.{Clock}
use Rattle.stages.specs.Figures.{answered_as}
use Rattle.std.specs.Prelude.{Result}
use Rattle.text.specs.declared.refusals.Refusal.{Refusal}
use Rattle.stages.specs.declared.answered.Figures.{Figures}

pub same_version : (cells : List ℕ) {b : Bool} → b ≡ eqb (get_or cells 0 0) version → b ≡ true → get_or cells 0 0 ≡ version
same_version cells test e = eqb-true (get_or cells 0 0) version (sym test ∙ e)

module _ {doc ps rs bs us cs gs ms ts ws cells : List ℕ} {b : Bool} (test : b ≡ eqb (get_or cells 0 0) version) where
  -- arrays of another version hold nothing
  other_holds : b ≡ false → Holds doc ps rs bs us cs gs ms ts ws cells → ⊥
  other_holds e h = eqb-false (get_or cells 0 0) version (sym test ∙ e) h.filled

  pub ask_other : {text buffer figures : List ℕ} {c : Clock} {n : ℕ} → b ≡ false → NotLoaded figures n → ExportsAskArrays doc ps rs bs us cs gs ms ts ws cells text c buffer buffer figures n
  ask_other e s = record { loaded = λ h. absurd (other_holds e h); other = λ _. s; kept = λ _. refl }

  pub measure_other : {text figures : List ℕ} {c : Clock} {n : ℕ} → b ≡ false → NotLoaded figures n → ExportsMeasureArrays doc ps rs bs us cs gs ms ts ws cells text c figures n
  measure_other e s = record { loaded = λ h. absurd (other_holds e h); other = λ _. s }

  pub ask_held : {text before after' figures : List ℕ} {c k : Clock} {n : ℕ} {x : Result Figures Refusal} → b ≡ true → k ≡ c → (Holds doc ps rs bs us cs gs ms ts ws cells → Asks doc text k before after' x)
      → StoresAnswer (answered_as x) figures n → ExportsAskArrays doc ps rs bs us cs gs ms ts ws cells text c before after' figures n
  ask_held {text} {before} {after'} {figures} {k} {n} {x} e q f s = record {
    loaded = λ h. subst (λ o. ExportsAsk doc text o before after' figures n) q (exports_ask doc text k before after' figures n x (f h) s);
    other = λ z. absurd (z (same_version cells test e));
    kept = λ z. absurd (z (same_version cells test e));
  }

  pub measure_held : {text figures : List ℕ} {c k : Clock} {n : ℕ} {x : Result ℕ Refusal} → b ≡ true → k ≡ c → (Holds doc ps rs bs us cs gs ms ts ws cells → Measures doc text k x)
      → StoresLength (measured_as x) figures n → ExportsMeasureArrays doc ps rs bs us cs gs ms ts ws cells text c figures n
  measure_held {text} {figures} {k} {n} {x} e q f s = record {
    loaded = λ h. subst (λ o. ExportsMeasure doc text o figures n) q (exports_measure doc text k figures n x (f h) s);
    other = λ z. absurd (z (same_version cells test e));
  }
