-- The exports for a why line, by the version of the arrays. Assumes nothing.
use Prim.Native.Nat.{ℕ}
use borrow.Author.Tests.{eqb-false}
use lib.Dec.{eqb}
use lib.ListN.{get_or}
use mathlib.Core.Bool.{Bool, false, true}
use mathlib.Core.List.{List}
use mathlib.Core.Path.{◌∙◌, ◌≡◌, refl, subst, sym}
use Rattle.answer.specs.Why.{why}
use Rattle.gate.proofs.ArrayLaws.{same_version}
use Rattle.gate.specs.Arrays.{NotLoaded}
use Rattle.gate.specs.Explaining.{ExportsWhy, ExportsWhyArrays}
use Rattle.gate.specs.Exports.{StoresLength}
use Rattle.loaded.specs.Cells.{version}
use Rattle.telling.specs.Holds.{HoldsLabels}
use Rattle.telling.specs.Telling.{Tells, told_as}
use Rattle.std.specs.Prelude.{Result}
use Rattle.text.specs.declared.refusals.Refusal.{Refusal}

-- the export of a told line
pub exports_why : {doc line before after figures : List ℕ} {n : ℕ} {x : Result ℕ Refusal} → Tells (why doc line) before after x → StoresLength (told_as x) figures n → ExportsWhy doc line before after figures n
exports_why {figures} {n} t s = record { stores = subst (λ o. StoresLength o figures n) t.gives s; buffer = t.buffer }

module _ {doc ps ls ms ts ws cells line : List ℕ} {b : Bool} (test : b ≡ eqb (get_or cells 0 0) version) where
  pub why_other : {buffer figures : List ℕ} {n : ℕ} → b ≡ false → NotLoaded figures n → ExportsWhyArrays doc ps ls ms ts ws cells line buffer buffer figures n
  why_other e s = record { loaded = λ h. absurd (eqb-false (get_or cells 0 0) version (sym test ∙ e) h.filled); other = λ _. s; kept = λ _. refl }

  pub why_held : {before after figures : List ℕ} {n : ℕ} {x : Result ℕ Refusal} → b ≡ true → (HoldsLabels doc ps ls ms ts ws cells → Tells (why doc line) before after x) → StoresLength (told_as x) figures n
      → ExportsWhyArrays doc ps ls ms ts ws cells line before after figures n
  why_held e f s = record {
    loaded = λ h. exports_why (f h) s;
    other = λ z. absurd (z (same_version cells test e));
    kept = λ z. absurd (z (same_version cells test e));
  }
