-- What is told of a why line: a reason's line in the buffer, or a refusal; the document that was loaded is known. Assumes nothing.
use Prim.Native.Nat.{◌+◌, ◌<◌, ◌^◌, ◌≤◌, ℕ}
use lib.ListN.{length}
use mathlib.Core.List.{List}
use mathlib.Core.Path.{◌∙◌, ◌≡◌, ap, refl, subst, sym}
use native.Mathlib.Omega.{arith}
use Rattle.answer.specs.Why.{Reason, reason_text, why}
use Rattle.checker.specs.Loading.{HoldsDocument}
use Rattle.document.proofs.Denials.{denials}
use Rattle.document.proofs.Formed.{formed}
use Rattle.document.specs.Check.{Accepted, check}
use Rattle.document.specs.Policy.{Doc}
use Rattle.index.specs.declared.counts.Counts.{Counts}
use Rattle.reasons.specs.Explaining.{Known, explain_line, explained_as, reason_of}
use Rattle.reasons.specs.declared.explained.Cause.{Cause}
use Rattle.std.specs.Prelude.{Err, Ok}
use Rattle.telling.proofs.Short.{why_short}
use Rattle.telling.specs.Telling.{Fitting, Tells, after_line, line_length, told_as}
use Rattle.text.specs.Reasons.{refusal_of}
use Rattle.text.specs.Refusal.{Result, ◌>>=◌, accepted, refused}
use Rattle.text.specs.declared.refusals.Refusal as code
use Rattle.writing.proofs.Writing.{filled}
use Rattle.writing.specs.Write.{Wrote}
use Rattle.std.specs.Prelude as prelude

-- a reason's line, which fits
given_told : (text : List ℕ) (x : Cause) (before after : List ℕ) (n : ℕ) → length before ≡ 39 → Wrote before 0 (reason_text (reason_of text x)) after n
    → Fitting (explained_as text (Ok x)) → Tells (explained_as text (Ok x)) before after (Ok n)
unfolding explained_as Fitting told_as line_length after_line
given_told text x before after n full w fit =
    let s = w.room (omega (arith, fit)) in
    let long : n ≡ length (reason_text (reason_of text x)) = omega (arith, s.behind) in
    record { gives = ap accepted long; buffer = s.stored ∙ filled before (reason_text (reason_of text x)) (omega (arith, fit, full)) }

pub reason_told : (text : List ℕ) (e : prelude.Result Cause code.Refusal) (x : Cause) → e ≡ Ok x → (before after : List ℕ) (n : ℕ) → length before ≡ 39 → Wrote before 0 (reason_text (reason_of text x)) after n
    → Fitting (explained_as text e) → Tells (explained_as text e) before after (Ok n)
reason_told text e x p before after n full w = subst (λ (y : prelude.Result Cause code.Refusal). Fitting (explained_as text y) → Tells (explained_as text y) before after (Ok n)) (sym p) (given_told text x before after n full w)

pub refusal_told : (text : List ℕ) (e : prelude.Result Cause code.Refusal) (r : code.Refusal) → e ≡ Err r → (before : List ℕ) → Tells (explained_as text e) before before (Err r)
unfolding explained_as told_as line_length after_line
refusal_told text e r p before = subst (λ (y : prelude.Result Cause code.Refusal). Tells (explained_as text y) before before (Err r)) (sym p) (record { gives = refl; buffer = refl })

-- ---- the document

pub document_refused : (doc line : List ℕ) (r : code.Refusal) → check doc ≡ refused (refusal_of r) → (before : List ℕ) → Tells (why doc line) before before (Err r)
unfolding why ◌>>=◌ told_as line_length after_line
document_refused doc line r h before = rw h (record { gives = refl; buffer = refl })

-- what the loaded arrays hold is known
pub loaded_known : {doc ps rs bs us cs gs ls ms ts ws : List ℕ} {c : Counts} {n : ℕ} (h : HoldsDocument doc ps rs bs us cs gs ls ms ts ws c n) → Known doc ps ls ms ts ws c h.what
loaded_known {doc} h = record {
  purposes = h.held.purposes;
  labels = h.held.labels;
  tables = h.held.tables;
  notes = h.held.notes;
  rows = h.held.rows;
  grown = (formed doc _ h.is).grown;
  denials = denials doc _ h.is;
}

why_fits : (doc line : List ℕ) → Fitting (why doc line)
why_fits doc line = go (why doc line) refl
  where
    go : (o : Result Reason) → why doc line ≡ o → Fitting o
    go (refused r) e = unfold Fitting in tt
    go (accepted x) e = unfold Fitting in why_short doc line x e

-- what the line finds over the document, told
pub line_told : (doc line before after : List ℕ) (r : prelude.Result ℕ code.Refusal) (A : Accepted) → check doc ≡ accepted A → (o : Result Reason) → o ≡ explain_line A.doc line → (Fitting o → Tells o before after r) → Tells (why doc line) before after r
line_told doc line before after r A h o e t =
    let same : why doc line ≡ o = found ∙ sym e in
    subst (λ (z : Result Reason). Tells z before after r) (sym same) (t (subst Fitting same (why_fits doc line)))
  where
    found : why doc line ≡ explain_line A.doc line
    found = unfold why explain_line ◌>>=◌ in rw h
