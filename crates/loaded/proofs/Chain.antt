-- Asking a document, by what is left of it behind the check, and what the code's answer says; 18, and measuring. Assumes nothing.
use Prim.Native.Nat.{◌<◌, ◌≤◌, ℕ}
use borrow.Author.Tests.{le-ltb, lt-ltb}
use lib.Dec.{ltb}
use lib.ListN.{length}
use mathlib.Core.Bool.{Bool, false, not, true}
use mathlib.Core.List.{List}
use mathlib.Core.Path.{◌∙◌, ◌≡◌, ap, refl, subst, sym}
use Rattle.answer.specs.Ask.{Outcome, after, ask, ask_unbounded, if_fits, measure}
use Rattle.answering.specs.Answering.{buffer_after}
use Rattle.document.specs.Check.{Accepted, check}
use Rattle.document.specs.Policy.{Doc}
use Rattle.loaded.specs.Cells.{counts_in}
use Rattle.loaded.specs.Holds.{Holds}
use Rattle.loaded.specs.Outside.{Asks, Measures, figures_fit, measured_as}
use Rattle.query.specs.Authority.{Clock, in_range}
use Rattle.query.specs.QueryForm.{query_of}
use Rattle.stages.proofs.Chain.{form_tails, gives_same}
use Rattle.stages.specs.Figures.{Figures, answered_as, figures_of, in_figures}
use Rattle.stages.specs.Stages.{Standing}
use Rattle.stages.specs.Tails.{Gives, after_fitting, if_read, if_timed}
use Rattle.text.proofs.RefusalLaws.{bind_cong, then_cong}
use Rattle.text.specs.Reasons.{refusal_of}
use Rattle.text.specs.Refusal.{Refusal, Result, ◌>>=◌, ◌>>◌, accepted, need, pointing_all, pointing_nowhere, query, refuse_if, refused}
use Rattle.index.specs.declared.counts.Counts.{Counts}
use Rattle.std.specs.Prelude.{Err, IsErrAnd, Ok}
use Rattle.stages.specs.declared.answered.Figures as figures
use Rattle.text.specs.declared.refusals.Refusal as refusals
use Rattle.std.specs.Prelude as prelude

-- what holds of a refusal holds of what hands it on
pub handed_on : {T E : Type 0} {e : E} (P : prelude.Result T E → Type 0) {r : prelude.Result T E} → IsErrAnd r (λ y. y ≡ e) → P (Err e) → P r
handed_on P {r = Ok x} h p = absurd h
handed_on P {r = Err y} h p = subst (λ z. P (Err z)) (sym h) p

module _ (doc text : List ℕ) (c : Clock) where
  pub ask_refused : {r : Refusal} → check doc ≡ refused r → ask_unbounded doc text c ≡ refused r
  unfolding ask_unbounded ◌>>=◌
  ask_refused e = rw e

  pub ask_tails : {A : Accepted} → check doc ≡ accepted A → ask_unbounded doc text c ≡ if_timed A.doc c text
  unfolding ask_unbounded ◌>>=◌ if_timed if_read
  ask_tails {A} e = rw e (
      then_cong (refuse_if (not (in_range c)) (pointing_nowhere 10 query)) _ _ (λ _ _.
      bind_cong (need (query_of text) (pointing_all 11 query text)) _ _ (λ q _. form_tails A.doc c q)))

-- asking over arrays that hold this very text
pub held_gives : {text ps rs bs us cs gs ms ts ws cells : List ℕ} {k : Counts} {before after' : List ℕ} {r : prelude.Result figures.Figures refusals.Refusal} (c : Clock) (asked : List ℕ) → Holds text ps rs bs us cs gs ms ts ws cells → k ≡ counts_in cells
    → ((d : Doc) → Standing text ps rs bs us cs gs ms ts ws k d → Gives (if_timed d c asked) before after' r) → Gives (ask_unbounded text asked c) before after' r
held_gives {text} {ps} {rs} {bs} {us} {cs} {gs} {ms} {ts} {ws} c asked h e f =
    gives_same (ask_tails text asked c h.is) (f h.what.doc (subst (λ k. Standing text ps rs bs us cs gs ms ts ws k h.what.doc) (sym e) h.standing))

-- ---- 18

module _ (room : ℕ) where
  -- 18 goes by the figures as by the answer
  figures_fit_lem : (o : Outcome) → figures_fit room (in_figures o) ≡ in_figures (o >>= if_fits room)
  unfolding figures_fit if_fits refuse_if ◌>>=◌ ◌>>◌ in_figures
  figures_fit_lem (refused r) = refl
  figures_fit_lem (accepted a) = go (ltb room (length a.answer.bytes)) refl
    where
      go : (b : Bool) → ltb room (length a.answer.bytes) ≡ b → figures_fit room (in_figures (accepted a)) ≡ in_figures (accepted a >>= if_fits room)
      go true e = rw e
      go false e = rw e

-- so does the buffer
after_fits : (o : Outcome) (before : List ℕ) → after_fitting o before ≡ after (o >>= if_fits (length before)) before
unfolding after_fitting buffer_after if_fits refuse_if ◌>>=◌ ◌>>◌ after
after_fits (refused r) before = refl
after_fits (accepted a) before = go (ltb (length before) (length a.answer.bytes)) refl
  where
    go : (b : Bool) → ltb (length before) (length a.answer.bytes) ≡ b → after_fitting (accepted a) before ≡ after (accepted a >>= if_fits (length before)) before
    go true e = rw e
    go false e = rw e

-- the answer of ask: that of asking without bounds, or 18
pub gives_asks : {doc text : List ℕ} {c : Clock} {before after' : List ℕ} {r x : prelude.Result figures.Figures refusals.Refusal} → Gives (ask_unbounded doc text c) before after' r
    → answered_as x ≡ figures_fit (length before) (answered_as r) → Asks doc text c before after' x
unfolding ask
gives_asks {doc} {text} {c} {before} h e = record {
  is = e ∙ ap (figures_fit (length before)) h.is ∙ figures_fit_lem (length before) (ask_unbounded doc text c);
  buffer = h.buffer ∙ after_fits (ask_unbounded doc text c) before;
}

-- ---- measuring

length_bind : (o : Outcome) {A : Type 0} (f : ℕ → Result A) → (in_figures o >>= (λ (x : Figures). f x.len)) ≡ (o >>= (λ a. f (length a.answer.bytes)))
unfolding in_figures ◌>>=◌
length_bind (refused r) f = refl
length_bind (accepted a) f = refl

module _ (doc text : List ℕ) (c : Clock) {before after' : List ℕ} {r : prelude.Result figures.Figures refusals.Refusal} (h : Gives (ask_unbounded doc text c) before after' r) where
  measures : measure doc text c ≡ (answered_as r >>= (λ (x : Figures). accepted x.len))
  unfolding measure
  measures = sym (length_bind (ask_unbounded doc text c) accepted) ∙ ap (λ o. o >>= (λ (x : Figures). accepted x.len)) (sym h.is)

  pub measures_refused : {x : refusals.Refusal} → r ≡ Err x → Measures doc text c (Err x)
  unfolding measured_as answered_as ◌>>=◌
  measures_refused e = record { is = sym (measures ∙ ap (λ y. answered_as y >>= (λ (z : Figures). accepted z.len)) e) }

  pub measures_length : {f : figures.Figures} → r ≡ Ok f → Measures doc text c (Ok f.len)
  unfolding measured_as answered_as figures_of ◌>>=◌
  measures_length e = record { is = sym (measures ∙ ap (λ y. answered_as y >>= (λ (z : Figures). accepted z.len)) e) }

-- ---- the answer, or 18

module _ (room : ℕ) {a : prelude.Result figures.Figures refusals.Refusal} where
  pub room_refused : {r : refusals.Refusal} → a ≡ Err r → answered_as a ≡ figures_fit room (answered_as a)
  unfolding answered_as figures_fit ◌>>=◌
  room_refused e = rw e

  pub room_short : {f : figures.Figures} (r : refusals.Refusal) → a ≡ Ok f → room < f.len → refusal_of r ≡ pointing_nowhere 18 query → answered_as (Err r) ≡ figures_fit room (answered_as a)
  unfolding answered_as figures_of figures_fit refuse_if ◌>>=◌ ◌>>◌
  room_short {f} r e l h = rw (e, lt-ltb room f.len l) (ap refused h)

  pub room_enough : {f : figures.Figures} → a ≡ Ok f → f.len ≤ room → answered_as (Ok f) ≡ figures_fit room (answered_as a)
  unfolding answered_as figures_of figures_fit refuse_if ◌>>=◌ ◌>>◌
  room_enough {f} e l = rw (e, le-ltb room f.len l)
