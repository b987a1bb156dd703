-- `reasons::labels::label_cause` meets its contract: the first denied name that is near, else the label's verdict. Assumes nothing.
use Prim.Native.Nat.{◌<◌, ℕ}
use Rattle.document.specs.Open.{marks_at}
use Rattle.document.specs.Policy.{tree_of}
use Rattle.form.specs.Walks.{deny_place, names_at}
use Rattle.purpose.specs.Verdicts.{verdict}
use Rattle.purpose.specs.declared.Verdict.{Verdict}
use Rattle.reasons.proofs.LabelLaws.{label_absent, label_says, reason_from}
use Rattle.reasons.proofs.NearLaws.{is_far}
use Rattle.reasons.specs.Explaining.{reason_of}
use Rattle.text.specs.CodeEnds.{offending_of}
use Rattle.text.specs.Offending.{missing}
use Rattle.text.specs.Words.{Word, word_of}
use lib.ListN.{get_or}
use mathlib.Core.Bool.{false, true}
use mathlib.Core.Option.{Option, none, some}
use mathlib.Core.Path.{◌∙◌, ◌≡◌, ap, sym}
use native.Mathlib.Omega.{arith}
use Rattle.reasons.proofs.labels.label_cause.Goals as goal

pub returns-then-c-l : goal.returns-then-c-l
unfolding reason_of
returns-then-c-l c d p N L D inside C = sym (label_absent c.args.text.now c.args.labels.now c.args.sets.now c.args.c.labels d p L c.args.l c.if-c-l.true)

pub returns-in-Some : goal.returns-in-Some
unfolding reason_of reason_from
returns-in-Some c d p N L D inside C = let a = c.args in
    let less : a.l < a.c.labels = omega (arith, c.if-c-l.false) in
    let place : c.deny_place-place.result ≡ deny_place a.text.now (get_or a.labels.now a.l 0) = c.deny_place-place.ensures ∙ ap (deny_place a.text.now) (c.label_name.ensures (omega (arith, less, L.few))) in
    let found : missing (is_far d p) (names_at a.text.now (deny_place a.text.now (get_or a.labels.now a.l 0))) ≡ some (word_of a.text.now c.in-Some.w)
    = ap (λ (n : ℕ). missing (is_far d p) (names_at a.text.now n)) (sym place) ∙ sym (c.first_near.ensures d p N C) ∙ ap (offending_of a.text.now) c.in-Some.is in
    sym (label_says a.text.now a.labels.now a.sets.now a.c.labels d p L D inside a.l less ∙ ap (λ (o : Option Word). reason_from o (verdict (tree_of d.purposes) (marks_at d (some a.l)) p).allowed) found)

pub returns-then-v : goal.returns-then-v
unfolding reason_of reason_from
returns-then-v c d p N L D inside C = let a = c.args in
    let less : a.l < a.c.labels = omega (arith, c.if-c-l.false) in
    let place : c.deny_place-place.result ≡ deny_place a.text.now (get_or a.labels.now a.l 0) = c.deny_place-place.ensures ∙ ap (deny_place a.text.now) (c.label_name.ensures (omega (arith, less, L.few))) in
    let found : missing (is_far d p) (names_at a.text.now (deny_place a.text.now (get_or a.labels.now a.l 0))) ≡ none
    = ap (λ (n : ℕ). missing (is_far d p) (names_at a.text.now n)) (sym place) ∙ sym (c.first_near.ensures d p N C) ∙ ap (offending_of a.text.now) c.in_default.is in
    let allows : (verdict (tree_of d.purposes) (marks_at d (some a.l)) p).allowed ≡ true = ap (λ (v : Verdict). v.allowed) (sym (c.verdict_there-v.ensures a.text.now a.labels.now d p L C)) ∙ c.if-v.true in
    sym (label_says a.text.now a.labels.now a.sets.now a.c.labels d p L D inside a.l less ∙ (λ i. reason_from (found i) (allows i)))

pub returns : goal.returns
unfolding reason_of reason_from
returns c d p N L D inside C = let a = c.args in
    let less : a.l < a.c.labels = omega (arith, c.if-c-l.false) in
    let place : c.deny_place-place.result ≡ deny_place a.text.now (get_or a.labels.now a.l 0) = c.deny_place-place.ensures ∙ ap (deny_place a.text.now) (c.label_name.ensures (omega (arith, less, L.few))) in
    let found : missing (is_far d p) (names_at a.text.now (deny_place a.text.now (get_or a.labels.now a.l 0))) ≡ none
    = ap (λ (n : ℕ). missing (is_far d p) (names_at a.text.now n)) (sym place) ∙ sym (c.first_near.ensures d p N C) ∙ ap (offending_of a.text.now) c.in_default.is in
    let allows : (verdict (tree_of d.purposes) (marks_at d (some a.l)) p).allowed ≡ false = ap (λ (v : Verdict). v.allowed) (sym (c.verdict_there-v.ensures a.text.now a.labels.now d p L C)) ∙ c.if-v.false in
    sym (label_says a.text.now a.labels.now a.sets.now a.c.labels d p L D inside a.l less ∙ (λ i. reason_from (found i) (allows i)))
