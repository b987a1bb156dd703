-- `reasons::cells::cell_cause` meets its contract: a table without labels by its note, another by the label meant. Assumes nothing.
use Rattle.answer.specs.Why.{opened, reason_at, unlabelled_table}
use Rattle.document.specs.Lookup.{labelling_at}
use Rattle.reasons.proofs.CellLaws.{meant_reason, no_label, unlabelled_reason}
use Rattle.reasons.specs.Explaining.{is_unlabelled, reason_of}
use Rattle.relations.proofs.TableLaws.{table_inside}
use Rattle.workspace.specs.Found.{found_as}
use mathlib.Core.Bool.{Bool, cond, false, true}
use mathlib.Core.Path.{◌∙◌, ◌≡◌, ap, sym}
use Rattle.reasons.proofs.cells.cell_cause.Goals as goal

pub returns-then-is_public : goal.returns-then-is_public
unfolding reason_of
returns-then-is_public c d p y K inside C l e n = let a = c.args in
    let u : is_unlabelled (labelling_at d.policy a.t) ≡ true = sym (c.is_unlabelled.ensures d.policy a.text.now a.c.tables K.tables l) ∙ c.if-is_unlabelled.true in
    sym (unlabelled_reason d.policy p a.t y.labels a.col u
    ∙ ap (λ (b : Bool). cond b opened unlabelled_table) (sym (K.notes.said a.t l).is_public? ∙ sym (c.is_public.ensures (table_inside a.text.now a.tables.now a.c.tables a.t d.policy K.tables l)) ∙ c.if-is_public.true))

pub returns-then-is_unlabelled : goal.returns-then-is_unlabelled
unfolding reason_of
returns-then-is_unlabelled c d p y K inside C l e n = let a = c.args in
    let u : is_unlabelled (labelling_at d.policy a.t) ≡ true = sym (c.is_unlabelled.ensures d.policy a.text.now a.c.tables K.tables l) ∙ c.if-is_unlabelled.true in
    sym (unlabelled_reason d.policy p a.t y.labels a.col u
    ∙ ap (λ (b : Bool). cond b opened unlabelled_table) (sym (K.notes.said a.t l).is_public? ∙ sym (c.is_public.ensures (table_inside a.text.now a.tables.now a.c.tables a.t d.policy K.tables l)) ∙ c.if-is_public.false))

pub returns-in-Some : goal.returns-in-Some
returns-in-Some c d p y K inside C l e n = let a = c.args in
    let u : is_unlabelled (labelling_at d.policy a.t) ≡ false = sym (c.is_unlabelled.ensures d.policy a.text.now a.c.tables K.tables l) ∙ c.if-is_unlabelled.false in
    c.label_cause.ensures d.policy p K.purposes K.labels K.denials inside C
    ∙ ap (reason_at d.policy p) (sym (ap found_as c.in-Some.is) ∙ c.meant_label-meant.ensures d.policy a.text.now a.c.tables a.c.rows d.rows y K.tables l K.rows e)
    ∙ sym (meant_reason d.policy p (labelling_at d.policy a.t) y.labels a.col u n)

pub returns-in-None : goal.returns-in-None
unfolding reason_of
returns-in-None c d p y K inside C l e n = let a = c.args in
    let u : is_unlabelled (labelling_at d.policy a.t) ≡ false = sym (c.is_unlabelled.ensures d.policy a.text.now a.c.tables K.tables l) ∙ c.if-is_unlabelled.false in
    sym (no_label d.policy p)
    ∙ ap (reason_at d.policy p) (sym (ap found_as c.in-None.is) ∙ c.meant_label-meant.ensures d.policy a.text.now a.c.tables a.c.rows d.rows y K.tables l K.rows e)
    ∙ sym (meant_reason d.policy p (labelling_at d.policy a.t) y.labels a.col u n)
