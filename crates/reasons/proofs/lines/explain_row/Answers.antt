-- `reasons::lines::explain_row` meets its contract: 24, 26, and the cell's reason. Assumes nothing.
use Prim.Native.Nat.{◌<◌, ℕ}
use Rattle.answer.specs.Why.{row_numbered}
use Rattle.document.specs.Lookup.{labelling_at}
use Rattle.document.specs.NoteFaults.{is_nested}
use Rattle.query.specs.WhyPlaces.{why_at}
use Rattle.reasons.proofs.CellLaws.{nested_by}
use Rattle.reasons.proofs.ExplainLaws.{cell_explained, nest_refused, purpose_inside, row_unknown}
use Rattle.reasons.specs.Explaining.{explained_as}
use Rattle.relations.proofs.RowLaws.{row_at}
use Rattle.relations.specs.Rows.{row_in}
use Rattle.text.specs.Refusal.{accepted}
use Rattle.workspace.specs.Found.{FoundBelow, found_as}
use Rattle.std.specs.Prelude.{Option}
use lib.ListN.{get_elem?}
use mathlib.Core.Bool.{false, true}
use mathlib.Core.Option.{bind, none, some}
use mathlib.Core.Path.{◌∙◌, ◌≡◌, ap, subst, sym}
use Rattle.reasons.proofs.lines.explain_row.Goals as goal

pub returns-in_default : goal.returns-in_default
unfolding why_at row_numbered bind
returns-in_default c d K pl tl ip it ic = let a = c.args in
    let lost : row_numbered d a.t (why_at a.line.now a.w).row ≡ none = sym (c.row_sought-row.ensures.0 a.text.now d.rows K.rows) ∙ ap (λ (f : Option ℕ). bind (found_as f) (get_elem? d.rows)) c.in_default.is in
    c.refused_at.ensures a.text.now ∙ sym (row_unknown d (why_at a.line.now a.w) ip it ic lost)

pub returns-then-is_nested : goal.returns-then-is_nested
unfolding why_at row_numbered bind
returns-then-is_nested c d K pl tl ip it ic = let a = c.args in
    let r = c.in-Some.r in
    let below : r < a.c.rows = subst (λ (f : Option ℕ). FoundBelow f a.c.rows) c.in-Some.is c.row_sought-row.ensures.1 in
    let there : get_elem? d.rows r ≡ some (row_in a.text.now a.rows.now r) = row_at a.text.now a.rows.now a.c.rows d.rows K.rows r below in
    let found : row_numbered d a.t (why_at a.line.now a.w).row ≡ some (row_in a.text.now a.rows.now r)
    = sym (c.row_sought-row.ensures.0 a.text.now d.rows K.rows) ∙ ap (λ (f : Option ℕ). bind (found_as f) (get_elem? d.rows)) c.in-Some.is ∙ there in
    let nests : is_nested (labelling_at d.policy a.t) ≡ true = sym (nested_by a.text.now a.tables.now a.c.tables a.t d.policy K.tables tl c.table_scheme.result c.table_scheme.ensures c.is_nested.result c.is_nested.ensures) ∙ c.if-is_nested.true in
    c.refused_at-then-is_nested.ensures a.text.now ∙ sym (nest_refused d (why_at a.line.now a.w) ip it ic (row_in a.text.now a.rows.now r) found nests)

pub returns : goal.returns
unfolding why_at row_numbered bind explained_as
returns c d K pl tl ip it ic = let a = c.args in
    let r = c.in-Some.r in
    let below : r < a.c.rows = subst (λ (f : Option ℕ). FoundBelow f a.c.rows) c.in-Some.is c.row_sought-row.ensures.1 in
    let there : get_elem? d.rows r ≡ some (row_in a.text.now a.rows.now r) = row_at a.text.now a.rows.now a.c.rows d.rows K.rows r below in
    let found : row_numbered d a.t (why_at a.line.now a.w).row ≡ some (row_in a.text.now a.rows.now r)
    = sym (c.row_sought-row.ensures.0 a.text.now d.rows K.rows) ∙ ap (λ (f : Option ℕ). bind (found_as f) (get_elem? d.rows)) c.in-Some.is ∙ there in
    let flat : is_nested (labelling_at d.policy a.t) ≡ false = sym (nested_by a.text.now a.tables.now a.c.tables a.t d.policy K.tables tl c.table_scheme.result c.table_scheme.ensures c.is_nested.result c.is_nested.ensures) ∙ c.if-is_nested.false in
    let inside = purpose_inside a.text.now a.purposes.now a.c.purposes d.policy.purposes K.purposes a.p pl in
    let closed = c.purpose_closure-closure.ensures a.text.now d.policy.purposes K.purposes K.grown in
    ap accepted (c.cell_cause.ensures d a.p (row_in a.text.now a.rows.now r) K inside closed tl there flat)
    ∙ sym (cell_explained d (why_at a.line.now a.w) ip it ic (row_in a.text.now a.rows.now r) found flat)
