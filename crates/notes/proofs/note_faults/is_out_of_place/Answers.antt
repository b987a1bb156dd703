-- `notes::note_faults::is_out_of_place` meets its contract. Assumes nothing.
use Rattle.document.specs.Lookup.{scheme_at}
use Rattle.document.specs.NoteFaults.{is_nested}
use Rattle.notes.proofs.LabelNoteFaults.{has_one, has_rows, other_scheme}
use Rattle.relations.proofs.TableLaws.{scheme_read_lem}
use borrow.Author.Tests.{not-false}
use mathlib.Core.Bool.{false, true}
use mathlib.Core.Path.{◌∙◌, ◌≡◌, ap, sym}
use Rattle.notes.proofs.note_faults.is_out_of_place.Goals as goal

pub returns-then-not-is_nested : goal.returns-then-not-is_nested
returns-then-not-is_nested c d text k w T N R l = let e : is_nested (scheme_at d.policy c.args.t) ≡ false = ap is_nested
    (scheme_read_lem text c.args.tables.now k c.args.t d.policy T l c.table_scheme.result c.table_scheme.ensures) ∙ sym
    (c.is_nested.ensures _ _) ∙ c.if-not-is_nested.true in
    other_scheme d c.args.t c.args.strong w e

pub returns-then-has_row : goal.returns-then-has_row
returns-then-has_row c d text k w T N R l = let e : is_nested (scheme_at d.policy c.args.t) ≡ true = ap is_nested
    (scheme_read_lem text c.args.tables.now k c.args.t d.policy T l c.table_scheme.result c.table_scheme.ensures) ∙ sym
    (c.is_nested.ensures _ _) ∙ not-false c.is_nested.result
    c.if-not-is_nested.false-raw in
    has_rows d c.args.t c.args.strong w e (sym (c.has_row.ensures text d.rows R) ∙ c.if-has_row.true)

pub returns : goal.returns
returns c d text k w T N R l = let e : is_nested (scheme_at d.policy c.args.t) ≡ true = ap is_nested (scheme_read_lem text
    c.args.tables.now k c.args.t
    d.policy T l c.table_scheme.result
    c.table_scheme.ensures) ∙ sym
    (c.is_nested.ensures _ _) ∙ not-false c.is_nested.result
    c.if-not-is_nested.false-raw in
    c.has_label.ensures k d.policy.notes l T.few N ∙ has_one d c.args.t c.args.strong w e (sym (c.has_row.ensures text d.rows R) ∙ c.if-has_row.false)
