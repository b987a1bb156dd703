-- `reasons::cells::is_unlabelled` meets its contract. Assumes nothing.
use Rattle.document.specs.Lookup.{settled}
use Rattle.form.specs.declared.lines.Scheme.TheVariants as code
use Rattle.reasons.proofs.CellLaws.{labelling_by}
use Rattle.reasons.specs.Explaining.{is_unlabelled}
use Rattle.relations.specs.Tables.{scheme_by}
use mathlib.Core.Path.{ap, sym}
use Rattle.reasons.proofs.cells.is_unlabelled.Goals as goal

pub returns-in-Unlabelled : goal.returns-in-Unlabelled
unfolding is_unlabelled settled scheme_by
returns-in-Unlabelled c d text k h l = sym (ap is_unlabelled (labelling_by text c.args.tables.now k c.args.t d h l c.table_scheme-scheme.result code.Unlabelled c.table_scheme-scheme.ensures c.in-Unlabelled.is))

pub returns-in-ByTable : goal.returns-in-ByTable
unfolding is_unlabelled settled scheme_by
returns-in-ByTable c d text k h l = sym (ap is_unlabelled (labelling_by text c.args.tables.now k c.args.t d h l c.table_scheme-scheme.result code.ByTable c.table_scheme-scheme.ensures c.in-ByTable.is))

pub returns-in-ByColumn : goal.returns-in-ByColumn
unfolding is_unlabelled settled scheme_by
returns-in-ByColumn c d text k h l = sym (ap is_unlabelled (labelling_by text c.args.tables.now k c.args.t d h l c.table_scheme-scheme.result code.ByColumn c.table_scheme-scheme.ensures c.in-ByColumn.is))

pub returns-in-ByRow : goal.returns-in-ByRow
unfolding is_unlabelled settled scheme_by
returns-in-ByRow c d text k h l = sym (ap is_unlabelled (labelling_by text c.args.tables.now k c.args.t d h l c.table_scheme-scheme.result code.ByRow c.table_scheme-scheme.ensures c.in-ByRow.is))

pub returns-in-ByCell : goal.returns-in-ByCell
unfolding is_unlabelled settled scheme_by
returns-in-ByCell c d text k h l = sym (ap is_unlabelled (labelling_by text c.args.tables.now k c.args.t d h l c.table_scheme-scheme.result code.ByCell c.table_scheme-scheme.ensures c.in-ByCell.is))

pub returns-in-Nested : goal.returns-in-Nested
unfolding is_unlabelled settled scheme_by
returns-in-Nested c d text k h l = sym (ap is_unlabelled (labelling_by text c.args.tables.now k c.args.t d h l c.table_scheme-scheme.result code.Nested c.table_scheme-scheme.ensures c.in-Nested.is))
