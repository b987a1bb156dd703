-- `import::importing::measure_rows` meets its contract. Assumes nothing.
use Rattle.import.proofs.ImportLaws.{error_kept, measures_lines, measures_refused}
use Rattle.import.specs.Importing.{longest_buffer}
use Rattle.import.specs.Outside.{imported_as, judged_as}
use mathlib.Core.Path.{◌∙◌, ap, sym}
use Rattle.import.proofs.importing.measure_rows.Goals as goal

pub returns-in_err-n : goal.returns-in_err-n
unfolding longest_buffer
returns-in_err-n c = let entry = c.args in
    ap imported_as (error_kept c.from_residual.result c.from_residual.ensures.1)
    ∙ measures_refused entry.file.now entry.table.now entry.label.now c.in_err-n.field-0.0 (sym (ap judged_as c.in_err-n.was) ∙ c.judge.ensures entry.file.now c.scan_file.ensures)

pub returns : goal.returns
unfolding longest_buffer
returns c = let entry = c.args in measures_lines entry.file.now entry.table.now entry.label.now (sym (ap judged_as c.in_ok-n.was) ∙ c.judge.ensures entry.file.now c.scan_file.ensures)
