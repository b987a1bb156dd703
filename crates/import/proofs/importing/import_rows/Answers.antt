-- `import::importing::import_rows` meets its contract. Assumes nothing.
use Rattle.import.proofs.ImportLaws.{error_kept, imports_lines, imports_refused}
use Rattle.import.specs.Outside.{Imports, judged_as}
use mathlib.Core.Path.{◌∙◌, ap, subst, sym}
use native.Mathlib.Omega.{arith}
use Rattle.import.proofs.importing.import_rows.Goals as goal

pub returns-in_err-count : goal.returns-in_err-count
returns-in_err-count c = let entry = c.args in
    subst (λ r. Imports entry.file.now entry.table.now entry.label.now entry.out.now entry.out.now r) (sym (error_kept c.from_residual.result c.from_residual.ensures.1))
    (imports_refused entry.file.now entry.table.now entry.label.now entry.out.now c.in_err-count.field-0.0 (sym (ap judged_as c.in_err-count.was) ∙ c.judge.ensures entry.file.now c.scan_file.ensures))

pub shape_of-out : goal.shape_of-out
shape_of-out c = c.put_rows.ensures.kept

pub returns : goal.returns
returns c = let entry = c.args in imports_lines entry.file.now entry.table.now entry.label.now entry.out.now _ (omega arith) (sym (ap judged_as c.in_ok-count.was) ∙ c.judge.ensures entry.file.now c.scan_file.ensures) c.put_rows.ensures
