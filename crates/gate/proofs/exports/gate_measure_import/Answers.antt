-- `gate::exports::gate_measure_import` meets its contract, by that of `measure_rows`. Assumes nothing.
use Rattle.gate.proofs.ExportLaws.{exports_measure_import}
use Rattle.gate.proofs.exports.gate_measure_import.Goals as goal

pub returns : goal.returns
returns c = exports_measure_import c.args.file.now c.args.table.now c.args.label.now _ _ c.measure_rows-x.result c.measure_rows-x.ensures c.store_imported.ensures
