-- `gate::exports::gate_import` meets its contract, by that of `import_rows`. Assumes nothing.
use Rattle.gate.proofs.ExportLaws.{exports_import}
use Rattle.gate.proofs.exports.gate_import.Goals as goal

pub returns : goal.returns
returns c = exports_import _ _ _ _ _ _ _ _ c.import_rows-x.ensures c.store_imported.ensures
