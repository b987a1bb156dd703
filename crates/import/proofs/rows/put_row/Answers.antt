-- `import::rows::put_row` meets its contract. Assumes nothing.
use Rattle.import.proofs.RowLaws.{row_placed}
use mathlib.Core.Path.{◌∙◌, refl}
use Rattle.import.proofs.rows.put_row.Goals as goal

pub shape_of-out : goal.shape_of-out
shape_of-out c = c.put_closing-e.ensures.kept ∙ c.put_fields-p.ensures.kept ∙ c.put_bytes-d.ensures.kept ∙ c.put_byte-c.ensures.kept ∙ c.put_bytes-b.ensures.kept ∙ c.put_opening-a.ensures.kept

pub returns : goal.returns
returns c = let entry = c.args in row_placed entry.s.now entry.at entry.table.now entry.label.now c.put_fields-p.result _ c.put_opening-a.ensures c.put_bytes-b.ensures c.put_byte-c.ensures c.put_bytes-d.ensures c.put_fields-p.ensures c.put_closing-e.ensures refl
