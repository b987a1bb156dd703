-- `import::rows::copy_plain` meets its contract. Assumes nothing.
use Rattle.import.proofs.CopyLaws.{copy_all, copy_rest}
use mathlib.Core.Path.{◌∙◌}
use Rattle.import.proofs.rows.copy_plain.Goals as goal

pub shape_of-out-then-p-end : goal.shape_of-out-then-p-end
shape_of-out-then-p-end c = c.copy_sure-p.ensures.kept

pub returns-then-p-end : goal.returns-then-p-end
returns-then-p-end c = let entry = c.args in copy_all entry.s.now entry.at c.copy_sure-p.result c.copy_sure-p.ensures c.if-p-end.true

pub shape_of-out : goal.shape_of-out
shape_of-out c = c.copy_slowly.ensures.wrote.kept ∙ c.copy_sure-p.ensures.kept

pub returns : goal.returns
returns c = let entry = c.args in copy_rest entry.s.now entry.at c.copy_sure-p.result c.copy_slowly.result c.copy_sure-p.ensures c.copy_slowly.ensures
