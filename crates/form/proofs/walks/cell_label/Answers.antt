-- `form::walks::cell_label` meets its contract. Assumes nothing.
use mathlib.Core.Path.{◌∙◌, ap}
use Rattle.form.specs.Walks.{cell_label_in}
use Rattle.text.specs.Walking.{past, written_end_at}
use Rattle.form.proofs.walks.cell_label.Goals as goal

pub returns : goal.returns
unfolding cell_label_in written_end_at
returns c = let s = c.args.line.now in
    c.skip_byte.ensures ∙ ap (past 32 s) (c.written_end.ensures ∙ ap (written_end_at s) c.first_in.ensures)
