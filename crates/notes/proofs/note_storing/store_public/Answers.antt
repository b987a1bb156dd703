-- `notes::note_storing::store_public` meets its contract: the table is known. Assumes nothing.
use mathlib.Core.Path.{◌∙◌, ap}
use Rattle.document.specs.Lookup.{table_of}
use Rattle.lists.specs.Lists.{or_zero}
use Rattle.notes.proofs.NoteStored.{note_stored}
use Rattle.text.specs.Words.{word_of}
use Rattle.notes.proofs.note_storing.store_public.Goals as goal

pub returns : goal.returns
unfolding table_of
returns c d T N ok = let a = c.args in
    note_stored d a.line.now (word_of a.line.now a.t) T N ok (c.number-x.ensures ∙ ap or_zero (c.find_table.ensures.0 _ T)) c.set_public.ensures
