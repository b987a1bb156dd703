-- `tables::table_faults::unknown_table_label` meets its contract. Assumes nothing.
use mathlib.Core.Path.{◌∙◌, sym}
use Rattle.text.specs.Offending.{leftmost, missing, unless}
use Rattle.tables.proofs.table_faults.unknown_table_label.Goals as goal

pub returns-then-is_label : goal.returns-then-is_label
unfolding missing leftmost unless
returns-then-is_label c = (λ sets ls h. rw (sym (c.is_label.ensures sets ls h) ∙ c.if-is_label.true), λ l. tt)

pub returns : goal.returns
unfolding missing leftmost unless
returns c = (λ sets ls h. rw (sym (c.is_label.ensures sets ls h) ∙ c.if-is_label.false), λ l. l)
