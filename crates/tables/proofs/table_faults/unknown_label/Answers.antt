-- `tables::table_faults::unknown_label` meets its contract, scheme by scheme. Assumes nothing.
use mathlib.Core.Bool.{Bool}
use mathlib.Core.List.{List}
use mathlib.Core.Path.{◌∙◌, ap, sym}
use Rattle.document.specs.Policy.{Label}
use Rattle.form.specs.TableWords.{scheme_words}
use Rattle.form.specs.Form.{scheme_labels}
use Rattle.lists.specs.Lists.{find_index, listed, there}
use Rattle.text.specs.Offending.{leftmost, missing}
use Rattle.text.specs.Words.{Word, is_called}
use Rattle.tables.proofs.table_faults.unknown_label.Goals as goal

-- the word names one of the labels
abbrev known : List Label → Word → Bool
known ls w = there (find_index (λ x. is_called w x.name) ls)

pub returns-in-Unlabelled : goal.returns-in-Unlabelled
unfolding scheme_labels scheme_words missing leftmost
returns-in-Unlabelled c = let entry = c.args in (λ sets ls h. ap (λ sc. missing (known ls) (scheme_labels (scheme_words entry.line.now sc entry.l entry.cs))) (sym c.in-Unlabelled.is), λ l. tt)

pub returns-in-ByTable : goal.returns-in-ByTable
unfolding scheme_labels scheme_words missing leftmost
returns-in-ByTable c = let entry = c.args in
    (λ sets ls h. c.unknown_table_label.ensures.0 sets ls h ∙ ap (λ sc. missing (known ls) (scheme_labels (scheme_words entry.line.now sc entry.l entry.cs))) (sym c.in-ByTable.is), c.unknown_table_label.ensures.1)

pub returns-in-ByColumn : goal.returns-in-ByColumn
unfolding scheme_labels scheme_words missing leftmost
returns-in-ByColumn c = let entry = c.args in
    (λ sets ls h. c.first_unknown_label.ensures.0 sets ls h ∙ ap (λ sc. missing (known ls) (scheme_labels (scheme_words entry.line.now sc entry.l entry.cs))) (sym c.in-ByColumn.is), λ l. c.first_unknown_label.ensures.1)

pub returns-in-ByRow : goal.returns-in-ByRow
unfolding scheme_labels scheme_words missing leftmost
returns-in-ByRow c = let entry = c.args in (λ sets ls h. ap (λ sc. missing (known ls) (scheme_labels (scheme_words entry.line.now sc entry.l entry.cs))) (sym c.in-ByRow.is), λ l. tt)

pub returns-in-ByCell : goal.returns-in-ByCell
unfolding scheme_labels scheme_words missing leftmost
returns-in-ByCell c = let entry = c.args in (λ sets ls h. ap (λ sc. missing (known ls) (scheme_labels (scheme_words entry.line.now sc entry.l entry.cs))) (sym c.in-ByCell.is), λ l. tt)

pub returns-in-Nested : goal.returns-in-Nested
unfolding scheme_labels scheme_words missing leftmost listed
returns-in-Nested c = let entry = c.args in (λ sets ls h. ap (λ sc. missing (known ls) (scheme_labels (scheme_words entry.line.now sc entry.l entry.cs))) (sym c.in-Nested.is), λ l. tt)
