-- `resolving::openness::closed_part` meets its contract: a closed table comes before closed columns. Assumes nothing.
use mathlib.Core.Path.{◌∙◌, sym}
use native.Mathlib.Omega.{arith}
use Rattle.document.specs.Lookup.{labelling_at}
use Rattle.document.specs.Open.{open_to, table_open}
use Rattle.text.proofs.OffendingLaws.{leftmost_fail, leftmost_on}
use Rattle.text.specs.Words.{word_of}
use Rattle.resolving.proofs.openness.closed_part.Goals as goal

pub returns-then-not-table_open : goal.returns-then-not-table_open
returns-then-not-table_open c d text k p h m l a o e = let entry = c.args in sym (leftmost_fail (table_open (open_to d p) (labelling_at d entry.t)) (word_of entry.query.now entry.at) _ (sym (c.table_open.ensures d text k p h m l o) ∙ c.if-not-table_open.true))

pub returns : goal.returns
returns c d text k p h m l a o e = let entry = c.args in
    c.closed_column.ensures d text entry.query.now k p h l (omega (arith, a)) (omega (arith, a)) o e
    ∙ sym (leftmost_on (table_open (open_to d p) (labelling_at d entry.t)) (word_of entry.query.now entry.at) _ (sym (c.table_open.ensures d text k p h m l o) ∙ c.if-not-table_open.false))
