-- `relations::tables::find_table_to` meets its contract. Assumes nothing.
use mathlib.Core.Path.{◌∙◌}
use native.Mathlib.Omega.{arith}
use Rattle.relations.proofs.TableLaws.{table_found}
use Rattle.relations.proofs.tables.find_table_to.Goals as goal

pub returns-then-k-gt-TABLES : goal.returns-then-k-gt-TABLES
returns-then-k-gt-TABLES c = ((λ ts ended h. absurd (omega (arith, h.few, c.if-k-gt-TABLES.true))), tt)

pub returns : goal.returns
returns c = ((λ ts ended h. c.find_name_to.ensures.0 (omega arith) ended ∙ table_found _ h), c.find_name_to.ensures.1)
