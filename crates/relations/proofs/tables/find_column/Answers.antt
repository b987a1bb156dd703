-- `relations::tables::find_column` meets its contract. Assumes nothing.
use mathlib.Core.Path.{◌∙◌}
use native.Mathlib.Omega.{arith}
use Rattle.relations.proofs.TableLaws.{below_wider, column_found}
use Rattle.text.specs.Words.{word_of}
use Rattle.relations.proofs.tables.find_column.Goals as goal

pub returns-then-t-lt-TABLES : goal.returns-then-t-lt-TABLES
returns-then-t-lt-TABLES c = (
  (λ k ts h l.
      let a = c.args in
      c.find_name.ensures.0 (omega arith)
      ∙ column_found a.text.now a.ws.now k a.t c.table_width-n.result ts (word_of a.line.now a.i) h l c.table_width-n.ensures),
  below_wider c.find_name.result c.table_width-n.result 16 c.table_width-n.ensures.few c.find_name.ensures.1,
)

pub returns : goal.returns
returns c = ((λ k ts h l. absurd (omega (arith, l, h.few, c.if-t-lt-TABLES.false))), tt)
