-- `walks::lines::take_plain` meets its contract: what was walked is the row. Assumes nothing.
use Prim.Native.Nat.{ℕ}
use mathlib.Core.List.{[]}
use mathlib.Core.Path.{◌∙◌, subst, sym}
use Rattle.document.specs.Lookup.{columns_at}
use Rattle.relations.proofs.RowLaws.{row_empty}
use Rattle.relations.proofs.TableLaws.{width_read}
use Rattle.walks.proofs.RowsTaken.{plain_taken}
use Rattle.walks.specs.Walked.{ValuesWalked}
use Rattle.walks.proofs.lines.take_plain.Goals as goal

pub returns-in_default : goal.returns-in_default
returns-in_default c d count l T table inside u v small N = c.take_values.ensures.0 d.rows N

pub returns-then-not-closes : goal.returns-then-not-closes
returns-then-not-closes c d count l T table inside u v small N = c.take_values.ensures.0 d.rows N

pub returns : goal.returns
returns c d count l T table inside u v small N = let a = c.args in
    let n : ℕ = c.table_width-n.result in
    let wide = width_read a.text.now a.tables.now count a.x d.policy T inside n c.table_width-n.ensures in
    let t = subst (ValuesWalked a.text.now a.rows.now c.take_values.new.rows a.line.now a.k n 0 [] (columns_at d.policy a.x) a.is) c.in-Some.is
    (c.take_values.ensures.1 d.policy count 0 [] l T inside wide small (row_empty a.text.now a.rows.now a.k)) in
    plain_taken d a.line.now a.is c.in-Some.e N small table
    (sym c.closes.ensures ∙ c.if-not-closes.false) wide
    c.table_width-n.ensures.few u v t
    (c.add_row.ensures a.text.now)
