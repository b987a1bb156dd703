-- `walks::lines::take_nested` meets its contract: what was walked is the row. Assumes nothing.
use Prim.Native.Nat.{◌+◌, ℕ}
use mathlib.Core.List.{List, [], ◌∷◌}
use mathlib.Core.Path.{◌∙◌, refl, subst, sym}
use native.Mathlib.Omega.{arith}
use Rattle.document.specs.Lookup.{columns_at, label_of}
use Rattle.relations.proofs.RowLaws.{row_empty}
use Rattle.relations.proofs.TableLaws.{width_read}
use Rattle.lists.specs.Lists.{or_zero}
use Rattle.walks.proofs.RowsTaken.{nested_taken}
use Rattle.walks.specs.Walked.{LabelWalked, CellsWalked}
use Rattle.text.specs.Words.{word_of}
use Rattle.walks.proofs.lines.take_nested.Goals as goal

pub returns-in_default : goal.returns-in_default
returns-in_default c d sets count l L T table inside u v small N = c.take_label.ensures.0 d.rows N

pub returns-in_default-take_cells : goal.returns-in_default-take_cells
returns-in_default-take_cells c d sets count l L T table inside u v small N = c.take_cells.ensures.0 d.rows (c.take_label.ensures.0 d.rows N)

pub returns-then-not-closes : goal.returns-then-not-closes
returns-then-not-closes c d sets count l L T table inside u v small N = c.take_cells.ensures.0 d.rows (c.take_label.ensures.0 d.rows N)

pub overflow_add-n : goal.overflow_add-n
overflow_add-n c = omega (arith, c.table_width-n.ensures.few)

pub returns : goal.returns
returns c d sets count l L T table inside u v small N = let a = c.args in
    let n : ℕ = c.table_width-n.result in
    let label : List ℕ = or_zero (label_of d.policy (word_of a.line.now (a.is + 1))) ∷ [] in
    let wide = width_read a.text.now a.tables.now count a.x d.policy T inside n c.table_width-n.ensures in
    let m = subst
    (LabelWalked a.rows.now c.take_label.new.rows a.line.now d.policy a.k 0 a.is)
    c.in-Some.is
    (c.take_label.ensures.1 d.policy sets L) in
    let marked = m.stored.grown a.text.now 0 [] [] small (omega arith) (row_empty a.text.now a.rows.now a.k) in
    let t = subst (CellsWalked a.text.now
    c.take_label.new.rows
    c.take_cells.new.rows a.line.now a.k n 1 label
    d.policy (columns_at d.policy a.x)
    c.in-Some.j)
    c.in-Some-take_cells.is
    (c.take_cells.ensures.1 d.policy count sets label l L T inside wide small marked) in
    nested_taken d a.line.now a.is c.in-Some-take_cells.e N small table
    (sym c.closes.ensures ∙ c.if-not-closes.false) wide
    c.table_width-n.ensures.few m u v t refl
    (c.add_row.ensures a.text.now)
