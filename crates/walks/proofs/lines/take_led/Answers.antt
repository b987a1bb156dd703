-- `walks::lines::take_led` meets its contract: what was walked is the row. Assumes nothing.
use Prim.Native.Nat.{◌+◌, ℕ}
use mathlib.Core.List.{List, [], ◌∷◌}
use mathlib.Core.Path.{◌∙◌, subst, sym}
use native.Mathlib.Omega.{arith}
use Rattle.document.specs.Lookup.{columns_at, label_of}
use Rattle.relations.proofs.RowLaws.{row_empty}
use Rattle.relations.proofs.TableLaws.{width_read}
use Rattle.lists.specs.Lists.{or_zero}
use Rattle.walks.proofs.RowsTaken.{led_taken}
use Rattle.walks.specs.Walked.{LabelWalked, ValuesWalked}
use Rattle.text.specs.Words.{word_of}
use Rattle.walks.proofs.lines.take_led.Goals as goal

pub returns-in_default : goal.returns-in_default
returns-in_default c d sets count l L T table inside u v small N = c.take_label.ensures.0 d.rows N

pub returns-in_default-take_values : goal.returns-in_default-take_values
returns-in_default-take_values c d sets count l L T table inside u v small N = c.take_values.ensures.0 d.rows (c.take_label.ensures.0 d.rows N)

pub returns-then-not-closes : goal.returns-then-not-closes
returns-then-not-closes c d sets count l L T table inside u v small N = c.take_values.ensures.0 d.rows (c.take_label.ensures.0 d.rows N)

pub returns : goal.returns
returns c d sets count l L T table inside u v small N = let a = c.args in
    let n : ℕ = c.table_width-n.result in
    let label : List ℕ = or_zero (label_of d.policy (word_of a.line.now (a.is + 1))) ∷ [] in
    let wide = width_read a.text.now a.tables.now count a.x d.policy T inside n c.table_width-n.ensures in
    let m = subst
    (LabelWalked a.rows.now c.take_label.new.rows a.line.now d.policy a.k 0 a.is)
    c.in-Some.is
    (c.take_label.ensures.1 d.policy sets L) in
    let marked = m.stored.grown a.text.now 0 [] [] small (omega arith) (row_empty a.text.now a.rows.now a.k) in
    let t = subst (ValuesWalked a.text.now
    c.take_label.new.rows
    c.take_values.new.rows a.line.now a.k n 1 label
    (columns_at d.policy a.x) c.in-Some.j)
    c.in-Some-take_values.is
    (c.take_values.ensures.1 d.policy count 1 label l T inside wide small marked) in
    led_taken d a.line.now a.is c.in-Some-take_values.e N small table
    (sym c.closes.ensures ∙ c.if-not-closes.false) wide
    c.table_width-n.ensures.few m u v t
    (c.add_row.ensures a.text.now)
