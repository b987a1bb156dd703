-- `judging::fates::fate_of` meets its contract. Assumes nothing.
use Prim.Native.Nat.{◌+◌}
use Rattle.answer.specs.Answer.{satisfies}
use Rattle.judging.proofs.FateLaws.{fate_elsewhere, fate_tested, held_between, row_small}
use Rattle.query.specs.QueryForm.{mode_in}
use Rattle.judging.proofs.fates.fate_of.Goals as goal

pub returns-then-row_table-s : goal.returns-then-row_table-s
returns-then-row_table-s c = let a = c.args in
    λ k d q jd l. fate_elsewhere a.text.now a.rows.now k a.said.now
    a.query.now a.s a.first a.scheme a.columns.now a.tests.now d q jd a.r l c.row_table.result
    c.row_table.ensures c.if-row_table-s.true

pub row_met-met-requires : goal.row_met-met-requires
row_met-met-requires c = c.requires.1

pub returns : goal.returns
unfolding satisfies
returns c = let a = c.args in
    let t = c.row_table in
    let w = c.is_withheld-held in
    λ k d q jd l. fate_tested a.text.now a.rows.now k a.said.now a.query.now a.s a.first a.scheme a.columns.now
    a.tests.now d q jd a.r l t.result t.ensures c.if-row_table-s.false
    w.result (held_between a.scheme a.rows.now a.said.now a.s.marking a.r a.columns.now a.first (a.s.chosen + a.s.tests) w.result w.ensures)
    c.row_met-met.result
    (c.row_met-met.ensures (mode_in q.wanted) q.condition jd.tested (row_small a.text.now a.rows.now k a.said.now a.query.now a.s a.first a.scheme a.columns.now a.tests.now d q jd a.r l) (jd.rows.narrow a.r l))
    c.fate_here.result c.fate_here.ensures
