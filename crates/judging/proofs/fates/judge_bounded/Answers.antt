-- `judging::fates::judge_bounded` meets its contract. Assumes nothing.
use Rattle.judging.proofs.FateLaws.{judgeable, judged_all}
use Rattle.judging.proofs.fates.judge_bounded.Goals as goal

pub returns : goal.returns
returns c = let a = c.args in
    λ d q pr. judged_all a.text.now a.rows.now a.count d q _ _ pr.rows (c.judge_each.ensures d q
    (judgeable a.text.now a.tables.now a.rows.now a.count a.said.now a.query.now a.s a.tests.now a.columns.now d q pr c.first_withholding-first.ensures.0 c.table_scheme-scheme.result c.table_scheme-scheme.ensures))
