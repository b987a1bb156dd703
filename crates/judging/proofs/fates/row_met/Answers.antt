-- `judging::fates::row_met` meets its contract. Assumes nothing.
use Rattle.answer.specs.Answer.{matches}
use Rattle.judging.proofs.FateLaws.{met_judged, met_none}
use Rattle.relations.specs.Rows.{row_in}
use Rattle.judging.proofs.fates.row_met.Goals as goal

pub returns-then-skip : goal.returns-then-skip
returns-then-skip c = let a = c.args in λ m o tested small narrow. met_none a.skip (matches m o (row_in a.text.now a.rows.now a.r).values) c.if-skip.true

pub row_matches-requires : goal.row_matches-requires
row_matches-requires c = c.requires

pub returns : goal.returns
returns c = let a = c.args in λ m o tested small narrow. met_judged a.skip c.row_matches.result _ c.if-skip.false (c.row_matches.ensures m o tested small narrow)
