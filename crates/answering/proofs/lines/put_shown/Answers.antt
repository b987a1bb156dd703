-- `answering::lines::put_shown` meets its contract. Assumes nothing.
use mathlib.Core.Path.{ap}
use Rattle.answering.proofs.LineLaws.{shown_gaps, shown_whole, wrote_as}
use Rattle.answering.specs.Lines.{spaced_values}
use Rattle.answering.proofs.lines.put_shown.Goals as goal

pub put_gapped-requires : goal.put_gapped-requires
put_gapped-requires c = c.requires

pub returns-then-gaps : goal.returns-then-gaps
returns-then-gaps c = let a = c.args in
    λ f. wrote_as (ap (spaced_values a.columns.now) (shown_gaps a.said.now a.m a.text.now a.rows.now a.r a.width c.if-gaps.true)) (c.put_gapped.ensures f)

pub put_values-requires : goal.put_values-requires
put_values-requires c = c.requires

pub returns : goal.returns
returns c = let a = c.args in
    λ f. wrote_as (ap (spaced_values a.columns.now) (shown_whole a.said.now a.m a.text.now a.rows.now a.r a.width c.if-gaps.false)) c.put_values.ensures
