-- `judging::fates::is_withheld` meets its contract. Assumes nothing.
use Rattle.judging.proofs.OpenCells.{withheld_cell, withheld_nest, withheld_none, withheld_row}
use mathlib.Core.Logic.{inl, inr}
use Rattle.judging.proofs.fates.is_withheld.Goals as goal

pub returns-in-Unlabelled : goal.returns-in-Unlabelled
returns-in-Unlabelled c = λ d p l ls ns o h i f. withheld_none d p l ls c.args.rows.now c.args.columns.now ns c.args.r _ (inl c.in-Unlabelled.is)

pub returns-in-ByTable : goal.returns-in-ByTable
returns-in-ByTable c = λ d p l ls ns o h i f. withheld_none d p l ls c.args.rows.now c.args.columns.now ns c.args.r _ (inr (inl c.in-ByTable.is))

pub returns-in-ByColumn : goal.returns-in-ByColumn
returns-in-ByColumn c = λ d p l ls ns o h i f. withheld_none d p l ls c.args.rows.now c.args.columns.now ns c.args.r _ (inr (inr c.in-ByColumn.is))

pub returns-in-ByRow : goal.returns-in-ByRow
returns-in-ByRow c = let a = c.args in
    λ d p l ls ns o h i f. withheld_row d p l ls a.rows.now a.columns.now ns a.r a.said.now o _ c.in-ByRow.is c.label_open.result (c.label_open.ensures i f)

pub returns-in-ByCell : goal.returns-in-ByCell
returns-in-ByCell c = let a = c.args in
    λ d p l ls ns o h i f. withheld_cell d p l ls a.rows.now a.columns.now ns a.r a.said.now o _ a.m
    c.in-ByCell.is h c.any_closed.result (c.any_closed.ensures i f)

pub returns-in-Nested : goal.returns-in-Nested
returns-in-Nested c = let a = c.args in
    λ d p l ls ns o h i f. withheld_nest d p l ls a.rows.now a.columns.now ns a.r a.said.now o _ a.m c.under_row-own.result
    c.in-Nested.is h (c.under_row-own.ensures i f) c.any_closed-in-Nested.result (c.any_closed-in-Nested.ensures i f)
