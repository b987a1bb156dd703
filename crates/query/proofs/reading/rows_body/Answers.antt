-- `query::reading::rows_body` meets its contract: the head, the column bracket, and perhaps a condition.
-- Assumes nothing.
use mathlib.Core.Path.{subst}
use Rattle.query.proofs.BodiesRead.{body_headless, rows_no_columns, rows_read, rows_wrong}
use Rattle.query.specs.QueryPartPlaces.{ReadsColumns, ReadsHead, ReadsTest}
use Rattle.query.specs.QueryForm.{wanted_rows}
use Rattle.query.specs.QueryPlaces.{verb_of}
use Rattle.query.proofs.reading.rows_body.Goals as goal

pub returns-in_err-head : goal.returns-in_err-head
returns-in_err-head c = rw c.from_residual.ensures
    (body_headless c.args.s.now (wanted_rows (verb_of c.args.verb))
    (subst (ReadsHead c.args.s.now c.args.at) c.in_err-head.was c.query_head.ensures))

pub returns-in_err-p : goal.returns-in_err-p
returns-in_err-p c = rw c.from_residual-in_err-p.ensures
    (rows_no_columns c.args.s.now
    (subst
    (ReadsHead c.args.s.now c.args.at)
    c.in_ok-head.was c.query_head.ensures)
    c.args.verb
    (subst (ReadsColumns c.args.s.now c.in_ok-head.e) c.in_err-p.was c.column_list.ensures))

pub returns-in_err-test : goal.returns-in_err-test
returns-in_err-test c = rw c.from_residual-in_err-test.ensures
    (rows_wrong c.args.s.now
    (subst
    (ReadsHead c.args.s.now c.args.at)
    c.in_ok-head.was
    c.query_head.ensures)
    (subst
    (ReadsColumns c.args.s.now c.in_ok-head.e)
    c.in_ok-p.was c.column_list.ensures)
    c.args.verb
    (subst (ReadsTest c.args.s.now c.in_ok-p.f) c.in_err-test.was c.optional_condition.ensures))

pub returns : goal.returns
returns c = rows_read c.args.s.now
    (subst
    (ReadsHead c.args.s.now c.args.at)
    c.in_ok-head.was
    c.query_head.ensures)
    (subst
    (ReadsColumns c.args.s.now c.in_ok-head.e)
    c.in_ok-p.was c.column_list.ensures)
    c.args.verb
    (subst (ReadsTest c.args.s.now c.in_ok-p.f) c.in_ok-test.was c.optional_condition.ensures)
