-- `query::reading::count_body` meets its contract: the head, and perhaps a condition.
-- Assumes nothing.
use mathlib.Core.Path.{subst}
use Rattle.query.proofs.BodiesRead.{body_headless, count_read_lem, count_wrong}
use Rattle.query.specs.QueryForm.{counts_only}
use Rattle.query.specs.QueryPartPlaces.{ReadsHead, ReadsTest}
use Rattle.text.specs.Reader.{give}
use Rattle.query.proofs.reading.count_body.Goals as goal

pub returns-in_err-head : goal.returns-in_err-head
returns-in_err-head c = rw c.from_residual.ensures
    (body_headless c.args.s.now (give counts_only) (subst (ReadsHead c.args.s.now c.args.at) c.in_err-head.was c.query_head.ensures))

pub returns-in_err-test : goal.returns-in_err-test
returns-in_err-test c = rw c.from_residual-in_err-test.ensures
    (count_wrong c.args.s.now
    (subst
    (ReadsHead c.args.s.now c.args.at)
    c.in_ok-head.was c.query_head.ensures)
    (subst (ReadsTest c.args.s.now c.in_ok-head.e) c.in_err-test.was c.optional_condition.ensures))

pub returns : goal.returns
returns c = count_read_lem c.args.s.now
    (subst
    (ReadsHead c.args.s.now c.args.at)
    c.in_ok-head.was c.query_head.ensures)
    (subst (ReadsTest c.args.s.now c.in_ok-head.e) c.in_ok-test.was c.optional_condition.ensures)
