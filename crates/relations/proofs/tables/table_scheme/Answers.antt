-- `relations::tables::table_scheme` meets its contract. Assumes nothing.
use native.Mathlib.Omega.{arith}
use Rattle.relations.specs.Tables.{scheme_by, scheme_of_cell}
use Rattle.relations.proofs.TableLaws.{scheme_number, scheme_over}
use Rattle.relations.proofs.tables.table_scheme.Goals as goal

pub returns-in-0 : goal.returns-in-0
unfolding scheme_by scheme_of_cell
returns-in-0 c l = scheme_number c.args.ws.now c.args.t 0 c.in-0.is

pub returns-in-1 : goal.returns-in-1
unfolding scheme_by scheme_of_cell
returns-in-1 c l = scheme_number c.args.ws.now c.args.t 1 c.in-1.is

pub returns-in-2 : goal.returns-in-2
unfolding scheme_by scheme_of_cell
returns-in-2 c l = scheme_number c.args.ws.now c.args.t 2 c.in-2.is

pub returns-in-3 : goal.returns-in-3
unfolding scheme_by scheme_of_cell
returns-in-3 c l = scheme_number c.args.ws.now c.args.t 3 c.in-3.is

pub returns-in-4 : goal.returns-in-4
unfolding scheme_by scheme_of_cell
returns-in-4 c l = scheme_number c.args.ws.now c.args.t 4 c.in-4.is

pub returns-in_default : goal.returns-in_default
unfolding scheme_by scheme_of_cell
returns-in_default c l = let n = c.in_default.in_default-own.rest in
    scheme_over c.args.ws.now c.args.t n.0.0.0.0.1 n.0.0.0.1 n.0.0.1 n.0.1 n.1

pub returns-else-t-lt-TABLES : goal.returns-else-t-lt-TABLES
returns-else-t-lt-TABLES c l = absurd (omega (arith, l, c.if-t-lt-TABLES.false))
