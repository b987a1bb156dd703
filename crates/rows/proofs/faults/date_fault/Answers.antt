-- `rows::faults::date_fault` meets its contract: the search for a date that does not exist, told as a verdict. Assumes nothing.
use mathlib.Core.Path.{ap, sym}
use Rattle.rows.specs.Promises.{date_verdict}
use Rattle.rows.proofs.faults.date_fault.Goals as goal

pub returns-in-Some : goal.returns-in-Some
returns-in-Some c = let o = c.first_missing_date in
    record { absent = o.result; is = o.ensures.0; near = o.ensures.1; told = sym (ap date_verdict c.in-Some.is) }

pub returns-in-None : goal.returns-in-None
returns-in-None c = let o = c.first_missing_date in
    record { absent = o.result; is = o.ensures.0; near = o.ensures.1; told = sym (ap date_verdict c.in-None.is) }
