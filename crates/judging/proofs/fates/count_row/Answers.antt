-- `judging::fates::count_row` meets its contract. Assumes nothing.
use mathlib.Core.Path.{ap, sym}
use Rattle.judging.specs.Judging.{counted_by}
use Rattle.judging.proofs.fates.count_row.Goals as goal

pub returns-in-Withheld : goal.returns-in-Withheld
returns-in-Withheld c = ap (counted_by c.args.x) (sym c.in-Withheld.is)

pub returns-in-Passed : goal.returns-in-Passed
returns-in-Passed c = ap (counted_by c.args.x) (sym c.in-Passed.is)

pub returns-in-Unmatched : goal.returns-in-Unmatched
returns-in-Unmatched c = ap (counted_by c.args.x) (sym c.in-Unmatched.is)
