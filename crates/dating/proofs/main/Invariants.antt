-- `dating::main` comes to its end, and the count of dates stays small: the measure is what is left of the years.
use Rattle.std.proofs.Common.{◌*◌, ◌-◌, ◌≤◌}
use Rattle.dating.proofs.main.Given as goal

abbrev pub invariant-loop-year : goal.invariant-loop-year
invariant-loop-year l = (l.dates ≤ l.year * 368) × (l.year ≤ 10001)
