-- `dating::with_months` comes to its end: the measure is what is left of the months.
use Rattle.std.proofs.Common.{◌-◌, ◌≤◌}
use Rattle.dating.proofs.with_months.Given as goal

abbrev pub invariant-loop-month : goal.invariant-loop-month
invariant-loop-month l = l.month ≤ 14
