-- `dating::with_month` comes to its end: the measure is what is left of the days.
use Rattle.std.proofs.Common.{◌-◌, ◌≤◌}
use Rattle.dating.proofs.with_month.Given as goal

abbrev pub invariant-loop-day : goal.invariant-loop-day
invariant-loop-day l = l.day ≤ 33
