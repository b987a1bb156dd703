-- `dating::with_days` comes to its end: the measure is what is left of the days.
use Rattle.std.proofs.Common.{◌-◌, ◌≤◌}
use Rattle.dating.proofs.with_days.Given as goal

abbrev pub invariant-loop-day : goal.invariant-loop-day
invariant-loop-day l = l.day ≤ 368
