-- `dating::count_days` meets its contract: at most one for each day passed. The measure is what is left of the days.
use Rattle.std.proofs.Common.{◌-◌, ◌≤◌}
use Rattle.dating.proofs.count_days.Given as goal

abbrev pub invariant-loop-day : goal.invariant-loop-day
invariant-loop-day l = (l.n ≤ l.day) × (l.day ≤ 368)
