-- `query::clock::in_range` meets its contract: each test of the range in turn.
-- Assumes nothing.
use native.Mathlib.Omega.{arith}
use Rattle.query.proofs.ClockLaws.{by_hour, day_high, day_low, year_high, year_low}
use Rattle.query.specs.HostClock.{clock_of}
use Rattle.query.proofs.clock.in_range.Goals as goal

pub returns-then-year-lt1 : goal.returns-then-year-lt1
unfolding clock_of
returns-then-year-lt1 c = year_low c.args.c.year c.args.c.day c.args.c.hour c.if-year-lt1.true

pub returns-then-year-gt9999 : goal.returns-then-year-gt9999
unfolding clock_of
returns-then-year-gt9999 c = year_high c.args.c.year c.args.c.day c.args.c.hour c.if-year-lt1.false c.if-year-gt9999.true

pub returns-then-day-lt1 : goal.returns-then-day-lt1
unfolding clock_of
returns-then-day-lt1 c = day_low c.args.c.year c.args.c.day c.args.c.hour c.if-year-lt1.false c.if-year-gt9999.false c.if-day-lt1.true

pub returns-then-day-days_in : goal.returns-then-day-days_in
unfolding clock_of
returns-then-day-days_in c = day_high c.args.c.year c.args.c.day
    c.args.c.hour c.if-year-lt1.false c.if-year-gt9999.false
    c.if-day-lt1.false (omega (arith, c.days_in.ensures, c.if-day-days_in.true))

pub returns : goal.returns
unfolding clock_of
returns c = by_hour c.args.c.year c.args.c.day
    c.args.c.hour c.if-year-lt1.false c.if-year-gt9999.false
    c.if-day-lt1.false (omega (arith, c.days_in.ensures, c.if-day-days_in.false))
