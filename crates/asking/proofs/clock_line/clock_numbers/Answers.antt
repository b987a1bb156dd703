-- `asking::clock_line::clock_numbers` meets its contract: three numbers, each behind a space.
use mathlib.Core.Path.{subst, sym}
use Rattle.asking.specs.ClockParts.{ReadsNumbers}
use Rattle.asking.proofs.ClockReading.{no_day, no_hour, no_year, numbers_read}
use Rattle.asking.proofs.clock_line.clock_numbers.Goals as goal

pub returns-in_err-e : goal.returns-in_err-e
returns-in_err-e c = subst (ReadsNumbers c.args.s.now c.args.at) (sym c.from_residual.ensures) (no_year c.args.s.now c.args.at c.in_err-e.ensures)

pub returns-in_err-f : goal.returns-in_err-f
returns-in_err-f c = subst (ReadsNumbers c.args.s.now c.args.at) (sym c.from_residual-in_err-f.ensures)
    (no_day c.args.s.now c.args.at c.in_ok-e.e c.in_ok-e.year c.in_ok-e.ensures c.in_err-f.ensures)

pub returns-in_err-g : goal.returns-in_err-g
returns-in_err-g c = subst (ReadsNumbers c.args.s.now c.args.at) (sym c.from_residual-in_err-g.ensures)
    (no_hour c.args.s.now c.args.at c.in_ok-e.e c.in_ok-e.year c.in_ok-e.ensures c.in_ok-f.f c.in_ok-f.day c.in_ok-f.ensures c.in_err-g.ensures)

pub returns : goal.returns
returns c = numbers_read c.args.s.now c.args.at c.in_ok-e.e c.in_ok-e.year c.in_ok-e.ensures c.in_ok-f.f c.in_ok-f.day c.in_ok-f.ensures c.in_ok-g.g c.in_ok-g.hour c.in_ok-g.ensures
