-- `calendar::dates::date_rank` meets its contract.
-- Assumes nothing.
use Prim.Native.Nat.{◌≤◌}
use mathlib.Core.Option.{some}
use mathlib.Core.Path.{◌∙◌, ◌≡◌, sym}
use native.Mathlib.Omega.{arith}
use Rattle.calendar.specs.Calendar.{day_of_date}
use Rattle.calendar.proofs.Conversions.{number_few}
use Rattle.calendar.proofs.DayLaws.{is_rank, no_rank, on}
use Rattle.text.proofs.CodeLaws.{amount_is, amount_nothing}
use Rattle.calendar.proofs.dates.date_rank.Goals.{In_ok-n}
use Rattle.calendar.proofs.dates.date_rank.Goals as goal

-- the day number that was found is the date's
found : (c : In_ok-n) → day_of_date (on c.args.year c.args.month c.args.day) ≡ some c.in_ok-n.n
found c =
    amount_is (day_of_date (on c.args.year c.args.month c.args.day)) c.in_ok-n.n
    (sym c.day_of_date.ensures ∙ c.in_ok-n.was)

few : (c : In_ok-n) → (c.in_ok-n.n ≤ 366) × (c.args.year ≤ 9999)
few c = number_few (on c.args.year c.args.month c.args.day) c.in_ok-n.n (found c)

pub overflow_mul-result : goal.overflow_mul-result
overflow_mul-result c = omega (arith, (few c).1)

pub overflow_add-result : goal.overflow_add-result
overflow_add-result c = omega (arith, (few c).0, (few c).1)

pub returns : goal.returns
returns c = is_rank (on c.args.year c.args.month c.args.day) c.in_ok-n.n (found c)

pub returns-in_err-n : goal.returns-in_err-n
returns-in_err-n c = c.from_residual.ensures ∙ no_rank (on c.args.year c.args.month c.args.day)
    (amount_nothing (day_of_date (on c.args.year c.args.month c.args.day)) (sym c.day_of_date.ensures ∙ c.in_err-n.was))
