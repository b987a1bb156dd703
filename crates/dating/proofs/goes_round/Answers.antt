-- `dating::goes_round` meets its contract, by the calendar's theorem on a day and its date.
use Prim.Native.Nat.{ℕ}
use borrow.Author.Tests.{eq-eqb}
use mathlib.Core.Option.{some-injective, none, some}
use mathlib.Core.Path.{◌∙◌, ◌≡◌, sym}
use native.Mathlib.Omega.{arith}
use Rattle.calendar.proofs.Answers.{date_held, day_not_there, day_there, found_none, found_on}
use Rattle.calendar.proofs.Conversions.{day_of_its_date}
use Rattle.calendar.specs.Calendar.{date_of_day, day_of_date}
use Rattle.text.proofs.CodeLaws.{amount_is, amount_nothing}
use Rattle.dating.proofs.goes_round.Goals as goal

pub returns-in_default : goal.returns-in_default
returns-in_default c = sym (day_not_there c.args.year c.args.day (found_none (date_of_day c.args.year c.args.day) (sym c.in_default.ensures)))

pub returns-in-Some-day_of_date : goal.returns-in-Some-day_of_date
returns-in-Some-day_of_date c =
    let year = c.args.year in
    let day = c.args.day in
    let d = date_held c.in-Some.d in
    let n = c.in-Some-day_of_date.n in
    let dated : date_of_day year day ≡ some d = found_on (date_of_day year day) c.in-Some.d (sym c.in-Some.ensures) in
    let its : day_of_date d ≡ some n = amount_is (day_of_date d) n (sym c.in-Some-day_of_date.ensures) in
    let theorem : day_of_date d ≡ some day = (day_of_its_date year day d dated).1 in
    eq-eqb n day (some-injective _ _ (sym its ∙ theorem)) ∙ sym (day_there year day d dated)

pub returns-in-None : goal.returns-in-None
returns-in-None c =
    let year = c.args.year in
    let day = c.args.day in
    let d = date_held c.in-Some.d in
    let dated : date_of_day year day ≡ some d = found_on (date_of_day year day) c.in-Some.d (sym c.in-Some.ensures) in
    let its : day_of_date d ≡ none = amount_nothing (day_of_date d) (sym c.in-None.ensures) in
    let theorem : day_of_date d ≡ some day = (day_of_its_date year day d dated).1 in
    absurd (let z : ◌≡◌ {A = ℕ} 0 1 = cc in omega arith)
