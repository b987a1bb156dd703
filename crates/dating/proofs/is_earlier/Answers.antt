-- `dating::is_earlier` meets its contract, by the calendar's theorem on the order of ranks.
use mathlib.Core.Option.{some}
use mathlib.Core.Path.{◌≡◌, sym}
use Rattle.calendar.proofs.Answers.{rank_not_there, rank_there}
use Rattle.calendar.proofs.DateOrder.{rank_order}
use Rattle.calendar.proofs.DayLaws.{on}
use Rattle.calendar.specs.Calendar.{date_rank}
use Rattle.text.proofs.CodeLaws.{amount_is, amount_nothing}
use Rattle.dating.proofs.is_earlier.Goals as goal

pub returns-in-Some-second : goal.returns-in-Some-second
returns-in-Some-second c =
    let a = on c.args.y1 c.args.m1 c.args.d1 in
    let b = on c.args.y2 c.args.m2 c.args.d2 in
    let one : date_rank a ≡ some c.in-Some.r = amount_is (date_rank a) c.in-Some.r (sym c.in-Some.ensures) in
    let two : date_rank b ≡ some c.in-Some-second.s = amount_is (date_rank b) c.in-Some-second.s (sym c.in-Some-second.ensures) in
    rw (rank_there a c.in-Some.r one, rank_there b c.in-Some-second.s two) (rank_order a b c.in-Some.r c.in-Some-second.s one two).1

pub returns-in-None-second : goal.returns-in-None-second
returns-in-None-second c =
    let a = on c.args.y1 c.args.m1 c.args.d1 in
    let b = on c.args.y2 c.args.m2 c.args.d2 in
    rw (
      rank_there a c.in-Some.r (amount_is (date_rank a) c.in-Some.r (sym c.in-Some.ensures)),
      rank_not_there b (amount_nothing (date_rank b) (sym c.in-None-second.ensures)),
    )

pub returns-in-None : goal.returns-in-None
returns-in-None c =
    let a = on c.args.y1 c.args.m1 c.args.d1 in
    rw (rank_not_there a (amount_nothing (date_rank a) (sym c.in-None.ensures)))
