-- `calendar::reading::read_date` meets its contract: the bracket, the three numbers, and what the calendar says of them.
-- Assumes nothing.
use Prim.Native.Nat.{◌+◌, ◌<◌, ℕ}
use lib.ListN.{get_or, length}
use mathlib.Core.Option.{some}
use mathlib.Core.Path.{◌∙◌, ◌≡◌, ap, refl, sym}
use native.Mathlib.Omega.{arith}
use Rattle.calendar.proofs.DayLaws.{on}
use Rattle.calendar.proofs.ReadingLaws.{byte_here, date_closed, date_open, date_shut, day_wrong, forward_natural, goes_nowhere, goes_to, month_wrong, ranked_is, year_wrong}
use Rattle.calendar.specs.Calendar.{date_rank}
use Rattle.calendar.specs.DateText.{natural}
use Rattle.text.proofs.Forward.{forward_next}
use Rattle.text.specs.Brackets.{next}
use Rattle.text.specs.Reader.{from}
use Rattle.std.specs.Prelude as prelude
use Rattle.std.specs.Prelude.{Some}
use Rattle.calendar.proofs.reading.read_date.Goals.{Else-byte_at-ne40, Else-byte_at-ne41, In_ok-a, In_ok-b, In_ok-e}
use Rattle.calendar.proofs.reading.read_date.Goals as goal

pub returns-then-byte_at-ne40 : goal.returns-then-byte_at-ne40
returns-then-byte_at-ne40 c = date_shut c.args.s.now c.args.at (λ z. c.if-byte_at-ne40.true (c.byte_at.ensures ∙ z))

-- the opening bracket
opened : (c : Else-byte_at-ne40) → (get_or c.args.s.now c.args.at 0 ≡ 40) × (c.args.at < length c.args.s.now)
opened c = byte_here c.args.s.now c.args.at c.byte_at.result 40 (omega arith) c.byte_at.ensures c.if-byte_at-ne40.false

pub overflow_add-at : goal.overflow_add-at
overflow_add-at c = omega (arith, (opened c).1)

pub returns-in_err-a : goal.returns-in_err-a
returns-in_err-a c = c.from_residual.ensures ∙ year_wrong c.args.s.now c.args.at (opened (goal.at.returns-in_err-a c).Else-byte_at-ne40).0
    (goes_nowhere natural forward_natural c.args.s.now (c.args.at + 1) c.read_natural.ensures c.in_err-a.was)

-- the year
year : (c : In_ok-a) → natural (from c.args.s.now (c.args.at + 1)) ≡ some (c.in_ok-a.year, from c.args.s.now c.in_ok-a.a)
year c = goes_to natural forward_natural c.args.s.now (c.args.at + 1) c.read_natural.ensures c.in_ok-a.was

pub returns-in_err-b : goal.returns-in_err-b
returns-in_err-b c = c.from_residual-in_err-b.ensures ∙ month_wrong c.args.s.now c.args.at (opened (goal.at.returns-in_err-b c).Else-byte_at-ne40).0
    c.in_ok-a.a c.in_ok-a.year (year (goal.at.returns-in_err-b c).In_ok-a)
    (goes_nowhere (next natural) (forward_next natural forward_natural) c.args.s.now c.in_ok-a.a c.next_natural.ensures c.in_err-b.was)

-- the month
month : (c : In_ok-b) → next natural (from c.args.s.now c.in_ok-a.a) ≡ some (c.in_ok-b.month, from c.args.s.now c.in_ok-b.b)
month c = goes_to (next natural) (forward_next natural forward_natural) c.args.s.now c.in_ok-a.a c.next_natural.ensures c.in_ok-b.was

pub returns-in_err-e : goal.returns-in_err-e
returns-in_err-e c = c.from_residual-in_err-e.ensures ∙ day_wrong c.args.s.now c.args.at (opened (goal.at.returns-in_err-e c).Else-byte_at-ne40).0
    c.in_ok-a.a c.in_ok-a.year (year (goal.at.returns-in_err-e c).In_ok-a)
    c.in_ok-b.b c.in_ok-b.month (month (goal.at.returns-in_err-e c).In_ok-b)
    (goes_nowhere (next natural) (forward_next natural forward_natural) c.args.s.now c.in_ok-b.b c.next_natural-2.ensures c.in_err-e.was)

-- the day
day : (c : In_ok-e) → next natural (from c.args.s.now c.in_ok-b.b) ≡ some (c.in_ok-e.day, from c.args.s.now c.in_ok-e.e)
day c = goes_to (next natural) (forward_next natural forward_natural) c.args.s.now c.in_ok-b.b c.next_natural-2.ensures c.in_ok-e.was

pub returns-then-byte_at-ne41 : goal.returns-then-byte_at-ne41
returns-then-byte_at-ne41 c = date_open c.args.s.now c.args.at (opened (goal.at.returns-then-byte_at-ne41 c).Else-byte_at-ne40).0
    c.in_ok-a.a c.in_ok-a.year (year (goal.at.returns-then-byte_at-ne41 c).In_ok-a)
    c.in_ok-b.b c.in_ok-b.month (month (goal.at.returns-then-byte_at-ne41 c).In_ok-b)
    c.in_ok-e.e c.in_ok-e.day (day (goal.at.returns-then-byte_at-ne41 c).In_ok-e)
    (λ z. c.if-byte_at-ne41.true (c.byte_at-2.ensures ∙ z))

-- the closing bracket
closed : (c : Else-byte_at-ne41) → (get_or c.args.s.now c.in_ok-e.e 0 ≡ 41) × (c.in_ok-e.e < length c.args.s.now)
closed c = byte_here c.args.s.now c.in_ok-e.e c.byte_at-2.result 41 (omega arith) c.byte_at-2.ensures c.if-byte_at-ne41.false

pub overflow_add-result : goal.overflow_add-result
overflow_add-result c = omega (arith, (closed (goal.at.overflow_add-result c).Else-byte_at-ne41).1)

pub returns : goal.returns
returns c = let d = on c.in_ok-a.year c.in_ok-b.month c.in_ok-e.day in
    let g = goal.at.returns c in
    ap (λ (r : prelude.Option ℕ). Some (c.in_ok-e.e + 1, r)) c.date_rank.ensures ∙ sym (ranked_is (c.in_ok-e.e + 1) (date_rank d)) ∙ date_closed c.args.s.now c.args.at (opened g.Else-byte_at-ne40).0
    c.in_ok-a.a c.in_ok-a.year (year g.In_ok-a)
    c.in_ok-b.b c.in_ok-b.month (month g.In_ok-b)
    c.in_ok-e.e c.in_ok-e.day (day g.In_ok-e)
    (date_rank d) (closed g.Else-byte_at-ne41).0 refl
