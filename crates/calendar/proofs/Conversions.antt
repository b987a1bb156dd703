-- Conversion between dates and days of a year is exact both ways, and every day of a year has one date. Assumes nothing.
use Prim.Native.Nat.{◌%◌, ◌*◌, ◌+◌, ◌-◌, ◌/◌, ◌<◌, ◌≤◌, ℕ}
use borrow.Author.Tests.{le-leb, leb-true}
use lib.Dec.{leb}
use lib.ListN.{get_or, take}
use mathlib.Core.Bool.{Bool, ◌&&◌, false, true}
use mathlib.Core.List.{List}
use mathlib.Core.Option.{some-injective, none, some}
use mathlib.Core.Path.{◌∙◌, ◌≡◌, ap, refl, subst, sym}
use native.Mathlib.Nat.{div-add-mod'}
use native.Mathlib.Omega.{arith}
use Rattle.calendar.proofs.DayLaws.{landed, on}
use Rattle.calendar.proofs.MonthLaws.{Landing, days_few, days_in_year, landing, month_span, twelve}
use Rattle.calendar.specs.Calendar.{Date, date_of_day, date_of_rank, date_rank, day_number, day_of_date, days_in, exists, leap, month_days, months, pair_rank, total, year_held}
use Rattle.lists.proofs.ListLaws.{map_inv}
use Rattle.lists.proofs.Tests.{and_both, and_left, and_right}
use Rattle.text.specs.Bytes.{within}

pub within_low : (low high n : ℕ) → within low high n ≡ true → low ≤ n
within_low low high n h = leb-true low n (and_left (leb low n) (leb n high) h)

pub within_high : (low high n : ℕ) → within low high n ≡ true → n ≤ high
within_high low high n h = leb-true n high (and_right (leb low n) (leb n high) h)

pub within_both : (low high n : ℕ) → low ≤ n → n ≤ high → within low high n ≡ true
within_both low high n a b = and_both (leb low n) (leb n high) (le-leb low n a) (le-leb n high b)

-- what it is for a date to exist
pub record Real (d : Date) : Type 0 where
  pub held : year_held d.year ≡ true
  pub month_low : 1 ≤ d.month
  pub month_high : d.month ≤ 12
  pub day_low : 1 ≤ d.day
  pub day_high : d.day ≤ month_days d.year d.month

pub real : (d : Date) → exists d ≡ true → Real d
unfolding exists
real d h =
    let in_months = within 1 12 d.month in
    let in_month = within 1 (month_days d.year d.month) d.day in
    let rest : (in_months && in_month) ≡ true = and_right (year_held d.year) (in_months && in_month) h in
    record {
      held = and_left (year_held d.year) (in_months && in_month) h;
      month_low = within_low 1 12 d.month (and_left in_months in_month rest);
      month_high = within_high 1 12 d.month (and_left in_months in_month rest);
      day_low = within_low 1 (month_days d.year d.month) d.day (and_right in_months in_month rest);
      day_high = within_high 1 (month_days d.year d.month) d.day (and_right in_months in_month rest);
    }

pub really : (d : Date) → Real d → exists d ≡ true
unfolding exists
really d r =
    let in_months = within 1 12 d.month in
    let in_month = within 1 (month_days d.year d.month) d.day in
    and_both (year_held d.year) (in_months && in_month) r.held
    (and_both in_months in_month
    (within_both 1 12 d.month r.month_low r.month_high)
    (within_both 1 (month_days d.year d.month) d.day r.day_low r.day_high))

pub held_years : (y : ℕ) → year_held y ≡ true → (1 ≤ y) × (y ≤ 9999)
unfolding year_held
held_years y h = (within_low 1 9999 y h, within_high 1 9999 y h)

module _ (d : Date) where
  pub day_of_real : exists d ≡ true → day_of_date d ≡ some (day_number d)
  unfolding day_of_date
  day_of_real h = rw h

  day_of_unreal : exists d ≡ false → day_of_date d ≡ none
  unfolding day_of_date
  day_of_unreal h = rw h

  -- a date with a day number exists, and that is its day number
  pub numbered : (n : ℕ) → day_of_date d ≡ some n → (exists d ≡ true) × (day_number d ≡ n)
  numbered n h = go (exists d) refl
    where
      go : (b : Bool) → exists d ≡ b → (exists d ≡ true) × (day_number d ≡ n)
      go true e = (e, cc (day_of_real e))
      go false e = absurd (let z : ◌≡◌ {A = ℕ} 0 1 = cc (day_of_unreal e) in omega arith)

  -- a day number of a date is at most 366, and its year at most 9999
  pub number_few : (n : ℕ) → day_of_date d ≡ some n → (n ≤ 366) × (d.year ≤ 9999)
  unfolding day_number
  number_few n h =
      let r : Real d = real d (numbered n h).0 in
      let e : total (take (d.month - 1) (months (leap d.year))) + d.day ≡ n = (numbered n h).1 in
      (omega (arith, month_span d.year d.month r.month_low r.month_high, days_few d.year d.month), (held_years d.year r.held).1)

  -- from a date to its day, and back: exact
  pub date_of_its_day : (n : ℕ) → day_of_date d ≡ some n → date_of_day d.year n ≡ some d
  unfolding day_number
  date_of_its_day n h =
      let r : Real d = real d (numbered n h).0 in
      let t : ℕ = total (take (d.month - 1) (months (leap d.year))) in
      let e : t + d.day ≡ n = (numbered n h).1 in
      let remains : n - t ≡ d.day = omega arith in
      landed d.year n r.held (omega arith) d.month r.month_low r.month_high (omega arith)
      (omega (arith, month_span d.year d.month r.month_low r.month_high))
      ∙ ap (λ (x : ℕ). some (on d.year d.month x)) remains

-- the date that day n of year y has
pub record Dated (y n : ℕ) : Type 0 where
  pub date : Date
  pub of_year : date.year ≡ y
  pub found : date_of_day y n ≡ some date
  pub back : day_of_date date ≡ some n

pub dated : (y n : ℕ) → year_held y ≡ true → 1 ≤ n → n ≤ days_in y → Dated y n
unfolding day_number month_days
dated y n held low high =
    let ks : List ℕ = months (leap y) in
    let l : Landing ks n = landing ks n low (omega (arith, days_in_year y)) in
    let m : ℕ = 1 + l.place in
    let place : m - 1 ≡ l.place = omega arith in
    let inside : l.place < 12 = omega (arith, twelve (leap y), l.inside) in
    let length_here : l.day ≤ get_or ks (m - 1) 0 = subst (λ (i : ℕ). l.day ≤ get_or ks i 0) (sym place) l.high in
    let sums_here : total (take (m - 1) ks) + l.day ≡ n = subst (λ (i : ℕ). total (take i ks) + l.day ≡ n) (sym place) l.sums in
    let d : Date = on y m l.day in
    let r : Real d = record { held = held; month_low = omega arith; month_high = omega arith; day_low = l.low; day_high = length_here } in
    let back : day_of_date d ≡ some n = day_of_real d (really d r) ∙ ap (λ (x : ℕ). some x) sums_here in
    record { date = d; of_year = refl; found = date_of_its_day d n back; back = back }

-- from a day of a year to its date, and back: exact
pub day_of_its_date : (y n : ℕ) (d : Date) → date_of_day y n ≡ some d → (d.year ≡ y) × (day_of_date d ≡ some n)
unfolding date_of_day
day_of_its_date y n d h = go (year_held y && within 1 (days_in y) n) refl
  where
    go : (b : Bool) → (year_held y && within 1 (days_in y) n) ≡ b → (d.year ≡ y) × (day_of_date d ≡ some n)
    go true e =
        let in_year : within 1 (days_in y) n ≡ true = and_right (year_held y) (within 1 (days_in y) n) e in
        let f : Dated y n = dated y n (and_left (year_held y) (within 1 (days_in y) n) e) (within_low 1 (days_in y) n in_year) (within_high 1 (days_in y) n in_year) in
        let same : f.date ≡ d = some-injective _ _ (sym f.found ∙ h) in
        (subst (λ (x : Date). x.year ≡ y) same f.of_year, subst (λ (x : Date). day_of_date x ≡ some n) same f.back)
    go false e = absurd (let k : none ≡ some d = rw e at h in let z : ◌≡◌ {A = ℕ} 0 1 = cc in omega arith)

-- every day of a year has one date, and only one
pub record OneDate (y n : ℕ) : Type 0 where
  pub date : Date
  pub of_year : date.year ≡ y
  pub its_day : day_of_date date ≡ some n
  pub only : (e : Date) → e.year ≡ y → day_of_date e ≡ some n → e ≡ date

pub one_date : (y n : ℕ) → year_held y ≡ true → 1 ≤ n → n ≤ days_in y → OneDate y n
one_date y n held low high =
    let f : Dated y n = dated y n held low high in
    record {
      date = f.date;
      of_year = f.of_year;
      its_day = f.back;
      only = λ e of its.
          some-injective _ _ (sym (date_of_its_day e n its) ∙ ap (λ (x : ℕ). date_of_day x n) of ∙ f.found);
    }

-- from a date to its rank, and back: exact
pub date_of_its_rank : (d : Date) (r : ℕ) → date_rank d ≡ some r → date_of_rank r ≡ some d
unfolding date_rank date_of_rank pair_rank
date_of_its_rank d r h =
    let (n, its, e) = map_inv (pair_rank d.year) (day_of_date d) r h in
    let few : (n ≤ 366) × (d.year ≤ 9999) = number_few d n its in
    let ranked : r ≡ d.year * 367 + n = e in
    let year : r / 367 ≡ d.year = omega arith in
    let number : r % 367 ≡ n = omega arith in
    rw (year, number) (date_of_its_day d n its)

-- from a rank to its date, and back: exact
pub rank_of_its_date : (r : ℕ) (d : Date) → date_of_rank r ≡ some d → date_rank d ≡ some r
unfolding date_rank date_of_rank pair_rank
rank_of_its_date r d h =
    let f = day_of_its_date (r / 367) (r % 367) d h in
    rw (f.1, f.0) (ap (λ (x : ℕ). some x) (div-add-mod' r 367))
