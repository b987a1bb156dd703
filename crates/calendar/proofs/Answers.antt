-- What the code's answers tell a caller. Assumes nothing.
use Prim.Native.Nat.{ℕ}
use mathlib.Core.Bool.{Bool, ◌&&◌, false, true}
use mathlib.Core.Option.{Option, none, some}
use mathlib.Core.Path.{◌∙◌, ◌≡◌, ap, refl, sym}
use native.Mathlib.Omega.{arith}
use Rattle.calendar.proofs.Conversions.{Dated, dated, day_of_real, numbered, within_high, within_low}
use Rattle.calendar.specs.Calendar.{Date, date_of_day, date_rank, day_number, day_of_date, days_in, exists, pair_rank, year_held}
use Rattle.calendar.specs.Found.{found_date}
use Rattle.lists.proofs.ListLaws.{map_inv}
use Rattle.lists.proofs.Tests.{and_left, and_right}
use Rattle.text.specs.Bytes.{within}
use Rattle.calendar.specs.declared.dates.Date as held
use Rattle.std.specs.Prelude.{None, Some}

-- the date that the code holds
abbrev pub date_held : held.Date → Date
date_held d = record { year = d.year; month = d.month; day = d.day }

pub found_on : (o : Option Date) (h : held.Date) → found_date o ≡ Some h → o ≡ some (date_held h)
found_on none h e = absurd (let z : ◌≡◌ {A = ℕ} 0 1 = cc in omega arith)
found_on (some d) h e = ap (λ (x : held.Date). some (date_held x)) (cc)

pub found_none : (o : Option Date) → found_date o ≡ None → o ≡ none
found_none none e = refl
found_none (some d) e = absurd (let z : ◌≡◌ {A = ℕ} 0 1 = cc in omega arith)

-- a day that has a date is one of the year's days, and one that has none is not
module _ (y n : ℕ) where
  pub day_there : (d : Date) → date_of_day y n ≡ some d → (year_held y && within 1 (days_in y) n) ≡ true
  unfolding date_of_day
  day_there d h = go (year_held y && within 1 (days_in y) n) refl
    where
      go : (b : Bool) → (year_held y && within 1 (days_in y) n) ≡ b → (year_held y && within 1 (days_in y) n) ≡ true
      go true e = e
      go false e = absurd (let k : none ≡ some d = rw e at h in let z : ◌≡◌ {A = ℕ} 0 1 = cc in omega arith)

  pub day_not_there : date_of_day y n ≡ none → (year_held y && within 1 (days_in y) n) ≡ false
  day_not_there h = go (year_held y && within 1 (days_in y) n) refl
    where
      go : (b : Bool) → (year_held y && within 1 (days_in y) n) ≡ b → (year_held y && within 1 (days_in y) n) ≡ false
      go false e = e
      go true e =
          let in_year : within 1 (days_in y) n ≡ true = and_right (year_held y) (within 1 (days_in y) n) e in
          let f : Dated y n =
          dated y n (and_left (year_held y) (within 1 (days_in y) n) e) (within_low 1 (days_in y) n in_year) (within_high 1 (days_in y) n in_year) in
          absurd (let k : none ≡ some f.date = sym h ∙ f.found in let z : ◌≡◌ {A = ℕ} 0 1 = cc in omega arith)

-- a date that has a rank exists, and one that has none does not
module _ (d : Date) where
  pub rank_there : (r : ℕ) → date_rank d ≡ some r → exists d ≡ true
  unfolding date_rank
  rank_there r h = let (n, its, e) = map_inv (pair_rank d.year) (day_of_date d) r h in (numbered d n its).0

  pub rank_not_there : date_rank d ≡ none → exists d ≡ false
  unfolding date_rank
  rank_not_there h = go (exists d) refl
    where
      go : (b : Bool) → exists d ≡ b → exists d ≡ false
      go false e = e
      go true e =
          absurd (let k : some (pair_rank d.year (day_number d)) ≡ none = rw (day_of_real d e) at h in let z : ◌≡◌ {A = ℕ} 0 1 = cc in omega arith)
