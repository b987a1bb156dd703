-- A date that is written out is read back, wherever its text stands. Assumes nothing.
use Prim.Native.Nat.{◌+◌, ◌-◌, ◌<◌, ◌^◌, ◌≤◌, ℕ}
use mathlib.Core.Bool.{false, true}
use mathlib.Core.List.{List, ◌++◌, ◌∷◌, append_assoc}
use mathlib.Core.Path.{◌∙◌, ◌≡◌, ap, refl, subst}
use native.Mathlib.Omega.{arith}
use Rattle.calendar.proofs.Conversions.{Real, held_years, real}
use Rattle.calendar.proofs.DayLaws.{on}
use Rattle.calendar.proofs.MonthLaws.{days_few, month_span}
use Rattle.calendar.specs.Calendar.{Date, exists}
use Rattle.calendar.specs.Computing.{computing}
use Rattle.calendar.specs.DateText.{date_parts, date_text, date_written, natural}
use Rattle.text.proofs.DecimalLaws.{decimal_reads}
use Rattle.text.proofs.ReadBack.{Reads, bind_reads, bracketed_reads, give_reads, next_reads}
use Rattle.text.specs.Bytes.{first_byte, is_name_byte}
use Rattle.text.specs.Numbers.{decimal, rank_of}

natural_reads : (n : ℕ) (rest : List ℕ) → n < 2 ^ 63 → is_name_byte (first_byte rest) ≡ false → Reads (λ (k : ℕ). k) natural (decimal n ++ rest) n rest
unfolding natural rank_of
natural_reads n rest h k =
    let back : 2 ^ 63 + n - 2 ^ 63 ≡ n = omega arith in
    bind_reads (decimal_reads n rest h k) (λ y p. give_reads (y - 2 ^ 63) rest (ap (λ (x : ℕ). x - 2 ^ 63) p ∙ back))

no_name_byte : (is_name_byte 32 ≡ false) × (is_name_byte 41 ≡ false)
unfolding computing
no_name_byte = (refl, refl)

-- a day of a month is no large number
day_small : (d : Date) → Real d → d.day ≤ 366
day_small d r = omega (arith, r.day_high, month_span d.year d.month r.month_low r.month_high, days_few d.year d.month)

pub written_reads : (d : Date) (rest : List ℕ) → exists d ≡ true → Reads (λ (x : Date). x) date_text (date_written d ++ rest) d rest
unfolding date_text date_parts date_written
written_reads d rest h =
    let r : Real d = real d h in
    let y : List ℕ = decimal d.year in
    let m : List ℕ = decimal d.month in
    let n : List ℕ = decimal d.day in
    let grouped : 40 ∷ (y ++ (32 ∷ (m ++ (32 ∷ (n ++ (41 ∷ rest)))))) ≡ date_written d ++ rest = simp append_assoc in
    subst (λ (bs : List ℕ). Reads (λ (x : Date). x) date_text bs d rest) grouped
    (bracketed_reads
    (bind_reads (natural_reads d.year (32 ∷ (m ++ (32 ∷ (n ++ (41 ∷ rest))))) (omega (arith, (held_years d.year r.held).1)) no_name_byte.0) (λ a p.
    bind_reads (next_reads (natural_reads d.month (32 ∷ (n ++ (41 ∷ rest))) (omega (arith, r.month_high)) no_name_byte.0)) (λ b q.
    bind_reads (next_reads (natural_reads d.day (41 ∷ rest) (omega (arith, day_small d r)) no_name_byte.1)) (λ c s.
    give_reads (on a b c) (41 ∷ rest)
    (ap (λ (x : ℕ). on x b c) p ∙ ap (λ (x : ℕ). on d.year x c) q ∙ ap (λ (x : ℕ). on d.year d.month x) s))))))
