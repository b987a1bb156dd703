-- The value of a cell: it stands as it is written, and is read back so. Assumes nothing.
use Prim.Native.Nat.{◌+◌, ◌-◌, ◌^◌, ℕ}
use borrow.Author.Tests.{eqb-false, eqb-true}
use lib.Dec.{eqb}
use lib.ListN.{drop, get_or, length, length-append, length-drop, take}
use mathlib.Core.Bool.{Bool, ◌||◌, cond, false, true}
use mathlib.Core.List.{List, [], ◌++◌, ◌∷◌}
use mathlib.Core.Option.{Option, none, some}
use mathlib.Core.Path.{◌∙◌, ◌≡◌, ap, refl, sym}
use native.Mathlib.Omega.{arith}
use Rattle.calendar.proofs.DateValues.{DateShape, enclosed_date, is_date_lem, part_reads, stands}
use Rattle.calendar.proofs.DayLaws.{on}
use Rattle.calendar.specs.Calendar.{Date}
use Rattle.calendar.specs.CellValues.{cell_value, enclosed_value, is_cell_value}
use Rattle.calendar.specs.DateText.{date_of, date_parts, date_text, is_date, natural}
use Rattle.lists.proofs.Tests.{and_both, and_left, and_right, or_cases, or_left, or_right, true_not_false}
use Rattle.lists.specs.Lists.{all_of, there}
use Rattle.text.proofs.ByteLaws.{name_name_bytes, name_value, value_name_bytes}
use Rattle.text.proofs.CellValues.{bracket_no_value, name_no_number, number_fails, number_here, range_begins, take_front, value_begins, written_reads, written_some}
use Rattle.text.proofs.Closings.{written_end, written_word}
use Rattle.text.proofs.CodeLaws.{written_ends}
use Rattle.text.proofs.Enclosed.{Enclosed, enclosed_at, enclosed_whole, finds_enclosed}
use Rattle.text.proofs.EndLaws.{end_none}
use Rattle.text.proofs.Forward.{Forward, forward}
use Rattle.text.proofs.RangeLaws.{RangeText, closing_range, forward_range, is_range_lem, range_reads, range_spelled, range_text, range_whole}
use Rattle.text.proofs.ReadBack.{Gives, Reads, gives, gives_there, left, next_reads, number_reads, placeless, value_reads}
use Rattle.text.proofs.ReaderLaws.{Eats, eats_cond, eats_if_next, eats_word_that}
use Rattle.text.proofs.Spaces.{if_here, if_not}
use Rattle.text.proofs.WalkingLaws.{Finds, finds_if, finds_word}
use Rattle.text.proofs.WordLaws.{word_read}
use Rattle.text.proofs.Written.{Printed, Spells, spells_cond, spells_if_next, spells_more, spells_whole, spells_word_that}
use Rattle.text.specs.Amounts.{Range, is_range, range, range_of}
use Rattle.text.specs.Brackets.{bracketed, next}
use Rattle.text.specs.Bytes.{first_byte, is_digit, is_letter, is_name_byte}
use Rattle.text.specs.CodeEnds.{word_end}
use Rattle.text.specs.Names.{Name, is_name}
use Rattle.text.specs.Numbers.{Value, is_value, rank}
use Rattle.text.specs.Reader.{Left, Reader, ◌>>=◌, ◌>>◌, and_then, byte, from, give, if_next}
use Rattle.text.specs.Walking.{word_end_at, written_end_at}
use Rattle.text.specs.Words.{Word, plain_word, read_number, value, word_of, written, written_at, written_of}
use Rattle.std.specs.Prelude.{None, Some}

-- a name or a number is one
pub value_cell : (v : List ℕ) → is_value v ≡ true → is_cell_value v ≡ true
unfolding is_cell_value
value_cell v h = or_left (is_value v) (is_range v || is_date v) h

pub name_cell : (n : Name) → is_name n ≡ true → is_cell_value n ≡ true
name_cell n h = value_cell n (name_value n h)

-- so are all of a list
pub values_cells : (vs : List Value) → all_of is_value vs ≡ true → all_of is_cell_value vs ≡ true
unfolding all_of
values_cells [] h = refl
values_cells (v ∷ vs) h = and_both (is_cell_value v) (all_of is_cell_value vs) (value_cell v (and_left (is_value v) (all_of is_value vs) h)) (values_cells vs (and_right (is_value v) (all_of is_value vs) h))

-- ---- values in brackets: ranges and dates

pub enclosed_range : Enclosed RangeText range
enclosed_range = record {
  spelled = range_spelled;
  goes = forward_range;
  reads = λ r v rest t. range_reads t rest;
  opens = λ r v rest t. ap (λ (w : List ℕ). first_byte (w ++ rest)) t.is;
  closes = λ r v rest t. closing_range t rest;
}

pub range_cell : (r : Range) (v : List ℕ) → RangeText r v → is_cell_value v ≡ true
unfolding is_cell_value is_range there
range_cell r v t = or_right (is_value v) (is_range v || is_date v) (or_left (is_range v) (is_date v) (ap there (range_whole t)))

pub date_cell : (d : Date) (v : List ℕ) → DateShape d v → is_cell_value v ≡ true
unfolding is_cell_value is_date date_of there
date_cell d v t = or_right (is_value v) (is_range v || is_date v) (or_right (is_range v) (is_date v) (ap there (enclosed_whole DateShape date_text enclosed_date d v t)))

-- what the two tests say
range_there : (v : List ℕ) → is_range v ≡ true → there (range_of v) ≡ true
unfolding is_range
range_there v h = h

date_there : (v : List ℕ) → is_date v ≡ true → there (date_of v) ≡ true
unfolding is_date
date_there v h = h

-- the bytes of a value are a name's or a number's, a range's, or a date's
pub cell_cases : {C : Type 0} (v : List ℕ) → is_cell_value v ≡ true → (is_value v ≡ true → C) → ((r : Range) → RangeText r v → C) → ((d : Date) → DateShape d v → C) → C
unfolding is_cell_value
cell_cases {C} v h plainly ranged dated = or_cases (is_value v) (is_range v || is_date v) h plainly (λ e. or_cases (is_range v) (is_date v) e (λ k. a_range (range_of v) refl (range_there v k)) (λ k. a_date (date_of v) refl (date_there v k)))
  where
    a_range : (o : Option Range) → range_of v ≡ o → there o ≡ true → C
    a_range none e f = unfold there in true_not_false f refl
    a_range (some r) e f = ranged r (range_text v r e)

    a_date : (o : Option Date) → date_of v ≡ o → there o ≡ true → C
    a_date none e f = unfold there in true_not_false f refl
    a_date (some d) e f = dated d (spells_whole DateShape date_text enclosed_date.spelled v d (unfold date_of in e))

-- what is read as one was written so, and takes its bytes
module _ {A : Type 0} (T : A → List ℕ → Type 0) (R : Reader A) (p : Enclosed T R) (fits : (a : A) (v : List ℕ) → T a v → is_cell_value v ≡ true) where
  prints_written : Spells (Printed (λ w. w.bytes) (λ w. is_cell_value w.bytes)) (written R)
  unfolding written
  prints_written l w l' h =
      let a = written_some R l w l' h in
      let x = p.spelled l a.0 l' a.1 in
      let e : w.bytes ≡ x.read = ap (λ (v : Word). v.bytes) a.2 ∙ ap (λ (bs : List ℕ). take (length bs - length l'.bytes) bs) x.stood ∙ take_front x.read l'.bytes in
      record { read = x.read; stood = x.stood; spells = record { is = sym e; fit = ap is_cell_value e ∙ fits a.0 x.read x.spells } }

  eats_written : Eats (λ w. length w.bytes) (written R)
  unfolding written
  eats_written l w l' h =
      let a = written_some R l w l' h in
      let q = p.goes l a.0 l' a.1 in
      let x = p.spelled l a.0 l' a.1 in
      let e : length w.bytes ≡ length x.read = ap (λ (v : Word). length v.bytes) a.2 ∙ ap (λ (bs : List ℕ). length (take (length bs - length l'.bytes) bs)) x.stood ∙ ap length (take_front x.read l'.bytes) in
      let n : length l.bytes ≡ length x.read + length l'.bytes = ap length x.stood ∙ length-append x.read l'.bytes in
      let m : length l'.bytes ≡ length (drop q.n l.bytes) = ap (λ (k : Left). length k.bytes) q.skipped in
      record { n = q.n; enough = omega (arith, e, n, m, q.within, length-drop q.n l.bytes); within = q.within; skipped = q.skipped }

prints_enclosed : Spells (Printed (λ w. w.bytes) (λ w. is_cell_value w.bytes)) enclosed_value
unfolding enclosed_value
prints_enclosed l w l' h =
    spells_cond (Printed (λ w. w.bytes) (λ w. is_cell_value w.bytes)) (there (range l)) (written range) (written date_text)
    (prints_written RangeText range enclosed_range range_cell) (prints_written DateShape date_text enclosed_date date_cell) l w l' h

pub prints_cell_value : Spells (Printed (λ w. w.bytes) (λ w. is_cell_value w.bytes)) cell_value
unfolding cell_value
prints_cell_value =
    spells_if_next _ 40 enclosed_value value prints_enclosed
    (spells_more _ (Printed (λ w. w.bytes) (λ w. is_value w.bytes)) value (λ w bs x. record { is = x.is; fit = value_cell w.bytes x.fit }) (spells_word_that is_value))

eats_enclosed : Eats (λ w. length w.bytes) enclosed_value
unfolding enclosed_value
eats_enclosed l w l' h =
    eats_cond (λ w. length w.bytes) (there (range l)) (written range) (written date_text)
    (eats_written RangeText range enclosed_range range_cell) (eats_written DateShape date_text enclosed_date date_cell) l w l' h

pub eats_cell_value : Eats (λ w. length w.bytes) cell_value
unfolding cell_value
eats_cell_value = eats_if_next (λ w. length w.bytes) 40 enclosed_value value eats_enclosed (eats_word_that is_value)

pub forward_cell_value : Forward cell_value
forward_cell_value = forward (λ w. length w.bytes) cell_value eats_cell_value

-- ---- no text is both

-- a date is read as no range
module _ {d : Date} {v : List ℕ} (t : DateShape d v) (rest : List ℕ) (at : ℕ) where
  behind_second : (low : ℕ) {m : ℕ} {o : Option (ℕ × Left)} → Gives (λ (n : ℕ). n) m (32 ∷ (t.third ++ 41 ∷ rest)) o
      → and_then {A = Range} {B = Range} (and_then o (λ b. give {A = Range} (record { low = low; high = b }))) (λ x. byte 41 >> give x) ≡ none
  unfolding byte
  behind_second low (gives p) = refl

  behind_first : {m : ℕ} {o : Option (ℕ × Left)} → Gives (λ (n : ℕ). n) m (32 ∷ (t.second ++ 32 ∷ (t.third ++ 41 ∷ rest))) o
      → and_then {A = Range} {B = Range} (and_then o (λ a. next read_number >>= (λ b. give {A = Range} (record { low = a; high = b })))) (λ x. byte 41 >> give x) ≡ none
  behind_first (gives {y} {at = j} p) = behind_second y ((next_reads (number_reads t.second (32 ∷ (t.third ++ 41 ∷ rest)) t.is_month.k t.is_month.ranked (unfold is_name_byte is_letter is_digit in refl))).from j)

  pub date_no_range : range (left at (v ++ rest)) ≡ none
  unfolding range bracketed byte
  date_no_range =
      ap (λ (bs : List ℕ). range (left at bs)) (stands d v rest t)
      ∙ behind_first ((number_reads t.first (32 ∷ (t.second ++ 32 ∷ (t.third ++ 41 ∷ rest))) t.is_year.k t.is_year.ranked (unfold is_name_byte is_letter is_digit in refl)).from (at + 1))

-- ---- what is written so is read

module _ (v rest : List ℕ) where
  enclosed_reads_range : (r : Range) → RangeText r v → Reads placeless enclosed_value (v ++ rest) (plain_word v) rest
  unfolding enclosed_value
  enclosed_reads_range r t = record { from = λ at. go at (there (range (left at (v ++ rest)))) (gives_there ((range_reads t rest).from at)) }
    where
      go : (at : ℕ) (b : Bool) → b ≡ true → Gives placeless (plain_word v) rest (cond b (written range) (written date_text) (left at (v ++ rest)))
      go at true e = (written_reads v rest (range_reads t rest)).from at
      go at false e = true_not_false e refl

  enclosed_reads_date : (d : Date) → DateShape d v → Reads placeless enclosed_value (v ++ rest) (plain_word v) rest
  unfolding enclosed_value there
  enclosed_reads_date d t = record { from = λ at. go at (there (range (left at (v ++ rest)))) (ap there (date_no_range t rest at)) }
    where
      go : (at : ℕ) (b : Bool) → b ≡ false → Gives placeless (plain_word v) rest (cond b (written range) (written date_text) (left at (v ++ rest)))
      go at true e = true_not_false refl e
      go at false e = (written_reads v rest (enclosed_date.reads d v rest t)).from at

  bracket_reads : eqb (first_byte (v ++ rest)) 40 ≡ true → Reads placeless enclosed_value (v ++ rest) (plain_word v) rest → Reads placeless cell_value (v ++ rest) (plain_word v) rest
  unfolding cell_value if_next
  bracket_reads e r = record { from = λ at. go at (eqb (first_byte (v ++ rest)) 40) e }
    where
      go : (at : ℕ) (b : Bool) → b ≡ true → Gives placeless (plain_word v) rest (cond b enclosed_value value (left at (v ++ rest)))
      go at true f = r.from at
      go at false f = true_not_false f refl

  plainly_reads : is_value v ≡ true → is_name_byte (first_byte rest) ≡ false → Reads placeless cell_value (v ++ rest) (plain_word v) rest
  unfolding cell_value if_next
  plainly_reads e k = record { from = λ at. go at (eqb (first_byte (v ++ rest)) 40) (value_begins v rest e) }
    where
      go : (at : ℕ) (b : Bool) → b ≡ false → Gives placeless (plain_word v) rest (cond b enclosed_value value (left at (v ++ rest)))
      go at true f = true_not_false refl f
      go at false f = (value_reads v rest e k).from at

  pub cell_value_reads : is_cell_value v ≡ true → is_name_byte (first_byte rest) ≡ false → Reads placeless cell_value (v ++ rest) (plain_word v) rest
  cell_value_reads h k =
      cell_cases v h (λ e. plainly_reads e k) (λ r t. bracket_reads (range_begins t rest) (enclosed_reads_range r t))
      (λ d t. bracket_reads (ap (λ (b : ℕ). eqb b 40) (enclosed_date.opens d v rest t)) (enclosed_reads_date d t))

-- ---- values by position

finds_enclosed_value : (s : List ℕ) → Finds s enclosed_value (written_of s) (written_end_at s)
unfolding enclosed_value
finds_enclosed_value s = record { found = λ at w l h. go at w l (there (range (from s at))) h }
  where
    go : (at : ℕ) (w : Word) (l : Left) (t : Bool) → cond t (written range) (written date_text) (from s at) ≡ some (w, l) → (w ≡ written_of s at) × (l ≡ from s (written_end_at s at))
    go at w l true h = (finds_enclosed RangeText range enclosed_range s).found at w l h
    go at w l false h = (finds_enclosed DateShape date_text enclosed_date s).found at w l h

-- the value of a cell that is read at a position is what is written there, and ends where that ends
pub finds_cell_value : (s : List ℕ) → Finds s cell_value (written_of s) (written_end_at s)
unfolding cell_value
finds_cell_value s = record { found = λ at w l h. go at w l (eqb (get_or s at 0) 40) refl ((finds_if (finds_enclosed_value s) 40 (finds_word s is_value)).found at w l h) }
  where
    go : (at : ℕ) (w : Word) (l : Left) (t : Bool) → eqb (get_or s at 0) 40 ≡ t
        → (w ≡ cond (eqb (get_or s at 0) 40) (written_of s at) (word_of s at)) × (l ≡ from s (cond (eqb (get_or s at 0) 40) (written_end_at s at) (word_end_at s at)))
        → (w ≡ written_of s at) × (l ≡ from s (written_end_at s at))
    go at w l true k h = rw k at h
    go at w l false k h =
        let g : (w ≡ word_of s at) × (l ≡ from s (word_end_at s at)) = rw k at h in
        (g.0 ∙ ap (λ (bs : List ℕ). record { at = at; bytes = bs }) (sym (written_word s at (eqb-false _ _ k))), g.1 ∙ ap (from s) (sym (written_end s at (eqb-false _ _ k))))

-- ---- `(v L)` is neither range nor date

module _ (at : ℕ) where
  -- nor is what opens with two brackets
  twice_fails : (bs : List ℕ) → (range (left at (40 ∷ (40 ∷ bs))) ≡ none) × (date_text (left at (40 ∷ (40 ∷ bs))) ≡ none)
  unfolding range date_text date_parts natural bracketed byte rank all_of is_name_byte is_letter is_digit
  twice_fails bs = (rw (number_fails [] (40 ∷ bs) refl refl refl (at + 1)), rw (number_fails [] (40 ∷ bs) refl refl refl (at + 1)))

  module _ (l rest : List ℕ) (k : is_name l ≡ true) where
    part_here : (j : ℕ) → next natural (left j (32 ∷ (l ++ 41 ∷ rest))) ≡ none
    unfolding next byte natural is_name_byte is_letter is_digit
    part_here j = rw (number_fails l (41 ∷ rest) (name_no_number l k) (name_name_bytes l k) refl (j + 1))

    module _ (v : List ℕ) (h : is_value v ≡ true) where
      -- where v is no number
      unread : rank v ≡ none → read_number (left (at + 1) (v ++ 32 ∷ (l ++ 41 ∷ rest))) ≡ none
      unfolding is_name_byte is_letter is_digit
      unread e = number_fails v (32 ∷ (l ++ 41 ∷ rest)) e (value_name_bytes v h) refl (at + 1)

      value_no_pair : range (left at (40 ∷ (v ++ 32 ∷ (l ++ 41 ∷ rest)))) ≡ none
      unfolding range bracketed byte is_name_byte is_letter is_digit
      value_no_pair = go (rank v) refl
        where
          low_only : {m : ℕ} {o : Option (ℕ × Left)} → Gives (λ (n : ℕ). n) m (32 ∷ (l ++ 41 ∷ rest)) o
              → and_then {A = Range} {B = Range} (and_then o (λ a. next read_number >>= (λ b. give {A = Range} (record { low = a; high = b })))) (λ x. byte 41 >> give x) ≡ none
          low_only (gives {at = j} p) = rw (number_here l rest k j)

          go : (o : Option ℕ) → rank v ≡ o → range (left at (40 ∷ (v ++ 32 ∷ (l ++ 41 ∷ rest)))) ≡ none
          go none e = rw (unread e)
          go (some m) e = low_only ((number_reads v (32 ∷ (l ++ 41 ∷ rest)) m e refl).from (at + 1))

      value_no_triple : date_text (left at (40 ∷ (v ++ 32 ∷ (l ++ 41 ∷ rest)))) ≡ none
      unfolding date_text date_parts bracketed byte is_name_byte is_letter is_digit
      value_no_triple = go (rank v) refl
        where
          year_only : {m : ℕ} {o : Option (ℕ × Left)} → Gives (λ (n : ℕ). n) m (32 ∷ (l ++ 41 ∷ rest)) o
              → and_then {A = Date} {B = Date} (and_then o (λ y. next natural >>= (λ m. next natural >>= (λ n. give {A = Date} (on y m n))))) (λ x. byte 41 >> give x) ≡ none
          year_only (gives {at = j} p) = rw (part_here j)

          go : (o : Option ℕ) → rank v ≡ o → date_text (left at (40 ∷ (v ++ 32 ∷ (l ++ 41 ∷ rest)))) ≡ none
          go none e = unfold natural in rw (unread e)
          go (some m) e = year_only ((part_reads (m - 2 ^ 63) v (32 ∷ (l ++ 41 ∷ rest)) (record { k = m; ranked = e; part = refl }) refl).from (at + 1))

-- where neither is read, no value is read behind a bracket
bracket_fails : (at : ℕ) (bs : List ℕ) → (range (left at (40 ∷ bs)) ≡ none) × (date_text (left at (40 ∷ bs)) ≡ none) → cell_value (left at (40 ∷ bs)) ≡ none
unfolding cell_value enclosed_value written if_next there
bracket_fails at bs h = rw (h.0, h.1)

-- `(v L)` is read as no value
pub cell_value_fails : (l rest : List ℕ) → is_name l ≡ true → (at : ℕ) (v : List ℕ) → is_cell_value v ≡ true → cell_value (left at (40 ∷ (v ++ 32 ∷ (l ++ 41 ∷ rest)))) ≡ none
cell_value_fails l rest k at v h = cell_cases v h
    (λ e. bracket_fails at _ (value_no_pair at l rest k v e, value_no_triple at l rest k v e))
    (λ r t. doubled t.is)
    (λ d t. doubled t.is)
  where
    doubled : {bs : List ℕ} → v ≡ 40 ∷ bs → cell_value (left at (40 ∷ (v ++ 32 ∷ (l ++ 41 ∷ rest)))) ≡ none
    doubled {bs} e = ap (λ (w : List ℕ). cell_value (left at (40 ∷ (w ++ 32 ∷ (l ++ 41 ∷ rest))))) e ∙ bracket_fails at (40 ∷ (bs ++ 32 ∷ (l ++ 41 ∷ rest))) (twice_fails at (bs ++ 32 ∷ (l ++ 41 ∷ rest)))

-- ---- as code finds one

module _ (s : List ℕ) (at : ℕ) where
  -- a range stands there
  pub enclosed_range_end : (e : ℕ) → word_end (range (from s at)) ≡ Some e → Some e ≡ word_end (enclosed_value (from s at))
  unfolding enclosed_value
  enclosed_range_end e h = go (range (from s at)) refl
    where
      go : (o : Option (Range × Left)) → range (from s at) ≡ o → Some e ≡ word_end (cond (there o) (written range) (written date_text) (from s at))
      go none k = let z : None ≡ Some e = sym (ap word_end k) ∙ h in let y : ◌≡◌ {A = ℕ} 0 1 = cc in absurd (omega arith)
      go (some r) k = unfold there in sym h ∙ written_ends range s at

  -- none does: a date may
  pub enclosed_date_end : word_end (range (from s at)) ≡ None → word_end (enclosed_value (from s at)) ≡ word_end (date_text (from s at))
  unfolding enclosed_value there
  enclosed_date_end h = ap (λ (t : Bool). word_end (cond t (written range) (written date_text) (from s at))) (ap there (end_none range s at h)) ∙ sym (written_ends date_text s at)

  -- a value that is written there is read, and ends where it ends
  pub written_cell : is_cell_value (written_at s at) ≡ true → word_end (cell_value (from s at)) ≡ Some (written_end_at s at)
  unfolding cell_value is_cell_value word_end_at
  written_cell h = go (eqb (get_or s at 0) 40) refl
    where
      opened : get_or s at 0 ≡ 40 → word_end (enclosed_value (from s at)) ≡ Some (written_end_at s at) → word_end (if_next 40 enclosed_value value (from s at)) ≡ Some (written_end_at s at)
      opened b e = ap word_end (if_here 40 enclosed_value value s at b) ∙ e

      ranged : (o : Option (Range × Left)) → range (from s at) ≡ o → there o ≡ true → word_end (if_next 40 enclosed_value value (from s at)) ≡ Some (written_end_at s at)
      ranged none e k = unfold there in true_not_false k refl
      ranged (some r) e k = let x = enclosed_at RangeText range enclosed_range s at r.0 r.1 e in opened x.opened (sym (enclosed_range_end (written_end_at s at) (ap word_end x.read)))

      dated : (o : Option (Date × Left)) → date_text (from s at) ≡ o → there o ≡ true → word_end (if_next 40 enclosed_value value (from s at)) ≡ Some (written_end_at s at)
      dated none e k = unfold there in true_not_false k refl
      dated (some r) e k =
          let x = enclosed_at DateShape date_text enclosed_date s at r.0 r.1 e in
          let n : range (from s at) ≡ none = ap (λ (bs : List ℕ). range (left at bs)) x.stood ∙ date_no_range x.text (drop (written_end_at s at) s) at in
          opened x.opened (enclosed_date_end (ap word_end n) ∙ ap word_end x.read)

      plainly : is_value (written_at s at) ≡ true → (t : Bool) → eqb (get_or s at 0) 40 ≡ t → word_end (if_next 40 enclosed_value value (from s at)) ≡ Some (written_end_at s at)
      plainly e true k = true_not_false e (bracket_no_value s at (eqb-true _ _ k))
      plainly e false k =
          let n = eqb-false _ _ k in
          ap word_end (if_not 40 enclosed_value value s at n ∙ word_read s at is_value (ap is_value (sym (written_word s at n)) ∙ e)) ∙ ap Some (sym (written_end s at n))

      go : (t : Bool) → eqb (get_or s at 0) 40 ≡ t → word_end (if_next 40 enclosed_value value (from s at)) ≡ Some (written_end_at s at)
      go t k = or_cases (is_value (written_at s at)) (is_range (written_at s at) || is_date (written_at s at)) h (λ e. plainly e t k) (λ e.
          or_cases (is_range (written_at s at)) (is_date (written_at s at)) e (λ f. ranged (range (from s at)) refl (sym (is_range_lem s at) ∙ f)) (λ f. dated (date_text (from s at)) refl (sym (is_date_lem s at) ∙ f)))
