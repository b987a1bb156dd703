-- The values of a row, by their number. Assumes nothing.
use Prim.Native.Nat.{◌-◌, ◌<◌, ◌≤◌, ℕ}
use lib.ListN.{get_or-eq_default, drop_of_length-le, get_or, length}
use mathlib.Core.List.{List, []}
use mathlib.Core.Path.{◌∙◌, ◌≡◌, ap, sym}
use native.Mathlib.Omega.{arith}
use Rattle.answer.proofs.AccountedPairs.{pair_first, pair_second}
use Rattle.judging.specs.Pairs.{RowsHere, pair_in}
use Rattle.relations.specs.Tables.{Cut}
use Rattle.workspace.proofs.TabulatedLaws.{length_tabulated, tabulated_get_or}
use Rattle.workspace.specs.Tabulated.{tabulated}
use Rattle.relations.specs.Rows.{row_in, value_count_in, value_in, value_place_in}
use Rattle.text.proofs.Closings.{written_word}
use Rattle.text.specs.Words.{name_bytes, written_at}

-- n is the number of values that the code reads
pub value_in_lem : (text ws : List ℕ) (r c n : ℕ) → n ≡ value_count_in ws r → get_or (tabulated (value_in text ws r) n) c [] ≡ get_or (row_in text ws r).values c []
unfolding row_in
value_in_lem text ws r c n e = ap (λ m. get_or (tabulated (value_in text ws r) m) c []) e

-- at the end stands the empty value
value_end : (s : List ℕ) → written_at s (length s) ≡ []
unfolding name_bytes
value_end s =
    let l : length s ≤ length s = omega arith in
    let z : get_or s (length s) 0 ≡ 0 = get_or-eq_default s 0 l in
    written_word s (length s) (λ e. absurd (omega (arith, z, e))) ∙ rw (drop_of_length-le s l)

-- the value of a column stands in the text
pub value_place_lem : (text ws : List ℕ) (r width c p : ℕ) → c < width → p ≡ value_place_in ws r c → written_at text p ≡ get_or (tabulated (value_in text ws r) width) c []
value_place_lem text ws r width c p l e = ap (written_at text) e ∙ sym (tabulated_get_or (value_in text ws r) width c [] l)

-- past the last column stands none
pub no_value_lem : (text ws : List ℕ) (r width c : ℕ) → width ≤ c → get_or (tabulated (value_in text ws r) width) c [] ≡ []
no_value_lem text ws r width c l =
    let h : length (tabulated (value_in text ws r) width) ≤ c = omega (arith, l, length_tabulated (value_in text ws r) width) in
    get_or-eq_default (tabulated (value_in text ws r) width) [] h

-- past the last column it is the empty one
pub value_past : (text ws : List ℕ) (r width c : ℕ) → width ≤ c → written_at text (length text) ≡ get_or (tabulated (value_in text ws r) width) c []
value_past text ws r width c l = value_end text ∙ sym (no_value_lem text ws r width c l)

-- ---- a pair

module _ (text ws : List ℕ) (n i j c : ℕ) (here : RowsHere ws i j) where
  -- a column of the first table
  pub place_first : c < n → {w : ℕ} → Cut 16 i 1024 (value_count_in ws i) w → (p : ℕ) → (i < 1024 → w ≤ 16 → written_at text p ≡ get_or (tabulated (value_in text ws i) w) c []) → written_at text p ≡ get_or (pair_in text ws n i j) c []
  unfolding pair_in
  place_first l {w} cut p at =
      at here.first cut.few ∙ value_in_lem text ws i c w (cut.is here.first here.narrow)
      ∙ sym (pair_first n (row_in text ws i).values (row_in text ws j).values c l)

  -- one of the second
  pub place_second : n ≤ c → {w : ℕ} → Cut 16 j 1024 (value_count_in ws j) w → (p : ℕ) → (j < 1024 → w ≤ 16 → written_at text p ≡ get_or (tabulated (value_in text ws j) w) (c - n) []) → written_at text p ≡ get_or (pair_in text ws n i j) c []
  unfolding pair_in
  place_second l {w} cut p at =
      at here.second cut.few ∙ value_in_lem text ws j (c - n) w (cut.is here.second here.narrow_second)
      ∙ sym (pair_second n (row_in text ws i).values (row_in text ws j).values (c - n) c (omega (arith, l)))
