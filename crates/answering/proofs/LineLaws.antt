-- The lines of rows, with gaps or without: how long they are, and how they grow. Assumes nothing.
use Prim.Native.Nat.{◌*◌, ◌+◌, ◌<◌, ◌≤◌, suc, zero, ℕ}
use Rattle.answer.proofs.AccountedRows.{open_whole}
use Rattle.answer.specs.Answer.{row_line}
use Rattle.answer.specs.Exactly.{with_gaps}
use Rattle.answer.specs.Seen.{gap}
use Rattle.answering.specs.Lines.{Sizes, cell_shown, line_marked, lines_marked, row_shown, shown_in, spaced_values, values_in}
use Rattle.judging.proofs.ValueLaws.{no_value_lem}
use Rattle.judging.specs.Marking.{open_in}
use Rattle.judging.specs.declared.marking.Marking.{Marking}
use Rattle.relations.specs.Rows.{labels_in, value_count_in, value_in, value_place_in}
use Rattle.relations.specs.Tables.{Cut}
use Rattle.text.proofs.Lefts.{drop_here}
use Rattle.text.specs.Bytes.{ascii}
use Rattle.text.specs.Numbers.{Value}
use Rattle.workspace.proofs.TabulatedLaws.{tabulated_get_or, tabulated_more}
use Rattle.workspace.specs.Tabulated.{tabulated}
use Rattle.writing.proofs.Writing.{both, written_short, wrote_nothing}
use Rattle.writing.specs.Write.{Wrote}
use borrow.Author.Tests.{eqb-false, eqb-true, le-ltb, lt-ltb, ltb-false, ltb-true}
use lib.Dec.{eqb, ltb}
use lib.ListN.{drop, drop_of_length-le, get_or, length, length-append, replicate, set}
use lib.Seq.{get_or-set_other, get_or-set_same, set_out}
use mathlib.Core.Bool.{Bool, cond, false, true}
use mathlib.Core.List.{List, [], ◌++◌, ◌∷◌, append_assoc, append-nil, flatten}
use mathlib.Core.Path.{◌∙◌, ◌≡◌, ap, refl, subst, sym}
use native.Mathlib.Omega.{arith}

-- ---- the values of a row

module _ (text ws : List ℕ) (r : ℕ) where
  -- a value is no longer than the text
  pub values_fit : (k c : ℕ) → length (get_or (tabulated (value_in text ws r) k) c []) ≤ length text
  values_fit k c = go (ltb c k) refl
    where
      go : (b : Bool) → ltb c k ≡ b → length (get_or (tabulated (value_in text ws r) k) c []) ≤ length text
      go true e = omega (arith, ap length (tabulated_get_or (value_in text ws r) k c [] (ltb-true c k e)), written_short text (value_place_in ws r c))
      go false e = omega (arith, ap length (no_value_lem text ws r k c (ltb-false c k e)))

-- a closed cell that the row has is a gap
closed_gap : (o : ℕ → Bool) (i : ℕ) (vs : List Value) (k c : ℕ) → i + k ≡ c → o c ≡ false → k < length vs → get_or (with_gaps o i vs) k [] ≡ gap
unfolding with_gaps
closed_gap o i [] k c e h l = absurd (omega (arith, l))
closed_gap o i (v ∷ vs) zero c e h l = ap (λ n. cond (o n) v gap) (omega (arith, e)) ∙ ap (λ (b : Bool). cond b v gap) h
closed_gap o i (v ∷ vs) (suc k) c e h l = closed_gap o (suc i) vs k c (omega (arith, e)) h (omega (arith, l))

-- where it has none, nothing stands
missing_gap : (o : ℕ → Bool) (i : ℕ) (vs : List Value) (k : ℕ) → length vs ≤ k → get_or (with_gaps o i vs) k [] ≡ []
unfolding with_gaps
missing_gap o i [] k l = refl
missing_gap o i (v ∷ vs) zero l = absurd (omega (arith, l))
missing_gap o i (v ∷ vs) (suc k) l = missing_gap o (suc i) vs k (omega (arith, l))

-- a value with gaps is written so, by whether its cell is open
pub gapped_at : (o : ℕ → Bool) (vs : List Value) (c : ℕ) (b : Bool) → b ≡ o c → cell_shown b vs c ≡ get_or (with_gaps o 0 vs) c []
unfolding cell_shown
gapped_at o vs c true e = sym (open_whole o 0 vs c c (omega arith) (sym e))
gapped_at o vs c false e = go (ltb c (length vs)) refl
  where
    go : (b : Bool) → ltb c (length vs) ≡ b → cond (ltb c (length vs)) gap [] ≡ get_or (with_gaps o 0 vs) c []
    go true h = ap (λ (b : Bool). cond b gap []) h ∙ sym (closed_gap o 0 vs c c (omega arith) (sym e) (ltb-true c (length vs) h))
    go false h = ap (λ (b : Bool). cond b gap []) h ∙ sym (missing_gap o 0 vs c (ltb-false c (length vs) h))

-- bytes that are the same are written so
pub wrote_as : {before after : List ℕ} {at next : ℕ} {v w : List ℕ} → v ≡ w → Wrote before at v after next → Wrote before at w after next
wrote_as {before} {after} {at} {next} e x = subst (λ b. Wrote before at b after next) e x

-- the value of a cell as it is written
module _ (vs : List Value) (c : ℕ) {b : Bool} where
  pub cell_shown_lem : b ≡ true → get_or vs c [] ≡ cell_shown b vs c
  unfolding cell_shown
  cell_shown_lem e = ap (λ (x : Bool). cond x (get_or vs c []) (cond (ltb c (length vs)) gap [])) (sym e)

  module _ {width : ℕ} (e : b ≡ false) (many : length vs ≡ width) where
    cell_closed : cond (ltb c (length vs)) gap [] ≡ cell_shown b vs c
    unfolding cell_shown
    cell_closed = ap (λ (x : Bool). cond x (get_or vs c []) (cond (ltb c (length vs)) gap [])) (sym e)

    pub cell_gap : c < width → 45 ∷ [] ≡ cell_shown b vs c
    unfolding gap
    cell_gap l = ap (λ (x : Bool). cond x (45 ∷ []) []) (sym (lt-ltb c (length vs) (omega (arith, l, many)))) ∙ cell_closed

    pub cell_missing : width ≤ c → ◌≡◌ {A = Value} [] (cell_shown b vs c)
    cell_missing l = ap (λ (x : Bool). cond x gap []) (sym (le-ltb c (length vs) (omega (arith, l, many)))) ∙ cell_closed

-- the values as they are written, with gaps or without
module _ (os : List Bool) (m : Marking) (text ws : List ℕ) (r width : ℕ) where
  pub shown_gaps : {gaps : Bool} → gaps ≡ true → with_gaps (open_in os m (labels_in ws r)) 0 (values_in text ws r width) ≡ shown_in os m text ws gaps r width
  unfolding shown_in
  shown_gaps e = ap (λ (b : Bool). cond b (with_gaps (open_in os m (labels_in ws r)) 0 (values_in text ws r width)) (values_in text ws r width)) (sym e)

  pub shown_whole : {gaps : Bool} → gaps ≡ false → values_in text ws r width ≡ shown_in os m text ws gaps r width
  unfolding shown_in
  shown_whole e = ap (λ (b : Bool). cond b (with_gaps (open_in os m (labels_in ws r)) 0 (values_in text ws r width)) (values_in text ws r width)) (sym e)

  -- each is no longer than the text, or a gap
  shown_fit : length text ≤ 60000 → (gaps : Bool) (c : ℕ) → length (get_or (shown_in os m text ws gaps r width) c []) ≤ 60000
  unfolding shown_in cell_shown gap
  shown_fit small false c = omega (arith, small, values_fit text ws r width c)
  shown_fit small true c = go (open_in os m (labels_in ws r) c) refl
    where
      vs : List Value
      vs = values_in text ws r width

      missed : (b : Bool) → length (cond b gap []) ≤ 60000
      missed true = omega arith
      missed false = omega arith

      go : (b : Bool) → b ≡ open_in os m (labels_in ws r) c → length (get_or (with_gaps (open_in os m (labels_in ws r)) 0 vs) c []) ≤ 60000
      go true e = omega (arith, small, values_fit text ws r width c, ap length (gapped_at (open_in os m (labels_in ws r)) vs c true e))
      go false e = omega (arith, missed (ltb c (length vs)), ap length (gapped_at (open_in os m (labels_in ws r)) vs c false e))

module _ (vs : List Value) where
  -- the values in some columns are the first and the others
  pub spaced_more : (cs : List ℕ) (i : ℕ) → i < length cs → spaced_values (drop i cs) vs ≡ (32 ∷ get_or vs (get_or cs i 0) []) ++ spaced_values (drop (i + 1) cs) vs
  unfolding spaced_values flatten
  spaced_more cs i h = rw (drop_here cs i h)

  pub spaced_none : (cs : List ℕ) (i : ℕ) → length cs ≤ i → spaced_values (drop i cs) vs ≡ []
  unfolding spaced_values flatten
  spaced_none cs i h = rw (drop_of_length-le cs h)

  -- how long they are at most
  spaced_short : (cs : List ℕ) → ((c : ℕ) → length (get_or vs c []) ≤ 60000) → length (spaced_values cs vs) ≤ length cs * 60001
  unfolding spaced_values flatten
  spaced_short [] h = omega arith
  spaced_short (c ∷ cs) h = omega (arith, length-append (32 ∷ get_or vs c []) (spaced_values cs vs), h c, spaced_short cs h)

  pub row_short : (cs : List ℕ) → length cs ≤ 16 → ((c : ℕ) → length (get_or vs c []) ≤ 60000) → length (row_line cs vs) ≤ 960022
  unfolding row_line spaced_values
  row_short cs few h = omega (arith, few, spaced_short cs h, length-append (ascii "(row" ++ spaced_values cs vs) (ascii ")\n"))

-- ---- the sizes that are kept

-- none is
pub sizes_none : (vs : List Value) (n : ℕ) → Sizes vs (replicate n 0)
sizes_none vs n = record { each = λ c l. absurd (omega (arith, l, zeros n c)) }
  where
    zeros : (n c : ℕ) → ◌≡◌ {A = ℕ} (get_or (replicate n 0) c 0) 0
    zeros zero c = refl
    zeros (suc n) zero = refl
    zeros (suc n) (suc c) = zeros n c

-- one more is
pub sizes_more : (vs : List Value) (ns : List ℕ) (c n : ℕ) → Sizes vs ns → n ≡ length (get_or vs c []) → Sizes vs (set ns c n)
sizes_more vs ns c n h e = record { each = λ k. go k (eqb k c) refl }
  where
    same : (k : ℕ) → k ≡ c → (b : Bool) → ltb c (length ns) ≡ b → 0 < get_or (set ns c n) k 0 → get_or (set ns c n) k 0 ≡ length (get_or vs k [])
    same k q true t l = ap (λ (i : ℕ). get_or (set ns c n) i 0) q ∙ get_or-set_same ns c n 0 (ltb-true c (length ns) t) ∙ e ∙ ap (λ (i : ℕ). length (get_or vs i [])) (sym q)
    same k q false t l =
        let kept : set ns c n ≡ ns = set_out ns c n (ltb-false c (length ns) t) in
        ap (λ (z : List ℕ). get_or z k 0) kept ∙ h.each k (subst (λ (z : List ℕ). 0 < get_or z k 0) kept l)

    go : (k : ℕ) (b : Bool) → eqb k c ≡ b → 0 < get_or (set ns c n) k 0 → get_or (set ns c n) k 0 ≡ length (get_or vs k [])
    go k true t l = same k (eqb-true k c t) (ltb c (length ns)) refl l
    go k false t l =
        let kept = get_or-set_other ns c k n 0 (eqb-false k c t) in
        kept ∙ h.each k (subst (λ (z : ℕ). 0 < z) kept l)

-- ---- lines

module _ (os : List Bool) (m : Marking) (text ws : List ℕ) (gaps : Bool) (cs : List ℕ) (r : ℕ) {marked : Bool} where
  -- the line of a marked row
  pub line_written : {before after : List ℕ} {at next width : ℕ} → r < 1024 → marked ≡ true → Cut 16 r 1024 (value_count_in ws r) width
      → Wrote before at (row_line cs (shown_in os m text ws gaps r width)) after next → value_count_in ws r ≤ 16 → Wrote before at (line_marked (row_shown os m text ws gaps) cs r marked) after next
  unfolding line_marked
  line_written {before} {after} {at} {next} inside is cut w n =
      subst (λ b. Wrote before at (line_marked (row_shown os m text ws gaps) cs r b) after next) (sym is) (subst (λ k. Wrote before at (row_line cs (shown_in os m text ws gaps r k)) after next) (cut.is inside n) w)

  -- another row has none
  pub line_none : (before : List ℕ) (at : ℕ) → marked ≡ false → Wrote before at (line_marked (row_shown os m text ws gaps) cs r marked) before at
  unfolding line_marked
  line_none before at is = subst (λ b. Wrote before at (line_marked (row_shown os m text ws gaps) cs r b) before at) (sym is) (wrote_nothing before at)

flatten_last : (ls : List (List ℕ)) (l : List ℕ) → flatten (ls ++ (l ∷ [])) ≡ flatten ls ++ l
unfolding flatten
flatten_last [] l = append-nil l
flatten_last (x ∷ ls) l = ap (λ y. x ++ y) (flatten_last ls l) ∙ sym (append_assoc x (flatten ls) l)

module _ (values : ℕ → List Value) (cs : List ℕ) (marks : List Bool) where
  -- the lines of one row more
  marked_more : (k : ℕ) → lines_marked values cs marks (k + 1) ≡ lines_marked values cs marks k ++ line_marked values cs k (get_or marks k false)
  unfolding lines_marked
  marked_more k = ap flatten (tabulated_more line k) ∙ flatten_last (tabulated line k) (line k)
    where
      line : ℕ → List ℕ
      line r = line_marked values cs r (get_or marks r false)

  pub lines_start : (d : List ℕ) → Wrote d 0 (lines_marked values cs marks 0) d 0
  unfolding lines_marked tabulated flatten
  lines_start d = wrote_nothing d 0

  pub lines_more : {d e f : List ℕ} (k : ℕ) {m n : ℕ} → Wrote d 0 (lines_marked values cs marks k) e m → Wrote e m (line_marked values cs k (get_or marks k false)) f n
      → Wrote d 0 (lines_marked values cs marks (k + 1)) f n
  lines_more {d} {f} k {n} v w = subst (λ l. Wrote d 0 l f n) (sym (marked_more k)) (both v w)

  module _ (few : length cs ≤ 16) (fit : (r c : ℕ) → length (get_or (values r) c []) ≤ 60000) where
    -- how long a line is at most
    line_short : (r : ℕ) (b : Bool) → length (line_marked values cs r b) ≤ 960022
    unfolding line_marked
    line_short r true = row_short (values r) cs few (fit r)
    line_short r false = omega arith

    -- and how long so many lines are
    marked_short : (k : ℕ) → length (lines_marked values cs marks k) ≤ k * 960022
    unfolding lines_marked tabulated flatten
    marked_short zero = omega arith
    marked_short (suc k) =
        let e : suc k ≡ k + 1 = omega arith in
        omega (arith, marked_short k, ap (λ n. length (lines_marked values cs marks n)) e, ap length (marked_more k), length-append (lines_marked values cs marks k) (line_marked values cs k (get_or marks k false)), line_short k (get_or marks k false))

-- so long are those of a document's rows
pub lines_short : (os : List Bool) (m : Marking) (text ws : List ℕ) (gaps : Bool) (cs : List ℕ) (marks : List Bool) → length text ≤ 60000 → length cs ≤ 16 → (k : ℕ) → length (lines_marked (row_shown os m text ws gaps) cs marks k) ≤ k * 960022
lines_short os m text ws gaps cs marks small few k = marked_short (row_shown os m text ws gaps) cs marks few (λ r c. shown_fit os m text ws r (value_count_in ws r) small gaps c) k
