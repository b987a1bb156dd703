-- The reserve of an accepted document covers every select that repeats no column, and is at most 60,021 (02, Q-9). Assumes nothing.
use Prim.Native.Nat.{◌*◌, ◌+◌, ◌<◌, ◌≤◌, suc, zero, zero-le, ℕ}
use borrow.Author.Tests.{eqb-false, eqb-true, leb-false, leb-true}
use lib.Dec.{eqb, leb}
use lib.ListN.{get_elem?, length, length-append}
use mathlib.Core.Bool.{Bool, ◌||◌, cond, false, true}
use mathlib.Core.List.{List, [], ◌++◌, ◌∷◌, flatten, map}
use mathlib.Core.Option.{Option, none-ne-some, some-injective, none, some}
use mathlib.Core.Path.{◌∙◌, ◌≡◌, ap, refl, subst, sym}
use native.Mathlib.Nat.{le_refl, le_trans, not-suc-le-zero}
use native.Mathlib.Omega.{arith}
use Rattle.document.proofs.Kept.{table_there}
use Rattle.document.proofs.RowsFit.{AllFit, Rows, accepted_rows, columns_count, count_at, rows_cost, values_cost}
use Rattle.document.specs.Check.{Accepted, check}
use Rattle.document.specs.Lookup.{column_of, columns_of, labelling_at, table_of}
use Rattle.document.specs.Open.{Opening, cell_open, open_to, row_withheld}
use Rattle.document.specs.Policy.{Column, Doc, Row, Table}
use Rattle.form.specs.Form.{Scheme}
use Rattle.answer.proofs.EndLines.{end_cost, end_short}
use Rattle.answer.proofs.RowLines.{AllBelow, Distinct, row_cost_lem, whole_length_lem}
use Rattle.answer.proofs.ValuesFilled.{accepted_filled, filled, rows_filled}
use Rattle.answer.specs.Answer.{answer_to, counted, end_line, is_passed, is_unmatched, is_withheld, line_of, row_line, row_lines, satisfies}
use Rattle.answer.specs.Ask.{Answered, answer_form, ask, ask_unbounded, if_fits}
use Rattle.answer.specs.Reserve.{IsReserve, SelectsOnce, greatest, larger, reserve_of, whole_length, whole_lengths, whole_line}
use Rattle.answer.specs.Seen.{Seen, rows_in, seen_in, seen_row, seen_rows, seen_values, shown, withheld}
use Rattle.purpose.specs.Members.{passing}
use Rattle.query.proofs.NamedColumns.{column_number}
use Rattle.query.proofs.Sources.{named_words_are}
use Rattle.query.specs.Authority.{Clock}
use Rattle.query.specs.Query.{Query, resolved, source_of, unknown_column, wanted_of}
use Rattle.query.specs.QueryForm.{QueryForm, Verb, Wanted, map_wanted, rows_of, selected, selected_words}
use Rattle.lists.proofs.ListLaws.{find_index_found, keep_length, there_some}
use Rattle.text.proofs.NameLaws.{same_name_sym, same_name_trans}
use Rattle.text.proofs.OffendingLaws.{leftmost_head, leftmost_tail, unless_none}
use Rattle.text.proofs.RefusalLaws.{accepted_same, bind_accepted, need_accepted, refuse_at_accepted, then_accepted}
use Rattle.lists.proofs.Tests.{and_left, and_right, neither_left, neither_right, true_not_false}
use Rattle.lists.specs.Lists.{all_of, any_of, count_of, holds_of, keep, member, or_zero, there}
use Rattle.text.specs.Names.{Name, same_name}
use Rattle.text.specs.Numbers.{Value}
use Rattle.text.specs.Offending.{missing, repeated, repeated_after}
use Rattle.text.specs.Refusal.{accepted, query}
use Rattle.text.specs.Words.{Word, is_called}

-- ---- the longest among the tables

larger_left : (m n : ℕ) → m ≤ larger m n
unfolding larger
larger_left m n = go (leb m n) refl
  where
    go : (b : Bool) → leb m n ≡ b → m ≤ cond b n m
    go true e = leb-true m n e
    go false e = le_refl m

larger_right : (m n : ℕ) → n ≤ larger m n
unfolding larger
larger_right m n = go (leb m n) refl
  where
    go : (b : Bool) → leb m n ≡ b → n ≤ cond b n m
    go true e = le_refl n
    go false e = omega (arith, leb-false m n e)

larger_least : (m n k : ℕ) → m ≤ k → n ≤ k → larger m n ≤ k
unfolding larger
larger_least m n k p q = go (leb m n)
  where
    go : (b : Bool) → cond b n m ≤ k
    go true = q
    go false = p

module _ (f : ℕ → ℕ) where
  -- what one table takes is no more than the greatest
  among_tables : (n t : ℕ) → t < n → f t ≤ greatest (map f (passing (λ _. true) n))
  unfolding greatest passing
  among_tables zero t h = absurd (not-suc-le-zero h)
  among_tables (suc n) t h = go (eqb t n) refl (among_tables n t)
    where
      go : (b : Bool) → eqb t n ≡ b → (t < n → f t ≤ greatest (map f (passing (λ _. true) n))) → f t ≤ larger (f n) (greatest (map f (passing (λ _. true) n)))
      go true e rest = subst (λ m. f t ≤ larger (f m) (greatest (map f (passing (λ _. true) n)))) (eqb-true t n e) (larger_left (f t) _)
      go false e rest =
          let d : t ≡ n → ⊥ = eqb-false t n e in
          let l : t < n = omega (arith, d, h) in
          omega (arith, rest l, larger_right (f n) (greatest (map f (passing (λ _. true) n))))

  -- where each takes at most k, so does the greatest
  greatest_least : (k n : ℕ) → ((t : ℕ) → f t ≤ k) → greatest (map f (passing (λ _. true) n)) ≤ k
  unfolding greatest passing
  greatest_least k zero h = zero-le
  greatest_least k (suc n) h = larger_least (f n) _ k (h n) (greatest_least k n h)

-- ---- at most 60,021

rows_count : (rs : List Row) → 7 * length rs ≤ rows_cost rs
unfolding rows_cost values_cost
rows_count [] = zero-le
rows_count (r ∷ rs) = omega (arith, rows_count rs)

-- the rows of a table are no more than all, and, with all their columns, no longer than their lines
table_rows : (t : ℕ) (rs : List Row) → length (flatten (map (λ r. whole_line r.values) (rows_in t rs))) ≤ rows_cost rs
unfolding rows_in keep rows_cost flatten
table_rows t [] = zero-le
table_rows t (r ∷ rs) = go (eqb r.table t) (table_rows t rs)
  where
    rest : List Row
    rest = keep (λ r. eqb r.table t) rs

    go : (b : Bool) → length (flatten (map (λ r. whole_line r.values) rest)) ≤ rows_cost rs
        → length (flatten (map (λ r. whole_line r.values) (cond b (r ∷ rest) rest))) ≤ values_cost r.values + rows_cost rs
    go true ih = unfold values_cost in omega (arith, ih, whole_length_lem r.values, length-append (whole_line r.values) (flatten (map (λ r. whole_line r.values) rest)))
    go false ih = omega (arith, ih)

whole_short : (rs : List Row) → rows_cost rs ≤ 60000 → (t : ℕ) → whole_length (rows_in t rs) ≤ 60021
unfolding whole_length counted
whole_short rs h t =
    let few : length (rows_in t rs) ≤ length rs = unfold rows_in in keep_length (λ (r : Row). eqb r.table t) rs in
    omega (
      arith,
      h,
      length-append (flatten (map (λ r. whole_line r.values) (rows_in t rs))) (end_line (length (rows_in t rs)) 0 0),
      table_rows t rs,
      end_short (length (rows_in t rs)) (omega (arith, few, rows_count rs, h)),
    )

reserve_short : (d : Doc) → rows_cost d.rows ≤ 60000 → reserve_of d ≤ 60021
unfolding reserve_of whole_lengths
reserve_short d h = greatest_least (λ t. whole_length (rows_in t d.rows)) 60021 (length d.policy.tables) (whole_short d.rows h)

-- ---- words without repeats name columns without repeats

-- the name of a column that may be there
abbrev name_at : Option Column → Name
name_at none = []
name_at (some c) = c.name

abbrev AllKnown : List Column → List Word → Type 0
AllKnown cols [] = Unit {0}
AllKnown cols (w ∷ ws) = (there (column_of cols w) ≡ true) × AllKnown cols ws

known_found : (cols : List Column) (w : Word) → there (column_of cols w) ≡ true → (same_name w.bytes (name_at (get_elem? cols (column_number cols w))) ≡ true) × (column_number cols w < length cols)
unfolding column_of
known_found cols w h =
    let i = find_index_found (λ (c : Column). is_called w c.name) cols (column_number cols w) (there_some (column_of cols w) h) in
    (go (get_elem? cols (column_number cols w)) i.0, i.1)
  where
    go : (o : Option Column) → holds_of (λ (x : Column). is_called w x.name) o ≡ true → same_name w.bytes (name_at o) ≡ true
    go none e = unfold holds_of in true_not_false e refl
    go (some x) e = unfold holds_of is_called in e

-- a word that none of the earlier ones equals names another column than they do
not_used : (cols : List Column) (w : Word) (earlier : List Word) → there (column_of cols w) ≡ true → AllKnown cols earlier → any_of (λ v. is_called w v.bytes) earlier ≡ false
    → member (column_number cols w) (map (column_number cols) earlier) ≡ false
unfolding member any_of is_called
not_used cols w [] h hs e = refl
not_used cols w (v ∷ vs) h hs e = go (not_used cols w vs h hs.1 (neither_right (same_name w.bytes v.bytes) _ e)) (eqb (column_number cols w) (column_number cols v)) refl
  where
    no_way : column_number cols w ≡ column_number cols v → ⊥
    no_way p =
        let found : same_name v.bytes (name_at (get_elem? cols (column_number cols w))) ≡ true = ap (λ (k : ℕ). same_name v.bytes (name_at (get_elem? cols k))) p ∙ (known_found cols v hs.0).0 in
        true_not_false (same_name_trans w.bytes _ v.bytes (known_found cols w h).0 (same_name_sym v.bytes _ found)) (neither_left (same_name w.bytes v.bytes) _ e)

    go : member (column_number cols w) (map (column_number cols) vs) ≡ false → (b : Bool) → eqb (column_number cols w) (column_number cols v) ≡ b → (b || member (column_number cols w) (map (column_number cols) vs)) ≡ false
    go ih true p = absurd (no_way (eqb-true _ _ p))
    go ih false p = ih

distinct_columns : (cols : List Column) (earlier ws : List Word) → AllKnown cols earlier → AllKnown cols ws → repeated_after earlier ws ≡ none → Distinct (map (column_number cols) earlier) (map (column_number cols) ws)
unfolding repeated_after
distinct_columns cols earlier [] he hs e = tt
distinct_columns cols earlier (w ∷ ws) he hs e = go (distinct_columns cols (w ∷ earlier) ws (hs.0, he) hs.1) (any_of (λ v. is_called w v.bytes) earlier) refl e
  where
    go : (repeated_after (w ∷ earlier) ws ≡ none → Distinct (column_number cols w ∷ map (column_number cols) earlier) (map (column_number cols) ws)) → (b : Bool) → any_of (λ v. is_called w v.bytes) earlier ≡ b
        → cond b (some w) (repeated_after (w ∷ earlier) ws) ≡ none → Distinct (map (column_number cols) earlier) (column_number cols w ∷ map (column_number cols) ws)
    go ih true p e = absurd (none-ne-some _ (sym e))
    go ih false p e = (not_used cols w earlier hs.0 he p, ih e)

below_columns : (cols : List Column) (ws : List Word) → AllKnown cols ws → AllBelow (length cols) (map (column_number cols) ws)
below_columns cols [] h = tt
below_columns cols (w ∷ ws) h = ((known_found cols w h.0).1, below_columns cols ws h.1)

all_known_lem : (cols : List Column) (ws vs : List Word) → missing (λ w. there (column_of cols w)) (ws ++ vs) ≡ none → AllKnown cols ws
unfolding missing
all_known_lem cols [] vs e = tt
all_known_lem cols (w ∷ ws) vs e = (unless_none _ w (leftmost_head _ _ e), all_known_lem cols ws vs (leftmost_tail _ _ e))

-- ---- the answer

-- the row is wide enough for the columns, and each of its values has a byte
abbrev Wide : List ℕ → Row → Type 0
Wide cs r = AllBelow (length r.values) cs × (all_of filled r.values ≡ true)

-- every row is
abbrev AllWide : List ℕ → List Row → Type 0
AllWide cs [] = Unit {0}
AllWide cs (r ∷ rs) = Wide cs r × AllWide cs rs

rows_wide : (cs : List ℕ) (t : ℕ) (ts : List Table) (rs : List Row) → AllBelow (count_at (get_elem? ts t)) cs → AllFit ts rs → rows_filled rs ≡ true → AllWide cs (rows_in t rs)
unfolding rows_in keep rows_filled all_of
rows_wide cs t ts [] b f h = tt
rows_wide cs t ts (r ∷ rs) b f h = go (eqb r.table t) refl (rows_wide cs t ts rs b f.1 (and_right (all_of filled r.values) _ h))
  where
    go : (x : Bool) → eqb r.table t ≡ x → AllWide cs (keep (λ r. eqb r.table t) rs)
        → AllWide cs (cond x (r ∷ keep (λ r. eqb r.table t) rs) (keep (λ r. eqb r.table t) rs))
    go true p ih = ((subst (λ (n : ℕ). AllBelow n cs) (ap (λ (i : ℕ). count_at (get_elem? ts i)) (sym (eqb-true r.table t p)) ∙ sym f.0.wide) b, and_left (all_of filled r.values) _ h), ih)
    go false p ih = ih

-- which rows are passed is a test of the values shown, and the columns are given
module _ (passes : List Value → Bool) (cs : List ℕ) where
  -- what the rows that are not passed are
  abbrev left : List Seen → ℕ
  left ss = count_of is_withheld ss + count_of (is_unmatched passes) ss

  -- what one row adds: its line, or a byte where it is not passed, takes no more than the row whole; and it counts once
  record Step (r : Row) (s : Seen) : Type 0 where
    line : (ss : List Seen) → length (flatten (map (line_of passes cs) (s ∷ ss))) + left (s ∷ ss) ≤ length (whole_line r.values) + (length (flatten (map (line_of passes cs) ss)) + left ss)
    count : (ss : List Seen) → count_of (is_passed passes) (s ∷ ss) + count_of is_withheld (s ∷ ss) + count_of (is_unmatched passes) (s ∷ ss)
        ≡ suc (count_of (is_passed passes) ss + count_of is_withheld ss + count_of (is_unmatched passes) ss)

  step_withheld : (r : Row) → Step r withheld
  unfolding line_of count_of keep is_withheld is_unmatched is_passed flatten
  step_withheld r = record { line = λ ss. omega (arith, whole_length_lem r.values); count = λ ss. omega arith }

  step_shown : (r : Row) (vs : List Value) → length (row_line cs vs) ≤ length (whole_line r.values) → Step r (shown vs)
  unfolding line_of count_of keep is_withheld is_unmatched is_passed flatten
  step_shown r vs h = go (passes vs) refl
    where
      go : (b : Bool) → passes vs ≡ b → Step r (shown vs)
      go true e = record {
        line = λ ss. rw e (unfold line_of count_of keep is_withheld is_unmatched is_passed flatten in omega (arith, length-append (row_line cs vs) (flatten (map (line_of passes cs) ss)), h));
        count = λ ss. rw e (unfold count_of keep is_withheld is_unmatched is_passed in omega arith);
      }
      go false e = record {
        line = λ ss. rw e (unfold line_of count_of keep is_withheld is_unmatched is_passed flatten in omega (arith, whole_length_lem r.values));
        count = λ ss. rw e (unfold count_of keep is_withheld is_unmatched is_passed in omega arith);
      }

  -- all rows together
  rows_cost_lem : (f : Row → Seen) → ((r : Row) → Wide cs r → Step r (f r)) → (rs : List Row) → AllWide cs rs
      → (length (flatten (map (line_of passes cs) (map f rs))) + left (map f rs) ≤ length (flatten (map (λ r. whole_line r.values) rs)))
      × (count_of (is_passed passes) (map f rs) + count_of is_withheld (map f rs) + count_of (is_unmatched passes) (map f rs) ≡ length rs)
  unfolding flatten
  rows_cost_lem f h [] w = unfold count_of keep flatten in (zero-le, refl)
  rows_cost_lem f h (r ∷ rs) w =
      let rest = rows_cost_lem f h rs w.1 in
      let s = h r w.0 in
      (omega (arith, s.line (map f rs), rest.0, length-append (whole_line r.values) (flatten (map (λ r. whole_line r.values) rs))), s.count (map f rs) ∙ ap suc rest.1)

  -- an answer over these rows is no longer than the one that gives them whole
  lines_cost : (v : Verb) (f : Row → Seen) → ((r : Row) → Wide cs r → Step r (f r)) → (rs : List Row) → AllWide cs rs
      → length (counted (row_lines passes (rows_of v cs) (map f rs)) (count_of (is_passed passes) (map f rs)) (count_of is_withheld (map f rs)) (count_of (is_unmatched passes) (map f rs))).bytes ≤ whole_length rs
  unfolding counted whole_length row_lines
  lines_cost v f h rs w =
      let ss : List Seen = map f rs in
      let c = rows_cost_lem f h rs w in
      let e : length (end_line (count_of (is_passed passes) ss + count_of is_withheld ss + count_of (is_unmatched passes) ss) 0 0) ≡ length (end_line (length rs) 0 0) = ap (λ (n : ℕ). length (end_line n 0 0)) c.1 in
      omega (
        arith,
        length-append (flatten (map (line_of passes cs) ss)) (end_line (count_of (is_passed passes) ss) (count_of is_withheld ss) (count_of (is_unmatched passes) ss)),
        length-append (flatten (map (λ r. whole_line r.values) rs)) (end_line (length rs) 0 0),
        end_cost (count_of (is_passed passes) ss) (count_of is_withheld ss) (count_of (is_unmatched passes) ss),
        c.0,
        e,
      )

  -- what is seen of a row is such a step
  seen_step : (is_open : Opening) (s : Scheme ℕ) (hs ns : List ℕ) → Distinct [] cs → (r : Row) → Wide cs r → Step r (seen_row is_open s hs ns r)
  unfolding seen_row
  seen_step is_open s hs ns u r b = go (row_withheld is_open s hs r.labels)
    where
      go : (t : Bool) → Step r (cond t withheld (shown (seen_values (cell_open is_open s r.labels) ns 0 r.values)))
      go true = step_withheld r
      go false = step_shown r _ (row_cost_lem (cell_open is_open s r.labels) ns cs r.values b.1 u b.0)

answer_cost : (d : Doc) (q : Query) (v : Verb) (cs : List ℕ) → q.wanted ≡ rows_of v cs → q.source.table < length d.policy.tables → Distinct [] cs → AllBelow (count_at (get_elem? d.policy.tables q.source.table)) cs
    → AllFit d.policy.tables d.rows → rows_filled d.rows ≡ true → length (answer_to q (seen_rows d q)).bytes ≤ reserve_of d
unfolding answer_to seen_rows seen_in reserve_of whole_lengths
answer_cost d q v cs w inside u b h g =
    let f : List Value → Bool = satisfies q in
    let see : Row → Seen = seen_row (open_to d.policy q.purpose) (labelling_at d.policy q.source.table) q.source.withholding q.source.named in
    let rs : List Row = rows_in q.source.table d.rows in
    le_trans
    (subst (λ (x : Wanted ℕ). length (counted (row_lines f x (map see rs)) (count_of (is_passed f) (map see rs)) (count_of is_withheld (map see rs)) (count_of (is_unmatched f) (map see rs))).bytes ≤ whole_length rs) (sym w)
    (lines_cost f cs v see (seen_step f cs (open_to d.policy q.purpose) (labelling_at d.policy q.source.table) q.source.withholding q.source.named u) rs (rows_wide cs q.source.table d.policy.tables d.rows b h g)))
    (among_tables (λ t. whole_length (rows_in t d.rows)) (length d.policy.tables) q.source.table inside)

-- a query for rows that repeats no column, over a document whose rows fit
select_cost : (d : Doc) (q : QueryForm) (v : Verb) (ws : List Word) → q.wanted ≡ rows_of v ws → repeated ws ≡ none → unknown_column d.policy q ≡ none → AllFit d.policy.tables d.rows → rows_filled d.rows ≡ true
    → length (answer_to (resolved d.policy q) (seen_rows d (resolved d.policy q))).bytes ≤ reserve_of d
unfolding repeated unknown_column selected_words selected map_wanted resolved source_of wanted_of columns_of
select_cost d q v ws c r k h g =
    answer_cost d (resolved d.policy q) v (map (column_number cols) ws) (ap (wanted_of cols) c)
    (table_there d.policy q.table (unless_none _ q.table (leftmost_head _ _ k)))
    (distinct_columns cols [] ws tt knows r)
    (subst (λ (n : ℕ). AllBelow n (map (column_number cols) ws)) (columns_count d.policy (or_zero (table_of d.policy q.table))) (below_columns cols ws knows)) h g
  where
    cols : List Column
    cols = columns_of d.policy q.table

    knows : AllKnown cols ws
    knows = all_known_lem cols ws _ (rw (named_words_are q, c) at (leftmost_head _ _ (leftmost_tail _ _ k)))

-- THE RESERVE: that of an accepted document does as one
pub reserve_covers : (doc : List ℕ) (x : Accepted) → check doc ≡ accepted x → IsReserve doc (reserve_of x.doc)
unfolding IsReserve SelectsOnce ask ask_unbounded if_fits answer_form
reserve_covers doc x is = (go, reserve_short x.doc rows.short)
  where
    rows : Rows x.doc 60000
    rows = accepted_rows doc x is

    go : (text : List ℕ) (c : Clock) (room : ℕ) (a : Answered) → SelectsOnce text → ask doc text c room ≡ accepted a → length a.answer.bytes ≤ reserve_of x.doc
    go text clock room a s e =
        let r = bind_accepted _ _ _ e in
        let b18 = then_accepted _ _ _ r.2 in
        let c = bind_accepted _ _ _ r.1 in
        let b10 = then_accepted _ _ _ c.2 in
        let b11 = bind_accepted _ _ _ b10.2 in
        let f12 = then_accepted _ _ _ b11.2 in
        let f13 = bind_accepted _ _ _ f12.2 in
        let f14 = bind_accepted _ _ _ f13.2 in
        let f15 = then_accepted _ _ _ f14.2 in
        let f16 = then_accepted _ _ _ f15.2 in
        let f27 = then_accepted _ _ _ f16.2 in
        let f31 = then_accepted _ _ _ f27.2 in
        let f17 = then_accepted _ _ _ f31.2 in
        let one_form : s.0 ≡ b11.0 = some-injective _ _ (sym s.3 ∙ need_accepted _ _ _ b11.1) in
        let one_doc : c.0.doc ≡ x.doc = ap (λ (y : Accepted). y.doc) (accepted_same (sym c.1 ∙ is)) in
        subst (λ (y : Answered). length y.answer.bytes ≤ reserve_of x.doc) (accepted_same f17.2 ∙ accepted_same b18.2)
        (subst (λ (d : Doc). length (answer_to (resolved c.0.doc.policy b11.0) (seen_rows c.0.doc (resolved c.0.doc.policy b11.0))).bytes ≤ reserve_of d) one_doc
        (select_cost c.0.doc b11.0 s.1 s.2 (ap (λ (q : QueryForm). q.wanted) (sym one_form) ∙ s.4) s.5 (refuse_at_accepted 15 query _ f15.1) (accepted_rows doc c.0 c.1).fit (accepted_filled doc c.0 c.1)))
