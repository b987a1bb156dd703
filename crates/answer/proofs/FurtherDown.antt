-- Rows given further down (02, Q-6), over what a document and a query mean: what a select is answered for P, it is answered
-- for every Q below P. Assumes nothing.
use Prim.Native.Nat.{◌≤◌, suc, ℕ}
use mathlib.Core.Bool.{Bool, cond, false, true}
use mathlib.Core.List.{List, Sublistᴰ, [], ◌++◌, ◌∷◌, flatten, map}
use mathlib.Core.Logic.{◌⊎◌, inl, inr}
use mathlib.Core.Option.{Option, some}
use mathlib.Core.Path.{◌∙◌, ◌≡◌, ap, refl, subst, sym}
use native.Mathlib.Omega.{arith}
use Rattle.document.proofs.OpenLaws.{Wider, column_open_more, row_withheld_less, shown_open, table_open_more}
use Rattle.document.specs.Lookup.{labelling_at, purpose_of}
use Rattle.document.specs.Open.{Opening, cell_open, column_open, open_to, row_withheld, table_open}
use Rattle.document.specs.Policy.{Doc, Row, tree_of}
use Rattle.form.specs.Form.{Scheme}
use Rattle.answer.proofs.AcceptedOrRefused.{answered, is_answered}
use Rattle.answer.specs.Answer.{answer_to, counted, is_withheld, line_of, row_line, row_lines, satisfies}
use Rattle.answer.specs.Ask.{Answered, answer_form}
use Rattle.answer.specs.Ranged.{ranged_column, ranged_word}
use Rattle.answer.specs.Seen.{Seen, gap, rows_in, seen_in, seen_row, seen_rows, seen_value, seen_values, shown, withheld}
use Rattle.lists.proofs.Tests.{true_not_false}
use Rattle.lists.specs.Lists.{count_of, member, or_zero}
use Rattle.purpose.specs.Compliance.{descends}
use Rattle.query.proofs.Below.{for_purpose, grant_below, open_down, parts_down, party_down, resolved_down, to_purpose}
use Rattle.query.proofs.NamedAll.{all_withhold}
use Rattle.query.proofs.NamedColumns.{columns_known, names_parts, parts_open}
use Rattle.query.proofs.WantedLaws.{gaps_map}
use Rattle.query.specs.Authority.{Clock, first_grant}
use Rattle.query.specs.Query.{PartsOpen, Query, missing_date, mistyped_query, resolved, unknown_column, wanted_of}
use Rattle.query.specs.QueryForm.{QueryForm, Verb, has_gaps, named_refs, named_words, rows_of, selected_refs, selected_words, tested_refs}
use Rattle.text.specs.Numbers.{Value}
use Rattle.text.specs.Refusal.{accepted}
use Rattle.text.specs.Words.{Word}

-- the passed rows, each by its values in the named columns
unfoldable pub passed_rows : (List Value → Bool) → List Seen → List (List Value)
passed_rows passes [] = []
passed_rows passes (withheld ∷ rs) = passed_rows passes rs
passed_rows passes (shown vs ∷ rs) = cond (passes vs) (vs ∷ passed_rows passes rs) (passed_rows passes rs)

-- ---- what is seen further down

-- each row is withheld in the first list, or seen alike in both
data Further : List Seen → List Seen → Type 0 where
  over : Further [] []
  hidden : (s : Seen) {ss ts : List Seen} → Further ss ts → Further (withheld ∷ ss) (s ∷ ts)
  alike : (s : Seen) {ss ts : List Seen} → Further ss ts → Further (s ∷ ss) (s ∷ ts)

map_further : (f g : Row → Seen) → ((r : Row) → (f r ≡ withheld) ⊎ (f r ≡ g r)) → (rs : List Row) → Further (map f rs) (map g rs)
map_further f g h [] = over
map_further f g h (r ∷ rs) = go (h r) (map_further f g h rs)
  where
    go : (f r ≡ withheld) ⊎ (f r ≡ g r) → Further (map f rs) (map g rs) → Further (map f (r ∷ rs)) (map g (r ∷ rs))
    go (inl e) rest = rw e (hidden (g r) rest)
    go (inr e) rest = rw e (alike (g r) rest)

further_withheld : {ss ts : List Seen} → Further ss ts → count_of is_withheld ts ≤ count_of is_withheld ss
unfolding count_of is_withheld
further_withheld over = omega arith
further_withheld (hidden withheld r) = let l = further_withheld r in omega arith
further_withheld (hidden (shown vs) r) = let l = further_withheld r in omega arith
further_withheld (alike withheld r) = let l = further_withheld r in omega arith
further_withheld (alike (shown vs) r) = further_withheld r

further_rows : (passes : List Value → Bool) {ss ts : List Seen} → Further ss ts → Sublistᴰ (passed_rows passes ss) (passed_rows passes ts)
unfolding passed_rows
further_rows passes over = Sublistᴰ.slnil
further_rows passes (hidden withheld r) = further_rows passes r
further_rows passes (hidden (shown vs) {ss} {ts} r) = go (passes vs) (further_rows passes r)
  where
    go : (b : Bool) → Sublistᴰ (passed_rows passes ss) (passed_rows passes ts) → Sublistᴰ (passed_rows passes ss) (cond b (vs ∷ passed_rows passes ts) (passed_rows passes ts))
    go true rest = Sublistᴰ.cons rest
    go false rest = rest
further_rows passes (alike withheld r) = further_rows passes r
further_rows passes (alike (shown vs) {ss} {ts} r) = go (passes vs) (further_rows passes r)
  where
    go : (b : Bool) → Sublistᴰ (passed_rows passes ss) (passed_rows passes ts) → Sublistᴰ (cond b (vs ∷ passed_rows passes ss) (passed_rows passes ss)) (cond b (vs ∷ passed_rows passes ts) (passed_rows passes ts))
    go true rest = Sublistᴰ.cons-cons refl rest
    go false rest = rest

-- a query for rows prints those that pass
pub rows_printed : (passes : List Value → Bool) (v : Verb) (cs : List ℕ) (rs : List Seen) → row_lines passes (rows_of v cs) rs ≡ flatten (map (row_line cs) (passed_rows passes rs))
unfolding row_lines passed_rows flatten line_of
rows_printed passes v cs [] = refl
rows_printed passes v cs (withheld ∷ rs) = rows_printed passes v cs rs
rows_printed passes v cs (shown vs ∷ rs) = go (passes vs) (rows_printed passes v cs rs)
  where
    go : (b : Bool) → row_lines passes (rows_of v cs) rs ≡ flatten (map (row_line cs) (passed_rows passes rs))
        → cond b (row_line cs vs) [] ++ flatten (map (line_of passes cs) rs) ≡ flatten (map (row_line cs) (cond b (vs ∷ passed_rows passes rs) (passed_rows passes rs)))
    go true e = ap (λ l. row_line cs vs ++ l) e
    go false e = e

-- values are seen alike where the named cells are open both times
seen_open : (o o' : ℕ → Bool) (ns : List ℕ) → ((c : ℕ) → member c ns ≡ true → (o c ≡ true) × (o' c ≡ true)) → (i : ℕ) (vs : List Value) → seen_values o ns i vs ≡ seen_values o' ns i vs
unfolding seen_values seen_value
seen_open o o' ns h i [] = refl
seen_open o o' ns h i (v ∷ vs) = λ j. go (member i ns) refl j ∷ seen_open o o' ns h (suc i) vs j
  where
    go : (b : Bool) → member i ns ≡ b → cond b (cond (o i) v gap) [] ≡ cond b (cond (o' i) v gap) []
    go true e = rw ((h i e).0, (h i e).1)
    go false e = refl

-- where more labels are open, each row of an open table with open columns, of which all that are named withhold, is withheld before or
-- seen as before
module _ (is_open is_open' : Opening) (wider : Wider is_open is_open') (s : Scheme ℕ) (ns : List ℕ)
    (open_table : table_open is_open s ≡ true) (open_columns : (c : ℕ) → member c ns ≡ true → column_open is_open s c ≡ true) where
  both_open : (r : Row) → row_withheld is_open s ns r.labels ≡ false → row_withheld is_open' s ns r.labels ≡ false
      → (c : ℕ) → member c ns ≡ true → (cell_open is_open s r.labels c ≡ true) × (cell_open is_open' s r.labels c ≡ true)
  both_open r e f c m = (
    shown_open is_open s ns r.labels open_table open_columns e c m,
    shown_open is_open' s ns r.labels (table_open_more is_open is_open' wider s open_table) (λ k n. column_open_more is_open is_open' wider s k (open_columns k n)) f c m,
  )

  row_further : (r : Row) → (seen_row is_open s ns ns r ≡ withheld) ⊎ (seen_row is_open s ns ns r ≡ seen_row is_open' s ns ns r)
  unfolding seen_row
  row_further r = go (row_withheld is_open s ns r.labels) (row_withheld is_open' s ns r.labels) refl refl
    where
      go : (a b : Bool) → row_withheld is_open s ns r.labels ≡ a → row_withheld is_open' s ns r.labels ≡ b
          → (seen_row is_open s ns ns r ≡ withheld) ⊎ (seen_row is_open s ns ns r ≡ seen_row is_open' s ns ns r)
      go true b e f = inl (rw e)
      go false false e f = inr (rw (e, f) (ap shown (seen_open (cell_open is_open s r.labels) (cell_open is_open' s r.labels) ns (both_open r e f) 0 r.values)))
      go false true e f = true_not_false (row_withheld_less is_open is_open' wider s ns r.labels f) e

seen_further : (d : Doc) (q : Query) (p : ℕ) → q.source.withholding ≡ q.source.named → PartsOpen d.policy q
    → Wider (open_to d.policy q.purpose) (open_to d.policy p)
    → Further (seen_rows d q) (seen_rows d (to_purpose p q))
unfolding seen_rows seen_in to_purpose
seen_further d q p all open_parts wider =
    subst (λ hs. Further (seen_by hs q.purpose) (seen_by hs p)) (sym all)
    (map_further _ _ (row_further (open_to d.policy q.purpose) (open_to d.policy p) wider (labelling_at d.policy q.source.table) q.source.named open_parts.table open_parts.columns) (rows_in q.source.table d.rows))
  where
    seen_by : List ℕ → ℕ → List Seen
    seen_by hs p = map (seen_row (open_to d.policy p) (labelling_at d.policy q.source.table) hs q.source.named) (rows_in q.source.table d.rows)

-- ---- the theorem

module _ (d : Doc) (q : QueryForm) (w : Word) (p : ℕ) (is_p : purpose_of d.policy w ≡ some p)
    (below : descends (tree_of d.policy.purposes) p (or_zero (purpose_of d.policy q.purpose)) ≡ true) where
  -- Where no gaps are left, Q's answer has P's rows in the same order, perhaps with others between, and withholds no more rows.
  pub further_down : has_gaps q.wanted ≡ false → (c : Clock) (r : Answered) → answer_form d c q ≡ accepted r
      → (s : Answered) × (answer_form d c (for_purpose w q) ≡ accepted s)
      × Sublistᴰ (passed_rows (satisfies (resolved d.policy q)) (seen_rows d (resolved d.policy q)))
      (passed_rows (satisfies (resolved d.policy q)) (seen_rows d (resolved d.policy (for_purpose w q))))
      × (s.answer.withheld ≤ r.answer.withheld)
  unfolding answer_to counted for_purpose unknown_column mistyped_query named_words named_refs selected_refs tested_refs selected_words or_zero ranged_column ranged_word missing_date
  further_down whole c r h =
      let a = answered d c q r h in
      let parts = names_parts d.policy q (columns_known d.policy q a.columns) in
      let g = grant_below d.policy _ p below c a.user a.grant a.authorised in
      let s : Answered = record { answer = answer_to (resolved d.policy (for_purpose w q)) (seen_rows d (resolved d.policy (for_purpose w q))); grant = g.0 } in
      let f : Further (seen_rows d (resolved d.policy q)) (seen_rows d (to_purpose p (resolved d.policy q))) =
      seen_further d (resolved d.policy q) p (all_withhold (resolved d.policy q) parts (unfold resolved wanted_of in gaps_map _ q.wanted ∙ whole)) (parts_open d.policy q a.columns a.parts) (unfold resolved in open_down d.policy q w p is_p below) in (
        s,
        is_answered d c (for_purpose w q) s (record {
          user = a.user;
          grant = g.0;
          party = party_down d.policy q w p is_p below a.party;
          has_role = a.has_role;
          authorised = ap (λ x. first_grant d.policy c a.user (or_zero x)) is_p ∙ g.1;
          columns = a.columns;
          types = a.types;
          ranges = a.ranges;
          dates = a.dates;
          parts = parts_down d.policy q w p is_p below a.parts;
          is = refl;
        }),
        rw (resolved_down d.policy q w p is_p below) (further_rows (satisfies (resolved d.policy q)) f),
        rw (resolved_down d.policy q w p is_p below, a.is) (further_withheld f),
      )
