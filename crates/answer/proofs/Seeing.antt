-- Two lists of rows that differ only in values that are free to differ are seen alike by every query that is not refused.
-- Assumes nothing.
use Prim.Native.Nat.{suc, zero, ℕ}
use lib.Dec.{eqb}
use lib.ListN.{get_or}
use mathlib.Core.Bool.{Bool, ◌&&◌, cond, false, not, true}
use mathlib.Core.List.{List, [], ◌∷◌, map}
use mathlib.Core.Option.{Option, none, some}
use mathlib.Core.Path.{◌∙◌, ◌≡◌, ap, refl, sym}
use Rattle.document.specs.Lookup.{column_of, columns_of, labelling_at, purpose_of, table_of, user_of}
use Rattle.document.specs.Open.{Opening, cell_open, open_to, row_withheld}
use Rattle.document.specs.Policy.{Policy, Row}
use Rattle.form.specs.Form.{Scheme}
use Rattle.answer.specs.Alike.{SameOrFree, differs, done, free, same, sees}
use Rattle.answer.specs.Answer.{answer_to}
use Rattle.answer.specs.Ask.{answer_form}
use Rattle.answer.specs.Ranged.{has_range, ranged_at, ranged_column, ranged_word}
use Rattle.answer.specs.Seen.{Seen, gap, rows_in, seen_in, seen_row, seen_rows, seen_value, seen_values, shown, withheld}
use Rattle.query.proofs.NamedColumns.{purpose_known, source_known}
use Rattle.query.specs.Authority.{Clock, first_grant}
use Rattle.query.specs.Query.{Source, closed_part, missing_date, mistyped_query, resolved, sources, unknown_column, unknown_party}
use Rattle.query.specs.QueryForm.{QueryForm, admits_ranges, named_words}
use Rattle.text.proofs.RefusalLaws.{bind_cong, refuse_at_accepted, then_cong}
use Rattle.lists.proofs.Tests.{true_not_false}
use Rattle.lists.specs.Lists.{any_of, holds_of, keep, member, or_zero}
use Rattle.text.specs.Amounts.{is_range}
use Rattle.text.specs.Numbers.{Value}
use Rattle.text.specs.Offending.{missing}
use Rattle.text.specs.Refusal.{◌>>◌, accepted, need, pointing, query, refuse_at}
use Rattle.text.specs.Words.{Word}

-- two rows of one table with the same labels, whose values are the same or free to differ
pub record RowAlike (d : Policy) (q : Option QueryForm) (r s : Row) : Type 0 where
  pub table : s.table ≡ r.table
  pub labels : s.labels ≡ r.labels
  pub values : SameOrFree (free d q r) 0 r.values s.values

pub data RowsAlike (d : Policy) (q : Option QueryForm) : List Row → List Row → Type 0 where
  no_rows : RowsAlike d q [] []
  row_and : {r s : Row} {rs ss : List Row} → RowAlike d q r s → RowsAlike d q rs ss → RowsAlike d q (r ∷ rs) (s ∷ ss)

-- values that are free only where no column is named or the cell is closed are seen alike
seen_values_same : (f o : ℕ → Bool) (ns : List ℕ) → ((c : ℕ) → f c ≡ true → (member c ns && o c) ≡ false) → {c : ℕ} {vs ws : List Value} → SameOrFree f c vs ws
    → seen_values o ns c vs ≡ seen_values o ns c ws
unfolding seen_values seen_value
seen_values_same f o ns h done = refl
seen_values_same f o ns h (same {c} v r) = ap (λ l. seen_value o ns c v ∷ l) (seen_values_same f o ns h r)
seen_values_same f o ns h (differs {c} v w e k r) = λ i. unseen (member c ns) (o c) (h c e) i ∷ seen_values_same f o ns h r i
  where
    unseen : (named opened : Bool) → (named && opened) ≡ false → cond named (cond opened v gap) [] ≡ cond named (cond opened w gap) []
    unseen false opened k = refl
    unseen true false k = refl
    unseen true true k = true_not_false refl k

-- two rows are seen alike, if values are free only where no column is named, the cell is closed or the row is withheld
seen_row_same : (is_open : Opening) (s : Scheme ℕ) (hs ns : List ℕ) (f : ℕ → Bool) (x y : Row) → y.labels ≡ x.labels
    → SameOrFree f 0 x.values y.values
    → (row_withheld is_open s hs x.labels ≡ false → (c : ℕ) → f c ≡ true → (member c ns && cell_open is_open s x.labels c) ≡ false)
    → seen_row is_open s hs ns x ≡ seen_row is_open s hs ns y
unfolding seen_row
seen_row_same is_open s hs ns f x y e v h = rw e (go (row_withheld is_open s hs x.labels) refl)
  where
    go : (b : Bool) → row_withheld is_open s hs x.labels ≡ b
        → cond b withheld (shown (seen_values (cell_open is_open s x.labels) ns 0 x.values)) ≡ cond b withheld (shown (seen_values (cell_open is_open s x.labels) ns 0 y.values))
    go true w = refl
    go false w = ap shown (seen_values_same f (cell_open is_open s x.labels) ns (h w) v)

-- rows that are kept alike and seen alike
pub mapped_same : {d : Policy} {q : Option QueryForm} {A : Type 0} (k : Row → Bool) (f : Row → A)
    → ((r s : Row) → RowAlike d q r s → k r ≡ k s)
    → ((r s : Row) → RowAlike d q r s → k r ≡ true → f r ≡ f s)
    → {rs ss : List Row} → RowsAlike d q rs ss → map f (keep k rs) ≡ map f (keep k ss)
unfolding keep
mapped_same k f same_k same_f no_rows = refl
mapped_same k f same_k same_f (row_and {r} {s} {rs} {ss} a as') = go (k r) refl (mapped_same k f same_k same_f as')
  where
    go : (b : Bool) → k r ≡ b → map f (keep k rs) ≡ map f (keep k ss) → map f (keep k (r ∷ rs)) ≡ map f (keep k (s ∷ ss))
    go true e rest = rw (← same_k r s a, e, same_f r s a e, rest)
    go false e rest = rw (← same_k r s a, e, rest)

-- in a row that is not withheld, of the one table that the query reads, a value that is free to differ is not named or its cell is
-- closed: it is not seen
free_unseen : (d : Policy) (q : QueryForm) (x : Source) (r : Row) (p : ℕ) → purpose_of d q.purpose ≡ some p → sources d q ≡ x ∷ []
    → eqb r.table x.table ≡ true → row_withheld (open_to d p) (labelling_at d x.table) x.withholding r.labels ≡ false
    → (c : ℕ) → free d (some q) r c ≡ true → (member c x.named && cell_open (open_to d p) (labelling_at d x.table) r.labels c) ≡ false
unfolding free holds_of any_of sees
free_unseen d q x r p is_p is_x here w c f = go _ refl
  where
    go : (b : Bool) → (member c x.named && cell_open (open_to d p) (labelling_at d x.table) r.labels c) ≡ b
        → (member c x.named && cell_open (open_to d p) (labelling_at d x.table) r.labels c) ≡ false
    go false e = e
    go true e = true_not_false f (simp (is_p, is_x, here, w, e))

module _ (d : Policy) (q : QueryForm) (known_party : unknown_party d q ≡ none) (known_columns : unknown_column d q ≡ none) where
  -- the table that the query reads
  abbrev source : Source
  source = (resolved d q).source

  -- what is seen of one of its rows
  abbrev seen : Row → Seen
  seen = seen_row (open_to d (resolved d q).purpose) (labelling_at d source.table) source.withholding source.named

  -- a row of the queried table is seen alike
  row_seen : (x y : Row) → RowAlike d (some q) x y → eqb x.table source.table ≡ true → seen x ≡ seen y
  row_seen x y a e =
      seen_row_same (open_to d (resolved d q).purpose) (labelling_at d source.table) source.withholding source.named (free d (some q) x) x y a.labels a.values
      (free_unseen d q source x (resolved d q).purpose (purpose_known d q known_party) (source_known d q known_columns) e)

  -- alike rows are seen alike
  pub seen_same : {rs ss : List Row} → RowsAlike d (some q) rs ss → seen_rows (record { policy = d; rows = rs }) (resolved d q) ≡ seen_rows (record { policy = d; rows = ss }) (resolved d q)
  unfolding seen_rows seen_in rows_in
  seen_same a = mapped_same (λ r. eqb r.table source.table) seen (λ x y b. rw b.table) row_seen a

-- alike values are ranges in the same columns
ranges_alike : {f : ℕ → Bool} {c : ℕ} {vs ws : List Value} → SameOrFree f c vs ws → (k : ℕ) → is_range (get_or vs k []) ≡ is_range (get_or ws k [])
ranges_alike done k = refl
ranges_alike (same v r) zero = refl
ranges_alike (same v r) (suc k) = ranges_alike r k
ranges_alike (differs v w e h r) zero = h
ranges_alike (differs v w e h r) (suc k) = ranges_alike r k

-- so alike rows have ranges in the same columns
ranged_same : {d : Policy} {q : Option QueryForm} (t c : ℕ) {rs ss : List Row} → RowsAlike d q rs ss → any_of (ranged_at c) (rows_in t rs) ≡ any_of (ranged_at c) (rows_in t ss)
unfolding rows_in keep any_of ranged_at
ranged_same t c no_rows = refl
ranged_same t c (row_and {r} {s} {rs} {ss} a as') = go (eqb r.table t) refl (ranged_same t c as')
  where
    go : (b : Bool) → eqb r.table t ≡ b → any_of (ranged_at c) (rows_in t rs) ≡ any_of (ranged_at c) (rows_in t ss)
        → any_of (ranged_at c) (rows_in t (r ∷ rs)) ≡ any_of (ranged_at c) (rows_in t (s ∷ ss))
    go true e rest = unfold rows_in keep any_of ranged_at in rw (a.table, e, ranges_alike a.values c, rest)
    go false e rest = unfold rows_in keep any_of ranged_at in rw (a.table, e, rest)

-- and 27 is the same of both documents
range_fault : (d : Policy) (rs ss : List Row) (q : QueryForm) → RowsAlike d (some q) rs ss → ranged_column (record { policy = d; rows = rs }) q ≡ ranged_column (record { policy = d; rows = ss }) q
unfolding ranged_column ranged_word has_range
range_fault d rs ss q a = λ i. cond (admits_ranges q.wanted) none (missing (λ w. not (ranged_same (or_zero (table_of d q.table)) (or_zero (column_of (columns_of d q.table) w)) a i)) (named_words q))

-- Documents of one policy whose rows differ only in free values give the query the same outcome.
pub same_outcome : (d : Policy) (rs ss : List Row) (c : Clock) (q : QueryForm) → RowsAlike d (some q) rs ss
    → answer_form (record { policy = d; rows = rs }) c q ≡ answer_form (record { policy = d; rows = ss }) c q
unfolding answer_form
same_outcome d rs ss c q a =
    then_cong (refuse_at 12 query (unknown_party d q)) _ _ (λ _ party.
    bind_cong (need (user_of d q.user q.role) (pointing 13 query q.role)) _ _ (λ u _.
    bind_cong (need (first_grant d c u (or_zero (purpose_of d q.purpose))) (pointing 14 query q.purpose)) _ _ (λ g _.
    then_cong (refuse_at 15 query (unknown_column d q)) _ _ (λ _ columns.
    then_cong (refuse_at 16 query (mistyped_query d q)) _ _ (λ _ _.
    ap (λ (o : Option Word). refuse_at 27 query o >> (refuse_at 31 query (missing_date q) >> (refuse_at 17 query (closed_part d q) >> accepted (record { answer = answer_to (resolved d q) (seen_rows (record { policy = d; rows = rs }) (resolved d q)); grant = g })))) (range_fault d rs ss q a)
    ∙ then_cong (refuse_at 27 query (ranged_column (record { policy = d; rows = ss }) q)) _ _ (λ _ _.
    then_cong (refuse_at 31 query (missing_date q)) _ _ (λ _ _.
    then_cong (refuse_at 17 query (closed_part d q)) _ _ (λ _ _.
    ap (λ seen. accepted (record { answer = answer_to (resolved d q) seen; grant = g }))
    (seen_same d q (refuse_at_accepted 12 query _ party) (refuse_at_accepted 15 query _ columns) a)))))))))
