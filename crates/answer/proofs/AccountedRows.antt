-- Every row of the queried table is accounted for: given, withheld or unmatched. An answer but a count's prints the given
-- ones in document order, with the values that they have, a blank's with gaps for closed cells, though it is made from what is seen
-- of the rows. Assumes nothing.
use Prim.Native.Nat.{◌+◌, suc, zero, ℕ}
use lib.Dec.{eqb}
use lib.ListN.{get_or, length}
use mathlib.Core.Bool.{Bool, ◌&&◌, cond, false, not, true}
use mathlib.Core.List.{List, [], ◌++◌, ◌∷◌, flatten, map}
use mathlib.Core.Option.{Option, none, some}
use mathlib.Core.Path.{◌∙◌, ◌≡◌, ap, refl, subst, sym}
use native.Mathlib.Omega.{arith}
use Rattle.answer.specs.Answer.{Answer, answer_to, counted, end_line, is_passed, is_unmatched, is_withheld, line_of, matches, row_line, row_lines, satisfies}
use Rattle.answer.specs.Exactly.{GivesExactly, gapped_values, is_given, is_unmatched_row, is_withheld_row, with_gaps}
use Rattle.answer.specs.Seen.{Seen, gap, rows_in, seen_in, seen_row, seen_rows, seen_value, seen_values, shown, withheld}
use Rattle.condition.proofs.TwoLaws.{two_agree}
use Rattle.condition.specs.Comparison.{Comparison}
use Rattle.condition.specs.Cond.{Cond, comparisons_in}
use Rattle.condition.specs.Ranges.{Mode, meets_in, other, passes_in}
use Rattle.document.proofs.OpenLaws.{shown_open}
use Rattle.document.specs.Lookup.{labelling_at}
use Rattle.document.specs.Open.{Opening, cell_open, open_to, row_withheld}
use Rattle.document.specs.Policy.{Doc, Row}
use Rattle.form.specs.Form.{Scheme, by_cell}
use Rattle.lists.proofs.KeptLaws.{count_map, count_three, flatten_keep, map_agree}
use Rattle.lists.proofs.ListLaws.{map_map}
use Rattle.lists.specs.Lists.{all_of, any_of, count_of, keep, member, or_zero}
use Rattle.query.proofs.NamedAll.{all_withhold, condition_withholds, selected_named, withholding_named}
use Rattle.query.specs.Query.{NamesParts, PartsOpen, Query}
use Rattle.query.specs.QueryForm.{Verb, Wanted, counts_only, has_gaps, leaves_gaps, mode_in, rows_of, selected}
use Rattle.text.specs.Bytes.{ascii}
use Rattle.text.specs.Numbers.{Value}

-- ---- small facts, by computation: definitions that show, print, order or count rows otherwise are refused here first

-- of three columns the second and third are named, and the third is closed: its value is a gap, and the first's is not seen
named_alone : (t : ℕ) (a b c : Value)
    → seen_row (record { label = λ l. eqb (or_zero l) 0; nest = λ s t r c. false }) by_cell (1 ∷ []) (1 ∷ 2 ∷ []) (record { table = t; values = a ∷ b ∷ c ∷ []; labels = 0 ∷ 0 ∷ 1 ∷ [] }) ≡ shown ([] ∷ b ∷ gap ∷ [])
unfolding seen_row row_withheld seen_values seen_value cell_open member any_of or_zero
named_alone t a b c = refl

module _ (passes : List Value → Bool) (v : Verb) (cs : List ℕ) (rs : List Seen) where
  -- the line of the first row comes first, if the row passes
  first_line : (vs : List Value) → row_lines passes (rows_of v cs) (shown vs ∷ rs) ≡ cond (passes vs) (row_line cs vs) [] ++ row_lines passes (rows_of v cs) rs
  unfolding row_lines line_of flatten
  first_line vs = refl

  -- a withheld row has none
  no_line : row_lines passes (rows_of v cs) (withheld ∷ rs) ≡ row_lines passes (rows_of v cs) rs
  unfolding row_lines line_of flatten
  no_line = refl

-- a withheld row is counted
withheld_counted : (q : Query) (rs : List Seen) → (answer_to q (withheld ∷ rs)).withheld ≡ suc (answer_to q rs).withheld
unfolding answer_to counted count_of keep is_withheld
withheld_counted q rs = refl

-- ---- values in named columns

-- a value in a named column is seen, or the gap of its closed cell
pub named_seen : (o : ℕ → Bool) (ns : List ℕ) (i : ℕ) (vs : List Value) (k c : ℕ) → i + k ≡ c → member c ns ≡ true → get_or (seen_values o ns i vs) k [] ≡ get_or (with_gaps o i vs) k []
unfolding seen_values seen_value with_gaps
named_seen o ns i [] k c e m = refl
named_seen o ns i (v ∷ vs) zero c e m = ap (λ n. cond (member n ns) (cond (o i) v gap) []) (omega (arith, e)) ∙ ap (λ b. cond b (cond (o i) v gap) []) m
named_seen o ns i (v ∷ vs) (suc k) c e m = named_seen o ns (suc i) vs k c (omega (arith, e)) m

-- there is no gap where the cell is open
pub open_whole : (o : ℕ → Bool) (i : ℕ) (vs : List Value) (k c : ℕ) → i + k ≡ c → o c ≡ true → get_or (with_gaps o i vs) k [] ≡ get_or vs k []
unfolding with_gaps
open_whole o i [] k c e m = refl
open_whole o i (v ∷ vs) zero c e m = ap (λ n. cond (o n) v gap) (omega (arith, e)) ∙ ap (λ b. cond b v gap) m
open_whole o i (v ∷ vs) (suc k) c e m = open_whole o (suc i) vs k c (omega (arith, e)) m

-- a condition holds alike of values that agree in its columns
pub matches_agree : (f : ℕ → Bool) (m : Mode) (t : Option (Cond Comparison)) → all_of (λ t. f t.of) (comparisons_in t) ≡ true → (vs ws : List Value)
    → ((c : ℕ) → f c ≡ true → get_or vs c [] ≡ get_or ws c []) → matches m t vs ≡ matches m t ws
unfolding matches comparisons_in passes_in
matches_agree f m none h vs ws own = refl
matches_agree f m (some c) h vs ws own =
    two_agree (λ t. f t.of) _ _ _ _ (λ t k. ap (meets_in m t) (own t.of k)) (λ t k. ap (meets_in (other m) t) (own t.of k)) c h

-- a condition over columns that are named and open holds of what is seen exactly when it holds of the row's own values
matches_seen : (f o : ℕ → Bool) (ns : List ℕ) → ((c : ℕ) → f c ≡ true → member c ns ≡ true) → ((c : ℕ) → f c ≡ true → o c ≡ true)
    → (m : Mode) (t : Option (Cond Comparison)) → all_of (λ t. f t.of) (comparisons_in t) ≡ true → (vs : List Value) → matches m t (seen_values o ns 0 vs) ≡ matches m t vs
matches_seen f o ns named opened m t h vs =
    matches_agree f m t h (seen_values o ns 0 vs) vs (λ i k. named_seen o ns 0 vs i i (omega arith) (named i k) ∙ open_whole o 0 vs i i (omega arith) (opened i k))

-- a line is the same of values that agree in its columns
pub line_agree : (f : ℕ → Bool) (cs : List ℕ) → all_of f cs ≡ true → (vs ws : List Value) → ((c : ℕ) → f c ≡ true → get_or vs c [] ≡ get_or ws c []) → row_line cs vs ≡ row_line cs ws
unfolding row_line
line_agree f cs h vs ws agree =
    ap (λ items. ascii "(row" ++ flatten items ++ ascii ")\n") (map_agree f (λ c. 32 ∷ get_or vs c []) (λ c. 32 ∷ get_or ws c []) (λ c m. ap (λ v. 32 ∷ v) (agree c m)) cs h)

-- ---- each row of the table

-- what is told of a row that is withheld if b holds, and else shown with these values
module _ (passes : List Value → Bool) (vs : List Value) where
  pub told_withheld : (b : Bool) → is_withheld (cond b withheld (shown vs)) ≡ b
  unfolding is_withheld
  told_withheld true = refl
  told_withheld false = refl

  pub told_passed : (b : Bool) → is_passed passes (cond b withheld (shown vs)) ≡ (not b && passes vs)
  unfolding is_passed
  told_passed true = refl
  told_passed false = refl

  pub told_unmatched : (b : Bool) → is_unmatched passes (cond b withheld (shown vs)) ≡ (not b && not (passes vs))
  unfolding is_unmatched
  told_unmatched true = refl
  told_unmatched false = refl

  pub told_line : (cs : List ℕ) (b : Bool) → line_of passes cs (cond b withheld (shown vs)) ≡ cond (not b && passes vs) (row_line cs vs) []
  unfolding line_of
  told_line cs true = refl
  told_line cs false = refl

-- what is told of a row that is not withheld is the same where the tests agree on it
pub not_withheld : (b x y : Bool) → (b ≡ false → x ≡ y) → (not b && x) ≡ (not b && y)
not_withheld true x y h = refl
not_withheld false x y h = h refl

pub line_told : (b x y : Bool) (l m : List ℕ) → (b ≡ false → x ≡ y) → (b ≡ false → l ≡ m) → cond (not b && x) l [] ≡ cond (not b && y) m []
line_told true x y l m h k = refl
line_told false x y l m h k = λ i. cond (h refl i) (k refl i) []

module _ (d : Doc) (q : Query) (parts : NamesParts q) (open_parts : PartsOpen d.policy q) where
  -- what is open, and the scheme with what later lines say
  abbrev is_open : Opening
  is_open = open_to d.policy q.purpose

  abbrev scheme : Scheme ℕ
  scheme = labelling_at d.policy q.source.table

  -- what is seen of a row
  abbrev seen : Row → Seen
  seen r = seen_row is_open scheme q.source.withholding q.source.named r

  -- which of its cells are open
  abbrev opened : Row → ℕ → Bool
  opened r = cell_open is_open scheme r.labels

  -- a row's values in the named columns
  abbrev visible : Row → List Value
  visible r = seen_values (opened r) q.source.named 0 r.values

  -- a row that is not withheld shows open cells only in the columns that withhold
  withholding_open : (r : Row) → is_withheld_row d q r ≡ false → (c : ℕ) → member c q.source.withholding ≡ true → opened r c ≡ true
  unfolding is_withheld_row
  withholding_open r w c m =
      shown_open is_open scheme q.source.withholding r.labels open_parts.table (λ k n. open_parts.columns k (withholding_named q parts k n)) w c m

  -- the condition holds of what is seen of a row that is not withheld exactly when it holds of the row's own values
  own_values : (r : Row) → is_withheld_row d q r ≡ false → satisfies q (visible r) ≡ satisfies q r.values
  own_values r w =
      unfold satisfies in matches_seen (λ c. member c q.source.withholding) (opened r) q.source.named (withholding_named q parts) (withholding_open r w) (mode_in q.wanted) q.condition (condition_withholds q parts) r.values

  -- a row is seen as withheld exactly when it is withheld
  withheld_rows : (r : Row) → is_withheld (seen r) ≡ is_withheld_row d q r
  unfolding seen_row is_withheld_row
  withheld_rows r = told_withheld (satisfies q) (visible r) (is_withheld_row d q r)

  -- a row passes exactly when it is given
  given_rows : (r : Row) → is_passed (satisfies q) (seen r) ≡ is_given d q r
  unfolding seen_row is_withheld_row is_given
  given_rows r = told_passed (satisfies q) (visible r) (is_withheld_row d q r) ∙ not_withheld (is_withheld_row d q r) _ _ (own_values r)

  -- a row is seen as unmatched exactly when it is unmatched
  unmatched_rows : (r : Row) → is_unmatched (satisfies q) (seen r) ≡ is_unmatched_row d q r
  unfolding seen_row is_withheld_row is_unmatched_row
  unmatched_rows r = told_unmatched (satisfies q) (visible r) (is_withheld_row d q r) ∙ not_withheld (is_withheld_row d q r) _ _ (λ w. ap not (own_values r w))

  module _ (v : Verb) (cs : List ℕ) (is : q.wanted ≡ rows_of v cs) where
    -- the columns that are asked for are named
    asked_named : all_of (λ c. member c q.source.named) cs ≡ true
    unfolding selected
    asked_named = subst (λ w. all_of (λ c. member c q.source.named) (selected w) ≡ true) is (selected_named q parts)

    -- the line of a row is that of its values with gaps
    gapped_line : (r : Row) → row_line cs (visible r) ≡ row_line cs (gapped_values d q r)
    unfolding gapped_values
    gapped_line r = line_agree (λ c. member c q.source.named) cs asked_named (visible r) _ (λ c m. named_seen (opened r) q.source.named 0 r.values c c (omega arith) m)

    -- where no gaps are left, a row that is not withheld has none
    whole_line_lem : leaves_gaps v ≡ false → (r : Row) → is_withheld_row d q r ≡ false → row_line cs (gapped_values d q r) ≡ row_line cs r.values
    unfolding gapped_values has_gaps
    whole_line_lem h r w = line_agree (λ c. member c q.source.named) cs asked_named _ r.values (λ c m.
        open_whole (opened r) 0 r.values c c (omega arith)
        (withholding_open r w c (ap (member c) (all_withhold q parts (ap has_gaps is ∙ h)) ∙ m)))

    -- a row has its line exactly when it is given
    given_line : (values : Row → List Value) → ((r : Row) → is_withheld_row d q r ≡ false → row_line cs (visible r) ≡ row_line cs (values r))
        → (r : Row) → line_of (satisfies q) cs (seen r) ≡ cond (is_given d q r) (row_line cs (values r)) []
    unfolding seen_row is_withheld_row is_given
    given_line values same r =
        told_line (satisfies q) (visible r) cs (is_withheld_row d q r)
        ∙ line_told (is_withheld_row d q r) _ _ _ _ (own_values r) (same r)

    -- so the lines are those of the rows given
    lines_given : (values : Row → List Value) → ((r : Row) → is_withheld_row d q r ≡ false → row_line cs (visible r) ≡ row_line cs (values r))
        → row_lines (satisfies q) q.wanted (seen_rows d q) ≡ flatten (map (λ r. row_line cs (values r)) (keep (is_given d q) (rows_in q.source.table d.rows)))
    unfolding row_lines seen_rows seen_in
    lines_given values same =
        ap (λ w. row_lines (satisfies q) w (seen_rows d q)) is
        ∙ ap flatten (map_map (line_of (satisfies q) cs) seen (rows_in q.source.table d.rows))
        ∙ ap (λ f. flatten (map f (rows_in q.source.table d.rows))) (λ i r. given_line values same r i)
        ∙ flatten_keep (is_given d q) (λ r. row_line cs (values r)) (rows_in q.source.table d.rows)

-- ---- the answer

-- how many rows are seen so is how many rows are so
count_seen : (f : Row → Seen) (p : Seen → Bool) (g : Row → Bool) → ((r : Row) → p (f r) ≡ g r) → (rs : List Row) → count_of p (map f rs) ≡ count_of g rs
count_seen f p g h rs = count_map p f rs ∙ ap (λ t. count_of t rs) (λ i r. h r i)

-- An answer but a count's gives a row exactly when it isn't withheld and its condition holds, in document order; and the
-- three counts are of the rows.
pub gives_exactly : (d : Doc) (q : Query) → NamesParts q → PartsOpen d.policy q → GivesExactly d q (answer_to q (seen_rows d q))
unfolding answer_to counted seen_rows seen_in row_lines
gives_exactly d q parts open_parts = record {
  passed = count_seen (seen d q parts open_parts) _ (is_given d q) (given_rows d q parts open_parts) (rows_in q.source.table d.rows);
  withheld = count_seen (seen d q parts open_parts) _ (is_withheld_row d q) (withheld_rows d q parts open_parts) (rows_in q.source.table d.rows);
  unmatched = count_seen (seen d q parts open_parts) _ (is_unmatched_row d q) (unmatched_rows d q parts open_parts) (rows_in q.source.table d.rows);
  selects = λ v cs e h. ap (λ l. l ++ last) (lines_given d q parts open_parts v cs e (λ r. r.values) (λ r w. gapped_line d q parts open_parts v cs e r ∙ whole_line_lem d q parts open_parts v cs e h r w));
  blanks = λ v cs e h. ap (λ l. l ++ last) (lines_given d q parts open_parts v cs e (gapped_values d q) (λ r w. gapped_line d q parts open_parts v cs e r));
  counts = λ e. ap (λ w. row_lines (satisfies q) w (seen_rows d q) ++ last) e;
}
  where
    last : List ℕ
    last = end_line (answer_to q (seen_rows d q)).passed (answer_to q (seen_rows d q)).withheld (answer_to q (seen_rows d q)).unmatched

-- The three counts add up to the number of the table's rows.
pub counts_add_up : (d : Doc) (q : Query) (a : Answer) → GivesExactly d q a → a.passed + a.withheld + a.unmatched ≡ length (rows_in q.source.table d.rows)
unfolding is_given is_unmatched_row
counts_add_up d q a g =
    (λ i. g.passed i + g.withheld i + g.unmatched i)
    ∙ count_three (is_withheld_row d q) (λ r. satisfies q r.values) (rows_in q.source.table d.rows)

-- There is only one such answer.
pub only_answer : (d : Doc) (q : Query) (a b : Answer) → GivesExactly d q a → GivesExactly d q b → a ≡ b
only_answer d q a b g h = λ i. record { bytes = same_bytes_lem q.wanted refl i; passed = p i; withheld = w i; unmatched = u i }
  where
    p : a.passed ≡ b.passed
    p = g.passed ∙ sym h.passed

    w : a.withheld ≡ b.withheld
    w = g.withheld ∙ sym h.withheld

    u : a.unmatched ≡ b.unmatched
    u = g.unmatched ∙ sym h.unmatched

    same_lines : (v : Verb) (cs : List ℕ) → q.wanted ≡ rows_of v cs → (x : Bool) → leaves_gaps v ≡ x → a.bytes ≡ b.bytes
    same_lines v cs e false k =
        g.selects v cs e k
        ∙ (λ i. flatten (map (λ r. row_line cs r.values) (keep (is_given d q) (rows_in q.source.table d.rows))) ++ end_line (p i) (w i) (u i))
        ∙ sym (h.selects v cs e k)
    same_lines v cs e true k =
        g.blanks v cs e k
        ∙ (λ i. flatten (map (λ r. row_line cs (gapped_values d q r)) (keep (is_given d q) (rows_in q.source.table d.rows))) ++ end_line (p i) (w i) (u i))
        ∙ sym (h.blanks v cs e k)

    same_bytes_lem : (wanted : Wanted ℕ) → q.wanted ≡ wanted → a.bytes ≡ b.bytes
    same_bytes_lem (rows_of v cs) e = same_lines v cs e (leaves_gaps v) refl
    same_bytes_lem counts_only e = g.counts e ∙ (λ i. end_line (p i) (w i) (u i)) ∙ sym (h.counts e)
