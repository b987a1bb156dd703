-- What stands in a query's bracket, and a whole query, as the code reads them. Each law gives what the code's answer promises,
-- from what the calls before it promise. Assumes nothing.
use Prim.Native.Nat.{◌+◌, ◌<◌, ◌≤◌, ℕ}
use borrow.Author.Tests.{le-leb, leb-true, lt-leb}
use lib.Dec.{leb}
use lib.ListN.{get_or, length}
use mathlib.Core.Bool.{Bool, cond, false, true}
use mathlib.Core.List.{List}
use mathlib.Core.Option.{Option, map, bind, none, some}
use mathlib.Core.Path.{◌∙◌, ◌≡◌, ap, refl, sym}
use Rattle.condition.specs.Answers.{compared_in}
use Rattle.condition.specs.Cond.{Cond, comparisons_in}
use Rattle.condition.specs.CondForm.{Compared, condition_in_form}
use Rattle.form.proofs.KeywordLaws.{keyword_at}
use Rattle.lists.proofs.Tests.{and_left, and_right}
use Rattle.lists.specs.Lists.{there}
use Rattle.query.proofs.WholeLaws.{whole_long, whole_open, whole_read, whole_shut, whole_wrong}
use Rattle.query.specs.QueryPartPlaces.{BodyWithin, HeadedWithin, ListedWithin, ReadsBody, ReadsColumns, ReadsHead, ReadsTest, TestedWithin, body_at, head_then, head_to, is_bounded, listed_at, tested_at}
use Rattle.query.specs.QueryPlaces.{Few, ReadsQuery, TestWithin, WantedWithin, Within, asks_rows, chosen_count, comparison_count, condition_at, form_at, verb_in, verb_of, wanted_at}
use Rattle.query.specs.QueryForm as form
use Rattle.query.specs.QueryForm.{QueryForm, admits_ranges, counts_only, has_gaps, if_within_bounds, leaves_gaps, mode_in, mode_of, query_body, query_form, query_forms, query_of, selected, selected_words, takes_ranges, wanted_rows, within_bounds}
use Rattle.text.specs.Brackets.{among, keyword, optional}
use Rattle.text.specs.Bytes.{ascii}
use Rattle.text.specs.Names.{same_name}
use Rattle.text.specs.Reader.{Left, Reader, ◌>>=◌, from, give, whole}
use Rattle.text.specs.Words.{Word, is_called, word_at}
use Rattle.std.specs.Prelude as prelude
use Rattle.std.specs.Prelude.{None, Some}
use Rattle.query.specs.declared.reading.Head.{Head}
use Rattle.query.specs.declared.reading.Question.{Question}
use Rattle.query.specs.declared.reading.Test.{Test}
use Rattle.query.specs.declared.reading.Test.TheVariants as test
use Rattle.query.specs.declared.reading.Verb.{Verb}
use Rattle.query.specs.declared.reading.Verb.TheVariants as verb
use Rattle.query.specs.declared.reading.Wanted.{Wanted}
use Rattle.query.specs.declared.reading.Wanted.TheVariants as wanted

-- ---- behind the keyword

-- what comes behind the head: the column bracket, and then perhaps a condition
abbrev rest : Reader (form.Wanted Word) → Word → Word → Word → Word → Reader QueryForm
rest B u r p t = do
  w ← B
  c ← optional condition_in_form
  give (record { user = u; role = r; purpose = p; table = t; wanted = w; condition = c })

module _ (s : List ℕ) {at : ℕ} where
  pub body_headless : (B : Reader (form.Wanted Word)) → ReadsHead s at None → ReadsBody s (query_body B (from s at)) None
  unfolding query_body head_then head_to body_at BodyWithin
  body_headless B a = record { is = a.is (rest B); within = tt }

  module _ {h : Head} {e : ℕ} (a : ReadsHead s at (Some (h, e))) where
    pub rows_no_columns : (v : Verb) → ReadsColumns s e None → ReadsBody s (query_body (wanted_rows (verb_of v)) (from s at)) None
    unfolding query_body wanted_rows head_then head_to listed_at body_at BodyWithin
    rows_no_columns v l = record { is = a.is (rest (wanted_rows (verb_of v))) ∙ rw l.is; within = tt }

    pub count_wrong : ReadsTest s e None → ReadsBody s (query_body (give counts_only) (from s at)) None
    unfolding query_body head_then head_to tested_at body_at BodyWithin
    count_wrong c = record { is = a.is (rest (give counts_only)) ∙ rw c.is; within = tt }

    pub count_read_lem : {t : Test} {g : ℕ} → ReadsTest s e (Some (t, g)) → ReadsBody s (query_body (give counts_only) (from s at)) (Some (record { head = h; wanted = wanted.Count; test = t }, g))
    unfolding query_body head_then head_to tested_at body_at form_at wanted_at BodyWithin WantedWithin HeadedWithin TestedWithin
    count_read_lem c = record { is = a.is (rest (give counts_only)) ∙ rw c.is; within = record { head = a.within; wanted = tt; test = c.within } }

    module _ {p n f : ℕ} (l : ReadsColumns s e (Some (p, n, f))) where
      pub rows_wrong : (v : Verb) → ReadsTest s f None → ReadsBody s (query_body (wanted_rows (verb_of v)) (from s at)) None
      unfolding query_body wanted_rows head_then head_to listed_at tested_at body_at BodyWithin
      rows_wrong v c = record { is = a.is (rest (wanted_rows (verb_of v))) ∙ rw (l.is, c.is); within = tt }

      pub rows_read : (v : Verb) {t : Test} {g : ℕ} → ReadsTest s f (Some (t, g))
          → ReadsBody s (query_body (wanted_rows (verb_of v)) (from s at)) (Some (record { head = h; wanted = wanted.Rows v p n; test = t }, g))
      unfolding query_body wanted_rows head_then head_to listed_at tested_at body_at form_at wanted_at BodyWithin WantedWithin HeadedWithin ListedWithin TestedWithin
      rows_read v c = record { is = a.is (rest (wanted_rows (verb_of v))) ∙ rw (l.is, c.is); within = record { head = a.within; wanted = l.within; test = c.within } }

-- ---- the keyword

module _ (s : List ℕ) (at : ℕ) {e : ℕ} (ends : e ≡ at + length (word_at s at)) {r : prelude.Option (Question × ℕ)} where
  pub at_select : same_name (word_at s at) (ascii "select") ≡ true → ReadsBody s (query_body (wanted_rows (verb_of verb.Select)) (from s e)) r → ReadsBody s (keyword query_forms (from s at)) r
  unfolding query_forms among is_called verb_of
  at_select h b = record { is = rw (keyword_at query_forms s at e ends, h) b.is; within = b.within }

  pub at_count : same_name (word_at s at) (ascii "select") ≡ false → same_name (word_at s at) (ascii "count") ≡ true → ReadsBody s (query_body (give counts_only) (from s e)) r → ReadsBody s (keyword query_forms (from s at)) r
  unfolding query_forms among is_called
  at_count h k b = record { is = rw (keyword_at query_forms s at e ends, h, k) b.is; within = b.within }

  module _ (h : same_name (word_at s at) (ascii "select") ≡ false) (k : same_name (word_at s at) (ascii "count") ≡ false) where
    pub at_blank : same_name (word_at s at) (ascii "blank") ≡ true → ReadsBody s (query_body (wanted_rows (verb_of verb.Blank)) (from s e)) r → ReadsBody s (keyword query_forms (from s at)) r
    unfolding query_forms among is_called verb_of
    at_blank l b = record { is = rw (keyword_at query_forms s at e ends, h, k, l) b.is; within = b.within }

    module _ (l : same_name (word_at s at) (ascii "blank") ≡ false) where
      pub at_sure : same_name (word_at s at) (ascii "sure") ≡ true → ReadsBody s (query_body (wanted_rows (verb_of verb.Sure)) (from s e)) r → ReadsBody s (keyword query_forms (from s at)) r
      unfolding query_forms among is_called verb_of
      at_sure m b = record { is = rw (keyword_at query_forms s at e ends, h, k, l, m) b.is; within = b.within }

      pub at_possible : same_name (word_at s at) (ascii "sure") ≡ false → same_name (word_at s at) (ascii "possible") ≡ true
          → ReadsBody s (query_body (wanted_rows (verb_of verb.Possible)) (from s e)) r → ReadsBody s (keyword query_forms (from s at)) r
      unfolding query_forms among is_called verb_of
      at_possible m n b = record { is = rw (keyword_at query_forms s at e ends, h, k, l, m, n) b.is; within = b.within }

pub at_none : (s : List ℕ) (at : ℕ) {e : ℕ} → e ≡ at + length (word_at s at) → same_name (word_at s at) (ascii "select") ≡ false → same_name (word_at s at) (ascii "count") ≡ false
    → same_name (word_at s at) (ascii "blank") ≡ false → same_name (word_at s at) (ascii "sure") ≡ false → same_name (word_at s at) (ascii "possible") ≡ false → ReadsBody s (keyword query_forms (from s at)) None
unfolding query_forms among is_called body_at BodyWithin
at_none s at {e} ends h k l m n = record { is = rw (keyword_at query_forms s at e ends, h, k, l, m, n); within = tt }

-- ---- the bounds

pub count_always : {t : Test} → t ≡ test.Always → 0 ≡ comparison_count t
unfolding comparison_count
count_always h = rw h

pub count_when : {t : Test} {p n : ℕ} → t ≡ test.When p n → n ≡ comparison_count t
unfolding comparison_count
count_when h = rw h

module _ {w : Wanted} {v : Verb} {p n : ℕ} (e : w ≡ wanted.Rows v p n) where
  pub chosen_rows : n ≡ chosen_count w
  unfolding chosen_count
  chosen_rows = rw e

  pub rows_are : true ≡ asks_rows w
  unfolding asks_rows
  rows_are = rw e

  pub verb_rows : v ≡ verb_in w
  unfolding verb_in
  verb_rows = rw e

module _ {w : Wanted} (e : w ≡ wanted.Count) where
  pub chosen_none : 0 ≡ chosen_count w
  unfolding chosen_count
  chosen_none = rw e

  pub count_is : false ≡ asks_rows w
  unfolding asks_rows
  count_is = rw e

  pub verb_count : verb.Select ≡ verb_in w
  unfolding verb_in
  verb_count = rw e

-- what a verb says, from which it is
module _ {v : Verb} where
  pub gaps_by_lem : (u : Verb) → v ≡ u → leaves_gaps (verb_of u) ≡ leaves_gaps (verb_of v)
  gaps_by_lem u e = ap (λ (x : Verb). leaves_gaps (verb_of x)) (sym e)

  pub ranges_by : (u : Verb) → v ≡ u → takes_ranges (verb_of u) ≡ takes_ranges (verb_of v)
  ranges_by u e = ap (λ (x : Verb). takes_ranges (verb_of x)) (sym e)

  pub mode_by_lem : (u : Verb) → v ≡ u → mode_of (verb_of u) ≡ mode_of (verb_of v)
  mode_by_lem u e = ap (λ (x : Verb). mode_of (verb_of x)) (sym e)

module _ (q : Question) {n : ℕ} (e : n ≡ chosen_count q.wanted) where
  pub over_columns : 16 < n → false ≡ is_bounded q
  unfolding is_bounded
  over_columns k = rw (sym e, lt-leb n 16 k)

  pub few_columns : n ≤ 16 → {k : ℕ} → k ≡ comparison_count q.test → leb k 64 ≡ is_bounded q
  unfolding is_bounded
  few_columns b {k} z = rw (sym e, sym z, le-leb n 16 b)

-- the condition has as many comparisons as the answer says
pub first_of : (o : Option (Cond Compared × Left)) → comparisons_in (map (λ x. x.0) o) ≡ compared_in o
unfolding comparisons_in
first_of none = refl
first_of (some r) = refl

pub test_count : (s : List ℕ) (t : Test) → TestWithin s t → length (comparisons_in (condition_at s t)) ≡ comparison_count t
unfolding TestWithin condition_at comparison_count comparisons_in
test_count s test.Always w = refl
test_count s (test.When t n) w = ap length (first_of (condition_in_form (from s t))) ∙ w.number

-- as many columns are selected as the answer says
pub wanted_count : (s : List ℕ) (w : Wanted) → WantedWithin s w → length (selected (wanted_at s w)) ≡ chosen_count w
unfolding WantedWithin wanted_at selected chosen_count
wanted_count s (wanted.Rows v p n) w = w.number
wanted_count s wanted.Count w = refl

-- rows are asked for as the answer says
pub wanted_are : (s : List ℕ) (w : Wanted) → wanted_at s w ≡ cond (asks_rows w) (form.rows_of (verb_of (verb_in w)) (selected (wanted_at s w))) counts_only
unfolding wanted_at asks_rows verb_in selected
wanted_are s (wanted.Rows v p n) = refl
wanted_are s wanted.Count = refl

-- and gaps are left so
pub gaps_are : (s : List ℕ) (w : Wanted) → has_gaps (wanted_at s w) ≡ leaves_gaps (verb_of (verb_in w))
unfolding wanted_at has_gaps verb_in verb_of leaves_gaps
gaps_are s (wanted.Rows v p n) = refl
gaps_are s wanted.Count = refl

-- ranges are taken so
pub ranges_are : (s : List ℕ) (w : Wanted) → admits_ranges (wanted_at s w) ≡ takes_ranges (verb_of (verb_in w))
unfolding wanted_at admits_ranges verb_in verb_of takes_ranges
ranges_are s (wanted.Rows v p n) = refl
ranges_are s wanted.Count = refl

-- and rows pass so
pub mode_is_lem : (s : List ℕ) (w : Wanted) → mode_in (wanted_at s w) ≡ mode_of (verb_of (verb_in w))
unfolding wanted_at mode_in verb_in verb_of mode_of
mode_is_lem s (wanted.Rows v p n) = refl
mode_is_lem s wanted.Count = refl

-- so the query is within the bounds where the numbers of the question are
form_bounds : (s : List ℕ) (q : Question) → Within s q → if_within_bounds (form_at s q) ≡ cond (is_bounded q) (some (form_at s q)) none
unfolding is_bounded if_within_bounds within_bounds selected_words form_at
form_bounds s q w = rw (wanted_count s q.wanted w.wanted, test_count s q.test w.test)

bounded_few : (q : Question) → is_bounded q ≡ true → Few q
unfolding is_bounded
bounded_few q k = record {
  columns = leb-true (chosen_count q.wanted) 16 (and_left (leb (chosen_count q.wanted) 16) (leb (comparison_count q.test) 64) k);
  tests = leb-true (comparison_count q.test) 64 (and_right (leb (chosen_count q.wanted) 16) (leb (comparison_count q.test) 64) k);
}

-- ---- the whole text

module _ (s : List ℕ) where
  none_either : (b : Bool) → ◌≡◌ {A = Option QueryForm} (cond b none none) none
  none_either true = refl
  none_either false = refl

  pub query_long : 4096 < length s → ReadsQuery s None
  unfolding query_of ReadsQuery
  query_long h = rw (lt-leb (length s) 4096 h)

  query_none : whole query_form s ≡ none → ReadsQuery s None
  unfolding query_of ReadsQuery bind
  query_none h = rw h (none_either (leb (length s) 4096))

  pub query_shut : (get_or s 0 0 ≡ 40 → ⊥) → ReadsQuery s None
  unfolding query_form
  query_shut h = query_none (whole_shut (keyword query_forms) s h)

  module _ (opens : get_or s 0 0 ≡ 40) where
    pub query_wrong : ReadsBody s (keyword query_forms (from s 1)) None → ReadsQuery s None
    unfolding query_form body_at
    query_wrong b = query_none (whole_wrong (keyword query_forms) s opens b.is)

    module _ {q : Question} {e : ℕ} (b : ReadsBody s (keyword query_forms (from s 1)) (Some (q, e))) where
      held : keyword query_forms (from s 1) ≡ map (λ x. (x, from s e)) (some (form_at s q))
      unfolding body_at
      held = b.is

      pub query_open : (get_or s e 0 ≡ 41 → ⊥) → ReadsQuery s None
      unfolding query_form
      query_open h = query_none (whole_open (keyword query_forms) s opens e (some (form_at s q)) held h)

      module _ (closes : get_or s e 0 ≡ 41) where
        pub query_trailing : (e + 1 ≡ length s → ⊥) → ReadsQuery s None
        unfolding query_form
        query_trailing h = query_none (whole_long (keyword query_forms) s opens e (some (form_at s q)) held closes h)

        module _ (ends : e + 1 ≡ length s) where
          read : whole query_form s ≡ some (form_at s q)
          unfolding query_form
          read = whole_read (keyword query_forms) s opens e (some (form_at s q)) held closes ends

          inside : Within s q
          unfolding BodyWithin
          inside = b.within

          bounds : bind (whole query_form s) if_within_bounds ≡ cond (is_bounded q) (some (form_at s q)) none
          unfolding bind
          bounds = ap (λ (o : Option QueryForm). bind o if_within_bounds) read ∙ form_bounds s q inside

          pub query_read : length s ≤ 4096 → is_bounded q ≡ true → ReadsQuery s (Some q)
          unfolding query_of ReadsQuery
          query_read h k = record { is = rw (le-leb (length s) 4096 h, bounds, k); within = inside; few = bounded_few q k }

          pub query_over : is_bounded q ≡ false → ReadsQuery s None
          unfolding query_of ReadsQuery
          query_over k = rw (bounds, k) (none_either (leb (length s) 4096))
