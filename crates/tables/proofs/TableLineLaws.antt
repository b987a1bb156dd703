-- Walking through the columns of a table line: one column more or none, in brackets of two words or of three, and columns whose
-- name stood before. Assumes nothing.
use Prim.Native.Nat.{◌+◌, ◌-◌, ◌<◌, ◌≤◌, suc, zero, ℕ}
use borrow.Author.Tests.{le-leb, le-ltb, lt-leb, lt-ltb}
use lib.Dec.{leb}
use lib.ListN.{get_or, length, length-append, take}
use lib.Seq.{take_at}
use mathlib.Core.Bool.{Bool, ◌||◌, false, or_assoc, or_comm, true}
use mathlib.Core.List.{List, [], ◌++◌, ◌∷◌, append_assoc, map}
use mathlib.Core.Option.{Option, none, some}
use mathlib.Core.Path.{◌∙◌, ◌≡◌, ap, refl, sym}
use native.Mathlib.Omega.{arith}
use Rattle.document.specs.AmountFaults.{broken_range, no_such_date}
use Rattle.document.specs.Bounds.{late_attr, over_bound, second_root}
use Rattle.document.specs.Lookup.{label_of, table_of}
use Rattle.document.specs.NameFaults.{taken, unknown}
use Rattle.document.specs.NoteFaults.{misplaced}
use Rattle.document.specs.Policy.{Doc}
use Rattle.document.specs.TypeFaults.{wrong_type}
use Rattle.document.specs.ValueFaults.{misfit}
use Rattle.tables.specs.TableLine.{bracket_end_by, columns_by}
use Rattle.form.proofs.WalkSteps.{column_labels_more, column_labels_stop, columns_more, columns_stop, labelled_columns_more, labelled_columns_stop, pair_after, pair_inside, triple_after, triple_inside}
use Rattle.form.specs.Form.{ColumnForm, Form, scheme_labels}
use Rattle.form.specs.Walks.{column_at, column_label_at, column_labels_at, first_in, second_in, third_in, triple_end_at}
use Rattle.lists.proofs.Tests.{or_right}
use Rattle.lists.specs.Lists.{any_of, find_index, there}
use Rattle.text.proofs.OffendingLaws.{leftmost_only, missing_here, missing_next, missing_nil}
use Rattle.text.proofs.WalkingLaws.{next_within, past_within}
use Rattle.text.specs.Offending.{leftmost, missing, offending_if, repeated, repeated_after}
use Rattle.text.specs.Words.{Word, is_called, word_of}
use Rattle.stepping.specs.declared.fault.Fault.{Fault}
use Rattle.std.specs.Prelude.{Err, Ok, Result}
use Rattle.form.specs.TableWords.{column_words, labels_columns, scheme_words, table_line}
use Rattle.form.specs.declared.lines.Scheme as coded
use Rattle.form.specs.declared.lines.Scheme.TheVariants as code

-- the names of columns
abbrev pub column_names : List ColumnForm → List Word
column_names cs = map (λ x. x.name) cs

-- the columns of a line are those in the brackets of its scheme
pub columns_words : (line : List ℕ) (scheme : coded.Scheme) (cs : ℕ) → column_words line scheme cs ≡ columns_by (labels_columns scheme) line cs
unfolding column_words columns_by
columns_words line code.Unlabelled cs = refl
columns_words line code.ByTable cs = refl
columns_words line code.ByColumn cs = refl
columns_words line code.ByRow cs = refl
columns_words line code.ByCell cs = refl
columns_words line code.Nested cs = refl

module _ (s : List ℕ) (at : ℕ) where
  -- a turn goes on, and stays within the text
  pub bracket_after : (triple : Bool) → at < bracket_end_by triple s (at + 1)
  unfolding bracket_end_by
  bracket_after true = triple_after s at
  bracket_after false = pair_after s at

  pub bracket_inside : (triple : Bool) → at < length s → bracket_end_by triple s (at + 1) ≤ length s
  unfolding bracket_end_by
  bracket_inside true h = triple_inside s at h
  bracket_inside false h = pair_inside s at h

  pub by_more : (triple : Bool) → get_or s at 0 ≡ 32 → columns_by triple s at ≡ column_at s (at + 1) ∷ columns_by triple s (bracket_end_by triple s (at + 1))
  unfolding bracket_end_by columns_by
  by_more true h = labelled_columns_more s at h
  by_more false h = columns_more s at h

  pub by_stop : (triple : Bool) → (get_or s at 0 ≡ 32 → ⊥) → columns_by triple s at ≡ []
  unfolding columns_by
  by_stop true h = labelled_columns_stop s at h
  by_stop false h = columns_stop s at h

  -- the same of the names
  pub names_by_more : (triple : Bool) → get_or s at 0 ≡ 32
      → column_names (columns_by triple s at) ≡ word_of s (first_in s (at + 1)) ∷ column_names (columns_by triple s (bracket_end_by triple s (at + 1)))
  unfolding column_at
  names_by_more triple h = ap column_names (by_more triple h)

  pub names_by_stop : (triple : Bool) → (get_or s at 0 ≡ 32 → ⊥) → column_names (columns_by triple s at) ≡ []
  names_by_stop triple h = ap column_names (by_stop triple h)

-- ---- one of the first n

module _ {A : Type 0} (f : A → Bool) where
  pub among_none : (ws : List A) → any_of f (take 0 ws) ≡ false
  unfolding any_of
  among_none ws = refl

  pub among_nil : (n : ℕ) → any_of f (take n []) ≡ false
  unfolding any_of
  among_nil zero = refl
  among_nil (suc n) = refl

  -- the front passes
  pub among_here : (n : ℕ) (w : A) (ws : List A) → f w ≡ true → any_of f (take (suc n) (w ∷ ws)) ≡ true
  unfolding any_of
  among_here n w ws h = rw h

  -- the front fails
  pub among_next : (n : ℕ) (w : A) (ws : List A) → f w ≡ false → any_of f (take (suc n) (w ∷ ws)) ≡ any_of f (take n ws)
  unfolding any_of
  among_next n w ws h = rw h

  any_behind : (xs : List A) (w : A) → any_of f (xs ++ (w ∷ [])) ≡ (f w || any_of f xs)
  unfolding any_of
  any_behind [] w = refl
  any_behind (x ∷ xs) w =
      ap (λ (b : Bool). f x || b) (any_behind xs w)
      ∙ sym (or_assoc (f x) (f w) (any_of f xs))
      ∙ ap (λ (b : Bool). b || any_of f xs) (or_comm (f x) (f w))
      ∙ or_assoc (f w) (f x) (any_of f xs)

-- the same of the columns from a position on, of which n are left to look at
module _ (s : List ℕ) (at : ℕ) (triple : Bool) (f : Word → Bool) (n : ℕ) where
  pub none_looked : n ≡ 0 → any_of f (take n (column_names (columns_by triple s at))) ≡ false
  none_looked e = ap (λ (k : ℕ). any_of f (take k (column_names (columns_by triple s at)))) e ∙ among_none f (column_names (columns_by triple s at))

  pub none_there : (get_or s at 0 ≡ 32 → ⊥) → any_of f (take n (column_names (columns_by triple s at))) ≡ false
  none_there h = ap (λ (ws : List Word). any_of f (take n ws)) (names_by_stop s at triple h) ∙ among_nil f n

  module _ (h : get_or s at 0 ≡ 32) (l : n ≡ 0 → ⊥) where
    one_there : any_of f (take n (column_names (columns_by triple s at))) ≡ any_of f (take (suc (n - 1)) (word_of s (first_in s (at + 1)) ∷ column_names (columns_by triple s (bracket_end_by triple s (at + 1)))))
    one_there =
        let m : n ≡ suc (n - 1) = omega (arith, l) in
        ap (λ (k : ℕ). any_of f (take k (column_names (columns_by triple s at)))) m
        ∙ ap (λ (ws : List Word). any_of f (take (suc (n - 1)) ws)) (names_by_more s at triple h)

    pub this_one : f (word_of s (first_in s (at + 1))) ≡ true → any_of f (take n (column_names (columns_by triple s at))) ≡ true
    this_one e = one_there ∙ among_here f (n - 1) _ _ e

    pub another : f (word_of s (first_in s (at + 1))) ≡ false → any_of f (take n (column_names (columns_by triple s at))) ≡ any_of f (take (n - 1) (column_names (columns_by triple s (bracket_end_by triple s (at + 1)))))
    another e = one_there ∙ among_next f (n - 1) _ _ e

-- ---- words that stood before

-- n of the words were passed, none of which stood before, and the rest is left
pub record Passing (ws : List Word) (n : ℕ) (rest : List Word) : Type 0 where
  pub front : List Word
  pub earlier : List Word
  pub long : length front ≡ n
  pub split : ws ≡ front ++ rest
  pub same : repeated ws ≡ repeated_after earlier rest
  pub agree : (w : Word) → any_of (λ (v : Word). is_called w v.bytes) earlier ≡ any_of (λ (v : Word). is_called w v.bytes) front

pub passing_start : (ws : List Word) → Passing ws 0 ws
unfolding repeated
passing_start ws = record { front = []; earlier = []; long = refl; split = refl; same = refl; agree = λ w. refl }

module _ {ws : List Word} {n : ℕ} (w : Word) (rest : List Word) (p : Passing ws n (w ∷ rest)) where
  stood : any_of (λ (v : Word). is_called w v.bytes) (take n ws) ≡ any_of (λ (v : Word). is_called w v.bytes) p.earlier
  stood =
      ap (λ (l : List Word). any_of (λ (v : Word). is_called w v.bytes) l) (ap (take n) p.split ∙ take_at p.front (w ∷ rest) n p.long)
      ∙ sym (p.agree w)

  -- a test of the words that were passed and the next one
  pub passing_tests : (f : Word → Bool) → any_of f (take (n + 1) ws) ≡ (f w || any_of f (take n ws))
  passing_tests f =
      ap (λ (l : List Word). any_of f l)
      (ap (take (n + 1)) (p.split ∙ sym (append_assoc p.front (w ∷ []) rest))
      ∙ take_at (p.front ++ (w ∷ [])) rest (n + 1) (length-append p.front (w ∷ []) ∙ omega (arith, p.long)))
      ∙ any_behind f p.front w
      ∙ ap (λ (l : List Word). f w || any_of f l) (sym (ap (take n) p.split ∙ take_at p.front (w ∷ rest) n p.long))

  -- the next stood before
  pub passing_found : any_of (λ (v : Word). is_called w v.bytes) (take n ws) ≡ true → repeated ws ≡ some w
  unfolding repeated_after
  passing_found h = p.same ∙ (rw (sym stood ∙ h))

  -- it did not
  pub passing_more : any_of (λ (v : Word). is_called w v.bytes) (take n ws) ≡ false → Passing ws (n + 1) rest
  unfolding repeated_after any_of
  passing_more h = record {
    front = p.front ++ (w ∷ []);
    earlier = w ∷ p.earlier;
    long = length-append p.front (w ∷ []) ∙ omega (arith, p.long);
    split = p.split ∙ sym (append_assoc p.front (w ∷ []) rest);
    same = p.same ∙ rw (sym stood ∙ h);
    agree = λ u. ap (λ (b : Bool). is_called u w.bytes || b) (p.agree u) ∙ sym (any_behind (λ (v : Word). is_called u v.bytes) p.front w);
  }

pub passing_end : {ws : List Word} {n : ℕ} → Passing ws n [] → repeated ws ≡ none
unfolding repeated_after
passing_end p = p.same

-- ---- the labels of the columns, in brackets of three words

module _ (s : List ℕ) (at : ℕ) (f : Word → Bool) where
  pub labels_stop : (get_or s at 0 ≡ 32 → ⊥) → missing f (column_labels_at s at) ≡ none
  labels_stop h = ap (missing f) (column_labels_stop s at h) ∙ missing_nil f

  module _ (h : get_or s at 0 ≡ 32) (v : ℕ) (e : v ≡ third_in s (at + 1)) where
    labels_more : missing f (column_labels_at s at) ≡ missing f (word_of s v ∷ column_labels_at s (bracket_end_by true s (at + 1)))
    unfolding bracket_end_by column_label_at
    labels_more = ap (missing f) (column_labels_more s at h ∙ ap (λ (n : ℕ). word_of s n ∷ column_labels_at s (triple_end_at s (at + 1))) (sym e))

    -- the next fails the test
    pub labels_found : f (word_of s v) ≡ false → missing f (column_labels_at s at) ≡ some (word_of s v)
    labels_found k = labels_more ∙ missing_here f _ _ k

    -- it passes
    pub labels_next : f (word_of s v) ≡ true → missing f (column_labels_at s at) ≡ missing f (column_labels_at s (bracket_end_by true s (at + 1)))
    labels_next k = labels_more ∙ missing_next f _ _ k

-- the words of a bracket stand in the text
module _ (s : List ℕ) (at : ℕ) (h : at < length s) where
  pub first_within : first_in s (at + 1) ≤ length s
  unfolding first_in
  first_within = past_within 40 s (at + 1) (omega (arith, h))

  pub third_within : third_in s (at + 1) ≤ length s
  unfolding third_in second_in
  third_within = next_within s (second_in s (at + 1)) (next_within s (first_in s (at + 1)) first_within)

-- ---- the check of the line

-- where there is a fault, not all is fine
pub fine_apart : (x : Fault) {A : Type 0} → ◌≡◌ {A = Result (Unit {0}) Fault} (Err x) (Ok tt) → A
fine_apart x {A} h = let z : ◌≡◌ {A = ℕ} 0 1 = cc in absurd (omega arith)

module _ (d : Doc) (line : List ℕ) (t : ℕ) (scheme : coded.Scheme) (l cs : ℕ) where
  abbrev form : Form
  form = table_line line t scheme l cs

  pub table_many : 8 ≤ length d.policy.tables → over_bound d form ≡ true
  unfolding over_bound
  table_many h = rw (le-leb 8 _ h)

  pub table_wide : 16 < length (column_words line scheme cs) → over_bound d form ≡ true
  unfolding over_bound
  table_wide h = rw (lt-ltb 16 _ h) (or_right (leb 8 (length d.policy.tables)) true refl)

  pub table_room : length d.policy.tables < 8 → length (column_words line scheme cs) ≤ 16 → over_bound d form ≡ false
  unfolding over_bound
  table_room h k = rw (lt-leb 8 _ h, le-ltb 16 _ k)

  -- what is taken, by the table that was found
  abbrev taken_by : Option ℕ → Option Word
  taken_by o = leftmost (offending_if (there o) (word_of line t) ∷ repeated (column_names (column_words line scheme cs)) ∷ [])

  pub table_taken : (o : Option ℕ) (i : ℕ) → o ≡ table_of d.policy (word_of line t) → o ≡ some i → taken d.policy form ≡ some (word_of line t)
  unfolding taken leftmost offending_if there
  table_taken o i h e = ap taken_by (sym h ∙ e)

  pub table_again : none ≡ table_of d.policy (word_of line t) → taken d.policy form ≡ repeated (column_names (column_words line scheme cs))
  unfolding taken leftmost offending_if there
  table_again h = ap taken_by (sym h) ∙ leftmost_only (repeated (column_names (column_words line scheme cs)))

  pub table_unknown : unknown d.policy form ≡ missing (λ w. there (find_index (λ x. is_called w x.name) d.policy.labels)) (scheme_labels (scheme_words line scheme l cs))
  unfolding unknown label_of
  table_unknown = refl

  pub table_root : second_root d.policy form ≡ false
  unfolding second_root
  table_root = refl

  pub table_values : misfit d.policy form ≡ false
  unfolding misfit
  table_values = refl

  pub table_type : wrong_type d.policy form ≡ none
  unfolding wrong_type
  table_type = refl

  pub table_order : broken_range d.policy form ≡ none
  unfolding broken_range
  table_order = refl

  pub table_dated : no_such_date d.policy form ≡ none
  unfolding no_such_date
  table_dated = refl

  pub table_late : late_attr d.policy form ≡ false
  unfolding late_attr
  table_late = refl

  pub table_placed : misplaced d form ≡ false
  unfolding misplaced
  table_placed = refl
