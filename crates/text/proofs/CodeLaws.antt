-- What the code's answers tell: which case of an enum says what of the reader or of the number that it stands for. Assumes nothing.
use Prim.Native.Nat.{◌*◌, ◌+◌, ◌-◌, ◌<◌, ◌^◌, ◌≤◌, ℕ}
use borrow.Author.Tests.{eqb-false, eqb-true, le-leb, leb-false, leb-true, lt-leb}
use lib.Dec.{eqb, leb}
use lib.ListN.{get_or, length}
use mathlib.Core.Bool.{Bool, false, true}
use mathlib.Core.List.{List, [], ◌∷◌}
use mathlib.Core.Option.{Option, bind, none, some}
use mathlib.Core.Path.{◌∙◌, ◌≡◌, ap, refl, sym}
use native.Mathlib.Omega.{arith}
use Rattle.lists.proofs.PairLaws.{pair_found, pair_missing, pair_same, triple_same}
use Rattle.lists.specs.Lists.{or_zero}
use Rattle.text.proofs.AnswerLaws.{Answer, answer_of, read_at, read_refused}
use Rattle.text.proofs.ByteLaws.{digit_name_byte}
use Rattle.text.proofs.NumberLaws.{digits_digit, digits_other, number_read, number_refused, rank_down_not, rank_up_not}
use Rattle.text.proofs.ReaderLaws.{eats_number}
use Rattle.text.proofs.Spaces.{optional_here, optional_not}
use Rattle.text.proofs.WordLaws.{word_more, word_read, word_refused, word_stop}
use Rattle.text.specs.Amounts.{Range}
use Rattle.text.specs.Brackets.{optional}
use Rattle.text.specs.Bytes.{is_digit, is_name_byte}
use Rattle.text.specs.CodeEnds.{amount_of, end_of_number, end_of_range, ended_at, limited, optional_of, word_end}
use Rattle.text.specs.Names.{is_name}
use Rattle.text.specs.Numbers.{digits_from, rank, rank_down, rank_up}
use Rattle.text.specs.Reader.{Left, Reader, and_then, from, give}
use Rattle.text.specs.Words.{Word, cut_out, name, read_number, word_at, word_of, word_that, written}
use Rattle.std.specs.Prelude as prelude
use Rattle.std.specs.Prelude.{None, Some, unwrap_or}
use Rattle.text.specs.declared.brackets.Optional.{Optional}
use Rattle.text.specs.declared.brackets.Optional.TheVariants as optional_name

-- ---- numbers up to 2^63

-- what is above 2^63 already is refused, whatever follows
large : (n : ℕ) (ds : List ℕ) → 2 ^ 63 < n → limited (digits_from n ds) ≡ None
unfolding digits_from
large n [] h = rw (lt-leb _ _ h, limited)
large n (d ∷ ds) h = go (is_digit d) refl (large (n * 10 + (d - 48)) ds (omega arith))
  where
    go : (t : Bool) → is_digit d ≡ t → limited (digits_from (n * 10 + (d - 48)) ds) ≡ None → limited (digits_from n (d ∷ ds)) ≡ None
    go true e r = rw e r
    go false e r = rw e

-- so the code may stop before n * 10 is too large for 64 bits
too_large : (n d : ℕ) (ds : List ℕ) → 922337203685477580 < n → limited (digits_from (n * 10 + d) ds) ≡ None
too_large n d ds h = large (n * 10 + d) ds (omega arith)

-- a number up to 2^63 that is there
pub limited_is : (o : Option ℕ) (n : ℕ) → limited o ≡ Some n → (o ≡ some n) × (n ≤ 2 ^ 63)
limited_is none n h = let z : ◌≡◌ {A = ℕ} 0 1 = cc in absurd (omega arith)
limited_is (some m) n h = go (leb m (2 ^ 63)) refl
  where
    go : (t : Bool) → leb m (2 ^ 63) ≡ t → (some m ≡ some n) × (n ≤ 2 ^ 63)
    go true e =
        let k : Some m ≡ Some n = rw (e, limited) at h in
        let q : m ≡ n = cc in
        (ap some q, rw q at (leb-true m (2 ^ 63) e))
    go false e =
        let k : None ≡ Some n = rw (e, limited) at h in
        let z : ◌≡◌ {A = ℕ} 0 1 = cc in
        absurd (omega arith)

-- where there is none up to 2^63 there is no rank, with `-` or without
pub limited_nothing : (o : Option ℕ) → limited o ≡ None → (bind o rank_up ≡ none) × (bind o rank_down ≡ none)
unfolding bind
limited_nothing none h = (refl, refl)
limited_nothing (some m) h = go (leb m (2 ^ 63)) refl
  where
    go : (t : Bool) → leb m (2 ^ 63) ≡ t → (rank_up m ≡ none) × (rank_down m ≡ none)
    go true e =
        let k : Some m ≡ None = rw (e, limited) at h in
        let z : ◌≡◌ {A = ℕ} 0 1 = cc in
        absurd (omega arith)
    go false e =
        let l = leb-false m (2 ^ 63) e in
        (rank_up_not m (omega arith), rank_down_not m l)

-- the code's answer for the digits from a position on, behind a part that spells n
abbrev pub digits_end : List ℕ → ℕ → ℕ → prelude.Option (ℕ × ℕ)
digits_end s at n = ended_at (at + length (word_at s at)) (limited (digits_from n (word_at s at)))

module _ (s : List ℕ) (at n : ℕ) where
  -- a digit: the answer is that from the next position on
  pub digits_on : is_digit (get_or s at 0) ≡ true → digits_end s at n ≡ digits_end s (at + 1) (n * 10 + (get_or s at 0 - 48))
  digits_on d =
      let e : at + length (word_at s at) ≡ at + 1 + length (word_at s (at + 1)) = omega (arith, ap length (word_more s at (digit_name_byte _ d))) in
      rw (digits_digit s at n d, e)

  -- a digit behind a part that is too large already
  pub digits_large : is_digit (get_or s at 0) ≡ true → 922337203685477580 < n → digits_end s at n ≡ None
  digits_large d h = rw (digits_digit s at n d, too_large n (get_or s at 0 - 48) (word_at s (at + 1)) h)

  -- another name byte
  pub digits_wrong : is_digit (get_or s at 0) ≡ false → is_name_byte (get_or s at 0) ≡ true → digits_end s at n ≡ None
  digits_wrong d h = rw (digits_other s at n h d)

  -- the end, at a number up to 2^63 and at a greater one
  pub digits_done : is_name_byte (get_or s at 0) ≡ false → n ≤ 2 ^ 63 → digits_end s at n ≡ Some (at, n)
  unfolding digits_from
  digits_done h l = rw (word_stop s at h, le-leb n (2 ^ 63) l, limited) (ap (λ (e : ℕ). Some (e, n)) (omega arith))

  pub digits_over : is_name_byte (get_or s at 0) ≡ false → 2 ^ 63 < n → digits_end s at n ≡ None
  unfolding digits_from
  digits_over h l = rw (word_stop s at h, lt-leb n (2 ^ 63) l, limited)

-- the end and the number of digits, and that there is none
module _ (e : ℕ) where
  pub ended_at_lem : (a : prelude.Option ℕ) {f n : ℕ} → ended_at e a ≡ Some (f, n) → (f ≡ e) × (a ≡ Some n)
  ended_at_lem None h = let z : ◌≡◌ {A = ℕ} 0 1 = cc in absurd (omega arith)
  ended_at_lem (Some m) h = let q = pair_same h in (sym q.0, ap Some q.1)

  pub ended_is : (o : Option ℕ) {f n : ℕ} → ended_at e (limited o) ≡ Some (f, n) → (f ≡ e) × (o ≡ some n) × (n ≤ 2 ^ 63)
  ended_is o {f} {n} h =
      let l = ended_at_lem (limited o) h in
      let i = limited_is o n l.1 in
      (l.0, i.0, i.1)

  pub ended_nothing : (a : prelude.Option ℕ) → ended_at e a ≡ None → a ≡ None
  ended_nothing None h = refl
  ended_nothing (Some m) h = let z : ◌≡◌ {A = ℕ} 0 1 = cc in absurd (omega arith)

-- ---- numbers

-- a number that is there, and that there is none
pub amount_is : (o : Option ℕ) (n : ℕ) → amount_of o ≡ Some n → o ≡ some n
amount_is none n h = let z : ◌≡◌ {A = ℕ} 0 1 = cc in absurd (omega arith)
amount_is (some m) n h = let q : m ≡ n = cc in ap some q

pub amount_nothing : (o : Option ℕ) → amount_of o ≡ None → o ≡ none
amount_nothing none h = refl
amount_nothing (some m) h = let z : ◌≡◌ {A = ℕ} 0 1 = cc in absurd (omega arith)

-- a number that there is, or 0
pub amount_or_zero : (o : Option ℕ) → unwrap_or (amount_of o) 0 ≡ or_zero o
unfolding or_zero
amount_or_zero none = refl
amount_or_zero (some m) = refl

module _ (s : List ℕ) (at : ℕ) where
  -- an end and a rank: the word has that rank, and ends there
  pub number_at : (e k : ℕ) → end_of_number (read_number (from s at)) ≡ Some (e, k) → (rank (word_at s at) ≡ some k) × (e ≡ at + length (word_at s at))
  number_at e k h = go (rank (word_at s at)) refl
    where
      go : (o : Option ℕ) → rank (word_at s at) ≡ o → (rank (word_at s at) ≡ some k) × (e ≡ at + length (word_at s at))
      go none q =
          pair_missing (rw (number_refused s at q) at h)
      go (some m) q =
          let r = pair_same (rw (number_read s at m q) at h) in
          (q ∙ ap some r.1, sym r.0)

  -- so an end and a rank that are the word's are the answer
  pub number_ended : {e k : ℕ} → e ≡ at + length (word_at s at) → rank (word_at s at) ≡ some k → Some (e, k) ≡ end_of_number (read_number (from s at))
  number_ended {e} {k} q h = rw (number_read s at k h) (ap (λ (f : ℕ). Some (f, k)) q)

  -- none: it has none
  pub number_nothing : end_of_number (read_number (from s at)) ≡ None → rank (word_at s at) ≡ none
  number_nothing h = go (rank (word_at s at)) refl
    where
      go : (o : Option ℕ) → rank (word_at s at) ≡ o → rank (word_at s at) ≡ none
      go none q = q
      go (some m) q =
          pair_found (rw (number_read s at m q) at h)

-- ---- words

module _ (s : List ℕ) (at : ℕ) (p : List ℕ → Bool) where
  -- an end: the word passes the test and ends there
  pub word_at_lem : (e : ℕ) → word_end (word_that p (from s at)) ≡ Some e → (p (word_at s at) ≡ true) × (e ≡ at + length (word_at s at))
  word_at_lem e h = go (p (word_at s at)) refl
    where
      go : (t : Bool) → p (word_at s at) ≡ t → (p (word_at s at) ≡ true) × (e ≡ at + length (word_at s at))
      go true k =
          let q : Some (at + length (word_at s at)) ≡ Some e = rw (word_read s at p k) at h in
          let r : e ≡ at + length (word_at s at) = cc in
          (k, r)
      go false k =
          let q : None ≡ Some e = rw (word_refused s at p k) at h in
          let z : ◌≡◌ {A = ℕ} 0 1 = cc in
          absurd (omega arith)

  -- none: it fails the test
  pub word_nothing : word_end (word_that p (from s at)) ≡ None → p (word_at s at) ≡ false
  word_nothing h = go (p (word_at s at)) refl
    where
      go : (t : Bool) → p (word_at s at) ≡ t → p (word_at s at) ≡ false
      go true k =
          let q : Some (at + length (word_at s at)) ≡ None = rw (word_read s at p k) at h in
          let z : ◌≡◌ {A = ℕ} 0 1 = cc in
          absurd (omega arith)
      go false k = k

  -- what the reader gives then: the word, and what is left from its end on
  pub word_to : (e : ℕ) → word_end (word_that p (from s at)) ≡ Some e → word_that p (from s at) ≡ some (word_of s at, from s e)
  word_to e h = let w = word_at_lem e h in rw w.1 (word_read s at p w.0)

  -- or nothing
  pub word_none : word_end (word_that p (from s at)) ≡ None → word_that p (from s at) ≡ none
  word_none h = word_refused s at p (word_nothing h)

-- ---- readers that go forward: what an answer tells, by the laws of AnswerLaws

-- a number's end and rank are such an answer
abbrev pub number_answer : Answer ℕ (prelude.Option (ℕ × ℕ))
number_answer = record {
  yes = λ e k. Some (e, k);
  no = None;
  same_end = λ e e' k k' h. (pair_same h).0;
  same_what = λ e e' k k' h. (pair_same h).1;
  apart = λ e k h. pair_found h;
}

number_answer_lem : (o : Option (ℕ × Left)) → end_of_number o ≡ answer_of number_answer (λ (k : ℕ). k) o
number_answer_lem none = refl
number_answer_lem (some r) = refl

module _ (s : List ℕ) (at : ℕ) where
  -- an end and a rank: the reader of numbers read the rank, and left the text from the end on
  pub number_to : (e k : ℕ) → end_of_number (read_number (from s at)) ≡ Some (e, k) → read_number (from s at) ≡ some (k, from s e)
  number_to e k h =
      let r = read_at number_answer read_number (λ n. n) (λ n. 1) eats_number s at e k (sym (number_answer_lem (read_number (from s at))) ∙ h) in
      r.is ∙ ap (λ (n : ℕ). some (n, from s e)) r.made

  pub number_none : end_of_number (read_number (from s at)) ≡ None → read_number (from s at) ≡ none
  number_none h = read_refused number_answer read_number (λ n. n) (λ n. 1) eats_number s at (sym (number_answer_lem (read_number (from s at))) ∙ h)

-- ---- ranges

-- an end and two ranks: the reader of a range ends there
pub span_at : (o : Option (Range × Left)) (e l h : ℕ) → end_of_range o ≡ Some (e, l, h) → Some e ≡ word_end o
span_at none e l h k = let z : ◌≡◌ {A = ℕ} 0 1 = cc in absurd (omega arith)
span_at (some r) e l h k = let q = triple_same k in ap Some (sym q.0)

-- none: it refuses
pub span_nothing : (o : Option (Range × Left)) → end_of_range o ≡ None → None ≡ word_end o
span_nothing none k = refl
span_nothing (some r) k = let z : ◌≡◌ {A = ℕ} 0 1 = cc in absurd (omega arith)

-- what a reader reads, as it was written, ends where the reader does
pub written_ends : {A : Type 0} (R : Reader A) (s : List ℕ) (at : ℕ) → word_end (R (from s at)) ≡ word_end (written R (from s at))
unfolding written
written_ends {A} R s at = go (R (from s at))
  where
    go : (o : Option (A × Left)) → word_end o ≡ word_end (cut_out (from s at) o)
    go none = refl
    go (some r) = refl

-- ---- an optional name

-- what the reader of an optional name gives, told from the code's answer
abbrev pub optional_read : List ℕ → prelude.Option Optional → Option (Option Word × Left)
optional_read s (Some (optional_name.Name a e)) = some (some (word_of s a), from s e)
optional_read s (Some (optional_name.Absent e)) = some (none, from s e)
optional_read s None = none

-- so a caller goes on with `optional_read s r`, r being the answer
pub optional_told : (s : List ℕ) (at : ℕ) → optional name (from s at) ≡ optional_read s (optional_of (optional name (from s at)))
optional_told s at = go (eqb (get_or s at 0) 32) refl (is_name (word_at s (at + 1))) refl
  where
    told : (o : Option (Option Word × Left)) → optional name (from s at) ≡ o → optional_read s (optional_of o) ≡ o → optional name (from s at) ≡ optional_read s (optional_of (optional name (from s at)))
    told o e k = e ∙ sym k ∙ ap (λ (x : Option (Option Word × Left)). optional_read s (optional_of x)) (sym e)

    go : (t : Bool) → eqb (get_or s at 0) 32 ≡ t → (n : Bool) → is_name (word_at s (at + 1)) ≡ n → optional name (from s at) ≡ optional_read s (optional_of (optional name (from s at)))
    go false e n k = told _ (optional_not name s at (eqb-false _ _ e)) refl
    go true e true k = told _ (optional_here name s at (eqb-true _ _ e) ∙ ap (λ (x : Option (Word × Left)). and_then x (λ w. give (some w))) (word_read s (at + 1) is_name k)) refl
    go true e false k = told _ (optional_here name s at (eqb-true _ _ e) ∙ ap (λ (x : Option (Word × Left)). and_then x (λ w. give (some w))) (word_refused s (at + 1) is_name k)) refl

-- ---- lists

-- where what was read is only put in front, the end stays
pub end_kept : {A : Type 0} (x : A) (o : Option (List A × Left)) → word_end (and_then o (λ xs. give (x ∷ xs))) ≡ word_end o
end_kept x none = refl
end_kept x (some r) = refl
