-- What a comparison compares, a name or in a join `(of T COL)` (02, Q-3): how far it is read, by where its words stand, and its end as code
-- finds it. Assumes nothing.
use Prim.Native.Nat.{◌+◌, ◌-◌, suc, zero, ℕ}
use lib.ListN.{drop, get_or, length, length-drop, take}
use mathlib.Core.Bool.{Bool, cond, false, not, true}
use mathlib.Core.List.{List, [], ◌∷◌}
use mathlib.Core.Option.{none, some}
use mathlib.Core.Path.{◌∙◌, ◌≡◌, ap, refl, sym}
use native.Mathlib.Omega.{arith}
use Rattle.condition.proofs.ConstantLaws.{forward_written}
use Rattle.condition.proofs.CutLaws.{ref_kept}
use Rattle.condition.specs.Answers.{naming_by}
use Rattle.condition.specs.CondForm.{Naming, of_ref, plainly, ref_body, ref_of, subject, tabled}
use Rattle.condition.specs.RefPlaces.{ref_at, ref_column, ref_end_at, ref_table, ref_written}
use Rattle.lists.proofs.Tests.{true_not_false}
use Rattle.text.proofs.CellValues.{written_some}
use Rattle.text.proofs.CodeLaws.{written_ends}
use Rattle.text.proofs.EndLaws.{bracket_end, bracket_none, bracket_wrong, pair_off, pair_on}
use Rattle.text.proofs.Forward.{Forward, forward_bind, forward_bracketed, forward_give, forward_keyword, forward_next, forward_word_that}
use Rattle.text.proofs.ReaderLaws.{byte_at_read, byte_at_refused, eats_refuse, not_read, then_some}
use Rattle.text.proofs.WalkingLaws.{Finds, finds_bind, finds_bracketed, finds_byte, finds_give, finds_next, finds_run, finds_word}
use Rattle.text.proofs.WordLaws.{word_always}
use Rattle.text.specs.Brackets.{among, keyword, next}
use Rattle.text.specs.Bytes.{ascii}
use Rattle.text.specs.CodeEnds.{word_end}
use Rattle.text.specs.Names.{is_name, same_name}
use Rattle.text.specs.Reader.{Left, Reader, ◌>>=◌, byte, from, give, refuse}
use Rattle.text.specs.Walking.{next_word, past, word_end_at}
use Rattle.text.specs.Words.{Word, is_called, name, word_at, word_of, written}
use Rattle.std.specs.Prelude.{None, Option, Some}

-- ---- how far it is read

pub forward_body : Forward ref_body
unfolding ref_body
forward_body =
    forward_bind (next name) _ (forward_next name (forward_word_that is_name)) (λ t.
    forward_bind (next name) _ (forward_next name (forward_word_that is_name)) (λ c. forward_give (record { table = t; column = c })))

pub forward_of : Forward (keyword ((ascii "of", ref_body) ∷ []))
forward_of = forward_keyword ((ascii "of", ref_body) ∷ []) (forward_body, tt)

pub forward_of_ref : Forward of_ref
unfolding of_ref
forward_of_ref = forward_bracketed (keyword ((ascii "of", ref_body) ∷ [])) forward_of

pub forward_subject : (way : Naming) (n : ℕ) → Forward (subject way n)
unfolding subject
forward_subject plainly n = forward_word_that is_name
forward_subject tabled zero = eats_refuse (λ w. 0)
forward_subject tabled (suc n) = forward_written of_ref forward_of_ref

-- ---- what is read at a position

-- what stands behind a space
pub next_read : {A : Type 0} (R : Reader A) (s : List ℕ) (at : ℕ) (a : A) (l : Left) → next R (from s at) ≡ some (a, l) → R (from s (past 32 s at)) ≡ some (a, l)
unfolding next
next_read R s at a l h =
    let r = then_some (byte 32 (from s at)) (λ b. R) (a, l) h in
    ap R (sym ((finds_byte s 32 (λ z. absurd (omega arith))).found at r.0.0 r.0.1 r.1).1) ∙ r.2

-- what is found by place is found as it is written, and ends there
finds_written : {A : Type 0} {s : List ℕ} {R : Reader A} {what : ℕ → A} {to : ℕ → ℕ} → Forward R → Finds s R what to → Finds s (written R) (λ at. record { at = at; bytes = take (to at - at) (drop at s) }) to
unfolding written
finds_written {A} {s} {R} {what} {to} goes p = record {
  found = λ at w l h.
      let a = written_some R (from s at) w l h in
      let g = p.found at a.0 l a.1 in
      let q = goes (from s at) a.0 l a.1 in
      let place : to at ≡ at + q.n = ap (λ (k : Left). k.at) (sym g.1 ∙ q.skipped) in
      let left : length l.bytes ≡ length (drop q.n (drop at s)) = ap (λ (k : Left). length k.bytes) q.skipped in
      let size : length (drop at s) - length l.bytes ≡ to at - at = omega (arith, place, left, q.within, length-drop q.n (drop at s)) in
      (a.2 ∙ ap (λ (n : ℕ). record { at = at; bytes = take n (drop at s) }) size, g.1);
}

finds_body : (s : List ℕ) → Finds s ref_body (λ at. record { table = word_of s (past 32 s at); column = word_of s (next_word s (past 32 s at)) }) (λ at. word_end_at s (next_word s (past 32 s at)))
unfolding ref_body next_word
finds_body s =
    finds_bind (finds_next (finds_word s is_name)) (λ t. next name >>= (λ c. give (record { table = t; column = c }))) (λ t.
    finds_bind (finds_next (finds_word s is_name)) (λ c. give (record { table = t; column = c })) (λ c. finds_give s (record { table = t; column = c })))

pub finds_ref : (s : List ℕ) → Finds s of_ref (ref_at s) (ref_end_at s)
unfolding of_ref keyword among ref_at ref_table ref_column ref_end_at next_word
finds_ref s = finds_bracketed (finds_bind (finds_run s) (among ((ascii "of", ref_body) ∷ [])) (λ w. of (is_called w (ascii "of"))))
  where
    of : (t : Bool) → Finds s (cond t ref_body refuse) (λ at. record { table = word_of s (past 32 s at); column = word_of s (next_word s (past 32 s at)) }) (λ at. word_end_at s (next_word s (past 32 s at)))
    of true = finds_body s
    of false = record { found = λ at x l h. not_read (x, l) h }

-- a column as it is written
pub finds_column : (s : List ℕ) → Finds s (written of_ref) (ref_written s) (ref_end_at s)
unfolding ref_written
finds_column s = finds_written forward_of_ref (finds_ref s)

-- what is compared, and where it ends, by how it is named
abbrev pub subject_at : Naming → List ℕ → ℕ → Word
subject_at plainly = word_of
subject_at tabled = ref_written

abbrev pub subject_end_at : Naming → List ℕ → ℕ → ℕ
subject_end_at plainly = word_end_at
subject_end_at tabled = ref_end_at

pub finds_subject : (s : List ℕ) (way : Naming) (n : ℕ) → Finds s (subject way n) (subject_at way s) (subject_end_at way s)
unfolding subject
finds_subject s plainly n = finds_word s is_name
finds_subject s tabled zero = record { found = λ at x l h. not_read (x, l) h }
finds_subject s tabled (suc n) = finds_column s

-- a column that is read as it is written names what stands there
pub column_is : (s : List ℕ) (at : ℕ) (w : Word) (l : Left) → written of_ref (from s at) ≡ some (w, l) → ref_of w ≡ ref_at s at
unfolding written
column_is s at w l h =
    let a = written_some of_ref (from s at) w l h in
    ref_kept (from s at) l w a.0 (unfold written in h) a.1 ∙ ((finds_ref s).found at a.0 l a.1).0

-- ---- its end, as code finds it

module _ (s : List ℕ) (at : ℕ) where
  -- `T COL` behind `of`: the first name is wrong
  pub body_off : {r : Option ℕ} → r ≡ word_end (next name (from s at)) → r ≡ None → None ≡ word_end (ref_body (from s at))
  unfolding ref_body
  body_off h k = pair_off (next name) (next name) (λ t c. record { table = t; column = c }) s at h k

  -- or the second tells
  pub body_on : {r x : Option ℕ} {e : ℕ} → r ≡ word_end (next name (from s at)) → r ≡ Some e → x ≡ word_end (next name (from s e)) → x ≡ word_end (ref_body (from s at))
  unfolding ref_body
  body_on h k q = pair_on (next name) (next name) (λ t c. record { table = t; column = c }) s at h (forward_next name (forward_word_that is_name)) k q refl

  -- the keyword and what stands behind it
  of_here : same_name (word_at s at) (ascii "of") ≡ true → keyword ((ascii "of", ref_body) ∷ []) (from s at) ≡ ref_body (from s (at + length (word_at s at)))
  unfolding keyword among is_called
  of_here h = rw (word_always s at, h)

  pub of_not : same_name (word_at s at) (ascii "of") ≡ false → keyword ((ascii "of", ref_body) ∷ []) (from s at) ≡ none
  unfolding keyword among is_called
  of_not h = rw (word_always s at, h)

module _ (s : List ℕ) (at : ℕ) {o : Option ℕ} (opening : o ≡ word_end (byte 40 (from s at))) where
  -- no bracket
  pub ref_shut : o ≡ None → None ≡ word_end (of_ref (from s at))
  unfolding of_ref
  ref_shut k = bracket_none (keyword ((ascii "of", ref_body) ∷ [])) s at opening k

  module _ {a : ℕ} (opened : o ≡ Some a) where
    -- another word than `of`
    pub ref_other : same_name (word_at s a) (ascii "of") ≡ false → None ≡ word_end (of_ref (from s at))
    unfolding of_ref
    ref_other h = bracket_wrong (keyword ((ascii "of", ref_body) ∷ [])) s at opening opened (sym (ap word_end (of_not s a h)))

    module _ (h : same_name (word_at s a) (ascii "of") ≡ true) {f : ℕ} (behind : f ≡ a + length (word_at s a)) {r : Option ℕ} (call : r ≡ word_end (ref_body (from s f))) where
      body_is : r ≡ word_end (keyword ((ascii "of", ref_body) ∷ []) (from s a))
      body_is = call ∙ ap (λ k. word_end (ref_body (from s k))) behind ∙ sym (ap word_end (of_here s a h))

      -- what stands behind it is wrong
      pub ref_wrong : r ≡ None → None ≡ word_end (of_ref (from s at))
      unfolding of_ref
      ref_wrong k = bracket_wrong (keyword ((ascii "of", ref_body) ∷ [])) s at opening opened (sym k ∙ body_is)

      -- the bracket closes behind it, or it does not
      pub ref_end : {e : ℕ} {x : Option ℕ} → r ≡ Some e → x ≡ word_end (byte 41 (from s e)) → x ≡ word_end (of_ref (from s at))
      unfolding of_ref
      ref_end k q = bracket_end (keyword ((ascii "of", ref_body) ∷ [])) s at opening forward_of opened (sym k ∙ body_is) q

-- the same by the bytes that stand there
module _ (s : List ℕ) (at : ℕ) where
  pub ref_unopened : (get_or s at 0 ≡ 40 → ⊥) → None ≡ word_end (of_ref (from s at))
  ref_unopened h = ref_shut s at (sym (ap word_end (byte_at_refused s at 40 h))) refl

  module _ (b : get_or s at 0 ≡ 40) where
    opening : Some (at + 1) ≡ word_end (byte 40 (from s at))
    opening = sym (ap word_end (byte_at_read s at 40 b))

    pub ref_unkeyed : same_name (word_at s (at + 1)) (ascii "of") ≡ false → None ≡ word_end (of_ref (from s at))
    ref_unkeyed h = ref_other s at opening refl h

    module _ (h : same_name (word_at s (at + 1)) (ascii "of") ≡ true) {f : ℕ} (behind : f ≡ at + 1 + length (word_at s (at + 1))) {r : Option ℕ} (call : r ≡ word_end (ref_body (from s f))) where
      pub ref_unnamed : r ≡ None → None ≡ word_end (of_ref (from s at))
      ref_unnamed k = ref_wrong s at opening refl h behind call k

      pub ref_unclosed : {e : ℕ} → r ≡ Some e → (get_or s e 0 ≡ 41 → ⊥) → None ≡ word_end (of_ref (from s at))
      ref_unclosed {e} k z = ref_end s at opening refl h behind call k (sym (ap word_end (byte_at_refused s e 41 z)))

      pub ref_closed : {e : ℕ} → r ≡ Some e → get_or s e 0 ≡ 41 → Some (e + 1) ≡ word_end (of_ref (from s at))
      ref_closed {e} k z = ref_end s at opening refl h behind call k (sym (ap word_end (byte_at_read s e 41 z)))

-- what is compared, by the flag
module _ (s : List ℕ) (at : ℕ) where
  pub subject_name : (j : Bool) (n : ℕ) → not j ≡ true → word_end (name (from s at)) ≡ word_end (subject (naming_by j) n (from s at))
  unfolding subject
  subject_name false n h = refl
  subject_name true n h = true_not_false h refl

  pub subject_flat : (j : Bool) (n : ℕ) → not j ≡ false → n ≡ 0 → None ≡ word_end (subject (naming_by j) n (from s at))
  unfolding subject
  subject_flat true n h e = rw e
  subject_flat false n h e = true_not_false refl h

  pub subject_ref : (j : Bool) (n : ℕ) → not j ≡ false → (n ≡ 0 → ⊥) → word_end (of_ref (from s at)) ≡ word_end (subject (naming_by j) n (from s at))
  unfolding subject
  subject_ref false n h nz = true_not_false refl h
  subject_ref true zero h nz = absurd (nz refl)
  subject_ref true (suc n) h nz = written_ends of_ref s at
