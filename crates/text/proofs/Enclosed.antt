-- Values in brackets: a reader whose texts open with a bracket and end with their first closing one reads at a position of a text
-- exactly what is written there. Assumes nothing.
use Prim.Native.Nat.{◌+◌, ◌-◌, ℕ}
use borrow.Author.Tests.{eqb-false, eqb-true, leb-true}
use lib.Dec.{eqb, leb}
use lib.ListN.{drop, get_or, length, length-append, length-drop, take}
use mathlib.Core.Bool.{Bool, false, true}
use mathlib.Core.List.{List, [], ◌++◌, ◌∷◌, append-nil}
use mathlib.Core.Option.{Option, map, bind, none, some}
use mathlib.Core.Path.{◌∙◌, ◌≡◌, ap, refl, subst, sym}
use native.Mathlib.Omega.{arith}
use Rattle.lists.proofs.Tests.{and_left, never, true_not_false}
use Rattle.lists.specs.Lists.{all_of}
use Rattle.text.proofs.ByteLaws.{run_name_bytes}
use Rattle.text.proofs.CellValues.{take_front, written_some}
use Rattle.text.proofs.Closings.{closing_more, closing_stands, written_bracket, written_word}
use Rattle.text.proofs.Forward.{Forward}
use Rattle.text.proofs.Lefts.{before_end, first_drop, skip_from}
use Rattle.text.proofs.ReadBack.{Gives, Reads, gives, left}
use Rattle.text.proofs.ReaderLaws.{got, not_read}
use Rattle.text.proofs.WalkingLaws.{Finds}
use Rattle.text.proofs.WordLaws.{word_stop}
use Rattle.text.proofs.Written.{Spells, spells_whole}
use Rattle.text.specs.Bytes.{first_byte, is_digit, is_letter, is_name_byte, within}
use Rattle.text.specs.Names.{is_name, lower, same_byte, same_name}
use Rattle.text.specs.Numbers.{digits_from, magnitude, no_leading_zero, rank}
use Rattle.text.specs.Reader.{Left, Reader, ended, from, whole}
use Rattle.text.specs.Walking.{written_end_at}
use Rattle.text.specs.Words.{to_closing, word_at, written, written_at, written_of}

-- T says which bytes are a value as it is written: they open with a bracket, end with the first closing one, and R reads them
pub record Enclosed {A : Type 0} (T : A → List ℕ → Type 0) (R : Reader A) : Type 0 where
  pub spelled : Spells T R
  pub goes : Forward R
  pub reads : (a : A) (v rest : List ℕ) → T a v → Reads (λ (x : A). x) R (v ++ rest) a rest
  pub opens : (a : A) (v rest : List ℕ) → T a v → first_byte (v ++ rest) ≡ 40
  pub closes : (a : A) (v rest : List ℕ) → T a v → to_closing (v ++ rest) ≡ v

-- the value a is read at a position of a text, as it is written there
pub record EnclosedAt {A : Type 0} (T : A → List ℕ → Type 0) (R : Reader A) (s : List ℕ) (at : ℕ) (a : A) : Type 0 where
  pub opened : get_or s at 0 ≡ 40
  pub text : T a (written_at s at)
  pub stood : drop at s ≡ written_at s at ++ drop (written_end_at s at) s
  pub read : R (from s at) ≡ some (a, from s (written_end_at s at))

-- the word at a position begins with no bracket
pub word_unopened : (s : List ℕ) (at : ℕ) → first_byte (word_at s at) ≡ 40 → ⊥
word_unopened s at = go (word_at s at) (run_name_bytes (drop at s))
  where
    go : (w : List ℕ) → all_of is_name_byte w ≡ true → first_byte w ≡ 40 → ⊥
    go [] h e = absurd (omega (arith, e))
    go (b ∷ w) h e = unfold all_of in true_not_false (and_left (is_name_byte b) _ h) (ap is_name_byte e ∙ unfold is_name_byte is_letter is_digit in refl)

module _ {A : Type 0} (T : A → List ℕ → Type 0) (R : Reader A) (p : Enclosed T R) where
  -- bytes that are a value are read whole
  pub enclosed_whole : (a : A) (v : List ℕ) → T a v → whole R v ≡ some a
  unfolding whole
  enclosed_whole a v t = go (subst (λ (bs : List ℕ). Gives (λ (x : A). x) a [] (R (left 0 bs))) (append-nil v) ((p.reads a v [] t).from 0))
    where
      go : {o : Option (A × Left)} → Gives (λ (x : A). x) a [] o → ended o ≡ some a
      go (gives q) = unfold ended in ap some q

  module _ (s : List ℕ) (at : ℕ) where
    pub enclosed_at : (a : A) (l : Left) → R (from s at) ≡ some (a, l) → EnclosedAt T R s at a
    unfolding written_end_at
    enclosed_at a l h =
        let x = p.spelled (from s at) a l h in
        let q = p.goes (from s at) a l h in
        let o : get_or s at 0 ≡ 40 = sym (first_drop s at) ∙ ap first_byte x.stood ∙ p.opens a x.read l.bytes x.spells in
        let w : written_at s at ≡ x.read = written_bracket s at o ∙ ap to_closing x.stood ∙ p.closes a x.read l.bytes x.spells in
        let n : length (drop at s) ≡ length x.read + length l.bytes = ap length x.stood ∙ length-append x.read l.bytes in
        let m : length l.bytes ≡ length (drop q.n (drop at s)) = ap (λ (k : Left). length k.bytes) q.skipped in
        let e : q.n ≡ length (written_at s at) = omega (arith, n, m, q.within, length-drop q.n (drop at s), ap length w) in
        let r : l ≡ from s (at + length (written_at s at)) = q.skipped ∙ skip_from s at q.n ∙ ap (λ (k : ℕ). from s (at + k)) e in
        record {
          opened = o;
          text = subst (T a) (sym w) x.spells;
          stood = x.stood ∙ ap (λ (v : List ℕ). v ++ l.bytes) (sym w) ∙ ap (λ (k : Left). written_at s at ++ k.bytes) r;
          read = h ∙ ap (λ (k : Left). some (a, k)) r;
        }

    read_here : (a : A) → T a (to_closing (drop at s)) → R (from s at) ≡ none → ⊥
    read_here a t h = go ((p.reads a _ (drop (length (to_closing (drop at s))) (drop at s)) t).from at) (ap (λ (bs : List ℕ). R (left at bs)) (sym (closing_stands (drop at s))) ∙ h)
      where
        go : {o : Option (A × Left)} {rest : List ℕ} → Gives (λ (x : A). x) a rest o → o ≡ none → ⊥
        go (gives {y} {at = k} q) e = not_read (y, left k _) (sym e)

    -- what is written there is a value if one is read there, and the same
    pub enclosed_written : whole R (written_at s at) ≡ map (λ x. x.0) (R (from s at))
    enclosed_written = go (R (from s at)) refl
      where
        none_written : R (from s at) ≡ none → (o : Option A) → whole R (written_at s at) ≡ o → o ≡ none
        none_written h none e = refl
        none_written h (some a) e = opened (eqb (get_or s at 0) 40) refl
          where
            is : T a (written_at s at)
            is = spells_whole T R p.spelled (written_at s at) a e

            opened : (t : Bool) → eqb (get_or s at 0) 40 ≡ t → some a ≡ none
            opened true k = absurd (read_here a (subst (T a) (written_bracket s at (eqb-true _ _ k)) is) h)
            opened false k = absurd (word_unopened s at (ap first_byte (sym (written_word s at (eqb-false _ _ k)) ∙ sym (append-nil (written_at s at))) ∙ p.opens a (written_at s at) [] is))

        go : (o : Option (A × Left)) → R (from s at) ≡ o → whole R (written_at s at) ≡ map (λ x. x.0) o
        go none h = none_written h (whole R (written_at s at)) refl
        go (some x) h = enclosed_whole x.0 (written_at s at) (enclosed_at x.0 x.1 h).text

  -- the value that is read at a position is what is written there, and ends where that ends
  pub finds_enclosed : (s : List ℕ) → Finds s (written R) (written_of s) (written_end_at s)
  unfolding written
  finds_enclosed s = record {
    found = λ at w l h.
        let a = written_some R (from s at) w l h in
        let x = enclosed_at s at a.0 l a.1 in
        let e : l ≡ from s (written_end_at s at) = sym (got (a.0, from s (written_end_at s at)) a.0 l (sym x.read ∙ a.1)).1 in
        let b = ap (λ (k : Left). take (length (drop at s) - length k.bytes) (drop at s)) e ∙ ap (λ (bs : List ℕ). take (length bs - length (drop (written_end_at s at) s)) bs) x.stood ∙ take_front (written_at s at) (drop (written_end_at s at) s) in
        (a.2 ∙ ap (λ (bs : List ℕ). record { at = at; bytes = bs }) b, e);
  }

-- ---- where a bracket opens, what is written there is no word

-- its first byte is the bracket
bracket_written : (s : List ℕ) (at : ℕ) → get_or s at 0 ≡ 40 → written_at s at ≡ 40 ∷ to_closing (drop (at + 1) s)
bracket_written s at h = written_bracket s at h ∙ closing_more s at (before_end s at (λ z. absurd (omega (arith, h, z)))) (λ z. absurd (omega (arith, h, z))) (λ z. absurd (omega (arith, h, z))) ∙ ap (λ (b : ℕ). b ∷ to_closing (drop (at + 1) s)) h

-- and no word stands there
pub bracket_word : (s : List ℕ) (at : ℕ) → get_or s at 0 ≡ 40 → word_at s at ≡ []
bracket_word s at h = word_stop s at (ap is_name_byte h ∙ unfold is_name_byte is_letter is_digit in refl)

-- a test that fails for no word and for whatever opens with a bracket holds of what is written where it holds of the word
module _ {A : Type 0} (f : List ℕ → A) (same : (bs : List ℕ) → f (40 ∷ bs) ≡ f []) (s : List ℕ) (at : ℕ) where
  pub written_as_word : f (written_at s at) ≡ f (word_at s at)
  written_as_word = go (eqb (get_or s at 0) 40) refl
    where
      go : (t : Bool) → eqb (get_or s at 0) 40 ≡ t → f (written_at s at) ≡ f (word_at s at)
      go true k =
          let h = eqb-true _ _ k in
          ap f (bracket_written s at h) ∙ same (to_closing (drop (at + 1) s)) ∙ ap f (sym (bracket_word s at h))
      go false k = ap f (written_word s at (eqb-false _ _ k))

module _ (s : List ℕ) (at : ℕ) where
  -- so it is a number or a name where the word is one
  pub written_rank : rank (written_at s at) ≡ rank (word_at s at)
  written_rank = written_as_word rank (λ bs. unfold rank magnitude no_leading_zero digits_from is_digit bind in refl) s at

  pub written_is_name : is_name (written_at s at) ≡ is_name (word_at s at)
  written_is_name = written_as_word is_name (λ bs. unfold is_name is_letter in refl) s at

  -- and the same name as no word
  pub written_other : (w : List ℕ) → all_of is_name_byte w ≡ true → get_or s at 0 ≡ 40 → same_name w (written_at s at) ≡ false
  unfolding same_name
  written_other [] k h = rw (bracket_written s at h)
  written_other (b ∷ w) k h = rw (bracket_written s at h, no_bracket b (and_left (is_name_byte b) (all_of is_name_byte w) (unfold all_of in k)))
    where
      no_bracket : (b : ℕ) → is_name_byte b ≡ true → same_byte b 40 ≡ false
      no_bracket b n = never (same_byte b 40) (λ e. go b n (within 65 90 b) refl (eqb-true _ _ (unfold same_byte in e)))
        where
          go : (b : ℕ) → is_name_byte b ≡ true → (t : Bool) → within 65 90 b ≡ t → lower b ≡ lower 40 → ⊥
          go b n true u e = unfold lower in let z : b + 32 ≡ 40 = rw u at e in absurd (omega (arith, z, leb-true 65 b (and_left (leb 65 b) (leb b 90) u)))
          go b n false u e = unfold lower in let z : b ≡ 40 = rw u at e in true_not_false n (ap is_name_byte z ∙ unfold is_name_byte is_letter is_digit in refl)
