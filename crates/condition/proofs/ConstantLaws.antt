-- The value of a comparison at a position of a text, as code reads it. Assumes nothing.
use Prim.Native.Nat.{suc, zero, ℕ}
use borrow.Author.Tests.{eqb-false, eqb-true}
use lib.Dec.{eqb}
use lib.ListN.{get_or}
use mathlib.Core.Bool.{Bool, cond, false, true}
use mathlib.Core.List.{List, []}
use mathlib.Core.Option.{some}
use mathlib.Core.Path.{◌∙◌, ◌≡◌, ap, refl, sym}
use Rattle.calendar.proofs.DateValues.{date_agree, finds_date, forward_date}
use Rattle.calendar.specs.DateText.{date_text}
use Rattle.condition.specs.CondForm.{constant}
use Rattle.text.proofs.CellValues.{written_some}
use Rattle.text.proofs.Closings.{written_end, written_word}
use Rattle.text.proofs.CodeLaws.{written_ends}
use Rattle.text.proofs.Enclosed.{bracket_word}
use Rattle.text.proofs.Forward.{Forward, forward_word_that}
use Rattle.text.proofs.Places.{Agree, if_agree, word_that_agree, written_agree}
use Rattle.text.proofs.ReadBack.{placeless}
use Rattle.text.proofs.ReaderLaws.{eats_if_next, not_read}
use Rattle.text.proofs.Spaces.{if_here, if_not}
use Rattle.text.proofs.WalkingLaws.{Finds, finds_if, finds_word}
use Rattle.text.proofs.WordLaws.{word_refused}
use Rattle.text.specs.Bytes.{is_letter}
use Rattle.text.specs.CodeEnds.{word_end}
use Rattle.text.specs.Names.{is_name}
use Rattle.text.specs.Numbers.{is_number, is_value, rank}
use Rattle.text.specs.Reader.{Left, Reader, from}
use Rattle.text.specs.Walking.{written_end_at}
use Rattle.text.specs.Words.{Word, value, written, written_of}
use Rattle.lists.specs.Lists.{there}

pub forward_written : {A : Type 0} (R : Reader A) → Forward R → Forward (written R)
unfolding written
forward_written R p l w l' h = let a = written_some R l w l' h in p l a.0 l' a.1

pub forward_constant : (n : ℕ) → Forward (constant n)
unfolding constant
forward_constant zero = forward_word_that is_value
forward_constant (suc n) = eats_if_next (λ w. 0) 40 (written date_text) value (forward_written date_text forward_date) (forward_word_that is_value)

-- where it stands does not matter
pub constant_agree : (n : ℕ) → Agree placeless (constant n) (constant n)
unfolding constant
constant_agree zero = word_that_agree is_value
constant_agree (suc n) = if_agree 40 (written_agree date_agree) (word_that_agree is_value)

-- a name or number that is read at a position is what is written there, since no bracket opens there
finds_value : (s : List ℕ) → Finds s value (written_of s) (written_end_at s)
finds_value s = record { found = λ at w l h. go at w l h (eqb (get_or s at 0) 40) refl }
  where
    no_value_lem : is_value [] ≡ false
    no_value_lem = unfold is_value is_name is_number is_letter rank there in refl

    go : (at : ℕ) (w : Word) (l : Left) → value (from s at) ≡ some (w, l) → (t : Bool) → eqb (get_or s at 0) 40 ≡ t → (w ≡ written_of s at) × (l ≡ from s (written_end_at s at))
    go at w l h true k = not_read (w, l) (sym (word_refused s at is_value (ap is_value (bracket_word s at (eqb-true _ _ k)) ∙ no_value_lem)) ∙ h)
    go at w l h false k =
        let g = (finds_word s is_value).found at w l h in
        (g.0 ∙ ap (λ (bs : List ℕ). record { at = at; bytes = bs }) (sym (written_word s at (eqb-false _ _ k))), g.1 ∙ ap (from s) (sym (written_end s at (eqb-false _ _ k))))

-- the value that is read at a position is what is written there, and ends where that ends
pub finds_constant : (s : List ℕ) (n : ℕ) → Finds s (constant n) (written_of s) (written_end_at s)
unfolding constant
finds_constant s zero = finds_value s
finds_constant s (suc n) = record { found = λ at w l h. go at w l (eqb (get_or s at 0) 40) ((finds_if (finds_date s) 40 (finds_value s)).found at w l h) }
  where
    go : (at : ℕ) (w : Word) (l : Left) (t : Bool) → (w ≡ cond t (written_of s at) (written_of s at)) × (l ≡ from s (cond t (written_end_at s at) (written_end_at s at))) → (w ≡ written_of s at) × (l ≡ from s (written_end_at s at))
    go at w l true h = h
    go at w l false h = h

-- ---- its end, as code finds it

module _ (s : List ℕ) (at : ℕ) where
  pub constant_flat : (n : ℕ) → n ≡ 0 → word_end (value (from s at)) ≡ word_end (constant n (from s at))
  unfolding constant
  constant_flat n e = rw e

  pub constant_date : (n : ℕ) → (n ≡ 0 → ⊥) → get_or s at 0 ≡ 40 → word_end (date_text (from s at)) ≡ word_end (constant n (from s at))
  unfolding constant
  constant_date zero nz b = absurd (nz refl)
  constant_date (suc n) nz b = written_ends date_text s at ∙ sym (ap word_end (if_here 40 (written date_text) value s at b))

  pub constant_word : (n : ℕ) → (get_or s at 0 ≡ 40 → ⊥) → word_end (value (from s at)) ≡ word_end (constant n (from s at))
  unfolding constant
  constant_word zero b = refl
  constant_word (suc n) b = sym (ap word_end (if_not 40 (written date_text) value s at b))
