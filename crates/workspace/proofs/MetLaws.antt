-- Names that were met: what is said of a new one, and of those that were met with one more. Assumes nothing.
use Prim.Native.Nat.{◌≤◌, ℕ}
use lib.Dec.{eqb}
use lib.ListN.{length}
use mathlib.Core.Bool.{Bool, ◌||◌, false, true, true≢false}
use mathlib.Core.List.{List, []}
use mathlib.Core.Path.{◌∙◌, ◌≡◌, ap, sym}
use Rattle.workspace.proofs.HashLaws.{same_print}
use Rattle.workspace.specs.Hash.{print_of}
use Rattle.workspace.specs.Met.{Met, high_bit, low_bit, marked, met_words}
use Rattle.lists.proofs.Tests.{and_both, and_left, and_right, eqb_self, never, or_cases, or_left, or_right, true_not_false}
use Rattle.lists.specs.Lists.{any_of}
use Rattle.purpose.specs.Members.{has}
use Rattle.text.specs.Words.{Word, is_called}

-- at first no name was met, whatever the bits are
pub met_none : (ms : List ℕ) → Met ms []
unfolding any_of
met_none ms = record { told = λ l w t. absurd (true≢false (sym t)) }

-- a name without both bits is none of those that were met
pub met_new : {ms : List ℕ} {ws : List Word} → Met ms ws → met_words ≤ length ms → (w : Word) → marked ms (print_of w.bytes) ≡ false → any_of (λ v. is_called w v.bytes) ws ≡ false
met_new m l w h = never _ (λ t. true_not_false (m.told l w t) h)

-- either bit missing
pub low_missing : (ms : List ℕ) (h : ℕ) → has ms (low_bit h) ≡ false → marked ms h ≡ false
unfolding marked
low_missing ms h e = never _ (λ t. true_not_false (and_left (has ms (low_bit h)) (has ms (high_bit h)) t) e)

pub high_missing : (ms : List ℕ) (h : ℕ) → has ms (high_bit h) ≡ false → marked ms h ≡ false
unfolding marked
high_missing ms h e = never _ (λ t. true_not_false (and_right (has ms (low_bit h)) (has ms (high_bit h)) t) e)

pub both_there : (ms : List ℕ) (h : ℕ) → has ms (low_bit h) ≡ true → has ms (high_bit h) ≡ true → marked ms h ≡ true
unfolding marked
both_there ms h a b = and_both _ _ a b

-- one name more, whose bits are set, where no bit is lost
pub met_more : {ms ns : List ℕ} {ws all : List Word} (w : Word) → (met_words ≤ length ns → (met_words ≤ length ms) × ((h : ℕ) → marked ms h ≡ true → marked ns h ≡ true) × (marked ns (print_of w.bytes) ≡ true))
    → Met ms ws → ((f : Word → Bool) → any_of f all ≡ (f w || any_of f ws)) → Met ns all
met_more {ms} {ns} {ws} {all} w set m e = record {
  told = λ l v t.
      or_cases (is_called v w.bytes) (any_of (λ x. is_called v x.bytes) ws) (sym (e (λ x. is_called v x.bytes)) ∙ t)
      (λ same. unfold is_called in ap (marked ns) (same_print v.bytes w.bytes same) ∙ (set l).2)
      (λ earlier. (set l).1 (print_of v.bytes) (m.told (set l).0 v earlier));
}

-- two bits are set, one after the other
module _ (ms ls ns : List ℕ) (h : ℕ) (low : (j : ℕ) → has ls j ≡ (eqb j (low_bit h) || has ms j)) (high : (j : ℕ) → has ns j ≡ (eqb j (high_bit h) || has ls j)) where
  kept : (j : ℕ) → has ms j ≡ true → has ns j ≡ true
  kept j t = high j ∙ or_right (eqb j (high_bit h)) (has ls j) (low j ∙ or_right (eqb j (low_bit h)) (has ms j) t)

  pub marked_kept : (g : ℕ) → marked ms g ≡ true → marked ns g ≡ true
  unfolding marked
  marked_kept g t =
      and_both _ _ (kept (low_bit g) (and_left (has ms (low_bit g)) (has ms (high_bit g)) t)) (kept (high_bit g) (and_right (has ms (low_bit g)) (has ms (high_bit g)) t))

  pub marked_new : marked ns h ≡ true
  unfolding marked
  marked_new =
      and_both _ _
      (high (low_bit h) ∙ or_right (eqb (low_bit h) (high_bit h)) (has ls (low_bit h)) (low (low_bit h) ∙ or_left (eqb (low_bit h) (low_bit h)) (has ms (low_bit h)) (eqb_self (low_bit h))))
      (high (high_bit h) ∙ or_left (eqb (high_bit h) (high_bit h)) (has ls (high_bit h)) (eqb_self (high_bit h)))
