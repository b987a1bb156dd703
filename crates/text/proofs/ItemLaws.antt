-- Lists of any items: what code asks of the reader of an item, and that a list ends at the same place whether what its items read
-- is kept or dropped. Assumes nothing.
use Prim.Native.Nat.{suc, zero, ℕ}
use borrow.Author.Tests.{ne_eqb}
use lib.ListN.{get_or, length}
use mathlib.Core.Bool.{Bool, cond, false, true}
use mathlib.Core.List.{List, [], ◌∷◌}
use mathlib.Core.Option.{Option, none, some}
use mathlib.Core.Path.{◌∙◌, ◌≡◌, refl, sym}
use native.Mathlib.Omega.{arith}
use Rattle.std.specs.Prelude as prelude
use Rattle.text.proofs.EndLaws.{then_give}
use Rattle.text.proofs.Forward.{Forward, forward_bind, forward_give}
use Rattle.text.proofs.Lefts.{first_drop}
use Rattle.text.specs.Brackets.{many, next, up_to}
use Rattle.text.specs.CodeEnds.{word_end}
use Rattle.text.specs.Items.{GoesOn, dropped}
use Rattle.text.specs.Reader.{Left, Reader, ◌>>=◌, and_then, byte, from, give, if_next, next_is}

module _ {A : Type 0} (R : Reader A) where
  -- a reader that goes on goes forward, and the other way round
  pub forward_goes : GoesOn R → Forward R
  forward_goes h l a l' e =
      let q = h l a l' e in
      record { n = q.0; enough = omega arith; within = q.1; skipped = q.2 }

  goes_forward : Forward R → GoesOn R
  goes_forward p l a l' e =
      let q = p l a l' e in
      (q.n, q.within, q.skipped)

module _ {A : Type 0} (R : Reader A) where
  -- it goes on if the reader itself only goes forward
  pub dropped_goes : Forward R → GoesOn (dropped R)
  dropped_goes p = goes_forward (dropped R) (forward_bind R (λ a. give tt) p (λ a. forward_give tt))

  -- it ends where the reader itself ends
  pub dropped_end : (s : List ℕ) (at : ℕ) {r : prelude.Option ℕ} → r ≡ word_end (R (from s at)) → r ≡ word_end (dropped R (from s at))
  dropped_end s at h = then_give R s at (λ a. tt) h

  -- one item more ends where the rest does
  longer : {B C : Type 0} (f : B → C) (o : Option (B × Left)) → word_end (and_then o (λ x. give (f x))) ≡ word_end o
  longer f none = refl
  longer f (some r) = refl

  -- one turn, where what stands behind it ends alike
  turn_end : (xs : Reader (List (Unit {0}))) (ys : Reader (List A)) → ((l : Left) → word_end (xs l) ≡ word_end (ys l)) → (l : Left)
      → word_end (if_next 32 (next (dropped R) >>= (λ x. xs >>= (λ more. give (x ∷ more)))) (give []) l) ≡ word_end (if_next 32 (next R >>= (λ x. ys >>= (λ more. give (x ∷ more)))) (give []) l)
  unfolding if_next next
  turn_end xs ys h l = turn (next_is 32 l)
    where
      behind : (o : Option (A × Left)) → word_end (and_then (and_then o (λ a. give tt)) (λ x. xs >>= (λ more. give (x ∷ more)))) ≡ word_end (and_then o (λ x. ys >>= (λ more. give (x ∷ more))))
      behind none = refl
      behind (some r) = longer (λ more. tt ∷ more) (xs r.1) ∙ h r.1 ∙ sym (longer (λ more. r.0 ∷ more) (ys r.1))

      spaced : (o : Option (ℕ × Left)) → word_end (and_then (and_then o (λ b. dropped R)) (λ x. xs >>= (λ more. give (x ∷ more)))) ≡ word_end (and_then (and_then o (λ b. R)) (λ x. ys >>= (λ more. give (x ∷ more))))
      spaced none = refl
      spaced (some r) = behind (R r.1)

      turn : (t : Bool) → word_end (cond t (next (dropped R) >>= (λ x. xs >>= (λ more. give (x ∷ more)))) (give []) l) ≡ word_end (cond t (next R >>= (λ x. ys >>= (λ more. give (x ∷ more)))) (give []) l)
      turn true = spaced (byte 32 l)
      turn false = refl

  -- as many turns end at the same place
  up_to_end : (n : ℕ) (l : Left) → word_end (up_to n (dropped R) l) ≡ word_end (up_to n R l)
  unfolding up_to
  up_to_end zero l = refl
  up_to_end (suc n) l = turn_end (up_to n (dropped R)) (up_to n R) (up_to_end n) l

  -- a list of them ends where a list of items that are kept ends
  pub dropped_many : (l : Left) → word_end (many (dropped R) l) ≡ word_end (many R l)
  unfolding many
  dropped_many l = up_to_end (length l.bytes) l

-- where no space comes next, a list ends, whatever its items
pub items_stop : {A : Type 0} (R : Reader A) (s : List ℕ) (at : ℕ) → (get_or s at 0 ≡ 32 → ⊥) → word_end (many R (from s at)) ≡ prelude.Some at
unfolding many up_to if_next
items_stop {A} R s at h = go (length (from s at).bytes)
  where
    go : (n : ℕ) → word_end (up_to n R (from s at)) ≡ prelude.Some at
    go zero = refl
    go (suc n) = rw (first_drop s at, ne_eqb _ _ h)
