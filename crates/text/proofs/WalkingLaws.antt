-- The steps of Walking: they only go forward, not past the end, and what a reader read at a position is what they find there.
-- Assumes nothing.
use Prim.Native.Nat.{◌+◌, ◌<◌, ◌≤◌, ℕ}
use borrow.Author.Tests.{eq-eqb, eqb-false, eqb-true, le-ltb, lt-ltb, ltb-true}
use lib.Dec.{eqb, ltb}
use lib.ListN.{drop, get_or, length, length-drop}
use mathlib.Core.Bool.{Bool, ◌&&◌, cond, false, true}
use mathlib.Core.List.{List}
use mathlib.Core.Option.{some}
use mathlib.Core.Path.{◌∙◌, ◌≡◌, ap, refl, sym}
use native.Mathlib.Omega.{arith}
use Rattle.lists.proofs.Tests.{and_left, and_right, never}
use Rattle.text.proofs.ByteLaws.{run_within}
use Rattle.text.proofs.Lefts.{before_end, first_drop}
use Rattle.text.proofs.ReaderLaws.{byte_at_read, byte_at_refused, got, not_read, then_some}
use Rattle.text.proofs.WordLaws.{word_always, word_read, word_refused}
use Rattle.text.specs.Brackets.{bracketed, next}
use Rattle.text.specs.Reader.{Left, Reader, ◌>>=◌, ◌>>◌, byte, from, give, if_next}
use Rattle.text.specs.Walking.{next_word, past, word_end_at}
use Rattle.text.specs.Words.{Word, word, word_at, word_of, word_that}

module _ (b : ℕ) (s : List ℕ) (at : ℕ) where
  -- the byte stands there
  pub past_on : at < length s → get_or s at 0 ≡ b → past b s at ≡ at + 1
  unfolding past
  past_on h e = rw (lt-ltb _ _ h, eq-eqb _ _ e)

  -- the same for a byte that is not 0: it stands before the end
  pub past_here : (b ≡ 0 → ⊥) → get_or s at 0 ≡ b → past b s at ≡ at + 1
  past_here nz e = past_on (before_end s at (λ z. nz (sym e ∙ z))) e

  -- another byte stands there
  pub past_other : (get_or s at 0 ≡ b → ⊥) → past b s at ≡ at
  unfolding past
  past_other h = rw (never (ltb at (length s) && eqb (get_or s at 0) b) (λ t. h (eqb-true _ _ (and_right (ltb at (length s)) (eqb (get_or s at 0) b) t))))

  -- none does
  pub past_end : length s ≤ at → past b s at ≡ at
  unfolding past
  past_end h = rw (le-ltb _ _ h)

  past_by : (t : Bool) → (ltb at (length s) && eqb (get_or s at 0) b) ≡ t → (at ≤ past b s at) × (at ≤ length s → past b s at ≤ length s)
  unfolding past
  past_by true e = rw e (omega arith, λ h. omega (arith, ltb-true at (length s) (and_left (ltb at (length s)) (eqb (get_or s at 0) b) e)))
  past_by false e = rw e (omega arith, λ h. h)

  pub past_forward : at ≤ past b s at
  past_forward = (past_by (ltb at (length s) && eqb (get_or s at 0) b) refl).0

  pub past_within : at ≤ length s → past b s at ≤ length s
  past_within = (past_by (ltb at (length s) && eqb (get_or s at 0) b) refl).1

module _ (s : List ℕ) (at : ℕ) where
  pub word_forward : at ≤ word_end_at s at
  unfolding word_end_at
  word_forward = omega arith

  pub word_within : at ≤ length s → word_end_at s at ≤ length s
  unfolding word_end_at
  word_within h = omega (arith, run_within (drop at s), length-drop at s)

  pub next_forward : at ≤ next_word s at
  unfolding next_word
  next_forward = omega (arith, word_forward, past_forward 32 s (word_end_at s at))

  pub next_within : at ≤ length s → next_word s at ≤ length s
  unfolding next_word
  next_within h = past_within 32 s (word_end_at s at) (word_within h)

-- ---- what readers read, by position

-- at each position of s the reader R reads what `what` finds there, if it reads anything, and ends where `to` says
pub record Finds {A : Type 0} (s : List ℕ) (R : Reader A) (what : ℕ → A) (to : ℕ → ℕ) : Type 0 where
  pub found : (at : ℕ) (x : A) (l : Left) → R (from s at) ≡ some (x, l) → (x ≡ what at) × (l ≡ from s (to at))

pub finds_run : (s : List ℕ) → Finds s word (word_of s) (word_end_at s)
unfolding word_end_at
finds_run s = record { found = λ at x l h. let g = got (word_of s at, from s (at + length (word_at s at))) x l (sym (word_always s at) ∙ h) in (sym g.0, sym g.1) }

pub finds_word : (s : List ℕ) (p : List ℕ → Bool) → Finds s (word_that p) (word_of s) (word_end_at s)
unfolding word_end_at
finds_word s p = record { found = λ at x l h. go at x l (p (word_at s at)) refl h }
  where
    go : (at : ℕ) (x : Word) (l : Left) (t : Bool) → p (word_at s at) ≡ t → word_that p (from s at) ≡ some (x, l) → (x ≡ word_of s at) × (l ≡ from s (at + length (word_at s at)))
    go at x l true k h = let g = got (word_of s at, from s (at + length (word_at s at))) x l (sym (word_read s at p k) ∙ h) in (sym g.0, sym g.1)
    go at x l false k h = not_read (x, l) (sym (word_refused s at p k) ∙ h)

pub finds_give : {A : Type 0} (s : List ℕ) (a : A) → Finds s (give a) (λ at. a) (λ at. at)
finds_give s a = record { found = λ at x l h. let g = got (a, from s at) x l h in (sym g.0, sym g.1) }

pub finds_byte : (s : List ℕ) (b : ℕ) → (b ≡ 0 → ⊥) → Finds s (byte b) (λ at. b) (past b s)
finds_byte s b nz = record { found = λ at x l h. go at x l (eqb (get_or s at 0) b) refl h }
  where
    go : (at x : ℕ) (l : Left) (t : Bool) → eqb (get_or s at 0) b ≡ t → byte b (from s at) ≡ some (x, l) → (x ≡ b) × (l ≡ from s (past b s at))
    go at x l true k h =
        let e = eqb-true _ _ k in
        let g = got (b, from s (at + 1)) x l (sym (byte_at_read s at b e) ∙ h) in
        (sym g.0, sym g.1 ∙ ap (from s) (sym (past_here b s at nz e)))
    go at x l false k h = not_read (x, l) (sym (byte_at_refused s at b (eqb-false _ _ k)) ∙ h)

module _ {A : Type 0} {s : List ℕ} {R : Reader A} {what : ℕ → A} {to : ℕ → ℕ} (p : Finds s R what to) where
  pub finds_bind : {B : Type 0} (K : A → Reader B) {then : A → ℕ → B} {last : ℕ → ℕ} → ((a : A) → Finds s (K a) (then a) last) → Finds s (R >>= K) (λ at. then (what at) (to at)) (λ at. last (to at))
  finds_bind {B} K {then} {last} q = record {
    found = λ at x l h.
        let a = then_some (R (from s at)) K (x, l) h in
        let g = p.found at a.0.0 a.0.1 a.1 in
        let k : K (what at) (from s (to at)) ≡ some (x, l) = ap (λ (y : A). K y (from s (to at))) (sym g.0) ∙ ap (K a.0.0) (sym g.1) ∙ a.2 in
        (q (what at)).found (to at) x l k;
  }

module _ {A : Type 0} {s : List ℕ} {R : Reader A} {what : ℕ → A} {to : ℕ → ℕ} (p : Finds s R what to) where
  pub finds_next : Finds s (next R) (λ at. what (past 32 s at)) (λ at. to (past 32 s at))
  unfolding next
  finds_next = finds_bind (finds_byte s 32 (λ z. absurd (omega arith))) (λ b. R) (λ b. p)

  pub finds_bracketed : Finds s (bracketed R) (λ at. what (past 40 s at)) (λ at. past 41 s (to (past 40 s at)))
  unfolding bracketed
  finds_bracketed =
      finds_bind (finds_byte s 40 (λ z. absurd (omega arith))) (λ b. R >>= (λ x. byte 41 >> give x)) (λ b.
      finds_bind p (λ x. byte 41 >> give x) (λ x.
      finds_bind (finds_byte s 41 (λ z. absurd (omega arith))) (λ b. give x) (λ b. finds_give s x)))

  pub finds_if : (b : ℕ) {S : Reader A} {other : ℕ → A} {elsewhere : ℕ → ℕ} → Finds s S other elsewhere
      → Finds s (if_next b R S) (λ at. cond (eqb (get_or s at 0) b) (what at) (other at)) (λ at. cond (eqb (get_or s at 0) b) (to at) (elsewhere at))
  unfolding if_next
  finds_if b {S} {other} {elsewhere} q = record { found = λ at x l h. go at x l (eqb (get_or s at 0) b) (rw (first_drop s at) at h) }
    where
      go : (at : ℕ) (x : A) (l : Left) (t : Bool) → cond t R S (from s at) ≡ some (x, l) → (x ≡ cond t (what at) (other at)) × (l ≡ from s (cond t (to at) (elsewhere at)))
      go at x l true h = p.found at x l h
      go at x l false h = q.found at x l h
