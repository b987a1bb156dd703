-- Walking through the names of a set: what each turn of the loops learns, and what is left to walk. Assumes nothing.
use Prim.Native.Nat.{◌+◌, ◌-◌, ◌<◌, ◌≤◌, suc, zero, ℕ}
use lib.ListN.{drop, get_or, length, take}
use mathlib.Core.Bool.{Bool, ◌||◌, false, true}
use mathlib.Core.List.{List, [], ◌∷◌, cons-ne-nil, head-eq_of_cons-eq, tail-eq_of_cons-eq}
use mathlib.Core.Option.{none, some}
use mathlib.Core.Path.{◌∙◌, ◌≡◌, ap, refl, subst, sym}
use native.Mathlib.Numerals.{add-one}
use native.Mathlib.Omega.{arith}
use Rattle.form.proofs.WalkSteps.{names_more, names_stop, word_after}
use Rattle.form.specs.Walks.{names_at}
use Rattle.lists.specs.Lists.{any_of}
use Rattle.text.proofs.OffendingLaws.{missing_here, missing_next, missing_nil}
use Rattle.text.specs.Offending.{missing, repeated, repeated_after}
use Rattle.text.specs.Walking.{word_end_at}
use Rattle.text.specs.Words.{Word, is_called, word_at, word_of}

-- ---- the first word that fails a test

module _ (f : Word → Bool) where
  module _ (line : List ℕ) (j : ℕ) where
    pub unknown_stop : (get_or line j 0 ≡ 32 → ⊥) → missing f (names_at line j) ≡ none
    unknown_stop h = ap (missing f) (names_stop line j h) ∙ missing_nil f

    pub unknown_here : get_or line j 0 ≡ 32 → f (word_of line (j + 1)) ≡ false → missing f (names_at line j) ≡ some (word_of line (j + 1))
    unknown_here h e = ap (missing f) (names_more line j h) ∙ missing_here f (word_of line (j + 1)) (names_at line (word_end_at line (j + 1))) e

    unknown_next : get_or line j 0 ≡ 32 → f (word_of line (j + 1)) ≡ true → missing f (names_at line j) ≡ missing f (names_at line (word_end_at line (j + 1)))
    unknown_next h e = ap (missing f) (names_more line j h) ∙ missing_next f (word_of line (j + 1)) (names_at line (word_end_at line (j + 1))) e

    pub unknown_on : (e : ℕ) → e ≡ j + 1 + length (word_at line (j + 1)) → get_or line j 0 ≡ 32 → f (word_of line (j + 1)) ≡ true → missing f (names_at line e) ≡ missing f (names_at line j)
    unfolding word_end_at
    unknown_on e q h t = ap (λ n. missing f (names_at line n)) q ∙ sym (unknown_next h t)

-- ---- whether a word is among the first k

module _ (f : Word → Bool) (line : List ℕ) (j : ℕ) where
  pub among_none : (k : ℕ) → k ≤ 0 → any_of f (take k (names_at line j)) ≡ false
  unfolding any_of
  among_none zero l = refl
  among_none (suc k) l = absurd (omega (arith, l))

  pub among_stop : (k : ℕ) → (get_or line j 0 ≡ 32 → ⊥) → any_of f (take k (names_at line j)) ≡ false
  among_stop k h = ap (λ ws. any_of f (take k ws)) (names_stop line j h) ∙ empty k
    where
      empty : (k : ℕ) → any_of f (take k []) ≡ false
      empty zero = unfold any_of in refl
      empty (suc k) = unfold any_of in refl

  pub among_here : (k : ℕ) → 0 < k → get_or line j 0 ≡ 32 → f (word_of line (j + 1)) ≡ true → any_of f (take k (names_at line j)) ≡ true
  unfolding any_of
  among_here zero l h e = absurd (omega (arith, l))
  among_here (suc k) l h e = ap (λ ws. any_of f (take (suc k) ws)) (names_more line j h) ∙ rw e

  among_next : (k : ℕ) → 0 < k → get_or line j 0 ≡ 32 → f (word_of line (j + 1)) ≡ false → any_of f (take k (names_at line j)) ≡ any_of f (take (k - 1) (names_at line (word_end_at line (j + 1))))
  unfolding any_of
  among_next zero l h e = absurd (omega (arith, l))
  among_next (suc k) l h e =
      let p : k ≡ suc k - 1 = omega arith in
      ap (λ ws. any_of f (take (suc k) ws)) (names_more line j h) ∙ rw e (ap (λ n. any_of f (take n (names_at line (word_end_at line (j + 1))))) p)

  pub among_on : (e : ℕ) → e ≡ j + 1 + length (word_at line (j + 1)) → (k : ℕ) → 0 < k → get_or line j 0 ≡ 32 → f (word_of line (j + 1)) ≡ false → any_of f (take (k - 1) (names_at line e)) ≡ any_of f (take k (names_at line j))
  unfolding word_end_at
  among_on e q k l h t = ap (λ n. any_of f (take (k - 1) (names_at line n))) q ∙ sym (among_next k l h t)

-- ---- the first word that stood before

or_swap : (a b c : Bool) → (a || (b || c)) ≡ (b || (a || c))
or_swap true true c = refl
or_swap true false c = refl
or_swap false b c = refl

-- a test of the first k words and the next one
any_next : (f : Word → Bool) (k : ℕ) (xs : List Word) (w : Word) (ws : List Word) → drop k xs ≡ w ∷ ws → any_of f (take (suc k) xs) ≡ (f w || any_of f (take k xs))
unfolding any_of
any_next f zero [] w ws h = absurd (cons-ne-nil w ws (sym h))
any_next f zero (x ∷ xs) w ws h = ap (λ v. f v || false) (head-eq_of_cons-eq h)
any_next f (suc k) [] w ws h = absurd (cons-ne-nil w ws (sym h))
any_next f (suc k) (x ∷ xs) w ws h = ap (λ b. f x || b) (any_next f k xs w ws h) ∙ or_swap (f x) (f w) (any_of f (take k xs))

drop_next : (k : ℕ) (xs : List Word) (w : Word) (ws : List Word) → drop k xs ≡ w ∷ ws → drop (suc k) xs ≡ ws
drop_next zero [] w ws h = absurd (cons-ne-nil w ws (sym h))
drop_next zero (x ∷ xs) w ws h = tail-eq_of_cons-eq h
drop_next (suc k) [] w ws h = absurd (cons-ne-nil w ws (sym h))
drop_next (suc k) (x ∷ xs) w ws h = drop_next k xs w ws h

repeated_nil : (earlier : List Word) → repeated_after earlier [] ≡ none
unfolding repeated_after
repeated_nil earlier = refl

repeated_here : (earlier : List Word) (w : Word) (ws : List Word) → any_of (λ v. is_called w v.bytes) earlier ≡ true → repeated_after earlier (w ∷ ws) ≡ some w
unfolding repeated_after
repeated_here earlier w ws h = rw h

repeated_next : (earlier : List Word) (w : Word) (ws : List Word) → any_of (λ v. is_called w v.bytes) earlier ≡ false → repeated_after earlier (w ∷ ws) ≡ repeated_after (w ∷ earlier) ws
unfolding repeated_after
repeated_next earlier w ws h = rw h

-- the walk from `at` on has come to j, k words were passed, and none of them repeats another
pub record Repeats (line : List ℕ) (at j k : ℕ) : Type 0 where
  pub few : k ≤ j
  pub earlier : List Word
  pub same : (f : Word → Bool) → any_of f earlier ≡ any_of f (take k (names_at line at))
  pub left : drop k (names_at line at) ≡ names_at line j
  pub rest : repeated (names_at line at) ≡ repeated_after earlier (names_at line j)

pub repeats_start : (line : List ℕ) (at : ℕ) → Repeats line at at 0
unfolding any_of repeated
repeats_start line at = record { few = omega arith; earlier = []; same = λ f. refl; left = refl; rest = refl }

module _ (line : List ℕ) (at j k : ℕ) (r : Repeats line at j k) where
  pub repeats_stop : (get_or line j 0 ≡ 32 → ⊥) → repeated (names_at line at) ≡ none
  repeats_stop h = r.rest ∙ ap (repeated_after r.earlier) (names_stop line j h) ∙ repeated_nil r.earlier

  pub repeats_here : get_or line j 0 ≡ 32 → (b : Bool) → b ≡ any_of (λ v. is_called (word_of line (j + 1)) v.bytes) (take k (names_at line at)) → b ≡ true → repeated (names_at line at) ≡ some (word_of line (j + 1))
  repeats_here h b is t =
      let e : any_of (λ v. is_called (word_of line (j + 1)) v.bytes) (take k (names_at line at)) ≡ true = sym is ∙ t in
      r.rest ∙ ap (repeated_after r.earlier) (names_more line j h)
      ∙ repeated_here r.earlier (word_of line (j + 1)) (names_at line (word_end_at line (j + 1))) (r.same (λ v. is_called (word_of line (j + 1)) v.bytes) ∙ e)

  repeats_next : get_or line j 0 ≡ 32 → any_of (λ v. is_called (word_of line (j + 1)) v.bytes) (take k (names_at line at)) ≡ false → Repeats line at (word_end_at line (j + 1)) (k + 1)
  unfolding any_of
  repeats_next h e =
      let here : drop k (names_at line at) ≡ word_of line (j + 1) ∷ names_at line (word_end_at line (j + 1)) = r.left ∙ names_more line j h in
      record {
        few = omega (arith, r.few, word_after line j);
        earlier = word_of line (j + 1) ∷ r.earlier;
        same = λ f. ap (λ b. f (word_of line (j + 1)) || b) (r.same f)
            ∙ sym (any_next f k (names_at line at) (word_of line (j + 1)) (names_at line (word_end_at line (j + 1))) here)
            ∙ ap (λ n. any_of f (take n (names_at line at))) (sym (add-one k));
        left = ap (λ n. drop n (names_at line at)) (add-one k) ∙ drop_next k (names_at line at) (word_of line (j + 1)) (names_at line (word_end_at line (j + 1))) here;
        rest = r.rest ∙ ap (repeated_after r.earlier) (names_more line j h)
            ∙ repeated_next r.earlier (word_of line (j + 1)) (names_at line (word_end_at line (j + 1))) (r.same (λ v. is_called (word_of line (j + 1)) v.bytes) ∙ e);
      }

  -- a test of the words that were passed and the next one
  pub repeats_more : get_or line j 0 ≡ 32 → (f : Word → Bool) → any_of f (take (k + 1) (names_at line at)) ≡ (f (word_of line (j + 1)) || any_of f (take k (names_at line at)))
  repeats_more h f =
      ap (λ n. any_of f (take n (names_at line at))) (add-one k)
      ∙ any_next f k (names_at line at) (word_of line (j + 1)) (names_at line (word_end_at line (j + 1))) (r.left ∙ names_more line j h)

  pub repeats_on : (e : ℕ) → e ≡ j + 1 + length (word_at line (j + 1)) → get_or line j 0 ≡ 32 → (b : Bool) → b ≡ any_of (λ v. is_called (word_of line (j + 1)) v.bytes) (take k (names_at line at)) → b ≡ false → Repeats line at e (k + 1)
  unfolding word_end_at
  repeats_on e q h b is t = subst (λ (n : ℕ). Repeats line at n (k + 1)) (sym q) (repeats_next h (sym is ∙ t))
