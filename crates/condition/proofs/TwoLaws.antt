-- Conditions whose comparisons go by two tests, which `not` swaps. Assumes nothing.
use borrow.Author.Tests.{not-true}
use mathlib.Core.Bool.{Bool, ◌&&◌, ◌||◌, not, true, true≢false}
use mathlib.Core.Path.{◌∙◌, ◌≡◌, ap, refl, sym}
use Rattle.condition.proofs.HoldsLaws.{first_of, rest_of}
use Rattle.condition.specs.Cond.{Cond, Conds, both, comparisons, comparisons_of, either, hold_all, hold_any, hold_two_all, hold_two_any, holds, holds_two, last, more, negate, test}
use Rattle.lists.proofs.Tests.{and_both, and_left, and_right, never, or_cases, or_left, or_right}
use Rattle.lists.proofs.Tests as tests
use Rattle.lists.specs.Lists.{all_of}

-- where both readings are the same, `not` swaps nothing
mutual
  unfolding holds holds_two

  pub holds_two_same : {C : Type 0} (f : C → Bool) (c : Cond C) → holds_two f f c ≡ holds f c
  holds_two_same f (test c) = refl
  holds_two_same f (negate c) = ap not (holds_two_same f c)
  holds_two_same f (both cs) = two_all f cs
  holds_two_same f (either cs) = two_any f cs

  two_all : {C : Type 0} (f : C → Bool) (cs : Conds C) → hold_two_all f f cs ≡ hold_all f cs
  two_all f (last c) = holds_two_same f c
  two_all f (more c cs) = λ i. holds_two_same f c i && two_all f cs i

  two_any : {C : Type 0} (f : C → Bool) (cs : Conds C) → hold_two_any f f cs ≡ hold_any f cs
  two_any f (last c) = holds_two_same f c
  two_any f (more c cs) = λ i. holds_two_same f c i || two_any f cs i

-- tests that hold more often, wherever p holds
module _ {C : Type 0} (p : C → Bool) where
  -- the second test holds where the first does
  abbrev pub Within : (C → Bool) → (C → Bool) → Type 0
  Within f g = (x : C) → p x ≡ true → f x ≡ true → g x ≡ true

  -- a first test that holds more often, and a second one that holds less often, let a condition hold more often
  mutual
    unfolding holds_two comparisons all_of

    pub two_more : (f g f' g' : C → Bool) → Within f f' → Within g' g → (c : Cond C) → all_of p (comparisons c) ≡ true → holds_two f g c ≡ true → holds_two f' g' c ≡ true
    two_more f g f' g' up down (test c) h t = up c (and_left (p c) _ h) t
    two_more f g f' g' up down (negate c) h t = ap not (never (holds_two g' f' c) (λ e. true≢false (sym (two_more g' f' g f down up c h e) ∙ not-true (holds_two g f c) t)))
    two_more f g f' g' up down (both cs) h t = all_more f g f' g' up down cs h t
    two_more f g f' g' up down (either cs) h t = any_more f g f' g' up down cs h t

    all_more : (f g f' g' : C → Bool) → Within f f' → Within g' g → (cs : Conds C) → all_of p (comparisons_of cs) ≡ true → hold_two_all f g cs ≡ true → hold_two_all f' g' cs ≡ true
    all_more f g f' g' up down (last c) h t = two_more f g f' g' up down c h t
    all_more f g f' g' up down (more c cs) h t =
        and_both (holds_two f' g' c) (hold_two_all f' g' cs)
        (two_more f g f' g' up down c (first_of p c cs h) (and_left (holds_two f g c) (hold_two_all f g cs) t))
        (all_more f g f' g' up down cs (rest_of p c cs h) (and_right (holds_two f g c) (hold_two_all f g cs) t))

    any_more : (f g f' g' : C → Bool) → Within f f' → Within g' g → (cs : Conds C) → all_of p (comparisons_of cs) ≡ true → hold_two_any f g cs ≡ true → hold_two_any f' g' cs ≡ true
    any_more f g f' g' up down (last c) h t = two_more f g f' g' up down c h t
    any_more f g f' g' up down (more c cs) h t =
        or_cases (holds_two f g c) (hold_two_any f g cs) t
        (λ e. or_left (holds_two f' g' c) (hold_two_any f' g' cs) (two_more f g f' g' up down c (first_of p c cs h) e))
        (λ e. or_right (holds_two f' g' c) (hold_two_any f' g' cs) (any_more f g f' g' up down cs (rest_of p c cs h) e))

  -- a condition goes by its own comparisons only
  pub two_agree : (f g f' g' : C → Bool) → ((x : C) → p x ≡ true → f x ≡ f' x) → ((x : C) → p x ≡ true → g x ≡ g' x) → (c : Cond C) → all_of p (comparisons c) ≡ true → holds_two f g c ≡ holds_two f' g' c
  two_agree f g f' g' a b c h =
      tests.both (holds_two f g c) (holds_two f' g' c)
      (two_more f g f' g' (λ x k e. sym (a x k) ∙ e) (λ x k e. b x k ∙ e) c h)
      (two_more f' g' f g (λ x k e. a x k ∙ e) (λ x k e. sym (b x k) ∙ e) c h)
