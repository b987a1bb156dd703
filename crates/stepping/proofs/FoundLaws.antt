-- What a lookup found, as the test of a name that is known. Assumes nothing.
use Prim.Native.Nat.{ℕ}
use mathlib.Core.Bool.{Bool, false, not, true, true≢false}
use mathlib.Core.Option.{Option}
use mathlib.Core.Path.{◌∙◌, ◌≡◌, ap, refl, sym}
use Rattle.workspace.specs.Found.{found_as}
use Rattle.std.specs.Prelude as prelude
use Rattle.std.specs.Prelude.{None, Some, is_some}
use Rattle.lists.specs.Lists.{there}

module _ (r : prelude.Option ℕ) (o : Option ℕ) (is : found_as r ≡ o) where
  pub found_there : (x : ℕ) → r ≡ Some x → there o ≡ true
  unfolding there
  found_there x e = ap there (sym is ∙ ap found_as e)

  pub found_absent : r ≡ None → there o ≡ false
  unfolding there
  found_absent e = ap there (sym is ∙ ap found_as e)

-- the test whether there is one, as the definition's
pub is_some_there : (r : prelude.Option ℕ) → is_some r ≡ there (found_as r)
unfolding there
is_some_there None = refl
is_some_there (Some x) = refl

-- what `is_some` and `is_none` told
module _ {A : Type 0} where
  told : (r : prelude.Option A) → is_some r ≡ true → (x : A) × (r ≡ Some x)
  told None e = absurd (true≢false (sym e))
  told (Some x) e = (x, refl)

  untold : (r : prelude.Option A) → is_some r ≡ false → r ≡ None
  untold None e = refl
  untold (Some x) e = absurd (true≢false e)

  module _ {r : prelude.Option A} {b : Bool} where
    pub is_some_true : b ≡ is_some r → b ≡ true → (x : A) × (r ≡ Some x)
    is_some_true is e = told r (sym is ∙ e)

    pub is_some_false : b ≡ is_some r → b ≡ false → r ≡ None
    is_some_false is e = untold r (sym is ∙ e)

    -- the test is what it means, in both cases
    pub is_some_as : {q : Bool} → b ≡ is_some r → ((x : A) → r ≡ Some x → q ≡ true) → (r ≡ None → q ≡ false) → b ≡ q
    is_some_as {q} is f g = go b refl
      where
        go : (c : Bool) → b ≡ c → b ≡ q
        go true e = let p = is_some_true is e in e ∙ sym (f p.0 p.1)
        go false e = e ∙ sym (g (is_some_false is e))

    pub is_none_true : is_some r ≡ not b → b ≡ true → r ≡ None
    is_none_true is e = untold r (is ∙ ap not e)

    pub is_none_false : is_some r ≡ not b → b ≡ false → (x : A) × (r ≡ Some x)
    is_none_false is e = told r (is ∙ ap not e)
