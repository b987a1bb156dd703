-- The first purpose that a label denies and that is near, as a walk through its names finds it. Assumes nothing.
use Prim.Native.Nat.{◌+◌, ℕ}
use lib.ListN.{get_or, length}
use mathlib.Core.Bool.{Bool, ◌&&◌, false, not, true}
use mathlib.Core.List.{List}
use mathlib.Core.Option.{Option, none, some}
use mathlib.Core.Path.{◌∙◌, ◌≡◌, ap, sym}
use Rattle.document.specs.Lookup.{purpose_of}
use Rattle.document.specs.Policy.{Policy, tree_of}
use Rattle.form.proofs.WalkSteps.{names_more, names_stop}
use Rattle.form.specs.Walks.{names_at}
use Rattle.lists.specs.Lists.{holds_of, member}
use Rattle.purpose.specs.Meaning.{ClosureOf}
use Rattle.purpose.specs.Members.{members}
use Rattle.purpose.specs.declared.Closure.{Closure}
use Rattle.reasons.specs.Explaining.{is_near}
use Rattle.text.proofs.OffendingLaws.{missing_here, missing_next, missing_nil}
use Rattle.text.specs.Offending.{missing}
use Rattle.text.specs.Walking.{word_end_at}
use Rattle.text.specs.Words.{Word, word_at, word_of}

-- the test of the walk: the name is not near
abbrev pub is_far : Policy → ℕ → Word → Bool
is_far d p w = not (is_near d p w)

-- what the code finds of a name
pub near_found : (d : Policy) (p : ℕ) (closure : Closure) → ClosureOf (tree_of d.purposes) p closure → (w : Word) (o : Option ℕ) → o ≡ purpose_of d w
    → (b : Bool) → b ≡ holds_of (λ n. member n (members closure.relatives)) o → b ≡ is_near d p w
unfolding is_near
near_found d p closure of w o e b h = h ∙ (λ i. holds_of (λ n. of.near n i) (e i))

module _ (d : Policy) (p : ℕ) (text : List ℕ) (j : ℕ) where
  pub near_stop : (get_or text j 0 ≡ 32 → ⊥) → missing (is_far d p) (names_at text j) ≡ none
  near_stop h = ap (missing (is_far d p)) (names_stop text j h) ∙ missing_nil (is_far d p)

  pub near_here : get_or text j 0 ≡ 32 → is_near d p (word_of text (j + 1)) ≡ true → missing (is_far d p) (names_at text j) ≡ some (word_of text (j + 1))
  near_here h e = ap (missing (is_far d p)) (names_more text j h) ∙ missing_here (is_far d p) (word_of text (j + 1)) (names_at text (word_end_at text (j + 1))) (ap not e)

  pub near_on : (e : ℕ) → e ≡ j + 1 + length (word_at text (j + 1)) → get_or text j 0 ≡ 32 → is_near d p (word_of text (j + 1)) ≡ false → missing (is_far d p) (names_at text e) ≡ missing (is_far d p) (names_at text j)
  unfolding word_end_at
  near_on e q h t = ap (λ n. missing (is_far d p) (names_at text n)) q ∙ sym (ap (missing (is_far d p)) (names_more text j h) ∙ missing_next (is_far d p) (word_of text (j + 1)) (names_at text (word_end_at text (j + 1))) (ap not t))
