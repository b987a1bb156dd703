-- The user form that a user acts in, as the array holds it. Assumes nothing.
use Prim.Native.Nat.{◌<◌, ℕ}
use lib.ListN.{get_elem?}
use mathlib.Core.List.{List, map}
use mathlib.Core.Option.{bind, some}
use mathlib.Core.Path.{◌∙◌, ◌≡◌, ap, subst, sym}
use native.Mathlib.Omega.{arith}
use Rattle.belonging.specs.Values.{Values}
use Rattle.document.specs.Meaning.{given_of}
use Rattle.document.specs.Policy.{Given, Policy, User}
use Rattle.form.specs.Walks.{givens_at}
use Rattle.workspace.proofs.TabulatedLaws.{tabulated_at}
use Rattle.workspace.specs.Cells.{line_in}
use Rattle.principals.specs.Users.{Users, user_end_in, user_in, user_place_in, user_role_in, user_start_in}
use Rattle.lists.specs.Lists.{find_index}
use Rattle.query.specs.Authority.{Clock, authorises, first_grant}

-- the first grant for a user form that is there
pub first_for : (d : Policy) (c : Clock) (i p : ℕ) (u : User) → get_elem? d.users i ≡ some u → find_index (authorises d c u p) d.grants ≡ first_grant d c i p
unfolding first_grant bind
first_for d c i p u e = ap (λ o. bind o (λ x. find_index (authorises d c x p) d.grants)) (sym e)

module _ {d : Policy} {text ws : List ℕ} {k : ℕ} {us : List User} (h : Users d text ws k us) (i : ℕ) (l : i < k) where
  small : i < 256
  small = omega (arith, l, h.few)

  pub user_at : get_elem? us i ≡ some (user_in d text ws i)
  user_at = ap (λ xs. get_elem? xs i) (sym h.are) ∙ tabulated_at (user_in d text ws) k i l

  pub role_of_lem : (r : ℕ) → (i < 256 → r ≡ user_role_in ws i) → r ≡ (user_in d text ws i).role
  unfolding user_in
  role_of_lem r e = e small

  -- the values are those given at the place in its line
  pub values_of : (start end place : ℕ) (line : List ℕ) (values : List ℕ) → (i < 256 → start ≡ user_start_in ws i) → (i < 256 → end ≡ user_end_in ws i)
      → (i < 256 → place ≡ user_place_in ws i) → line ≡ line_in text start end → Values line (map (given_of d) (givens_at line place)) values
      → Values line (user_in d text ws i).values values
  unfolding user_in
  values_of start end place line values s e p is v =
      let here : line ≡ line_in text (user_start_in ws i) (user_end_in ws i) = is ∙ (λ j. line_in text (s small j) (e small j)) in
      subst (λ (gs : List Given). Values line gs values) (λ j. map (given_of d) (givens_at (here j) (p small j))) v
