-- Users in the workspace: one more, and looking one up by name, and by name and role. Assumes nothing.
use Prim.Native.Nat.{◌+◌, ◌<◌, suc, ℕ}
use borrow.Author.Count.{below_more}
use borrow.Author.Tests.{eq-eqb, ne_eqb}
use lib.Dec.{eqb}
use lib.ListN.{get_or, length, set}
use mathlib.Core.Bool.{Bool, ◌&&◌, and-false, and-true, false, true}
use mathlib.Core.List.{List, [], ◌++◌, ◌∷◌, map}
use mathlib.Core.Option.{Option, none, some}
use mathlib.Core.Path.{◌∙◌, ◌≡◌, ap, refl, subst, sym}
use native.Mathlib.Omega.{arith}
use Rattle.document.specs.Lookup.{role_of, user_of}
use Rattle.document.specs.Meaning.{given_of}
use Rattle.document.specs.Policy.{Policy, User}
use Rattle.form.specs.Walks.{givens_at}
use Rattle.workspace.proofs.Finding.{found_first}
use Rattle.workspace.proofs.HashLaws.{other_print}
use Rattle.workspace.proofs.TabulatedLaws.{tabulated_found, tabulated_none, tabulated_pushed}
use Rattle.workspace.proofs.Stores.{Store, stores, stores_other, stores_same}
use Rattle.workspace.specs.Cells.{line_in}
use Rattle.workspace.specs.Hash.{Printed, print_of}
use Rattle.principals.specs.Users.{Users, user_in, user_passes}
use Rattle.workspace.specs.Tabulated.{tabulated}
use Rattle.lists.specs.Lists.{any_of, find_index, find_index_from, holds_of, there}
use Rattle.text.specs.Reader.{whole}
use Rattle.text.specs.Words.{Word, is_called, word_at}

-- ---- one more

-- what is stored of a user, and where
abbrev user_stores : (k n r a e v h : ℕ) → List Store
user_stores k n r a e v h =
    record { place = k; value = n }
    ∷ record { place = 256 + k; value = r }
    ∷ record { place = 512 + k; value = a }
    ∷ record { place = 768 + k; value = e }
    ∷ record { place = 1024 + k; value = v }
    ∷ record { place = 1280 + k; value = h }
    ∷ []

module _ (d : Policy) (text ws : List ℕ) (k n r a e v p : ℕ) (full : length ws ≡ 1536) (small : k < 256) where
  user_kept : (i : ℕ) → i < k → user_in d text (stores ws (user_stores k n r a e v p)) i ≡ user_in d text ws i
  unfolding user_in
  user_kept i l =
      let ss = user_stores k n r a e v p in
      (λ j. record {
        name = word_at text (stores_other ws ss i (omega arith) j);
        role = stores_other ws ss (256 + i) (omega arith) j;
        values =
            map (given_of d)
            (givens_at (line_in text (stores_other ws ss (512 + i) (omega arith) j) (stores_other ws ss (768 + i) (omega arith) j)) (stores_other ws ss (1024 + i) (omega arith) j));
      })

  user_new : user_in d text (stores ws (user_stores k n r a e v p)) k ≡ record { name = word_at text n; role = r; values = map (given_of d) (givens_at (line_in text a e) v) }
  unfolding user_in
  user_new =
      let ss = user_stores k n r a e v p in
      (λ j. record {
        name = word_at text (stores_same ws ss 0 (omega arith) (omega arith) (omega arith) j);
        role = stores_same ws ss 1 (omega arith) (omega arith) (omega arith) j;
        values =
            map (given_of d)
            (givens_at
            (line_in text (stores_same ws ss 2 (omega arith) (omega arith) (omega arith) j) (stores_same ws ss 3 (omega arith) (omega arith) (omega arith) j))
            (stores_same ws ss 4 (omega arith) (omega arith) (omega arith) j));
      })

  print_kept : (i : ℕ) → i < k → Printed 1280 text ws i → Printed 1280 text (stores ws (user_stores k n r a e v p)) i
  print_kept i l q =
      let ss = user_stores k n r a e v p in
      stores_other ws ss (1280 + i) (omega arith) ∙ q ∙ ap (λ m. print_of (word_at text m)) (sym (stores_other ws ss i (omega arith)))

  print_new : p ≡ print_of (word_at text n) → Printed 1280 text (stores ws (user_stores k n r a e v p)) k
  print_new q =
      let ss = user_stores k n r a e v p in
      stores_same ws ss 5 (omega arith) (omega arith) (omega arith) ∙ q ∙ ap (λ m. print_of (word_at text m)) (sym (stores_same ws ss 0 (omega arith) (omega arith) (omega arith)))

  -- one user more, stored number by number
  pub users_pushed : (w₁ w₂ w₃ w₄ w₅ w₆ : List ℕ) (us : List User)
      → w₁ ≡ set ws k n → w₂ ≡ set w₁ (256 + k) r → w₃ ≡ set w₂ (512 + k) a → w₄ ≡ set w₃ (768 + k) e → w₅ ≡ set w₄ (1024 + k) v → w₆ ≡ set w₅ (1280 + k) p
      → Users d text ws k us → p ≡ print_of (word_at text n)
      → Users d text w₆ (k + 1) (us ++ (record { name = word_at text n; role = r; values = map (given_of d) (givens_at (line_in text a e) v) } ∷ []))
  users_pushed w₁ w₂ w₃ w₄ w₅ w₆ us s₁ s₂ s₃ s₄ s₅ s₆ h is =
      subst (λ (w : List ℕ). Users d text w (k + 1) (us ++ (record { name = word_at text n; role = r; values = map (given_of d) (givens_at (line_in text a e) v) } ∷ []))) (sym whole)
      (record {
        few = omega arith;
        are = tabulated_pushed (user_in d text ws) (user_in d text (stores ws (user_stores k n r a e v p))) k us _ h.are user_kept user_new;
        printed = below_more (Printed 1280 text (stores ws (user_stores k n r a e v p))) k (λ i l. print_kept i l (h.printed i l)) (print_new is);
      })
    where
      whole : w₆ ≡ stores ws (user_stores k n r a e v p)
      whole =
          s₆ ∙ ap (λ w. set w (1280 + k) p) (s₅ ∙ ap (λ w. set w (1024 + k) v) (s₄ ∙ ap (λ w. set w (768 + k) e) (s₃ ∙ ap (λ w. set w (512 + k) a) (s₂ ∙ ap (λ w. set w (256 + k) r) s₁))))

-- ---- by name and role

module _ (w : Word) (text ws : List ℕ) (held i : ℕ) where
  -- by the name alone, where the role is this one
  pub same_role : get_or ws (256 + i) 0 ≡ held → user_passes w text ws held i ≡ is_called w (word_at text (get_or ws i 0))
  same_role r = ap (λ b. is_called w (word_at text (get_or ws i 0)) && b) (eq-eqb (get_or ws (256 + i) 0) held r) ∙ and-true (is_called w (word_at text (get_or ws i 0)))

  -- one with another print has another name
  pub printed_other : Printed 1280 text ws i → (h : ℕ) → h ≡ print_of w.bytes → (get_or ws (1280 + i) 0 ≡ h → ⊥) → user_passes w text ws held i ≡ false
  unfolding is_called
  printed_other p h is other =
      ap (λ b. b && eqb (get_or ws (256 + i) 0) held) (other_print w.bytes (word_at text (get_or ws i 0)) (λ q. other (p ∙ q ∙ sym is)))

  pub other_role : (get_or ws (256 + i) 0 ≡ held → ⊥) → user_passes w text ws held i ≡ false
  other_role r = ap (λ b. is_called w (word_at text (get_or ws i 0)) && b) (ne_eqb (get_or ws (256 + i) 0) held r) ∙ and-false (is_called w (word_at text (get_or ws i 0)))

module _ (w : Word) (text ws : List ℕ) (held k : ℕ) (d : Policy) (us : List User) (h : Users d text ws k us) where
  -- the first that passes is found
  pub user_found : (i : ℕ) → i < k → ((j : ℕ) → j < i → user_passes w text ws held j ≡ false) → user_passes w text ws held i ≡ true
      → some i ≡ find_index (λ x. is_called w x.name && eqb x.role held) us
  unfolding user_in
  user_found i l before here =
      sym (ap (find_index (λ x. is_called w x.name && eqb x.role held)) (sym h.are) ∙ tabulated_found (λ x. is_called w x.name && eqb x.role held) (user_in d text ws) k i l before here)

  -- where none passes, none is found
  pub user_missed : ((j : ℕ) → j < k → user_passes w text ws held j ≡ false) → none ≡ find_index (λ x. is_called w x.name && eqb x.role held) us
  unfolding user_in
  user_missed before =
      sym (ap (find_index (λ x. is_called w x.name && eqb x.role held)) (sym h.are) ∙ tabulated_none (λ x. is_called w x.name && eqb x.role held) (user_in d text ws) k before)

-- where the role is known, this is the user form of the name and the role's name
pub user_of_known : (d : Policy) (w r : Word) (held : ℕ) → role_of d r ≡ some held → user_of d w r ≡ find_index (λ x. is_called w x.name && eqb x.role held) d.users
unfolding user_of holds_of
user_of_known d w r held e = ap (λ o. find_index (λ x. is_called w x.name && holds_of (eqb x.role) o) d.users) e

missed : {A : Type 0} (t : A → Bool) (n : ℕ) (xs : List A) → find_index_from n (λ x. t x && false) xs ≡ none
unfolding find_index_from
missed t n [] = refl
missed t n (x ∷ xs) = rw (and-false (t x)) (missed t (suc n) xs)

-- where it is not, there is none
pub user_of_unknown : (d : Policy) (w r : Word) → role_of d r ≡ none → user_of d w r ≡ none
unfolding user_of holds_of find_index
user_of_unknown d w r e =
    ap (λ o. find_index (λ x. is_called w x.name && holds_of (eqb x.role) o) d.users) e ∙ missed (λ (x : User). is_called w x.name) 0 d.users

-- ---- by name

-- whether one passes is whether one is found
any_from : {A : Type 0} (t : A → Bool) (n : ℕ) (xs : List A) → there (find_index_from n t xs) ≡ any_of t xs
unfolding there find_index_from any_of
any_from t n [] = refl
any_from t n (x ∷ xs) = go (t x) refl (any_from t (suc n) xs)
  where
    go : (b : Bool) → t x ≡ b → there (find_index_from (suc n) t xs) ≡ any_of t xs → there (find_index_from n t (x ∷ xs)) ≡ any_of t (x ∷ xs)
    go true e rest = rw (e, find_index_from, any_of)
    go false e rest = rw (e, find_index_from, any_of) rest

pub any_found : {A : Type 0} (t : A → Bool) (xs : List A) → there (find_index t xs) ≡ any_of t xs
unfolding find_index
any_found t xs = any_from t 0 xs

-- what is found among the positions of the names says whether a user has the name
pub user_called : {d : Policy} {text ws : List ℕ} {k : ℕ} {us : List User} (w : Word) (o : Option ℕ) → Users d text ws k us
    → o ≡ find_index (λ p. is_called w (word_at text p)) (tabulated (λ i. get_or ws (0 + i) 0) k) → there o ≡ any_of (λ x. is_called w x.name) us
unfolding user_in
user_called {d} {text} {ws} {k} {us} w o h e =
    ap there (e ∙ found_first (is_called w) (λ x. x.name) text ws (user_in d text ws) k us (λ i. refl) h.are) ∙ any_found (λ x. is_called w x.name) us
