-- Purposes and roles in their arrays: one more, looking one up by its name's hash, and whose parent stands where. Assumes nothing.
use Prim.Native.Nat.{◌*◌, ◌+◌, ◌<◌, ◌≤◌, ℕ}
use borrow.Author.Tests.{eq-eqb, eqb-false, eqb-true, le-ltb, lt-ltb, ltb-false, ltb-true, ne_eqb}
use lib.Dec.{eqb, ltb}
use lib.ListN.{get_or, length, set}
use mathlib.Core.Bool.{Bool, ◌&&◌, cond, false, true}
use mathlib.Core.List.{List, [], ◌++◌, ◌∷◌, map}
use mathlib.Core.Logic.{⊎_elim}
use mathlib.Core.Option.{none, some}
use mathlib.Core.Path.{◌∙◌, ◌≡◌, ap, refl, subst, sym}
use native.Mathlib.Nat.{eq-or-lt_of_le}
use native.Mathlib.Omega.{arith}
use Rattle.document.specs.Policy.{Node, tree_of}
use Rattle.workspace.proofs.HashLaws.{other_hash}
use Rattle.workspace.proofs.TabulatedLaws.{length_tabulated, tabulated_found, tabulated_get_or, tabulated_map, tabulated_none, tabulated_pushed}
use Rattle.workspace.proofs.Stores.{Store, stores, stores_other, stores_same}
use Rattle.workspace.specs.Hash.{hash_of, slots}
use Rattle.principals.specs.Nodes.{Nodes, first_hashed, hash_in, node_in, slot_in}
use Rattle.workspace.specs.Tabulated.{tabulated}
use Rattle.lists.specs.Lists.{find_index}
use Rattle.purpose.proofs.Ancestry.{descends_self, descends_step}
use Rattle.purpose.specs.Compliance.{descends, parent}
use Rattle.text.specs.Words.{Word, is_called, word_at}

-- ---- the first name that has a hash

module _ (room : ℕ) (ws : List ℕ) (k h : ℕ) where
  slot_taken : (v : ℕ) → v ≡ slot_in room ws h → v < k → hash_in room ws v ≡ h → first_hashed room ws k h ≡ v
  unfolding first_hashed
  slot_taken v e l q =
      let small : slot_in room ws h < k = subst (λ m. m < k) e l in
      let has : hash_in room ws (slot_in room ws h) ≡ h = ap (hash_in room ws) (sym e) ∙ q in
      rw (lt-ltb (slot_in room ws h) k small, eq-eqb _ _ has) (sym e)

  -- by what the slot holds
  pub slot_first : slot_in room ws h < k → hash_in room ws (slot_in room ws h) ≡ h → slot_in room ws h ≡ first_hashed room ws k h
  slot_first l q = sym (slot_taken (slot_in room ws h) refl l q)

  pub slot_other : (hash_in room ws (slot_in room ws h) ≡ h → ⊥) → k ≡ first_hashed room ws k h
  unfolding first_hashed
  slot_other q = go (ltb (slot_in room ws h) k)
    where
      go : (b : Bool) → k ≡ cond (b && eqb (hash_in room ws (slot_in room ws h)) h) (slot_in room ws h) k
      go true = rw (ne_eqb _ _ q)
      go false = refl

  pub slot_beyond : k ≤ slot_in room ws h → k ≡ first_hashed room ws k h
  unfolding first_hashed
  slot_beyond l = rw (le-ltb (slot_in room ws h) k l)

  -- what it is, where there is one
  pub record First : Type 0 where
    pub stands : slot_in room ws h ≡ first_hashed room ws k h
    pub has : hash_in room ws (first_hashed room ws k h) ≡ h

  pub first_there : first_hashed room ws k h < k → First
  first_there l = go (ltb (slot_in room ws h) k) refl (eqb (hash_in room ws (slot_in room ws h)) h) refl
    where
      none_there : k ≡ first_hashed room ws k h → First
      none_there e = absurd (omega (arith, e, l))

      go : (b : Bool) → ltb (slot_in room ws h) k ≡ b → (t : Bool) → eqb (hash_in room ws (slot_in room ws h)) h ≡ t → First
      go true e true q =
          let is : slot_in room ws h ≡ first_hashed room ws k h = slot_first (ltb-true _ _ e) (eqb-true _ _ q) in
          record { stands = is; has = ap (hash_in room ws) (sym is) ∙ eqb-true _ _ q }
      go true e false q = none_there (slot_other (eqb-false _ _ q))
      go false e t q = none_there (slot_beyond (ltb-false _ _ e))

  pub first_below : first_hashed room ws k h ≤ k
  first_below = go (ltb (slot_in room ws h) k) refl (eqb (hash_in room ws (slot_in room ws h)) h) refl
    where
      go : (b : Bool) → ltb (slot_in room ws h) k ≡ b → (t : Bool) → eqb (hash_in room ws (slot_in room ws h)) h ≡ t → first_hashed room ws k h ≤ k
      go true e true q = omega (arith, ltb-true (slot_in room ws h) k e, slot_first (ltb-true _ _ e) (eqb-true _ _ q))
      go true e false q = omega (arith, slot_other (eqb-false _ _ q))
      go false e t q = omega (arith, slot_beyond (ltb-false _ _ e))

-- ---- one more: its name, its parent and its hash, and the first name with that hash

abbrev pub node_stores : ℕ → ℕ → ℕ → ℕ → ℕ → ℕ → List Store
node_stores room k pos parent h f =
    record { place = k; value = pos }
    ∷ record { place = room + k; value = parent }
    ∷ record { place = 2 * room + k; value = h }
    ∷ record { place = 3 * room + h; value = f }
    ∷ []

module _ (room : ℕ) (text ws : List ℕ) (k pos parent h f : ℕ) (small : k < room) (long : 3 * room + slots ≤ length ws) (slot : h < slots) (is : f ≡ first_hashed room ws k h) where
  after : List ℕ
  after = stores ws (node_stores room k pos parent h f)

  node_kept : (i : ℕ) → i < k → node_in room text after i ≡ node_in room text ws i
  unfolding node_in after
  node_kept i l = λ j. record {
    name = word_at text (stores_other ws (node_stores room k pos parent h f) i (omega arith) j);
    parent = stores_other ws (node_stores room k pos parent h f) (room + i) (omega arith) j;
  }

  node_new : node_in room text after k ≡ record { name = word_at text pos; parent = parent }
  unfolding node_in after
  node_new = λ j. record {
    name = word_at text (stores_same ws (node_stores room k pos parent h f) 0 (omega arith) (omega arith) (omega arith) j);
    parent = stores_same ws (node_stores room k pos parent h f) 1 (omega arith) (omega arith) (omega arith) j;
  }

  hash_kept : (i : ℕ) → i < k → hash_in room after i ≡ hash_in room ws i
  unfolding after
  hash_kept i l = stores_other ws (node_stores room k pos parent h f) (2 * room + i) (omega arith)

  hash_new : hash_in room after k ≡ h
  unfolding after
  hash_new = stores_same ws (node_stores room k pos parent h f) 2 (omega arith) (omega arith) (omega arith)

  slot_kept : (g : ℕ) → (g ≡ h → ⊥) → slot_in room after g ≡ slot_in room ws g
  unfolding after
  slot_kept g d = stores_other ws (node_stores room k pos parent h f) (3 * room + g) (omega (arith, d))

  slot_new : slot_in room after h ≡ f
  unfolding after
  slot_new = stores_same ws (node_stores room k pos parent h f) 3 (omega arith) (omega arith) (omega arith)

  -- the first name with the new one's hash has that hash
  new_has : hash_in room after f ≡ h
  new_has = ⊎_elim (λ e. ap (hash_in room after) e ∙ hash_new) (λ l. old l) (eq-or-lt_of_le below)
    where
      below : f ≤ k
      below = omega (arith, is, first_below room ws k h)

      old : f < k → hash_in room after f ≡ h
      old l = hash_kept f l ∙ ap (hash_in room ws) is ∙ (first_there room ws k h (subst (λ m. m < k) is l)).has

  new_first : (i : ℕ) → f ≤ i → i < k + 1 → first_hashed room after (k + 1) h ≤ i
  new_first i l m = subst (λ v. v ≤ i) (sym (slot_taken room after (k + 1) h f (sym slot_new) (omega (arith, l, m)) new_has)) l

  module _ (ns : List Node) (n : Nodes room text ws k ns) (named : h ≡ hash_of (word_at text pos)) where
    hashed_all : (i : ℕ) → i < k + 1 → hash_in room after i ≡ hash_of (word_at text (get_or after i 0))
    hashed_all i l = ⊎_elim (λ e. last e) (λ m. old m) (eq-or-lt_of_le le)
      where
        le : i ≤ k
        le = omega (arith, l)

        last : i ≡ k → hash_in room after i ≡ hash_of (word_at text (get_or after i 0))
        last e = unfold node_in in ap (hash_in room after) e ∙ hash_new ∙ named ∙ ap hash_of (sym (ap (λ (x : Node). x.name) node_new)) ∙ ap (λ m. hash_of (word_at text (get_or after m 0))) (sym e)

        old : i < k → hash_in room after i ≡ hash_of (word_at text (get_or after i 0))
        old m = unfold node_in in hash_kept i m ∙ n.hashed i m ∙ ap hash_of (sym (ap (λ (x : Node). x.name) (node_kept i m)))

    -- a name that was there, by whether it has the new one's hash
    first_old : (i : ℕ) → i < k → first_hashed room after (k + 1) (hash_in room ws i) ≤ i
    first_old i l = go (eqb (hash_in room ws i) h) refl
      where
        go : (b : Bool) → eqb (hash_in room ws i) h ≡ b → first_hashed room after (k + 1) (hash_in room ws i) ≤ i
        go true e =
            let same : hash_in room ws i ≡ h = eqb-true _ _ e in
            subst (λ g. first_hashed room after (k + 1) g ≤ i) (sym same)
            (new_first i (subst (λ v. v ≤ i) (sym is) (subst (λ g. first_hashed room ws k g ≤ i) same (n.first i l))) (omega (arith, l)))
        go false e =
            let g = hash_in room ws i in
            let low : first_hashed room ws k (hash_in room ws i) ≤ i = n.first i l in
            let f' = first_there room ws k g (omega (arith, low, l)) in
            subst (λ v. v ≤ i)
            (sym (slot_taken room after (k + 1) g (first_hashed room ws k g) (sym (slot_kept g (eqb-false _ _ e) ∙ f'.stands)) (omega (arith, low, l)) (hash_kept (first_hashed room ws k g) (omega (arith, low, l)) ∙ f'.has)))
            low

    first_all : (i : ℕ) → i < k + 1 → first_hashed room after (k + 1) (hash_in room after i) ≤ i
    first_all i l = ⊎_elim (λ e. last e) (λ m. old m) (eq-or-lt_of_le le)
      where
        le : i ≤ k
        le = omega (arith, l)

        last : i ≡ k → first_hashed room after (k + 1) (hash_in room after i) ≤ i
        last e = subst (λ g. first_hashed room after (k + 1) g ≤ i) (sym (ap (hash_in room after) e ∙ hash_new)) (new_first i (omega (arith, e, is, first_below room ws k h)) l)

        old : i < k → first_hashed room after (k + 1) (hash_in room after i) ≤ i
        old m = subst (λ g. first_hashed room after (k + 1) g ≤ i) (sym (hash_kept i m)) (first_old i m)

    pub nodes_pushed : (w₁ w₂ w₃ w₄ : List ℕ) → w₁ ≡ set ws k pos → w₂ ≡ set w₁ (room + k) parent → w₃ ≡ set w₂ (2 * room + k) h → w₄ ≡ set w₃ (3 * room + h) f
        → Nodes room text w₄ (k + 1) (ns ++ (record { name = word_at text pos; parent = parent } ∷ []))
    nodes_pushed w₁ w₂ w₃ w₄ s₁ s₂ s₃ s₄ =
        subst (λ (w : List ℕ). Nodes room text w (k + 1) (ns ++ (record { name = word_at text pos; parent = parent } ∷ []))) (sym whole)
        (record {
          few = omega (arith, small);
          are = tabulated_pushed (node_in room text ws) (node_in room text after) k ns _ n.are node_kept node_new;
          hashed = hashed_all;
          first = first_all;
        })
      where
        whole : w₄ ≡ after
        whole = unfold after in
            s₄ ∙ ap (λ w. set w (3 * room + h) f) (s₃ ∙ ap (λ w. set w (2 * room + k) h) (s₂ ∙ ap (λ w. set w (room + k) parent) s₁))

-- ---- looking a name up

module _ {room : ℕ} {text ws : List ℕ} {k : ℕ} {ns : List Node} (n : Nodes room text ws k ns) (w : Word) (h : ℕ) (is : h ≡ hash_of w.bytes) where
  -- a name with another hash is another
  pub other_name : (j : ℕ) → j < k → (hash_in room ws j ≡ h → ⊥) → is_called w (word_at text (get_or ws j 0)) ≡ false
  unfolding is_called
  other_name j l d = other_hash w.bytes (word_at text (get_or ws j 0)) (λ e. d (n.hashed j l ∙ e ∙ sym is))

  -- and so is each before the first that has the hash
  pub name_before : (j : ℕ) → j < k → j < first_hashed room ws k h → is_called w (word_at text (get_or ws j 0)) ≡ false
  name_before j l m = other_name j l (λ e. omega (arith, m, subst (λ g. first_hashed room ws k g ≤ j) e (n.first j l)))

  pub name_found : (j : ℕ) → j < k → ((i : ℕ) → i < j → is_called w (word_at text (get_or ws i 0)) ≡ false) → is_called w (word_at text (get_or ws j 0)) ≡ true
      → some j ≡ find_index (λ x. is_called w x.name) ns
  unfolding node_in
  name_found j l before here =
      sym (ap (find_index (λ (x : Node). is_called w x.name)) (sym n.are) ∙ tabulated_found (λ (x : Node). is_called w x.name) (node_in room text ws) k j l before here)

  pub name_missed : ((i : ℕ) → i < k → is_called w (word_at text (get_or ws i 0)) ≡ false) → none ≡ find_index (λ x. is_called w x.name) ns
  unfolding node_in
  name_missed none_is =
      sym (ap (find_index (λ (x : Node). is_called w x.name)) (sym n.are) ∙ tabulated_none (λ (x : Node). is_called w x.name) (node_in room text ws) k none_is)

-- ---- the tree that they form

module _ {room : ℕ} {text ws : List ℕ} {k : ℕ} {ns : List Node} (n : Nodes room text ws k ns) where
  tree_listed : tree_of ns ≡ tabulated (λ i. get_or ws (room + i) 0) k
  unfolding tree_of node_in
  tree_listed = ap (map (λ x. x.parent)) (sym n.are) ∙ tabulated_map (λ x. x.parent) (node_in room text ws) k

  -- a parent stands in its cell
  pub tree_parent : (x : ℕ) → x < k → parent (tree_of ns) x ≡ get_or ws (room + x) 0
  tree_parent x l = ap (λ t. parent t x) tree_listed ∙ tabulated_get_or (λ i. get_or ws (room + i) 0) k x x l

  pub tree_length : length (tree_of ns) ≡ k
  tree_length = ap length tree_listed ∙ length_tabulated (λ i. get_or ws (room + i) 0) k

-- ---- the way up from x

module _ (tree : List ℕ) (x a : ℕ) where
  pub way_here : x ≡ a → descends tree x a ≡ true
  way_here e = subst (λ y. descends tree x y ≡ true) e (descends_self tree x)

  pub way_ends : (x ≡ a → ⊥) → x ≤ parent tree x → descends tree x a ≡ false
  way_ends h l = descends_step tree x a ∙ rw (ne_eqb x a h, le-ltb (parent tree x) x l)

  pub way_up : (x ≡ a → ⊥) → parent tree x < x → descends tree x a ≡ descends tree (parent tree x) a
  way_up h l = descends_step tree x a ∙ rw (ne_eqb x a h, lt-ltb (parent tree x) x l)
