-- What the code's answers for the parts of a line tell: what was read, where it ends, and that it lies in the line. Each law
-- takes a call's answer by two equations: what the call promises, and which case it was. Assumes nothing.
use Prim.Native.Nat.{◌+◌, ◌<◌, ◌≤◌, ℕ}
use borrow.Author.Tests.{eqb-false, eqb-true}
use lib.Dec.{eqb}
use lib.ListN.{get_or, length}
use mathlib.Core.Bool.{Bool, false, not, true}
use mathlib.Core.List.{List}
use mathlib.Core.Option.{Option, none, some}
use mathlib.Core.Path.{◌∙◌, ◌≡◌, ap, refl, sym}
use native.Mathlib.Omega.{arith}
use Rattle.form.proofs.FormForward.{forward_given, forward_item, forward_kinds}
use Rattle.form.proofs.WalkLaws.{finds_kind, givens_walk, item_labelled, item_value, items_walk, names_walk}
use Rattle.form.specs.Form.{plain}
use Rattle.form.specs.FormReader.{given_form, item, kinds, labelled_item, plain_item}
use Rattle.form.specs.Walks.{givens_at, is_labelled_at, items_at, kind_at, names_at}
use Rattle.lists.specs.Lists.{there}
use Rattle.text.proofs.CodeLaws.{word_none, word_to}
use Rattle.text.proofs.EndLaws.{end_none, end_read, then_give}
use Rattle.text.proofs.Forward.{Forward, forward_many, forward_word_that}
use Rattle.text.proofs.Lefts.{before_end}
use Rattle.text.proofs.Spaces.{next_here, next_not, optional_here, optional_not}
use Rattle.text.proofs.WalkingLaws.{Finds, finds_word, word_within}
use Rattle.calendar.specs.CellValues.{cell_value}
use Rattle.text.specs.Brackets.{keyword, many, next, optional}
use Rattle.text.specs.CodeEnds.{optional_of, word_end}
use Rattle.text.specs.Names.{is_name}
use Rattle.text.specs.Reader.{Left, Reader, from}
use Rattle.text.specs.Walking.{word_end_at}
use Rattle.text.specs.Words.{Word, name, word_at, word_of}
use Rattle.text.specs.declared.brackets.Optional.{Optional}
use Rattle.text.specs.declared.brackets.Optional.TheVariants as optional_name
use Rattle.std.specs.Prelude as prelude
use Rattle.std.specs.Prelude.{None, Some, is_some}

-- a space stands before the end
pub space_before : (s : List ℕ) (at : ℕ) → get_or s at 0 ≡ 32 → at < length s
space_before s at h = before_end s at (λ z. absurd (omega (arith, h, z)))

-- the word at a position in the text ends in the text
pub word_ends : (s : List ℕ) (at : ℕ) {e : ℕ} → e ≡ at + length (word_at s at) → at ≤ length s → e ≤ length s
unfolding word_end_at
word_ends s at h k = omega (arith, word_within s at k)

-- ---- an item of a row

module _ (s : List ℕ) (at : ℕ) where
  -- a bracket that opens there is no value, if the code found none
  pub bracket_decided : {r : prelude.Option ℕ} {n : Bool} → get_or s at 0 ≡ 40 → r ≡ word_end (cell_value (from s at)) → is_some r ≡ not n → n ≡ is_labelled_at s at
  unfolding is_labelled_at
  bracket_decided {r} {n} opens call k = rw opens (go (cell_value (from s at)) n (sym (ap is_some call) ∙ k))
    where
      go : (o : Option (Word × Left)) (m : Bool) → is_some (word_end o) ≡ not m → m ≡ not (there o)
      go none true h = unfold there in refl
      go none false h = unfold there in h
      go (some r) true h = unfold there in h
      go (some r) false h = unfold there in refl

  -- a value ends there, or none is read
  pub value_there : (e : ℕ) → word_end (cell_value (from s at)) ≡ Some e → there (cell_value (from s at)) ≡ true
  value_there e h = go (cell_value (from s at)) h
    where
      go : (o : Option (Word × Left)) → word_end o ≡ Some e → there o ≡ true
      go none k = let z : ◌≡◌ {A = ℕ} 0 1 = cc in absurd (omega arith)
      go (some r) k = unfold there in refl

  pub value_absent : word_end (cell_value (from s at)) ≡ None → there (cell_value (from s at)) ≡ false
  unfolding there
  value_absent h = ap there (end_none cell_value s at h)

  -- a value stands there: the item ends where it ends
  pub item_ends : (e : ℕ) → word_end (cell_value (from s at)) ≡ Some e → Some e ≡ word_end (item (from s at))
  unfolding plain_item
  item_ends e h = sym h ∙ then_give cell_value s at plain refl ∙ sym (ap word_end (item_value (from s at) (value_there e h)))

  -- none does: it is `(v L)`, if it is one
  pub item_unread : word_end (cell_value (from s at)) ≡ None → word_end (item (from s at)) ≡ word_end (labelled_item (from s at))
  item_unread h = ap word_end (item_labelled (from s at) (value_absent h))

-- ---- words behind a space

-- behind a space stands x, which R reads, and which ends at e
pub record Behind {A : Type 0} (R : Reader A) (x : A) (s : List ℕ) (at e : ℕ) : Type 0 where
  pub is : next R (from s at) ≡ some (x, from s e)
  pub begins : at < length s
  pub ends : e ≤ length s

module _ (s : List ℕ) (at : ℕ) {r : prelude.Option ℕ} where
  -- a reader of words, whatever it makes of the word
  behind : {A : Type 0} (R : Reader A) (what : ℕ → A) → Forward R → Finds s R what (word_end_at s)
      → (e : ℕ) → r ≡ word_end (next R (from s at)) → r ≡ Some e → Behind R (what (at + 1)) s at e
  behind {A} R what p f e h k = go (eqb (get_or s at 0) 32) refl
    where
      go : (t : Bool) → eqb (get_or s at 0) 32 ≡ t → Behind R (what (at + 1)) s at e
      go true z =
          let b : get_or s at 0 ≡ 32 = eqb-true _ _ z in
          let l : at < length s = space_before s at b in
          let x = end_read R s (at + 1) p e (sym (ap word_end (next_here R s at b)) ∙ sym h ∙ k) in
          let g = f.found (at + 1) x.0 (from s e) x.1 in
          let q : e ≡ word_end_at s (at + 1) = ap (λ (m : Left). m.at) g.1 in
          record {
            is = next_here R s at b ∙ x.1 ∙ ap (λ (y : A). some (y, from s e)) g.0;
            begins = l;
            ends = omega (arith, word_within s (at + 1) (omega arith));
          }
      go false z =
          let q : None ≡ Some e = sym (ap word_end (next_not R s at (eqb-false _ _ z))) ∙ sym h ∙ k in
          let n : ◌≡◌ {A = ℕ} 0 1 = cc in
          absurd (omega arith)

  -- a name
  pub name_to : (e : ℕ) → r ≡ word_end (next name (from s at)) → r ≡ Some e → Behind name (word_of s (at + 1)) s at e
  name_to = behind name (word_of s) (forward_word_that is_name) (finds_word s is_name)

  -- a type
  pub kind_to : (e : ℕ) → r ≡ word_end (next (keyword kinds) (from s at)) → r ≡ Some e → Behind (keyword kinds) (kind_at s (at + 1)) s at e
  kind_to = behind (keyword kinds) (kind_at s) forward_kinds (finds_kind s)

-- ---- a name that may be absent

-- it is there
pub record OptionalTo (s : List ℕ) (at q e : ℕ) : Type 0 where
  pub is : optional name (from s at) ≡ some (some (word_of s q), from s e)
  pub begins : q ≤ length s

module _ (s : List ℕ) (at : ℕ) where
  -- what the reader of an optional name can give: none, a name, or a refusal
  shapes : (P : Option (Option Word × Left) → Type 0)
      → P (some (none, from s at))
      → ((e : ℕ) → at < length s → P (some (some (word_of s (at + 1)), from s e)))
      → P none
      → P (optional name (from s at))
  shapes P absent present wrong = go (eqb (get_or s at 0) 32) refl
    where
      after_space : get_or s at 0 ≡ 32 → (x : prelude.Option ℕ) → word_end (name (from s (at + 1))) ≡ x → P (optional name (from s at))
      after_space b (Some e) k = rw (optional_here name s at b, word_to s (at + 1) is_name e k) (present e (space_before s at b))
      after_space b None k = rw (optional_here name s at b, word_none s (at + 1) is_name k) wrong

      go : (t : Bool) → eqb (get_or s at 0) 32 ≡ t → P (optional name (from s at))
      go true z = after_space (eqb-true _ _ z) (word_end (name (from s (at + 1)))) refl
      go false z = rw (optional_not name s at (eqb-false _ _ z)) absent

module _ (s : List ℕ) (at : ℕ) {r : prelude.Option Optional} (h : r ≡ optional_of (optional name (from s at))) where
  pub optional_to : (q e : ℕ) → r ≡ Some (optional_name.Name q e) → OptionalTo s at q e
  optional_to q e k =
      let t = shapes s at (λ (o : Option (Option Word × Left)). optional_of o ≡ Some (optional_name.Name q e) → (o ≡ some (some (word_of s q), from s e)) × (q ≤ length s))
      (λ z. let n : ◌≡◌ {A = ℕ} 0 1 = cc in absurd (omega arith))
      (λ f l z. let a : at + 1 ≡ q = cc in let b : f ≡ e = cc in (rw (a, b), omega arith))
      (λ z. let n : ◌≡◌ {A = ℕ} 0 1 = cc in absurd (omega arith))
      (sym h ∙ k) in
      record { is = t.0; begins = t.1 }

  -- it is absent
  pub optional_absent : (e : ℕ) → r ≡ Some (optional_name.Absent e) → optional name (from s at) ≡ some (none, from s e)
  optional_absent e k =
      shapes s at (λ (o : Option (Option Word × Left)). optional_of o ≡ Some (optional_name.Absent e) → o ≡ some (none, from s e))
      (λ z. let a : at ≡ e = cc in rw a)
      (λ f l z. let n : ◌≡◌ {A = ℕ} 0 1 = cc in absurd (omega arith))
      (λ z. let n : ◌≡◌ {A = ℕ} 0 1 = cc in absurd (omega arith))
      (sym h ∙ k)

  -- something else stands behind the space
  pub optional_wrong : r ≡ None → optional name (from s at) ≡ none
  optional_wrong k =
      shapes s at (λ (o : Option (Option Word × Left)). optional_of o ≡ None → o ≡ none)
      (λ z. let n : ◌≡◌ {A = ℕ} 0 1 = cc in absurd (omega arith))
      (λ f l z. let n : ◌≡◌ {A = ℕ} 0 1 = cc in absurd (omega arith))
      (λ z. refl)
      (sym h ∙ k)

-- ---- lists: what stands from a position on, by the walks of Walks

module _ (s : List ℕ) (at : ℕ) {r : prelude.Option ℕ} (e : ℕ) where
  list_to : {A : Type 0} (R : Reader A) (xs : List A) → Forward R → ((ys : List A) (l : Left) → many R (from s at) ≡ some (ys, l) → ys ≡ xs)
      → r ≡ word_end (many R (from s at)) → r ≡ Some e → many R (from s at) ≡ some (xs, from s e)
  list_to {A} R xs p walk h k =
      let t = end_read (many R) s at (forward_many R p) e (sym h ∙ k) in
      t.1 ∙ ap (λ (ys : List A). some (ys, from s e)) (walk t.0 (from s e) t.1)

  pub names_to : r ≡ word_end (many name (from s at)) → r ≡ Some e → many name (from s at) ≡ some (names_at s at, from s e)
  names_to = list_to name (names_at s at) (forward_word_that is_name) (names_walk s at)

  pub givens_to : r ≡ word_end (many given_form (from s at)) → r ≡ Some e → many given_form (from s at) ≡ some (givens_at s at, from s e)
  givens_to = list_to given_form (givens_at s at) forward_given (givens_walk s at)

  pub items_to : r ≡ word_end (many item (from s at)) → r ≡ Some e → many item (from s at) ≡ some (items_at s at, from s e)
  items_to = list_to item (items_at s at) forward_item (items_walk s at)
