-- The parts of a query as the code reads them: the head, the column bracket, the condition that may be absent. Each law gives what
-- the code's answer promises, from what the calls before it told. Assumes nothing.
use Prim.Native.Nat.{◌+◌, ◌≤◌, suc, zero, ℕ}
use lib.Dec.{eqb}
use lib.ListN.{get_or, length}
use mathlib.Core.Bool.{Bool, cond, false, true}
use mathlib.Core.List.{List, [], ◌∷◌}
use mathlib.Core.Option.{none, some}
use mathlib.Core.Path.{◌∙◌, ◌≡◌, ap, sym}
use native.Mathlib.Omega.{arith}
use Rattle.condition.proofs.ReadLaws.{condition_at_lem, condition_none}
use Rattle.condition.specs.Answers.{compared_in, read_to}
use Rattle.condition.specs.CondForm.{condition_in_form}
use Rattle.form.proofs.PartLaws.{Behind, space_before}
use Rattle.form.proofs.WalkSteps.{names_more, names_stop}
use Rattle.form.specs.Walks.{list_at, list_up_to, names_at}
use Rattle.lists.specs.Lists.{there}
use Rattle.query.specs.QueryPlaces.{TestWithin, condition_at, selected_from}
use Rattle.query.specs.QueryPartPlaces.{HeadedWithin, ListedWithin, ReadsColumns, ReadsHead, ReadsTest, TestedWithin, head_then, head_to, listed_at, tested_at}
use Rattle.query.specs.QueryForm.{column_list}
use Rattle.text.proofs.CodeLaws.{word_at_lem, word_none, word_to}
use Rattle.text.proofs.Lefts.{before_end}
use Rattle.text.proofs.ReaderLaws.{byte_at_read, byte_at_refused}
use Rattle.text.proofs.Spaces.{next_here, next_not, optional_here, optional_not}
use Rattle.text.specs.Brackets.{bracketed, many, next}
use Rattle.text.specs.CodeEnds.{word_end}
use Rattle.text.specs.Names.{is_name}
use Rattle.text.specs.Reader.{from}
use Rattle.text.specs.Walking.{word_end_at}
use Rattle.text.specs.Words.{name, word_at, word_of}
use Rattle.std.specs.Prelude.{None, Some}
use Rattle.query.specs.declared.reading.Test.TheVariants as test

-- ---- the head

-- a name behind a space at a position, up to an end
abbrev pub Named : List ℕ → ℕ → ℕ → Type 0
Named s at e = Behind name (word_of s (at + 1)) s at e

module _ (s : List ℕ) {at : ℕ} where
  pub head_wrong_1 : next name (from s at) ≡ none → ReadsHead s at None
  unfolding head_then head_to HeadedWithin
  head_wrong_1 z = record { is = λ K. rw z; joins = λ K. rw z; within = tt }

  module _ {e : ℕ} (u : Named s at e) where
    pub head_wrong_2 : next name (from s e) ≡ none → ReadsHead s at None
    unfolding head_then head_to HeadedWithin
    head_wrong_2 z = record { is = λ K. rw (u.is, z); joins = λ K. rw (u.is, z); within = tt }

    module _ {f : ℕ} (r : Named s e f) where
      pub head_wrong_3 : next name (from s f) ≡ none → ReadsHead s at None
      unfolding head_then head_to HeadedWithin
      head_wrong_3 z = record { is = λ K. rw (u.is, r.is, z); joins = λ K. rw (u.is, r.is, z); within = tt }

      module _ {g : ℕ} (p : Named s f g) where
        pub head_wrong_4 : next name (from s g) ≡ none → ReadsHead s at None
        unfolding head_then head_to HeadedWithin
        head_wrong_4 z = record { is = λ K. rw (u.is, r.is, p.is, z); joins = λ K. rw (u.is, r.is, p.is, z); within = tt }

        pub head_read : {h : ℕ} → Named s g h → ReadsHead s at (Some (record { user = at + 1; role = e + 1; purpose = f + 1; table = g + 1 }, h))
        unfolding head_then head_to HeadedWithin
        head_read t = record {
          is = λ K. rw (u.is, r.is, p.is, t.is);
          joins = λ K. rw (u.is, r.is, p.is, t.is);
          within = record { user = omega (arith, u); role = omega (arith, r); purpose = omega (arith, p); table = omega (arith, t) };
        }

-- ---- the number of names

module _ (s : List ℕ) (i n m : ℕ) where
  -- a space and a word that ends at e: one more
  pub count_more : (e : ℕ) → get_or s i 0 ≡ 32 → e ≡ i + 1 + length (word_at s (i + 1)) → (n + length (names_at s i) ≡ m) × (n ≤ i) → (n + 1 + length (names_at s e) ≡ m) × (n + 1 ≤ e)
  unfolding word_end_at
  count_more e h k inv =
      let x : length (names_at s i) ≡ suc (length (names_at s e)) = ap length (names_more s i h) ∙ ap (λ (j : ℕ). suc (length (names_at s j))) (sym k) in
      (omega (arith, inv.0), omega (arith, inv.1))

  -- no space: no more
  pub count_stop : (get_or s i 0 ≡ 32 → ⊥) → n + length (names_at s i) ≡ m → n ≡ m
  count_stop h inv =
      let x : length (names_at s i) ≡ 0 = ap length (names_stop s i h) in
      omega arith

-- there are no more names than bytes
module _ (s : List ℕ) where
  few_up_to : (n at : ℕ) → length (list_up_to word_of word_end_at n s at) ≤ n
  unfolding list_up_to
  few_up_to zero at = omega arith
  few_up_to (suc n) at = go (eqb (get_or s at 0) 32) (few_up_to n (word_end_at s (at + 1)))
    where
      go : (b : Bool) → length (list_up_to word_of word_end_at n s (word_end_at s (at + 1))) ≤ n → length (cond b (word_of s (at + 1) ∷ list_up_to word_of word_end_at n s (word_end_at s (at + 1))) []) ≤ suc n
      go true h = omega arith
      go false h = omega arith

  pub names_few : (at : ℕ) → length (names_at s at) ≤ length s
  unfolding names_at list_at
  names_few at = few_up_to (length s) at

-- ---- the column bracket

module _ (s : List ℕ) (at : ℕ) where
  pub columns_no_space : (get_or s at 0 ≡ 32 → ⊥) → ReadsColumns s at None
  unfolding listed_at ListedWithin
  columns_no_space h = record { is = next_not column_list s at h; within = tt }

  module _ (space : get_or s at 0 ≡ 32) where
    pub columns_shut : (get_or s (at + 1) 0 ≡ 40 → ⊥) → ReadsColumns s at None
    unfolding listed_at ListedWithin column_list bracketed
    columns_shut h = record { is = next_here column_list s at space ∙ rw (byte_at_refused s (at + 1) 40 h); within = tt }

    module _ (opens : get_or s (at + 1) 0 ≡ 40) where
      pub columns_none : word_end (name (from s (at + 1 + 1))) ≡ None → ReadsColumns s at None
      unfolding listed_at ListedWithin column_list bracketed
      columns_none h = record { is = next_here column_list s at space ∙ rw (byte_at_read s (at + 1) 40 opens, word_none s (at + 1 + 1) is_name h); within = tt }

      module _ {e : ℕ} (first : word_end (name (from s (at + 1 + 1))) ≡ Some e) where
        pub columns_wrong : many name (from s e) ≡ none → ReadsColumns s at None
        unfolding listed_at ListedWithin column_list bracketed
        columns_wrong h = record { is = next_here column_list s at space ∙ rw (byte_at_read s (at + 1) 40 opens, word_to s (at + 1 + 1) is_name e first, h); within = tt }

        module _ {f : ℕ} (rest : many name (from s e) ≡ some (names_at s e, from s f)) where
          pub columns_open : (get_or s f 0 ≡ 41 → ⊥) → ReadsColumns s at None
          unfolding listed_at ListedWithin column_list bracketed
          columns_open h = record { is = next_here column_list s at space ∙ rw (byte_at_read s (at + 1) 40 opens, word_to s (at + 1 + 1) is_name e first, rest, byte_at_refused s f 41 h); within = tt }

          pub columns_read : get_or s f 0 ≡ 41 → {n : ℕ} → n ≡ length (names_at s e) → ReadsColumns s at (Some (at + 1 + 1, n + 1, f + 1))
          unfolding listed_at ListedWithin column_list bracketed selected_from word_end_at
          columns_read h {n} k =
              let q : e ≡ word_end_at s (at + 1 + 1) = (word_at_lem s (at + 1 + 1) is_name e first).1 in
              let l : length (names_at s e) ≡ length (names_at s (word_end_at s (at + 1 + 1))) = ap (λ (j : ℕ). length (names_at s j)) q in
              record {
                is = next_here column_list s at space
                    ∙ rw (byte_at_read s (at + 1) 40 opens, word_to s (at + 1 + 1) is_name e first, rest, byte_at_read s f 41 h)
                    (ap (λ (j : ℕ). some (word_of s (at + 1 + 1) ∷ names_at s j, from s (f + 1))) q);
                within = record {
                  place = omega (arith, before_end s (at + 1) (λ z. absurd (omega (arith, opens, z))));
                  number = omega (arith, l, k);
                };
              }

-- ---- the condition that may be absent

module _ (s : List ℕ) (at : ℕ) where
  pub test_absent : (get_or s at 0 ≡ 32 → ⊥) → ReadsTest s at (Some (test.Always, at))
  unfolding tested_at TestedWithin TestWithin condition_at
  test_absent h = record { is = optional_not condition_in_form s at h; within = tt }

  module _ (space : get_or s at 0 ≡ 32) where
    pub test_wrong : read_to (condition_in_form (from s (at + 1))) ≡ None → ReadsTest s at None
    unfolding tested_at TestedWithin
    test_wrong h = record { is = optional_here condition_in_form s at space ∙ rw (condition_none s (at + 1) h); within = tt }

    pub test_read : {e n : ℕ} → read_to (condition_in_form (from s (at + 1))) ≡ Some (e, n) → ReadsTest s at (Some (test.When (at + 1) n, e))
    unfolding tested_at TestedWithin TestWithin condition_at there
    test_read {e} {n} h =
        let r = condition_at_lem s (at + 1) e n h in
        record {
          is = optional_here condition_in_form s at space ∙ rw r.is;
          within = record {
            place = omega (arith, space_before s at space);
            reads = rw r.is;
            number = ap (λ o. length (compared_in o)) r.is ∙ r.made;
          };
        }
