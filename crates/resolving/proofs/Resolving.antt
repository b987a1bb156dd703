-- Storing the numbers of the columns that words name: what the loop keeps. Assumes nothing.
use Prim.Native.Nat.{◌+◌, ◌<◌, ◌≤◌, suc, ℕ}
use lib.ListN.{drop, get_or, length, set, take}
use lib.Seq.{drop-cons, drop-length, get_or-take, length-take-le, take-suc, take-suc-set}
use mathlib.Core.Bool.{Bool}
use mathlib.Core.List.{List, [], ◌++◌, ◌∷◌, map}
use mathlib.Core.Option.{none, some}
use mathlib.Core.Path.{◌∙◌, ◌≡◌, ap, refl, subst, sym}
use native.Mathlib.Numerals.{add-one}
use native.Mathlib.Omega.{arith}
use Rattle.document.specs.Lookup.{column_of}
use Rattle.document.specs.Policy.{Column}
use Rattle.lists.proofs.ListLaws.{map_append}
use Rattle.lists.specs.Lists.{or_zero, there}
use Rattle.query.specs.Naming.{words_at}
use Rattle.resolving.specs.Resolved.{Resolves}
use Rattle.text.proofs.OffendingLaws.{missing_here, missing_next, missing_nil}
use Rattle.text.specs.Offending.{missing}
use Rattle.text.specs.Words.{Word, word_of}
use Rattle.std.specs.Prelude.{None, Some}

-- one of the columns has this name
abbrev has : List Column → Word → Bool
has cs w = there (column_of cs w)

-- the number of the column of this name
abbrev number : List Column → Word → ℕ
number cs w = or_zero (column_of cs w)

-- the words from place i on
abbrev pending : List ℕ → ℕ → List ℕ → ℕ → List Word
pending s n places i = map (word_of s) (drop i (take n places))

-- i words are resolved: the first that is missing is the first from place i on, and the numbers of the others are stored
pub record Resolving (cs : List Column) (s : List ℕ) (n : ℕ) (places numbers : List ℕ) (i : ℕ) : Type 0 where
  pub rest : missing (has cs) (words_at s n places) ≡ missing (has cs) (pending s n places i)
  pub front : take i numbers ≡ map (number cs) (words_at s i places)

pub at_nothing : {p : ℕ} → Some p ≡ None → ⊥
at_nothing e = let z : ◌≡◌ {A = ℕ} 0 1 = cc in omega arith

module _ (cs : List Column) (s : List ℕ) (n : ℕ) (places numbers : List ℕ) where
  pub resolving_start : Resolving cs s n places numbers 0
  resolving_start = record { rest = refl; front = refl }

  module _ (i : ℕ) (r : Resolving cs s n places numbers i) where
    -- the word at place i is the first from there on
    next : i < n → n ≤ length places → pending s n places i ≡ word_of s (get_or places i 0) ∷ pending s n places (i + 1)
    next l fits =
        ap (map (word_of s)) (drop-cons (take n places) i 0 (subst (λ (m : ℕ). i < m) (sym (length-take-le n places fits)) l))
        ∙ ap (λ (p : ℕ). word_of s p ∷ map (word_of s) (drop (suc i) (take n places))) (get_or-take n places i 0 l)
        ∙ ap (λ (m : ℕ). word_of s (get_or places i 0) ∷ pending s n places m) (sym (add-one i))

    module _ (l : i < n) (fits : n ≤ length places) where
      -- it names a column, whose number is stored
      pub resolving_more : n ≤ length numbers → (m : ℕ) → some m ≡ column_of cs (word_of s (get_or places i 0)) → Resolving cs s n places (set numbers i m) (i + 1)
      unfolding or_zero there
      resolving_more room m e = record {
        rest = r.rest ∙ ap (missing (has cs)) (next l fits) ∙ missing_next (has cs) (word_of s (get_or places i 0)) (pending s n places (i + 1)) (ap there (sym e));
        front =
            ap (λ (j : ℕ). take j (set numbers i m)) (add-one i)
            ∙ take-suc-set numbers i m (omega arith)
            ∙ ap (λ (xs : List ℕ). xs ++ (m ∷ [])) r.front
            ∙ ap (λ (x : ℕ). map (number cs) (words_at s i places) ++ (x ∷ [])) (ap or_zero e)
            ∙ sym (map_append (number cs) (words_at s i places) (word_of s (get_or places i 0) ∷ []))
            ∙ ap (map (number cs)) (sym (map_append (word_of s) (take i places) (get_or places i 0 ∷ [])))
            ∙ ap (λ (xs : List ℕ). map (number cs) (map (word_of s) xs)) (sym (take-suc places i 0 (omega arith)))
            ∙ ap (λ (j : ℕ). map (number cs) (words_at s j places)) (sym (add-one i));
      }

      -- it names none
      pub resolving_stop : none ≡ column_of cs (word_of s (get_or places i 0)) → Resolves cs s n places (Some (get_or places i 0)) numbers
      unfolding there
      resolving_stop e = record {
        offends = sym (r.rest ∙ ap (missing (has cs)) (next l fits) ∙ missing_here (has cs) (word_of s (get_or places i 0)) (pending s n places (i + 1)) (ap there (sym e)));
        numbered = λ h. absurd (at_nothing h);
      }

    -- all words are resolved
    pub resolving_done : i ≡ n → n ≤ length places → Resolves cs s n places None numbers
    resolving_done e fits = record {
      offends = sym (r.rest ∙ ap (missing (has cs)) (ap (map (word_of s)) (ap (λ (j : ℕ). drop j (take n places)) (e ∙ sym (length-take-le n places fits)) ∙ drop-length (take n places))) ∙ missing_nil (has cs));
      numbered = λ h. subst (λ (j : ℕ). take j numbers ≡ map (number cs) (words_at s j places)) e r.front;
    }
