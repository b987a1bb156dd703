-- Conditional roles in their array: one more. Assumes nothing.
use Prim.Native.Nat.{◌+◌, ◌<◌, ℕ}
use borrow.Author.Count.{below_more}
use lib.ListN.{get_or, length}
use mathlib.Core.Bool.{true}
use mathlib.Core.List.{List, [], ◌++◌, ◌∷◌}
use mathlib.Core.Path.{◌∙◌, ◌≡◌, ap, refl, sym}
use native.Mathlib.Omega.{arith}
use Rattle.condition.specs.Cond.{map_cond}
use Rattle.document.specs.Meaning.{attribute_comparison}
use Rattle.document.specs.Policy.{CondRole, Policy}
use Rattle.lists.specs.Lists.{find_index}
use Rattle.workspace.proofs.Finding.{found_first}
use Rattle.workspace.proofs.TabulatedLaws.{tabulated_pushed}
use Rattle.workspace.proofs.Stores.{Store, stores, stores_other, stores_same}
use Rattle.workspace.specs.Hash.{Printed, print_of}
use Rattle.principals.specs.CondRoles.{CondRoles, attributes_known, cond_role_in, condition_in, condition_in_line, condition_reads, reads_in}
use Rattle.text.specs.Words.{Word, is_called, word_at}
use Rattle.workspace.specs.Tabulated.{tabulated}

-- one more: its name, its role, the start and the end of its line, the place of its condition there, and its name's print
abbrev pub cond_stores : ℕ → ℕ → ℕ → ℕ → ℕ → ℕ → ℕ → List Store
cond_stores k pos role start end place h =
    record { place = k; value = pos }
    ∷ record { place = 64 + k; value = role }
    ∷ record { place = 128 + k; value = start }
    ∷ record { place = 192 + k; value = end }
    ∷ record { place = 256 + k; value = place }
    ∷ record { place = 320 + k; value = h }
    ∷ []

module _ (text ws : List ℕ) (k pos role start end place h : ℕ) (small : k < 64) (long : 320 + k < length ws) where
  ss : List Store
  ss = cond_stores k pos role start end place h

  condition_kept : (i : ℕ) → i < k → condition_in text (stores ws ss) i ≡ condition_in text ws i
  unfolding condition_in ss
  condition_kept i l = λ j. condition_in_line text
      (stores_other ws (cond_stores k pos role start end place h) (128 + i) (omega arith) j)
      (stores_other ws (cond_stores k pos role start end place h) (192 + i) (omega arith) j)
      (stores_other ws (cond_stores k pos role start end place h) (256 + i) (omega arith) j)

  condition_new : condition_in text (stores ws ss) k ≡ condition_in_line text start end place
  unfolding condition_in ss
  condition_new = λ j. condition_in_line text
      (stores_same ws (cond_stores k pos role start end place h) 2 (omega arith) (omega arith) (omega arith) j)
      (stores_same ws (cond_stores k pos role start end place h) 3 (omega arith) (omega arith) (omega arith) j)
      (stores_same ws (cond_stores k pos role start end place h) 4 (omega arith) (omega arith) (omega arith) j)

  print_kept : (i : ℕ) → i < k → Printed 320 text ws i → Printed 320 text (stores ws ss) i
  unfolding ss
  print_kept i l q =
      stores_other ws (cond_stores k pos role start end place h) (320 + i) (omega arith) ∙ q ∙ ap (λ m. print_of (word_at text m)) (sym (stores_other ws (cond_stores k pos role start end place h) i (omega arith)))

  print_new : h ≡ print_of (word_at text pos) → Printed 320 text (stores ws ss) k
  unfolding ss
  print_new q =
      stores_same ws (cond_stores k pos role start end place h) 5 (omega arith) (omega arith) (omega arith) ∙ q
      ∙ ap (λ m. print_of (word_at text m)) (sym (stores_same ws (cond_stores k pos role start end place h) 0 (omega arith) (omega arith) (omega arith)))

  reads_kept : (i : ℕ) → i < k → reads_in text (stores ws ss) i ≡ reads_in text ws i
  unfolding reads_in ss
  reads_kept i l = λ j. condition_reads text
      (stores_other ws (cond_stores k pos role start end place h) (128 + i) (omega arith) j)
      (stores_other ws (cond_stores k pos role start end place h) (192 + i) (omega arith) j)
      (stores_other ws (cond_stores k pos role start end place h) (256 + i) (omega arith) j)

  reads_new : reads_in text (stores ws ss) k ≡ condition_reads text start end place
  unfolding reads_in ss
  reads_new = λ j. condition_reads text
      (stores_same ws (cond_stores k pos role start end place h) 2 (omega arith) (omega arith) (omega arith) j)
      (stores_same ws (cond_stores k pos role start end place h) 3 (omega arith) (omega arith) (omega arith) j)
      (stores_same ws (cond_stores k pos role start end place h) 4 (omega arith) (omega arith) (omega arith) j)

  module _ (d : Policy) where
    cond_kept : (i : ℕ) → i < k → cond_role_in d text (stores ws ss) i ≡ cond_role_in d text ws i
    unfolding cond_role_in ss
    cond_kept i l = λ j. record {
      name = word_at text (stores_other ws (cond_stores k pos role start end place h) i (omega arith) j);
      role = stores_other ws (cond_stores k pos role start end place h) (64 + i) (omega arith) j;
      condition = map_cond (attribute_comparison d) (condition_kept i l j);
    }

    cond_new : cond_role_in d text (stores ws ss) k ≡ record { name = word_at text pos; role = role; condition = map_cond (attribute_comparison d) (condition_in_line text start end place) }
    unfolding cond_role_in ss
    cond_new = λ j. record {
      name = word_at text (stores_same ws (cond_stores k pos role start end place h) 0 (omega arith) (omega arith) (omega arith) j);
      role = stores_same ws (cond_stores k pos role start end place h) 1 (omega arith) (omega arith) (omega arith) j;
      condition = map_cond (attribute_comparison d) (condition_new j);
    }

    pub conds_pushed : (cs : List CondRole) → CondRoles d text ws k cs → h ≡ print_of (word_at text pos) → attributes_known d (condition_in_line text start end place) ≡ true → condition_reads text start end place ≡ true
        → CondRoles d text (stores ws (cond_stores k pos role start end place h)) (k + 1) (cs ++ (record { name = word_at text pos; role = role; condition = map_cond (attribute_comparison d) (condition_in_line text start end place) } ∷ []))
    unfolding ss
    conds_pushed cs n p known r = record {
      few = omega (arith, small);
      are = tabulated_pushed (cond_role_in d text ws) (cond_role_in d text (stores ws ss)) k cs _ n.are cond_kept cond_new;
      known = below_more (λ i. attributes_known d (condition_in text (stores ws ss) i) ≡ true) k
          (λ i l. ap (attributes_known d) (condition_kept i l) ∙ n.known i l)
          (ap (attributes_known d) condition_new ∙ known);
      printed = below_more (Printed 320 text (stores ws ss)) k (λ i l. print_kept i l (n.printed i l)) (print_new p);
      reads = below_more (λ i. reads_in text (stores ws ss) i ≡ true) k (λ i l. reads_kept i l ∙ n.reads i l) (reads_new ∙ r);
    }

-- a conditional role
pub cond_found : {d : Policy} {text ws : List ℕ} {k : ℕ} {cs : List CondRole} (w : Word) → CondRoles d text ws k cs
    → find_index (λ p. is_called w (word_at text p)) (tabulated (λ i. get_or ws (0 + i) 0) k) ≡ find_index (λ x. is_called w x.name) cs
unfolding cond_role_in
cond_found {d} {text} {ws} {k} {cs} w n = found_first (is_called w) (λ x. x.name) text ws (cond_role_in d text ws) k cs (λ i. refl) n.are
