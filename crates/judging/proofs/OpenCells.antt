-- Whether the cells of a row are open, by the labels in the arrays. Assumes nothing.
use Prim.Native.Nat.{◌+◌, ◌<◌, ◌≤◌, suc, zero, ℕ}
use Rattle.document.specs.Lookup.{given_by, notes_of, scheme_at, settled, strong_in, weak_in}
use Rattle.document.specs.NoteFaults.{is_nested}
use Rattle.document.specs.Open.{cell_open, label_open, marks_at, nest_open, open_to, row_withheld}
use Rattle.document.specs.Policy.{Policy, tree_of}
use Rattle.form.specs.Form.{Note, by_cell, nested}
use Rattle.form.specs.declared.lines.Scheme as coded
use Rattle.form.specs.declared.lines.Scheme.TheVariants as code
use Rattle.judging.specs.Marking.{MarkingOf, Marks, open_under, opened_for, under_row}
use Rattle.judging.specs.declared.marking.Marking.{Marking}
use Rattle.lists.proofs.Tests.{or_left}
use Rattle.lists.specs.Lists.{any_of}
use Rattle.purpose.proofs.Nesting.{nest_pointwise}
use Rattle.purpose.specs.Verdicts.{open_by, over, silent}
use Rattle.purpose.specs.declared.Verdict.{Verdict}
use Rattle.relations.proofs.LabelLaws.{open_verdict, said_for}
use Rattle.relations.proofs.TableLaws.{scheme_at_lem, table_inside}
use Rattle.relations.specs.Labels.{Said, verdict_for, verdict_in}
use Rattle.relations.specs.Notes.{Notes}
use Rattle.relations.specs.Rows.{label_count_in, label_room, labels_in, row_label_in}
use Rattle.relations.specs.Tables.{Cut, Tables, scheme_by}
use Rattle.text.proofs.Lefts.{drop_here}
use Rattle.workspace.proofs.TabulatedLaws.{length_tabulated, tabulated_at}
use lib.ListN.{drop, drop_of_length-le, get_or, get_elem?, length, length-take, take}
use lib.Seq.{get_or-take, length-take-le}
use mathlib.Core.Bool.{Bool, ◌&&◌, ◌||◌, cond, false, not, true}
use mathlib.Core.List.{List, [], ◌∷◌}
use mathlib.Core.Logic.{◌⊎◌, inl, inr}
use mathlib.Core.Option.{Option, none}
use mathlib.Core.Path.{◌∙◌, ◌≡◌, ap, refl, subst, sym}
use native.Mathlib.Omega.{arith}

-- past the end of a list stands nothing
nothing_past : {A : Type 0} (xs : List A) (i : ℕ) → length xs ≤ i → get_elem? xs i ≡ none
nothing_past [] i l = refl
nothing_past (x ∷ xs) zero l = absurd (omega (arith, l))
nothing_past (x ∷ xs) (suc i) l = nothing_past xs i (omega (arith, l))

-- ---- what the labels of a row say

module _ (os : List Bool) (ws : List ℕ) (r i n : ℕ) (cut : Cut label_room r 1024 (label_count_in ws r) n) where
  -- a label that the row has
  pub said_there : i < n → (l : ℕ) → (r < 1024 → i < label_room → l ≡ row_label_in ws r i) → (x : Verdict) → x ≡ verdict_in os l → r < 1024 → label_count_in ws r ≤ label_room → x ≡ verdict_for os (get_elem? (labels_in ws r) i)
  unfolding verdict_for
  said_there b l is x e small f =
      e
      ∙ ap (verdict_in os) (is small (omega (arith, b, cut.few)))
      ∙ ap (verdict_for os) (sym (tabulated_at (row_label_in ws r) (label_count_in ws r) i (omega (arith, b, cut.is small f))))

  -- one that it has not says nothing
  pub said_missing : n ≤ i → r < 1024 → label_count_in ws r ≤ label_room → silent ≡ verdict_for os (get_elem? (labels_in ws r) i)
  unfolding verdict_for
  said_missing b small f =
      ap (verdict_for os) (sym (nothing_past (labels_in ws r) i (omega (arith, b, cut.is small f, length_tabulated (row_label_in ws r) (label_count_in ws r)))))

-- no row has more labels than there is room for
pub said_nowhere : (os : List Bool) (ws : List ℕ) (r c : ℕ) → 16 ≤ c → label_count_in ws r ≤ label_room → silent ≡ verdict_for os (get_elem? (labels_in ws r) (suc c))
unfolding verdict_for
said_nowhere os ws r c b f = ap (verdict_for os) (sym (nothing_past (labels_in ws r) (suc c) (omega (arith, b, f, length_tabulated (row_label_in ws r) (label_count_in ws r)))))

-- ---- whether a cell is open

-- by what the code tests
module _ (os : List Bool) (m : Marking) (labels : List ℕ) where
  pub under_nested : m.nested ≡ true → (x : Verdict) → x ≡ over m.weak (verdict_for os (get_elem? labels 0)) → record { nested = true; strong = m.strong; weak = x } ≡ under_row os m labels
  unfolding under_row
  under_nested e x h =
      (λ i. record { nested = true; strong = m.strong; weak = h i })
      ∙ sym (ap (λ (b : Bool). cond b (record { nested = true; strong = m.strong; weak = over m.weak (verdict_for os (get_elem? labels 0)) }) m) e)

  pub under_own : m.nested ≡ false → m ≡ under_row os m labels
  unfolding under_row
  under_own e = sym (ap (λ (b : Bool). cond b (record { nested = true; strong = m.strong; weak = over m.weak (verdict_for os (get_elem? labels 0)) }) m) e)

  pub open_nested : m.nested ≡ true → (c : ℕ) → open_by m.strong (over m.weak (verdict_for os (get_elem? labels (suc c)))) ≡ open_under os m labels c
  unfolding open_under
  open_nested e c = sym (ap (λ (b : Bool). cond b (open_by m.strong (over m.weak (verdict_for os (get_elem? labels (suc c))))) (opened_for os (get_elem? labels c))) e)

  pub open_own : m.nested ≡ false → (c : ℕ) → opened_for os (get_elem? labels c) ≡ open_under os m labels c
  unfolding open_under
  open_own e c = sym (ap (λ (b : Bool). cond b (open_by m.strong (over m.weak (verdict_for os (get_elem? labels (suc c))))) (opened_for os (get_elem? labels c))) e)

-- and by what is meant
module _ (d : Policy) (p : ℕ) (os : List Bool) (said : Said d p os) where
  pub opened_for_lem : (l : Option ℕ) → opened_for os l ≡ label_open d p l
  unfolding opened_for
  opened_for_lem l = ap (λ (v : Verdict). v.allowed && not v.denied) (said_for said l) ∙ open_verdict d p l

  module _ (m : Marking) (ns : List (Note ℕ)) (labels : List ℕ) where
    pub own_cell : Marks d p m by_cell ns → (c : ℕ) → open_under os m labels c ≡ cell_open (open_to d p) (settled ns by_cell) labels c
    unfolding cell_open settled is_nested
    own_cell h c = sym (open_own os m labels h.nested c) ∙ opened_for_lem (get_elem? labels c)

    pub nest_cell : {w s : Option ℕ} → Marks d p m (nested w s) ns → (c : ℕ) → open_under os (under_row os m labels) labels c ≡ cell_open (open_to d p) (settled ns (nested w s)) labels c
    unfolding cell_open settled nest_open is_nested open_under
    nest_cell {w} {s} h c =
        ap (λ (x : Marking). open_under os x labels c) (sym (under_nested os m labels h.nested _ refl))
        ∙ (λ i. open_by (h.strong i) (over (over (h.weak i) (said_for said (get_elem? labels 0) i)) (said_for said (get_elem? labels (suc c)) i)))
        ∙ sym (nest_pointwise (tree_of d.purposes) (marks_at d (given_by strong_in ns)) (marks_at d (given_by weak_in ns)) (marks_at d (get_elem? labels 0)) (marks_at d (get_elem? labels (suc c))) p)

-- ---- one of some columns is closed

module _ (f : ℕ → Bool) (cs : List ℕ) (i : ℕ) (l : i < length cs) where
  -- the column at i, and those behind it
  any_next : any_of f (drop i cs) ≡ (f (get_or cs i 0) || any_of f (drop (i + 1) cs))
  unfolding any_of
  any_next = ap (any_of f) (drop_here cs i l)

  pub any_found : f (get_or cs i 0) ≡ true → any_of f (drop i cs) ≡ true
  any_found e = any_next ∙ or_left (f (get_or cs i 0)) (any_of f (drop (i + 1) cs)) e

  pub any_more : f (get_or cs i 0) ≡ false → any_of f (drop i cs) ≡ any_of f (drop (i + 1) cs)
  any_more e = any_next ∙ ap (λ (b : Bool). b || any_of f (drop (i + 1) cs)) e

-- behind the last there is none
pub any_none : (f : ℕ → Bool) (cs : List ℕ) (i : ℕ) → length cs ≤ i → any_of f (drop i cs) ≡ false
unfolding any_of
any_none f cs i l = ap (any_of f) (drop_of_length-le cs {i = i} l)

-- ---- the row is withheld, by scheme

any_alike : (f g : ℕ → Bool) → ((c : ℕ) → f c ≡ g c) → (cs : List ℕ) → any_of (λ c. not (f c)) cs ≡ any_of (λ c. not (g c)) cs
any_alike f g e cs = λ i. any_of (λ c. not (e c i)) cs

module _ (d : Policy) (p l : ℕ) (ls ws cs : List ℕ) (ns : List (Note ℕ)) (r : ℕ) where
  pub withheld_none : (s : coded.Scheme) → (s ≡ code.Unlabelled) ⊎ ((s ≡ code.ByTable) ⊎ (s ≡ code.ByColumn)) → false ≡ row_withheld (open_to d p) (settled ns (scheme_by s l ls)) cs (labels_in ws r)
  unfolding row_withheld scheme_by settled
  withheld_none s (inl e) = rw e
  withheld_none s (inr (inl e)) = rw e
  withheld_none s (inr (inr e)) = rw e

  module _ (os : List Bool) (said : Said d p os) where
    pub withheld_row : (s : coded.Scheme) → s ≡ code.ByRow → (x : Bool) → x ≡ opened_for os (get_elem? (labels_in ws r) 0) → not x ≡ row_withheld (open_to d p) (settled ns (scheme_by s l ls)) cs (labels_in ws r)
    unfolding row_withheld scheme_by settled
    withheld_row s e x h = ap not (h ∙ opened_for_lem d p os said (get_elem? (labels_in ws r) 0)) ∙ ap (λ (z : coded.Scheme). row_withheld (open_to d p) (settled ns (scheme_by z l ls)) cs (labels_in ws r)) (sym e)

    pub withheld_cell : (s : coded.Scheme) (m : Marking) → s ≡ code.ByCell → Marks d p m (scheme_by s l ls) ns → (x : Bool) → x ≡ any_of (λ c. not (open_under os m (labels_in ws r) c)) cs
        → x ≡ row_withheld (open_to d p) (settled ns (scheme_by s l ls)) cs (labels_in ws r)
    unfolding row_withheld scheme_by settled cell_open
    withheld_cell s m e k x h =
        h
        ∙ any_alike (open_under os m (labels_in ws r)) (cell_open (open_to d p) (settled ns by_cell) (labels_in ws r)) (own_cell d p os said m ns (labels_in ws r) (subst (λ (z : coded.Scheme). Marks d p m (scheme_by z l ls) ns) e k)) cs
        ∙ ap (λ (z : coded.Scheme). row_withheld (open_to d p) (settled ns (scheme_by z l ls)) cs (labels_in ws r)) (sym e)

    pub withheld_nest : (s : coded.Scheme) (m o : Marking) → s ≡ code.Nested → Marks d p m (scheme_by s l ls) ns → o ≡ under_row os m (labels_in ws r) → (x : Bool) → x ≡ any_of (λ c. not (open_under os o (labels_in ws r) c)) cs
        → x ≡ row_withheld (open_to d p) (settled ns (scheme_by s l ls)) cs (labels_in ws r)
    unfolding row_withheld scheme_by settled cell_open
    withheld_nest s m o e k u x h =
        h
        ∙ ap (λ (z : Marking). any_of (λ c. not (open_under os z (labels_in ws r) c)) cs) u
        ∙ any_alike (open_under os (under_row os m (labels_in ws r)) (labels_in ws r)) (cell_open (open_to d p) (settled ns (nested none none)) (labels_in ws r)) (nest_cell d p os said m ns (labels_in ws r) {w = none} {s = none} (subst (λ (z : coded.Scheme). Marks d p m (scheme_by z l ls) ns) e k)) cs
        ∙ ap (λ (z : coded.Scheme). row_withheld (open_to d p) (settled ns (scheme_by z l ls)) cs (labels_in ws r)) (sym e)

-- ---- the marking that the arrays give

pub marks_told : {text ts : List ℕ} {k : ℕ} {d : Policy} {p t : ℕ} {os : List Bool} {m : Marking} → Tables text ts k d.tables → Notes ts k d.notes → t < k → Said d p os → MarkingOf ts t os m → Marks d p m (scheme_at d t) (notes_of d.notes t)
marks_told {text} {ts} {k} {d} {p} {t} {os} {m} T N l said h =
    let small : t < 8 = table_inside text ts k t d T l in
    record {
      nested = h.nested small ∙ ap is_nested (sym (scheme_at_lem text ts k t d T l));
      strong = h.strong small ∙ ap (verdict_for os) (N.said t l).strong ∙ said_for said (given_by strong_in (notes_of d.notes t));
      weak = h.weak small ∙ ap (verdict_for os) (N.said t l).weak ∙ said_for said (given_by weak_in (notes_of d.notes t));
    }
