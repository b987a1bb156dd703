-- The faults of lines that give a table a weak or strong label, by what the code learnt: one law for each answer. Assumes nothing.
use Prim.Native.Nat.{◌<◌, ◌≤◌, ℕ}
use Rattle.document.specs.AmountFaults.{broken_range, no_such_date}
use Rattle.document.specs.Bounds.{late_attr, over_bound, second_root}
use Rattle.document.specs.Lookup.{given_by, label_of, notes_of, scheme_at, table_of}
use Rattle.document.specs.NameFaults.{taken, taken_note, unknown}
use Rattle.document.specs.NoteFaults.{is_nested, misplaced, misplaced_note, takes_no_label}
use Rattle.document.specs.Policy.{Doc, Label, Policy, Table}
use Rattle.document.specs.TypeFaults.{wrong_type}
use Rattle.document.specs.ValueFaults.{misfit}
use Rattle.form.specs.Form.{Form, note, note_labels}
use Rattle.index.specs.declared.counts.Counts.{Counts}
use Rattle.lists.specs.Lists.{any_of, find_index, or_zero, there}
use Rattle.notes.specs.Promises.{OutOfPlacePromise, given_in, note_by}
use Rattle.relations.specs.Labels.{Labels}
use Rattle.relations.specs.Notes.{Notes}
use Rattle.relations.specs.Rows.{Rows}
use Rattle.relations.specs.Tables.{Tables}
use Rattle.stepping.proofs.FoundLaws.{found_absent, found_there}
use Rattle.stepping.proofs.Outcomes.{says_fine, says_misplaced, says_unknown}
use Rattle.stepping.specs.Judged.{Judges}
use Rattle.stepping.specs.declared.fault.Fault.TheVariants.{Item, Whole}
use Rattle.std.specs.Prelude.{None, Option, Some, Err, Ok, Result}
use Rattle.text.proofs.OffendingLaws.{leftmost_fail, leftmost_on, missing_here, missing_next, missing_nil}
use Rattle.text.specs.Offending.{missing}
use Rattle.text.specs.Words.{Word, is_called, word_of}
use Rattle.text.specs.declared.refusals.Reason.TheVariants.{NameUnknown, NoteMisplaced}
use Rattle.workspace.specs.Found.{FoundBelow, found_as}
use lib.Dec.{eqb}
use lib.ListN.{length}
use mathlib.Core.Bool.{Bool, ◌||◌, false, not, true}
use mathlib.Core.List.{List, [], ◌∷◌}
use mathlib.Core.Option.{none, some}
use mathlib.Core.Path.{◌∙◌, ◌≡◌, ap, refl, subst, sym}
use native.Mathlib.Omega.{arith}
use Rattle.stepping.specs.declared.fault.Fault.{Fault}

-- ---- whether one is out of place

out_of_place : (d : Doc) (t : ℕ) (s : Bool) (w : Word) → misplaced_note d t (note_by s w) ≡ (not (is_nested (scheme_at d.policy t)) || any_of (λ r. eqb r.table t) d.rows || there (given_by (given_in s) (notes_of d.policy.notes t)))
unfolding misplaced_note takes_no_label
out_of_place d t false w = refl
out_of_place d t true w = refl

module _ (d : Doc) (t : ℕ) (s : Bool) (w : Word) where
  pub other_scheme : is_nested (scheme_at d.policy t) ≡ false → true ≡ misplaced_note d t (note_by s w)
  other_scheme e = sym (out_of_place d t s w ∙ ap (λ (b : Bool). not b || any_of (λ r. eqb r.table t) d.rows || there (given_by (given_in s) (notes_of d.policy.notes t))) e)

  module _ (e : is_nested (scheme_at d.policy t) ≡ true) where
    by_rows : misplaced_note d t (note_by s w) ≡ (any_of (λ r. eqb r.table t) d.rows || there (given_by (given_in s) (notes_of d.policy.notes t)))
    by_rows = out_of_place d t s w ∙ ap (λ (b : Bool). not b || any_of (λ r. eqb r.table t) d.rows || there (given_by (given_in s) (notes_of d.policy.notes t))) e

    pub has_rows : any_of (λ r. eqb r.table t) d.rows ≡ true → true ≡ misplaced_note d t (note_by s w)
    has_rows r = sym (by_rows ∙ ap (λ (b : Bool). b || there (given_by (given_in s) (notes_of d.policy.notes t))) r)

    pub has_one : any_of (λ r. eqb r.table t) d.rows ≡ false → there (given_by (given_in s) (notes_of d.policy.notes t)) ≡ misplaced_note d t (note_by s w)
    has_one r = sym (by_rows ∙ ap (λ (b : Bool). b || there (given_by (given_in s) (notes_of d.policy.notes t))) r)

-- ---- the line

takes_no_name : (d : Policy) (w : Word) (s : Bool) (v : Word) → taken_note d w (note_by s v) ≡ none
unfolding taken_note
takes_no_name d w false v = refl
takes_no_name d w true v = refl

pub one_label_lem : (s : Bool) (v : Word) → note_labels (note_by s v) ≡ v ∷ []
unfolding note_labels
one_label_lem false v = refl
one_label_lem true v = refl

module _ (text labels tables rows : List ℕ) (c : Counts) (line : List ℕ) (t l : ℕ) (s : Bool) (x : Option ℕ)
    (is : (ts : List Table) → Tables text tables c.tables ts → found_as x ≡ find_index (λ y. is_called (word_of line t) y.name) ts) where
  abbrev Held : Doc → Type 0
  Held d = Tables text tables c.tables d.policy.tables × Notes tables c.tables d.policy.notes × ((sets : List ℕ) × Labels text labels sets c.labels d.policy.labels) × Rows text rows c.rows d.rows

  abbrev Inside : Type 0
  Inside = (t ≤ length line) × (l ≤ length line)

  abbrev Said : Form
  Said = note (word_of line t) (note_by s (word_of line l))

  abbrev Says : Result (Unit {0}) Fault → Type 0
  Says f = Judges Held Inside line Said 0 1 f

  roomy : (d : Doc) → Held d → over_bound d Said ≡ false
  unfolding over_bound
  roomy d h = refl

  free : (d : Doc) → Held d → taken d.policy Said ≡ none
  unfolding taken
  free d h = takes_no_name d.policy (word_of line t) s (word_of line l)

  -- the table's name is looked up as the definition does
  table_found : (d : Doc) → Held d → found_as x ≡ table_of d.policy (word_of line t)
  unfolding table_of
  table_found d h = is d.policy.tables h.0

  pub no_table : x ≡ None → Says (Err (Item NameUnknown t))
  no_table e = says_unknown Held Inside line Said 0 1 roomy free t (λ p. p.0) lacking
    where
      lacking : (d : Doc) → Held d → unknown d.policy Said ≡ some (word_of line t)
      lacking d h = unfold unknown in leftmost_fail _ (word_of line t) _ (found_absent x _ (table_found d h) e)

  module _ (n : ℕ) (e : x ≡ Some n) (below : FoundBelow x c.tables) (g : Option ℕ)
      (called : (sets : List ℕ) (ls : List Label) → Labels text labels sets c.labels ls → found_as g ≡ find_index (λ y. is_called (word_of line l) y.name) ls) where
    label_found : (d : Doc) → Held d → found_as g ≡ label_of d.policy (word_of line l)
    unfolding label_of
    label_found d h = called h.2.0 d.policy.labels h.2.1

    -- what is unknown is the label, if anything
    by_label : (d : Doc) → Held d → unknown d.policy Said ≡ missing (λ w. there (label_of d.policy w)) (word_of line l ∷ [])
    unfolding unknown
    by_label d h =
        leftmost_on _ (word_of line t) _ (found_there x _ (table_found d h) n e)
        ∙ ap (missing (λ w. there (label_of d.policy w))) (one_label_lem s (word_of line l))

    pub no_label : g ≡ None → Says (Err (Item NameUnknown l))
    no_label z = says_unknown Held Inside line Said 0 1 roomy free l (λ p. p.1) (λ d h. by_label d h ∙ missing_here (λ w. there (label_of d.policy w)) (word_of line l) [] (found_absent g _ (label_found d h) z))

    module _ (m : ℕ) (z : g ≡ Some m) (b : Bool) (told : OutOfPlacePromise tables rows c.rows n s b) where
      known : (d : Doc) → Held d → unknown d.policy Said ≡ none
      known d h =
          by_label d h
          ∙ missing_next (λ w. there (label_of d.policy w)) (word_of line l) [] (found_there g _ (label_found d h) m z)
          ∙ missing_nil (λ w. there (label_of d.policy w))

      placed_so : (d : Doc) → Held d → misplaced d Said ≡ b
      unfolding misplaced or_zero
      placed_so d h =
          let inside : n < c.tables = subst (λ (y : Option ℕ). FoundBelow y c.tables) e below in
          ap (λ o. misplaced_note d (or_zero o) (note_by s (word_of line l))) (sym (table_found d h) ∙ ap found_as e)
          ∙ sym (told d text c.tables (word_of line l) h.0 h.1 h.3 inside)

      pub out_of_its_place : b ≡ true → Says (Err (Whole NoteMisplaced))
      unfolding late_attr second_root misfit wrong_type broken_range no_such_date
      out_of_its_place p =
          says_misplaced Held Inside line Said 0 1 roomy free known
          (λ d h. refl) (λ d h. refl) (λ d h. refl) (λ d h. refl) (λ d h. refl) (λ d h. refl) (λ d h. placed_so d h ∙ p)

      pub in_its_place : b ≡ false → Says (Ok tt)
      unfolding late_attr second_root misfit wrong_type broken_range no_such_date
      in_its_place p =
          says_fine Held Inside line Said 0 1 roomy free known
          (λ d h. refl) (λ d h. refl) (λ d h. refl) (λ d h. refl) (λ d h. refl) (omega arith) (λ d h. refl) (λ d h. placed_so d h ∙ p)
