-- The faults of lines that declare a table public, by what the code learnt: one law for each answer. Assumes nothing.
use Prim.Native.Nat.{◌<◌, ◌≤◌, ℕ}
use lib.ListN.{length}
use mathlib.Core.Bool.{Bool, false, true}
use mathlib.Core.List.{List}
use mathlib.Core.Option.{none, some}
use mathlib.Core.Path.{◌∙◌, ◌≡◌, ap, refl, subst, sym}
use native.Mathlib.Omega.{arith}
use Rattle.document.specs.AmountFaults.{broken_range, no_such_date}
use Rattle.document.specs.Bounds.{late_attr, over_bound, second_root}
use Rattle.document.specs.Lookup.{is_public, notes_of, table_of}
use Rattle.document.specs.NameFaults.{taken, taken_note, unknown}
use Rattle.document.specs.NoteFaults.{misplaced, misplaced_note}
use Rattle.document.specs.Policy.{Doc, Table}
use Rattle.document.specs.TypeFaults.{wrong_type}
use Rattle.document.specs.ValueFaults.{misfit}
use Rattle.form.specs.Form.{Form, note, note_labels, public}
use Rattle.lists.specs.Lists.{any_of, find_index, holds_of}
use Rattle.relations.specs.Notes.{Notes, public_in}
use Rattle.relations.specs.Tables.{Tables}
use Rattle.stepping.proofs.FoundLaws.{found_absent, found_there}
use Rattle.stepping.proofs.Outcomes.{says_fine, says_taken, says_unknown}
use Rattle.stepping.specs.Judged.{Judges}
use Rattle.stepping.specs.declared.fault.Fault.TheVariants.{Item}
use Rattle.std.specs.Prelude.{None, Option, Some, Err, Ok, Result}
use Rattle.text.proofs.OffendingLaws.{leftmost_fail, leftmost_on, missing_nil}
use Rattle.text.specs.Offending.{offending_if}
use Rattle.text.specs.Words.{is_called, word_of}
use Rattle.text.specs.declared.refusals.Reason.TheVariants.{NameTaken, NameUnknown}
use Rattle.workspace.specs.Found.{FoundBelow, found_as}
use Rattle.stepping.specs.declared.fault.Fault.{Fault}

module _ (text ws : List ℕ) (k : ℕ) (line : List ℕ) (t : ℕ) (x : Option ℕ)
    (is : (ts : List Table) → Tables text ws k ts → found_as x ≡ find_index (λ y. is_called (word_of line t) y.name) ts) where
  abbrev Held : Doc → Type 0
  Held d = Tables text ws k d.policy.tables × Notes ws k d.policy.notes

  abbrev Said : Form
  Said = note (word_of line t) public

  abbrev Says : Result (Unit {0}) Fault → Type 0
  Says f = Judges Held (t ≤ length line) line Said 0 1 f

  roomy : (d : Doc) → Held d → over_bound d Said ≡ false
  unfolding over_bound
  roomy d h = refl

  -- the name is looked up as the definition does
  looked_up : (d : Doc) → Held d → found_as x ≡ table_of d.policy (word_of line t)
  unfolding table_of
  looked_up d h = is d.policy.tables h.0

  -- whether it is taken, by the table that was found
  taken_by_lem : (d : Doc) → Held d → taken d.policy Said ≡ offending_if (holds_of (λ n. any_of is_public (notes_of d.policy.notes n)) (found_as x)) (word_of line t)
  unfolding taken taken_note
  taken_by_lem d h = ap (λ o. offending_if (holds_of (λ n. any_of is_public (notes_of d.policy.notes n)) o) (word_of line t)) (sym (looked_up d h))

  pub no_table : x ≡ None → Says (Err (Item NameUnknown t))
  no_table e = says_unknown Held (t ≤ length line) line Said 0 1 roomy free t (λ p. p) lacking
    where
      free : (d : Doc) → Held d → taken d.policy Said ≡ none
      free d h = taken_by_lem d h ∙ (unfold holds_of offending_if in ap (λ (y : Option ℕ). offending_if (holds_of (λ n. any_of is_public (notes_of d.policy.notes n)) (found_as y)) (word_of line t)) e)

      lacking : (d : Doc) → Held d → unknown d.policy Said ≡ some (word_of line t)
      lacking d h = unfold unknown in leftmost_fail _ (word_of line t) _ (found_absent x _ (looked_up d h) e)

  module _ (n : ℕ) (e : x ≡ Some n) (below : FoundBelow x k) (b : Bool) (read : n < 8 → b ≡ public_in ws n) where
    -- the table is declared public already, as the array says
    said_so : (d : Doc) → Held d → taken d.policy Said ≡ offending_if b (word_of line t)
    unfolding holds_of
    said_so d h =
        let inside : n < k = subst (λ (y : Option ℕ). FoundBelow y k) e below in
        taken_by_lem d h
        ∙ ap (λ (y : Option ℕ). offending_if (holds_of (λ m. any_of is_public (notes_of d.policy.notes m)) (found_as y)) (word_of line t)) e
        ∙ ap (λ c. offending_if c (word_of line t)) (sym (read (omega (arith, inside, h.0.few)) ∙ (h.1.said n inside).is_public?))

    pub public_twice : b ≡ true → Says (Err (Item NameTaken t))
    unfolding offending_if
    public_twice p = says_taken Held (t ≤ length line) line Said 0 1 roomy t (λ q. q) (λ d h. said_so d h ∙ ap (λ c. offending_if c (word_of line t)) p)

    pub public_once : b ≡ false → Says (Ok tt)
    unfolding offending_if unknown note_labels late_attr misplaced misplaced_note second_root misfit wrong_type broken_range no_such_date
    public_once p =
        says_fine Held (t ≤ length line) line Said 0 1 roomy (λ d h. said_so d h ∙ ap (λ c. offending_if c (word_of line t)) p)
        (λ d h. leftmost_on _ (word_of line t) _ (found_there x _ (looked_up d h) n e) ∙ missing_nil _)
        (λ d h. refl) (λ d h. refl) (λ d h. refl) (λ d h. refl) (λ d h. refl) (omega arith) (λ d h. refl) (λ d h. refl)
