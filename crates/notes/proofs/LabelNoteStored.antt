-- What is stored of a table's weak or strong label is what its line adds. Assumes nothing.
use Prim.Native.Nat.{◌<◌, ℕ}
use Rattle.document.proofs.Kept.{table_there}
use Rattle.document.specs.Check.{check_form}
use Rattle.document.specs.Lookup.{given_by, label_of, notes_of, table_of}
use Rattle.document.specs.Meaning.{add, define}
use Rattle.document.specs.NameFaults.{unknown}
use Rattle.document.specs.NoteFaults.{misplaced, misplaced_note, takes_no_label}
use Rattle.document.specs.Policy.{Doc}
use Rattle.form.specs.Form.{Form, map_note, note}
use Rattle.lists.proofs.Tests.{neither_right, true_not_false}
use Rattle.lists.specs.Lists.{or_zero, there}
use Rattle.notes.proofs.LabelNoteFaults.{one_label_lem}
use Rattle.notes.specs.Promises.{given_in, note_by}
use Rattle.relations.proofs.TableLaws.{tables_counted}
use Rattle.relations.specs.Notes.{Notes}
use Rattle.relations.specs.Tables.{LabelNoted, Tables}
use Rattle.stepping.proofs.PassLaws.{passed}
use Rattle.stepping.specs.Stored.{Passes}
use Rattle.text.proofs.OffendingLaws.{leftmost_head, leftmost_only, leftmost_tail, missing_here, unless_none}
use Rattle.text.proofs.RefusalLaws.{refuse_if_accepted, then_accepted}
use Rattle.text.specs.Offending.{missing}
use Rattle.text.specs.Words.{Word}
use Rattle.workspace.specs.Found.{FoundBelow, found_as}
use Rattle.std.specs.Prelude.{None, Option, Some}
use lib.ListN.{length}
use mathlib.Core.Bool.{Bool, false, true}
use mathlib.Core.List.{List, [], ◌++◌, ◌∷◌}
use mathlib.Core.Option.{none-ne-some, none}
use mathlib.Core.Path.{◌∙◌, ◌≡◌, ap, refl, subst, sym}
use native.Mathlib.Omega.{arith}

-- an accepted line is in its place
placed : (d : Doc) (line : List ℕ) (f : Form) → Passes d line f → misplaced d f ≡ false
unfolding check_form
placed d line f h =
    let h4 = then_accepted _ _ _ (then_accepted _ _ _ h).2 in
    let h6 = then_accepted _ _ _ (then_accepted _ _ _ h4.2).2 in
    let h8 = then_accepted _ _ _ (then_accepted _ _ _ h6.2).2 in
    let h31 = then_accepted _ _ _ (then_accepted _ _ _ h8.2).2 in
    let h25 = then_accepted _ _ _ (then_accepted _ _ _ h31.2).2 in
    refuse_if_accepted _ _ h25.1

-- a note that is in its place is no second one
not_given : (d : Doc) (t : ℕ) (s : Bool) (v : Word) → misplaced_note d t (note_by s v) ≡ false → there (given_by (given_in s) (notes_of d.policy.notes t)) ≡ false
unfolding misplaced_note
not_given d t false v h = neither_right (takes_no_label d t) _ h
not_given d t true v h = neither_right (takes_no_label d t) _ h

missing_one : (f : Word → Bool) (w : Word) → missing f (w ∷ []) ≡ none → f w ≡ true
missing_one f w h = go (f w) refl
  where
    go : (b : Bool) → f w ≡ b → f w ≡ true
    go true e = e
    go false e = absurd (none-ne-some w (sym h ∙ missing_here f w [] e))

-- a number that was found is below the number of names
pub number_below : (f : Option ℕ) (k : ℕ) → there (found_as f) ≡ true → FoundBelow f k → or_zero (found_as f) < k
unfolding or_zero
number_below None k e l = true_not_false e (unfold there in refl)
number_below (Some n) k e l = l

-- what the code stored by its flag
pub by_flag : {before after : List ℕ} {x : ℕ} (y : ℕ) (s b : Bool) → s ≡ b → LabelNoted before after x (note_by b y) (given_in b) → LabelNoted before after x (note_by s y) (given_in s)
by_flag {before} {after} {x} y s b e n = subst (λ (z : Bool). LabelNoted before after x (note_by z y) (given_in z)) (sym e) n

-- the table and the label of an accepted line are there, and the table has no such label yet
module _ (d : Doc) (line : List ℕ) (w v : Word) (s : Bool) (ok : Passes d line (note w (note_by s v))) where
  known_table_lem : there (table_of d.policy w) ≡ true
  unfolding unknown
  known_table_lem = unless_none _ w (leftmost_head _ _ (passed d line (note w (note_by s v)) ok).knows)

  pub known_label_lem : there (label_of d.policy v) ≡ true
  unfolding unknown
  known_label_lem =
      missing_one (λ x. there (label_of d.policy x)) v
      (ap (missing (λ x. there (label_of d.policy x))) (sym (one_label_lem s v)) ∙ sym (leftmost_only _) ∙ leftmost_tail _ _ (passed d line (note w (note_by s v)) ok).knows)

  new_label : there (given_by (given_in s) (notes_of d.policy.notes (or_zero (table_of d.policy w)))) ≡ false
  unfolding misplaced
  new_label = not_given d (or_zero (table_of d.policy w)) s v (placed d line (note w (note_by s v)) ok)

-- what the line adds
adds : (d : Doc) (w v : Word) (s : Bool) → (add d (note w (note_by s v))).policy.notes ≡ d.policy.notes ++ (record { table = or_zero (table_of d.policy w); note = note_by s (or_zero (label_of d.policy v)) } ∷ [])
unfolding add define map_note
adds d w v false = refl
adds d w v true = refl

pub label_stored : {text before after : List ℕ} {k x y : ℕ} (d : Doc) (line : List ℕ) (w v : Word) (s : Bool) → Tables text before k d.policy.tables → Notes before k d.policy.notes
    → Passes d line (note w (note_by s v)) → x ≡ or_zero (table_of d.policy w) → y ≡ or_zero (label_of d.policy v) → LabelNoted before after x (note_by s y) (given_in s)
    → Tables text after k d.policy.tables × Notes after k (add d (note w (note_by s v))).policy.notes
label_stored {text} {before} {after} {k} {x} {y} d line w v s T N ok is called n =
    let there_so : or_zero (table_of d.policy w) < length d.policy.tables = table_there d.policy w (known_table_lem d line w v s ok) in
    let inside : x < k = omega (arith, is, there_so, tables_counted text before k d.policy.tables T) in
    let new : there (given_by (given_in s) (notes_of d.policy.notes x)) ≡ false = ap (λ (z : ℕ). there (given_by (given_in s) (notes_of d.policy.notes z))) is ∙ new_label d line w v s ok in (
      n.kept text k d.policy.tables T,
      subst (Notes after k) (ap (λ (z : ℕ). d.policy.notes ++ (record { table = z; note = note_by s y } ∷ [])) is ∙ ap (λ (z : ℕ). d.policy.notes ++ (record { table = or_zero (table_of d.policy w); note = note_by s z } ∷ [])) called ∙ sym (adds d w v s))
          (n.noted k d.policy.notes inside T.few new N),
    )
