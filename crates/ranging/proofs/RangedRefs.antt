-- Ranges in the columns that a join names, by their numbers through both tables. Assumes nothing.
use Prim.Native.Nat.{ℕ}
use lib.ListN.{get_or, get_elem?}
use mathlib.Core.Bool.{Bool, false, true}
use mathlib.Core.List.{List}
use mathlib.Core.Option.{none, some}
use mathlib.Core.Path.{◌∙◌, ◌≡◌, ap, sym}
use Rattle.answer.specs.Ranged.{has_range, ranged_ref}
use Rattle.condition.specs.CondForm.{Ref}
use Rattle.document.specs.Policy.{Doc}
use Rattle.query.specs.JoinForm.{JoinForm}
use Rattle.resolving.proofs.Through.{ref_through}
use Rattle.resolving.specs.Joins.{KnowsTables, RefsRead, through}
use Rattle.resolving.specs.declared.joins.TwoTables.{TwoTables}
use Rattle.text.specs.Offending.{offending_if}
use Rattle.text.specs.Words.{word_of}

module _ {text ts : List ℕ} {k : ℕ} {s : List ℕ} {p : TwoTables} (d : Doc) {j : JoinForm} (h : KnowsTables text ts k s p d.policy j)
    {rs : List Ref} {n : ℕ} {words columns : List ℕ} (g : RefsRead d.policy j rs s n words columns) (i : ℕ) (b : Bool) (is : b ≡ through d.policy p (has_range d) (get_or columns i 0)) (r : Ref) (e : get_elem? rs i ≡ some r) where
  -- what the code finds at a column's number
  ranged_at_lem : ranged_ref d j r ≡ offending_if b (word_of s (get_or words i 0))
  unfolding ranged_ref
  ranged_at_lem = λ z. offending_if ((ref_through h (has_range d) r (g.known i r e) ∙ ap (through d.policy p (has_range d)) (sym (g.numbered i r e)) ∙ sym is) z) (g.word i r e z)

  pub ref_ranged : b ≡ true → ranged_ref d j r ≡ some (word_of s (get_or words i 0))
  unfolding offending_if
  ref_ranged t = ranged_at_lem ∙ ap (λ o. offending_if o (word_of s (get_or words i 0))) t

  pub ref_plain : b ≡ false → ranged_ref d j r ≡ none
  unfolding offending_if
  ref_plain f = ranged_at_lem ∙ ap (λ o. offending_if o (word_of s (get_or words i 0))) f
