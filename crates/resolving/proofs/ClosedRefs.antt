-- What of a join is closed to its purpose, by the numbers of its columns through both tables. Assumes nothing.
use Prim.Native.Nat.{ℕ}
use lib.ListN.{get_or, get_elem?}
use mathlib.Core.Bool.{Bool, false, true}
use mathlib.Core.List.{List, ◌∷◌, map}
use mathlib.Core.Option.{Option, none, some}
use mathlib.Core.Path.{◌∙◌, ◌≡◌, ap, sym}
use Rattle.condition.specs.CondForm.{Ref}
use Rattle.document.specs.Lookup.{labelling_at, labelling_of, purpose_of, table_of}
use Rattle.document.specs.Open.{open_to, table_open}
use Rattle.document.specs.Policy.{Policy}
use Rattle.lists.specs.Lists.{or_zero}
use Rattle.query.specs.Join.{closed_in_join, closed_ref, pair_column}
use Rattle.query.specs.JoinForm.{JoinForm, join_refs}
use Rattle.query.specs.Query.{open_for}
use Rattle.resolving.proofs.Through.{ref_through}
use Rattle.resolving.specs.Joins.{KnowsTables, RefsRead, open_column, through}
use Rattle.resolving.specs.declared.joins.TwoTables.{TwoTables}
use Rattle.text.proofs.OffendingLaws.{leftmost_fail, leftmost_pass}
use Rattle.text.specs.Offending.{leftmost, unless}
use Rattle.text.specs.Words.{Word, word_of}

-- where the labels of a table that is known stand
labelling_known : (d : Policy) (w : Word) (t : ℕ) → table_of d w ≡ some t → labelling_of d w ≡ labelling_at d t
unfolding labelling_of or_zero
labelling_known d w t e = ap (λ o. labelling_at d (or_zero o)) e

module _ {text ts : List ℕ} {k : ℕ} {s : List ℕ} {p : TwoTables} {d : Policy} {j : JoinForm} (h : KnowsTables text ts k s p d j) where
  -- the join's purpose
  abbrev q : ℕ
  q = or_zero (purpose_of d j.form.purpose)

  -- what the code finds at a column's number
  pub closed_at : {rs : List Ref} {n : ℕ} {words columns : List ℕ} → RefsRead d j rs s n words columns → (i : ℕ) (b : Bool) → b ≡ through d p (open_column d q) (get_or columns i 0) → (r : Ref) → get_elem? rs i ≡ some r → closed_ref d j r ≡ unless b (word_of s (get_or words i 0))
  unfolding closed_ref open_for labelling_of
  closed_at g i b is r e = λ z. unless ((ref_through h (open_column d q) r (g.known i r e) ∙ ap (through d p (open_column d q)) (sym (g.numbered i r e)) ∙ sym is) z) (g.word i r e z)

  -- ---- the tables

  abbrev first_opens : Bool
  first_opens = table_open (open_to d q) (labelling_at d p.first)

  abbrev second_opens : Bool
  second_opens = table_open (open_to d q) (labelling_at d p.second)

  closed_parts : closed_in_join d j ≡ leftmost (unless first_opens (word_of s p.named) ∷ unless second_opens (word_of s p.joined) ∷ map (closed_ref d j) (join_refs j))
  unfolding closed_in_join open_for
  closed_parts = λ i.
      leftmost (unless (table_open (open_to d q) (labelling_known d j.form.table p.first h.first i)) (h.first_word i)
      ∷ unless (table_open (open_to d q) (labelling_known d j.second p.second h.second i)) (h.second_word i)
      ∷ map (closed_ref d j) (join_refs j))

  pub first_closed : first_opens ≡ false → some (word_of s p.named) ≡ closed_in_join d j
  first_closed e = sym (closed_parts ∙ leftmost_fail first_opens (word_of s p.named) _ e)

  module _ (e : first_opens ≡ true) where
    pub second_closed : second_opens ≡ false → some (word_of s p.joined) ≡ closed_in_join d j
    second_closed f = sym (closed_parts ∙ leftmost_pass first_opens (word_of s p.named) _ e ∙ leftmost_fail second_opens (word_of s p.joined) _ f)

    pub refs_closed : second_opens ≡ true → leftmost (map (closed_ref d j) (join_refs j)) ≡ closed_in_join d j
    refs_closed f = sym (closed_parts ∙ leftmost_pass first_opens (word_of s p.named) _ e ∙ leftmost_pass second_opens (word_of s p.joined) _ f)
