-- Contract: what functions of this crate promise, where it takes more than a line.
use Rattle.std.specs.Prelude.{◌<◌, ◌≤◌, ℕ, length, take, Bool, List, [], ◌∷◌, map, ◌≡◌}
use Rattle.std.proofs.Math.ListN.{get_elem?}
use Rattle.condition.specs.CondForm.{Ref}
use Rattle.document.specs.Lookup.{column_of, columns_at, labelling_at, purpose_of}
use Rattle.document.specs.Open.{column_open, label_open, open_to, table_open}
use Rattle.document.specs.Policy.{Policy}
use Rattle.lists.specs.Lists.{or_zero}
use Rattle.query.specs.Join.{closed_in_join, closed_ref}
use Rattle.query.specs.JoinForm.{JoinForm, join_refs}
use Rattle.query.specs.Naming.{words_at}
use Rattle.relations.specs.Labels.{Said}
use Rattle.relations.specs.Notes.{Notes}
use Rattle.relations.specs.Tables.{Tables, column_label_in}
use Rattle.resolving.specs.Joins.{KnowsTables, RefsRead}
use Rattle.text.specs.CodeEnds.{offending_of}
use Rattle.text.specs.Offending.{leftmost, missing, unless}
use Rattle.text.specs.Words.{word_of}
use Rattle.workspace.specs.Tabulated.{tabulated}
use Rattle.resolving.specs.declared.joins.TwoTables.{TwoTables}
use Rattle.std.specs.Prelude.{Option}

-- openness::first_closed: the first of the n named columns whose label is closed
abbrev pub FirstClosedPromise : (tables : List ℕ) (t : ℕ) (said : List Bool) (places : List ℕ) (n : ℕ) (columns : List ℕ) (x : Option ℕ) → Type 0
FirstClosedPromise tables t said places n columns x =
    (d : Policy) (text s : List ℕ) (k p : ℕ) → Tables text tables k d.tables → t < k → n ≤ length places → n ≤ length columns → Said d p said →
    take n columns ≡ map (λ w. or_zero (column_of (columns_at d t) w)) (words_at s n places) →
    offending_of s x ≡ missing (λ w. label_open d p (get_elem? (tabulated (column_label_in tables t) (length (columns_at d t))) (or_zero (column_of (columns_at d t) w)))) (words_at s n places)

-- openness::closed_column: the first of the n named columns that is closed: only labels by column close one
abbrev pub ClosedColumnPromise : (tables : List ℕ) (t : ℕ) (said : List Bool) (places : List ℕ) (n : ℕ) (columns : List ℕ) (x : Option ℕ) → Type 0
ClosedColumnPromise tables t said places n columns x =
    (d : Policy) (text s : List ℕ) (k p : ℕ) → Tables text tables k d.tables → t < k → n ≤ length places → n ≤ length columns → Said d p said →
    take n columns ≡ map (λ w. or_zero (column_of (columns_at d t) w)) (words_at s n places) →
    offending_of s x ≡ missing (λ w. column_open (open_to d p) (labelling_at d t) (or_zero (column_of (columns_at d t) w))) (words_at s n places)

-- openness::closed_part: the table, whose name stands at `at`, or else the first of the n named columns, where it is closed
abbrev pub ClosedPartPromise : (tables : List ℕ) (t : ℕ) (said : List Bool) (query : List ℕ) (at : ℕ) (places : List ℕ) (n : ℕ) (columns : List ℕ) (x : Option ℕ) → Type 0
ClosedPartPromise tables t said query at places n columns x =
    (d : Policy) (text : List ℕ) (k p : ℕ) → Tables text tables k d.tables → Notes tables k d.notes → t < k → n ≤ 80 → Said d p said →
    take n columns ≡ map (λ w. or_zero (column_of (columns_at d t) w)) (words_at query n places) →
    offending_of query x ≡ leftmost (unless (table_open (open_to d p) (labelling_at d t)) (word_of query at) ∷ missing (λ w. column_open (open_to d p) (labelling_at d t) (or_zero (column_of (columns_at d t) w))) (words_at query n places) ∷ [])

-- join_openness::first_closed_ref: the first of the n columns of a join that is closed
abbrev pub FirstClosedRefPromise : (tables : List ℕ) (p : TwoTables) (said : List Bool) (words : List ℕ) (n : ℕ) (columns : List ℕ) (x : Option ℕ) → Type 0
FirstClosedRefPromise tables p said words n columns x =
    (d : Policy) (text s : List ℕ) (k : ℕ) (j : JoinForm) (rs : List Ref) → KnowsTables text tables k s p d j → Said d (or_zero (purpose_of d j.form.purpose)) said → RefsRead d j rs s n words columns →
    offending_of s x ≡ leftmost (map (closed_ref d j) rs)

-- join_openness::closed_join: the first of a join's tables and of its n columns that is closed
abbrev pub ClosedJoinPromise : (tables : List ℕ) (p : TwoTables) (said : List Bool) (words : List ℕ) (n : ℕ) (columns : List ℕ) (x : Option ℕ) → Type 0
ClosedJoinPromise tables p said words n columns x =
    (d : Policy) (text s : List ℕ) (k : ℕ) (j : JoinForm) → KnowsTables text tables k s p d j → Notes tables k d.notes → Said d (or_zero (purpose_of d j.form.purpose)) said → n ≤ 82 → RefsRead d j (join_refs j) s n words columns →
    offending_of s x ≡ closed_in_join d j
