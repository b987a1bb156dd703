-- Contract: what functions of this crate promise, where it takes more than a line.
use Rattle.std.specs.Prelude.{◌≤◌, ℕ, length, take, Bool, cond, not, List, map, ◌≡◌}
use Rattle.std.proofs.Math.Option.{none}
use Rattle.answer.specs.Ranged.{has_range, ranged_in}
use Rattle.document.specs.Lookup.{column_of, columns_at}
use Rattle.document.specs.Policy.{Doc}
use Rattle.lists.specs.Lists.{or_zero}
use Rattle.query.specs.JoinForm.{JoinForm, join_refs, joined}
use Rattle.query.specs.Naming.{words_at}
use Rattle.relations.specs.Rows.{Rows}
use Rattle.resolving.specs.Joins.{KnowsTables, RefsRead}
use Rattle.resolving.specs.declared.joins.TwoTables.{TwoTables}
use Rattle.text.specs.CodeEnds.{offending_of}
use Rattle.text.specs.Offending.{missing}
use Rattle.text.specs.Words.{Word}
use Rattle.std.specs.Prelude.{Option}

-- the column of table t that a word names has no range
abbrev pub plain_at : Doc → ℕ → Word → Bool
plain_at d t w = not (has_range d t (or_zero (column_of (columns_at d.policy t) w)))

-- ranged::first_ranged: the first of the n named columns of table t that has a range
abbrev pub FirstRangedPromise : (text rows : List ℕ) (count t : ℕ) (places : List ℕ) (n : ℕ) (columns : List ℕ) (x : Option ℕ) → Type 0
FirstRangedPromise text rows count t places n columns x =
    (d : Doc) (s : List ℕ) → Rows text rows count d.rows → n ≤ length places → n ≤ length columns →
    take n columns ≡ map (λ w. or_zero (column_of (columns_at d.policy t) w)) (words_at s n places) → offending_of s x ≡ missing (plain_at d t) (words_at s n places)

-- ranged::ranged_column: the same, unless the query takes ranges
abbrev pub RangedColumnPromise : (taken : Bool) (text rows : List ℕ) (count t : ℕ) (places : List ℕ) (n : ℕ) (columns : List ℕ) (x : Option ℕ) → Type 0
RangedColumnPromise taken text rows count t places n columns x =
    (d : Doc) (s : List ℕ) → Rows text rows count d.rows → n ≤ 80 →
    take n columns ≡ map (λ w. or_zero (column_of (columns_at d.policy t) w)) (words_at s n places) → offending_of s x ≡ cond taken none (missing (plain_at d t) (words_at s n places))

-- join_ranged::first_ranged_ref: the first of the n columns of a join that has a range
abbrev pub FirstRangedRefPromise : (text tables rows : List ℕ) (count : ℕ) (p : TwoTables) (words : List ℕ) (n : ℕ) (columns : List ℕ) (x : Option ℕ) → Type 0
FirstRangedRefPromise text tables rows count p words n columns x =
    (d : Doc) (s : List ℕ) (k : ℕ) (j : JoinForm) → KnowsTables text tables k s p d.policy j → Rows text rows count d.rows → RefsRead d.policy j (join_refs j) s n words columns → offending_of s x ≡ ranged_in d (joined j)

-- join_ranged::ranged_join: the same, of any number of columns
abbrev pub RangedJoinPromise : (text tables rows : List ℕ) (count : ℕ) (p : TwoTables) (words : List ℕ) (n : ℕ) (columns : List ℕ) (x : Option ℕ) → Type 0
RangedJoinPromise text tables rows count p words n columns x =
    (d : Doc) (s : List ℕ) (k : ℕ) (j : JoinForm) → KnowsTables text tables k s p d.policy j → Rows text rows count d.rows → n ≤ 82 → RefsRead d.policy j (join_refs j) s n words columns → offending_of s x ≡ ranged_in d (joined j)
