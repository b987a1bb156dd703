-- Contract: what the functions know of the document and of the query, from one stage of asking to the next.
use Rattle.std.specs.Prelude.{◌<◌, ◌≤◌, ℕ, length, take, Bool, true, List, map, ◌≡◌}
use Rattle.document.specs.Invariants.{Formed}
use Rattle.document.specs.Lookup.{column_of, columns_at, purpose_of, table_of}
use Rattle.document.specs.Policy.{Doc, Policy}
use Rattle.index.specs.Workspace.{Indexed}
use Rattle.index.specs.declared.counts.Counts.{Counts}
use Rattle.judging.specs.declared.marking.Marking.{Marking}
use Rattle.judging.specs.declared.sought.Sought.{Sought}
use Rattle.lists.specs.Lists.{all_of, or_zero, there}
use Rattle.query.specs.QueryForm.{QueryForm, named_words}
use Rattle.query.specs.QueryPlaces.{IsQuery, asks_rows, chosen_count, comparison_count, form_at, verb_in}
use Rattle.query.specs.declared.reading.Question.{Question}
use Rattle.relations.specs.Labels.{Said}
use Rattle.relations.specs.Notes.{Notes}
use Rattle.relations.specs.Rows.{Rows}
use Rattle.relations.specs.Tables.{Tables}
use Rattle.std.proofs.Math.Option.{some}

-- the arrays hold an accepted document d; where the labels' names stand is not asked for
pub record Standing (text ps rs bs us cs gs ms ts ws : List ℕ) (c : Counts) (d : Doc) : Type 0 where
  pub names : List ℕ
  pub indexed : Indexed text ps rs bs us cs gs names ms ts ws c d
  pub formed : Formed d.policy
  pub small : length text ≤ 60000

-- so much of it as the answer needs: the tables ts with what is said of them, the rows ws, and what labels say of the query's
-- purpose; the question q is the query that the text s is
pub record Granted (text ts ws : List ℕ) (c : Counts) (os : List Bool) (s : List ℕ) (q : Question) (d : Doc) : Type 0 where
  pub small : length text ≤ 60000
  pub tables : Tables text ts c.tables d.policy.tables
  pub notes : Notes ts c.tables d.policy.notes
  pub rows : Rows text ws c.rows d.rows
  pub said : Said d.policy (or_zero (purpose_of d.policy (form_at s q).purpose)) os
  pub query : IsQuery s q

-- t is the query's table, of k
pub record InTable (d : Policy) (q : QueryForm) (t k : ℕ) : Type 0 where
  pub is : table_of d q.table ≡ some t
  pub inside : t < k

-- table t has all the columns that the query names, and these are their numbers
pub record ColumnsKnown (d : Policy) (q : QueryForm) (t : ℕ) (numbers : List ℕ) : Type 0 where
  pub number : ℕ
  pub numbered : take number numbers ≡ map (λ w. or_zero (column_of (columns_at d t) w)) (named_words q)
  pub all_there : all_of (λ w. there (column_of (columns_at d t) w)) (named_words q) ≡ true

-- what the question asks of the rows of table t, which is marked so
unfoldable pub sought_in : Question → ℕ → Marking → Sought
sought_in q t m = record {
  table = t;
  marking = m;
  test = q.test;
  tests = comparison_count q.test;
  lines = asks_rows q.wanted;
  verb = verb_in q.wanted;
  chosen = chosen_count q.wanted;
}
