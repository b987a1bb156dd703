-- Contract: A query prepared for the rows: what the lent arrays say of it.
use Rattle.std.specs.Prelude.{◌+◌, ◌<◌, ◌≤◌, ℕ, eqb, drop, get_or, length, take, Bool, ◌&&◌, cond, false, true, List, ◌≡◌}
use Rattle.answer.specs.Exactly.{is_given, is_unmatched_row, is_withheld_row}
use Rattle.answer.specs.Seen.{rows_in}
use Rattle.document.specs.Lookup.{notes_of, scheme_at}
use Rattle.document.specs.Policy.{Doc, Row}
use Rattle.judging.specs.Marking.{Marks}
use Rattle.judging.specs.Tests.{Tested}
use Rattle.judging.specs.declared.sought.Sought.{Sought}
use Rattle.judging.specs.declared.tally.Tally.{Tally}
use Rattle.lists.specs.Lists.{count_of}
use Rattle.query.specs.Query.{NamesParts, PartsOpen, Query}
use Rattle.query.specs.QueryForm.{Wanted, counts_only, leaves_gaps, mode_in, rows_of}
use Rattle.query.specs.QueryPlaces.{verb_of}
use Rattle.query.specs.declared.reading.Verb.{Verb}
use Rattle.relations.specs.Labels.{Said}
use Rattle.relations.specs.Rows.{Rows}
use Rattle.relations.specs.Tables.{Tables}
use Rattle.std.proofs.Math.ListN.{get_elem?}
use Rattle.std.proofs.Math.Option.{some}

-- what is asked for, as the code says it: whether lines are, in which way, and of which columns
unfoldable pub wanted_by : Bool → Verb → List ℕ → Wanted ℕ
wanted_by true v cs = rows_of (verb_of v) cs
wanted_by false v cs = counts_only

-- the first of the columns whose closed cells withhold a row: where gaps are left, the selected ones do not (02, Q-10)
unfoldable pub first_withholding : Sought → ℕ
first_withholding g = cond (leaves_gaps (verb_of g.verb)) g.chosen 0

-- the arrays hold the document's tables ts and rows ws; g is what is sought of the rows, os says what labels say of the query's
-- purpose; of the numbers cs of columns the first are selected, and then those follow that its comparisons name, which are read
-- from the query's text s
pub record Prepared (text ts ws : List ℕ) (count : ℕ) (os : List Bool) (s : List ℕ) (g : Sought) (read cs : List ℕ) (d : Doc) (q : Query) : Type 0 where
  pub small : length text ≤ 60000
  pub table_count : ℕ
  pub tables : Tables text ts table_count d.policy.tables
  pub inside : g.table < table_count
  pub rows : Rows text ws count d.rows
  pub table : q.source.table ≡ g.table
  pub said : Said d.policy q.purpose os
  pub marking : Marks d.policy q.purpose g.marking (scheme_at d.policy q.source.table) (notes_of d.policy.notes q.source.table)
  pub few_chosen : g.chosen ≤ 16
  pub wanted : q.wanted ≡ wanted_by g.lines g.verb (take g.chosen cs)
  pub named : NamesParts q
  pub parts : PartsOpen d.policy q
  pub withholding : drop (first_withholding g) (take (g.chosen + g.tests) cs) ≡ q.source.withholding
  pub tested : Tested s read g.tests (mode_in q.wanted) q.condition

-- each row is judged: the marks say which rows of the query's table are given, and the counts are those of its rows
pub record Judged (d : Doc) (q : Query) (marks : List Bool) (x : Tally) : Type 0 where
  pub given : (r : ℕ) (row : Row) → get_elem? d.rows r ≡ some row → get_or marks r false ≡ (eqb row.table q.source.table && is_given d q row)
  pub passed : x.passed ≡ count_of (is_given d q) (rows_in q.source.table d.rows)
  pub withheld : x.withheld ≡ count_of (is_withheld_row d q) (rows_in q.source.table d.rows)
  pub unmatched : x.unmatched ≡ count_of (is_unmatched_row d q) (rows_in q.source.table d.rows)
