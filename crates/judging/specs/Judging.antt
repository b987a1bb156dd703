-- Contract: what becomes of a row, and what the arrays say of its cells.
use Rattle.std.specs.Prelude.{◌+◌, ◌<◌, ◌≤◌, ℕ, eqb, drop, get_or, take, Bool, ◌&&◌, cond, false, true, List, ◌≡◌}
use Rattle.answer.specs.Answer.{satisfies}
use Rattle.answer.specs.Exactly.{is_given, is_unmatched_row, is_withheld_row}
use Rattle.answer.specs.Seen.{rows_in}
use Rattle.document.specs.Lookup.{notes_of, scheme_at, settled}
use Rattle.document.specs.Open.{open_to, row_withheld}
use Rattle.document.specs.Policy.{Doc, Policy, Row}
use Rattle.form.specs.Form.{Note}
use Rattle.form.specs.declared.lines.Scheme as coded
use Rattle.judging.specs.Marking.{Marks}
use Rattle.judging.specs.Tests.{Tested}
use Rattle.judging.specs.declared.fates.Fate.TheVariants as fate
use Rattle.judging.specs.declared.fates.Fate.{Fate}
use Rattle.judging.specs.declared.marking.Marking.{Marking}
use Rattle.judging.specs.declared.sought.Sought.{Sought}
use Rattle.judging.specs.declared.tally.Tally.{Tally}
use Rattle.lists.specs.Lists.{count_of}
use Rattle.query.specs.Query.{Query}
use Rattle.query.specs.QueryForm.{mode_in}
use Rattle.relations.specs.Labels.{Said}
use Rattle.relations.specs.Rows.{Rows, label_count_in, label_room, labels_in}
use Rattle.relations.specs.Tables.{scheme_by}
use Rattle.workspace.specs.Tabulated.{tabulated}

-- fates::is_withheld: the row is withheld, where the scheme and the marking are those of a table with some notes
abbrev pub WithheldBy : (scheme : coded.Scheme) (ws : List ℕ) (os : List Bool) (m : Marking) (r : ℕ) (cs : List ℕ) (x : Bool) → Type 0
WithheldBy scheme ws os m r cs x =
    (d : Policy) (p l : ℕ) (ls : List ℕ) (ns : List (Note ℕ)) → Said d p os → Marks d p m (scheme_by scheme l ls) ns → r < 1024 → label_count_in ws r ≤ label_room →
    x ≡ row_withheld (open_to d p) (settled ns (scheme_by scheme l ls)) cs (labels_in ws r)

-- ---- the rows

-- what becomes of a row of the table: a withheld row is that, whether its condition holds or not
abbrev pub fate_here : Bool → Bool → Fate
fate_here held met = cond held fate.Withheld (cond met fate.Passed fate.Unmatched)

-- what becomes of a row
unfoldable pub fate_of : Doc → Query → Row → Fate
fate_of d q row =
    cond (eqb row.table q.source.table)
    (fate_here (is_withheld_row d q row) (satisfies q row.values))
    fate.Elsewhere

-- the row passes
abbrev pub passed_by : Fate → Bool
passed_by fate.Elsewhere = false
passed_by fate.Withheld = false
passed_by fate.Passed = true
passed_by fate.Unmatched = false

-- the counts with one row more
abbrev pub counted_by : Tally → Fate → Tally
counted_by x fate.Elsewhere = x
counted_by x fate.Withheld = record { passed = x.passed; withheld = x.withheld + 1; unmatched = x.unmatched }
counted_by x fate.Passed = record { passed = x.passed + 1; withheld = x.withheld; unmatched = x.unmatched }
counted_by x fate.Unmatched = record { passed = x.passed; withheld = x.withheld; unmatched = x.unmatched + 1 }

-- a query and what is read of it, ready for each of the rows: g is what is sought of them, in a table of this scheme; of the numbers cs
-- those from `first` on are of the columns that withhold, and the condition's comparisons are read
pub record Judgeable (text ws : List ℕ) (count : ℕ) (os : List Bool) (s : List ℕ) (g : Sought) (first : ℕ) (scheme : coded.Scheme) (cs read : List ℕ) (d : Doc) (q : Query) : Type 0 where
  pub rows : Rows text ws count d.rows
  pub table : q.source.table ≡ g.table
  pub label : ℕ
  pub labels : List ℕ
  pub schemed : scheme_by scheme label labels ≡ scheme_at d.policy q.source.table
  pub said : Said d.policy q.purpose os
  pub marking : Marks d.policy q.purpose g.marking (scheme_at d.policy q.source.table) (notes_of d.policy.notes q.source.table)
  pub withholding : drop first (take (g.chosen + g.tests) cs) ≡ q.source.withholding
  pub tested : Tested s read g.tests (mode_in q.wanted) q.condition

-- the same as Judged, for the first k rows
pub record JudgedTo (d : Doc) (q : Query) (row : ℕ → Row) (k : ℕ) (marks : List Bool) (x : Tally) : Type 0 where
  pub given : (r : ℕ) → r < k → get_or marks r false ≡ (eqb (row r).table q.source.table && is_given d q (row r))
  pub passed : x.passed ≡ count_of (is_given d q) (rows_in q.source.table (tabulated row k))
  pub withheld : x.withheld ≡ count_of (is_withheld_row d q) (rows_in q.source.table (tabulated row k))
  pub unmatched : x.unmatched ≡ count_of (is_unmatched_row d q) (rows_in q.source.table (tabulated row k))
