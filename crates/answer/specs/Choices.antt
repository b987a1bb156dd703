-- Meaning: a document with a number chosen for each of its ranges (02, Q-12), and what is claimed of sure and possible.
use Rattle.std.specs.Prelude.{ℕ, eqb, get_or, length, true, [], ◌≡◌}
use Rattle.std.proofs.Math.ListN.{get_elem?}
use Rattle.std.proofs.Math.Option.{some}
use Rattle.answer.specs.Exactly.{is_given}
use Rattle.condition.specs.Ranges.{Chosen}
use Rattle.document.specs.Policy.{Doc, Row}
use Rattle.query.specs.Query.{resolved}
use Rattle.query.specs.QueryForm.{QueryForm, Verb, possibly, rows_of, select, selected, surely}

-- the second row is the first with a number chosen for each range
pub record ChosenRow (r s : Row) : Type 0 where
  pub table : s.table ≡ r.table
  pub labels : s.labels ≡ r.labels
  pub values : (c : ℕ) → Chosen (get_or r.values c []) (get_or s.values c [])

-- the second document is the first with a number chosen for each range
pub record ChosenDocument (d e : Doc) : Type 0 where
  pub policy : e.policy ≡ d.policy
  pub equally_many : length e.rows ≡ length d.rows
  pub each : (i : ℕ) (r s : Row) → get_elem? d.rows i ≡ some r → get_elem? e.rows i ≡ some s → ChosenRow r s

-- the query with its rows asked for in this way
unfoldable pub asking : Verb → QueryForm → QueryForm
asking v q = record {
  user = q.user;
  role = q.role;
  purpose = q.purpose;
  table = q.table;
  wanted = rows_of v (selected q.wanted);
  condition = q.condition;
}

-- row i lies in the table that the query reads, and is given by the query, with its rows asked for in this way
pub record Given (d : Doc) (v : Verb) (q : QueryForm) (i : ℕ) : Type 0 where
  pub row : Row
  pub stands : get_elem? d.rows i ≡ some row
  pub in_table : eqb row.table (resolved d.policy (asking v q)).source.table ≡ true
  pub given : is_given d (resolved d.policy (asking v q)) row ≡ true

-- each row passed by sure is passed for the choice, and each row that the choice passes is passed by possible
pub record Covered (d e : Doc) (q : QueryForm) : Type 0 where
  pub sure : (i : ℕ) → Given d surely q i → Given e select q i
  pub possible : (i : ℕ) → Given e select q i → Given d possibly q i
