-- Contract: what the answers of the functions stand for that read parts of a line; these are not called from outside. Each contract says
-- that the reader gives what the code's answer stands for, and that every position lies in the line.
use Rattle.std.specs.Prelude.{◌≤◌, ℕ, eqb, get_or, length, cond, List, ◌≡◌}
use Rattle.std.proofs.Math.Option.{Option, map, none, some}
use Rattle.form.specs.Form.{Form, table}
use Rattle.form.specs.FormReader.{schemes}
use Rattle.form.specs.Places.{Within, line_at}
use Rattle.form.specs.TableWords.{column_words, scheme_words}
use Rattle.form.specs.Walks.{names_at}
use Rattle.text.specs.Brackets.{keyword}
use Rattle.text.specs.Reader.{Left, from}
use Rattle.text.specs.Words.{Word}
use Rattle.std.specs.Prelude as prelude
use Rattle.std.specs.Prelude.{None, Some}
use Rattle.form.specs.declared.lines.Scheme as coded
use Rattle.form.specs.declared.lines.Line.{Line}

-- what stands behind a keyword, by the code's answer
unfoldable pub body_at : List ℕ → prelude.Option (Line × ℕ) → Option (Form × Left)
body_at s None = none
body_at s (Some (l, e)) = map (λ f. (f, from s e)) (line_at s l)

-- its places lie in the line
unfoldable pub BodyWithin : List ℕ → prelude.Option (Line × ℕ) → Type 0
BodyWithin s None = Unit {0}
BodyWithin s (Some (l, e)) = Within s l

-- the code's answer r stands for what a reader gives, and its places lie in the line
pub record ReadsBody (s : List ℕ) (o : Option (Form × Left)) (r : prelude.Option (Line × ℕ)) : Type 0 where
  pub is : o ≡ body_at s r
  pub within : BodyWithin s r

-- the purposes of a set, by the code's answer
unfoldable pub set_at : List ℕ → prelude.Option (ℕ × ℕ) → Option (List Word × Left)
set_at s None = none
set_at s (Some (ps, e)) = some (names_at s ps, from s e)

-- the place where they begin lies in the line
unfoldable pub SetWithin : List ℕ → prelude.Option (ℕ × ℕ) → Type 0
SetWithin s None = Unit {0}
SetWithin s (Some (ps, e)) = ps ≤ length s

-- the same for the reader of a set
pub record ReadsSet (s : List ℕ) (o : Option (List Word × Left)) (r : prelude.Option (ℕ × ℕ)) : Type 0 where
  pub is : o ≡ set_at s r
  pub within : SetWithin s r

-- columns of a scheme, the table's label at l, from a position to an end
unfoldable pub columns_to : coded.Scheme → ℕ → ℕ → prelude.Option ℕ → prelude.Option (coded.Scheme × ℕ × ℕ × ℕ)
columns_to k l at None = None
columns_to k l at (Some e) = Some (k, l, at, e)

-- the same, one column at least: a space stands before the first
unfoldable pub under_scheme : List ℕ → coded.Scheme → ℕ → ℕ → prelude.Option ℕ → prelude.Option (coded.Scheme × ℕ × ℕ × ℕ)
under_scheme s k l at r = cond (eqb (get_or s at 0) 32) (columns_to k l at r) None

-- a table with the name t, by the code's answer for its scheme and columns
unfoldable pub table_to : List ℕ → Word → prelude.Option (coded.Scheme × ℕ × ℕ × ℕ) → Option (Form × Left)
table_to s t None = none
table_to s t (Some (k, l, cs, e)) = some (table t (scheme_words s k l cs) (column_words s k cs), from s e)

-- the places of a table's label and columns lie in the line
unfoldable pub ColumnsWithin : List ℕ → prelude.Option (coded.Scheme × ℕ × ℕ × ℕ) → Type 0
ColumnsWithin s None = Unit {0}
ColumnsWithin s (Some (k, l, cs, e)) = (l ≤ length s) × (cs ≤ length s)

-- the code's answer r stands for what the reader of a scheme and columns gives, whatever the table's name
pub record ReadsColumns (s : List ℕ) (at : ℕ) (r : prelude.Option (coded.Scheme × ℕ × ℕ × ℕ)) : Type 0 where
  pub is : (t : Word) → keyword (schemes t) (from s at) ≡ table_to s t r
  pub within : ColumnsWithin s r
