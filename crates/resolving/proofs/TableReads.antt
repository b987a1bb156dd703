-- What the policy has at a table, as the array of the tables holds it: `columns_at_lem` and `scheme_at_lem` of index's TableLaws, and what
-- find_column finds, said of the policy's columns. Assumes nothing.
use Prim.Native.Nat.{◌<◌, ℕ}
use mathlib.Core.List.{List}
use mathlib.Core.Option.{Option}
use mathlib.Core.Path.{◌∙◌, ◌≡◌, ap, sym}
use Rattle.document.specs.Lookup.{column_of, columns_at}
use Rattle.document.specs.Policy.{Policy}
use Rattle.relations.proofs.TableLaws.{columns_at_lem}
use Rattle.relations.specs.Tables.{Tables, columns_in}
use Rattle.text.specs.Words.{Word}

-- the column that is found in the array is that of the policy
pub column_read : (text ws : List ℕ) (k t : ℕ) (d : Policy) → Tables text ws k d.tables → t < k → (w : Word) (o : Option ℕ)
    → o ≡ column_of (columns_in text ws t) w → o ≡ column_of (columns_at d t) w
column_read text ws k t d h l w o e = e ∙ ap (λ cs. column_of cs w) (sym (columns_at_lem text ws k t d h l))
