-- What is stored of a table that is declared public is what its line adds. Assumes nothing.
use Prim.Native.Nat.{◌<◌, ℕ}
use lib.ListN.{length}
use mathlib.Core.Bool.{true}
use mathlib.Core.List.{List, [], ◌++◌, ◌∷◌}
use mathlib.Core.Path.{◌≡◌, subst}
use native.Mathlib.Omega.{arith}
use Rattle.document.proofs.Kept.{table_there}
use Rattle.document.specs.Lookup.{table_of}
use Rattle.document.specs.Meaning.{add, define}
use Rattle.document.specs.NameFaults.{unknown}
use Rattle.document.specs.Policy.{Doc}
use Rattle.form.specs.Form.{map_note, note, public}
use Rattle.lists.specs.Lists.{or_zero, there}
use Rattle.relations.proofs.TableLaws.{tables_counted}
use Rattle.relations.specs.Notes.{Notes}
use Rattle.relations.specs.Tables.{PublicStored, Tables}
use Rattle.stepping.proofs.PassLaws.{passed}
use Rattle.stepping.specs.Stored.{Passes}
use Rattle.text.proofs.OffendingLaws.{leftmost_head, unless_none}
use Rattle.text.specs.Words.{Word}

-- the table of an accepted line is there
known_table_lem : (d : Doc) (line : List ℕ) (w : Word) → Passes d line (note w public) → there (table_of d.policy w) ≡ true
unfolding unknown
known_table_lem d line w ok = unless_none _ w (leftmost_head _ _ (passed d line (note w public) ok).knows)

pub note_stored : {text before after : List ℕ} {k x : ℕ} (d : Doc) (line : List ℕ) (w : Word) → Tables text before k d.policy.tables → Notes before k d.policy.notes → Passes d line (note w public)
    → x ≡ or_zero (table_of d.policy w) → PublicStored before after x
    → Tables text after k d.policy.tables × Notes after k (add d (note w public)).policy.notes
unfolding add define map_note
note_stored {text} {before} {after} {k} {x} d line w T N ok is s =
    let there_so : or_zero (table_of d.policy w) < length d.policy.tables = table_there d.policy w (known_table_lem d line w ok) in
    let inside : x < k = omega (arith, is, there_so, tables_counted text before k d.policy.tables T) in (
      s.kept text k d.policy.tables T,
      subst (λ (n : ℕ). Notes after k (d.policy.notes ++ (record { table = n; note = public } ∷ []))) is (s.noted k d.policy.notes inside T.few N),
    )
