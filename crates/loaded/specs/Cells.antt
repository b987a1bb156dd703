-- Contract: the numbers beside the lent arrays: the version of the layout, then how many of each kind the arrays hold.
use Rattle.std.specs.Prelude.{ℕ, get_or, List, [], ◌∷◌}
use Rattle.index.specs.declared.counts.Counts.{Counts}

-- the version of the layout
unfoldable pub version : ℕ
version = 7700003

-- how many of each kind the arrays hold
unfoldable pub counts_in : List ℕ → Counts
counts_in l = record {
  purposes = get_or l 1 0;
  roles = get_or l 2 0;
  attributes = get_or l 3 0;
  users = get_or l 4 0;
  conds = get_or l 5 0;
  grants = get_or l 6 0;
  labels = get_or l 7 0;
  tables = get_or l 8 0;
  rows = get_or l 9 0;
}

-- the numbers beside arrays that hold so many of each kind
unfoldable pub cells_of : Counts → List ℕ
cells_of c = version ∷ c.purposes ∷ c.roles ∷ c.attributes ∷ c.users ∷ c.conds ∷ c.grants ∷ c.labels ∷ c.tables ∷ c.rows ∷ []

-- the numbers beside arrays that hold no document
unfoldable pub no_cells : List ℕ
no_cells = 0 ∷ 0 ∷ 0 ∷ 0 ∷ 0 ∷ 0 ∷ 0 ∷ 0 ∷ 0 ∷ 0 ∷ []
