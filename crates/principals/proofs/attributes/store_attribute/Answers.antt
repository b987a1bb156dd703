-- `principals::attributes::store_attribute` meets its contract: the stores put one more behind those that there are. Assumes nothing.
use Prim.Native.Nat.{◌+◌}
use lib.ListN.{length-set}
use mathlib.Core.List.{[], ◌++◌, ◌∷◌}
use mathlib.Core.Option.{some}
use mathlib.Core.Path.{subst}
use native.Mathlib.Omega.{arith}
use Rattle.condition.specs.Kinds.{Kind}
use Rattle.principals.proofs.AttributeLaws.{attribute_stores, attributes_pushed}
use Rattle.workspace.proofs.Stores.{stores}
use Rattle.principals.specs.Attributes.{Attributes}
use Rattle.text.specs.Words.{word_at}
use Rattle.principals.proofs.attributes.store_attribute.Goals as goal

pub bounds-ws-k-2 : goal.bounds-ws-k-2
bounds-ws-k-2 c = simp length-set (omega arith)

pub returns : goal.returns
returns c text xs h = let a = c.args in
    subst (λ (t : Kind). Attributes text (stores a.ws.now (attribute_stores a.k a.pos a.role c.kind_cell-cell.result)) (a.k + 1) (xs ++ (record { name = word_at text a.pos; role = some a.role; kind = t } ∷ [])))
    c.kind_cell-cell.ensures
    (attributes_pushed text a.ws.now a.k a.pos a.role c.kind_cell-cell.result (omega arith) (omega arith) xs h)
