-- `nodes::storing::store_role_root` meets its contract: a root is its own parent. Assumes nothing.
use mathlib.Core.Option.{bind, none}
use mathlib.Core.Path.{sym}
use Rattle.principals.proofs.IndexLaws.{nodes_length}
use Rattle.stepping.proofs.NamedLaws.{hash_placed, role_stored}
use Rattle.nodes.proofs.storing.store_role_root.Goals as goal

pub returns : goal.returns
unfolding bind
returns c d l N ok h = let a = c.args in
    role_stored l d a.n _ h c.place-pos.ensures a.k none N ok (sym (nodes_length N))
    (c.add_role.ensures a.text.now _ N (hash_placed l d a.n _ h c.place-pos.ensures _ c.hash_word-w.ensures.is))
