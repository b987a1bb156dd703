-- `authority::purposes::purpose_tree` meets its contract. Assumes nothing.
use Prim.Native.Nat.{◌*◌, ◌≤◌}
use borrow.Author.Rules.{rules}
use lib.ListN.{length}
use mathlib.Core.Path.{◌∙◌}
use Rattle.authority.proofs.PurposeLaws.{tree_grown}
use Rattle.purpose.specs.Members.{limit}
use Rattle.authority.proofs.purposes.purpose_tree.Goals as goal

pub returns : goal.returns
returns c text ns n g = let full : 2 * limit ≤ length c.args.ws.now = search rules in
    c.tree_of.ensures ∙ tree_grown n g full
