-- `authority::purposes::purpose_closure` meets its contract. Assumes nothing.
use Rattle.authority.proofs.PurposeLaws.{closure_listed}
use Rattle.authority.proofs.purposes.purpose_closure.Goals as goal

pub returns : goal.returns
returns c text ns n g = closure_listed n _ (c.purpose_tree.ensures text ns n g) _ _ c.closure_of.ensures
