-- `purpose::open` meets its contract, by the law of compliance. Assumes nothing.
use mathlib.Core.Path.{◌∙◌}
use Rattle.purpose.specs.Meaning.{tree_held}
use Rattle.purpose.proofs.Compliance.{admitted_opens}
use Rattle.purpose.proofs.open.Goals as goal

pub returns : goal.returns
returns c = let args = c.args in
    c.admits.ensures ∙ admitted_opens (tree_held args.t) args.p c.closure_of.result args.l c.closure_of.ensures
