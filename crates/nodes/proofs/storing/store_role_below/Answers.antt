-- `nodes::storing::store_role_below` meets its contract: the parent is found by its name. Assumes nothing.
use mathlib.Core.Option.{some}
use Rattle.lists.specs.Lists.{or_zero}
use Rattle.document.specs.Lookup.{role_of}
use Rattle.text.specs.Words.{word_of}
use mathlib.Core.Path.{◌∙◌, ap}
use Rattle.stepping.proofs.NamedLaws.{hash_placed, role_parent, role_stored}
use Rattle.nodes.proofs.storing.store_role_below.Goals as goal

pub returns : goal.returns
unfolding role_of
returns c d l N ok h = let a = c.args in
    role_stored l d a.n _ h c.place-pos.ensures _ (some (word_of a.line.now a.p)) N ok
    (c.number-parent.ensures ∙ ap or_zero (c.find_role.ensures.0 _ N) ∙ role_parent d a.line.now (word_of a.line.now a.n) (word_of a.line.now a.p) ok)
    (c.add_role.ensures a.text.now _ N (hash_placed l d a.n _ h c.place-pos.ensures _ c.hash_word-w.ensures.is))
