-- `attributes::cond_storing::store_cond_role` meets its contract: the line is kept by its start and end. Assumes nothing.
use Rattle.lists.specs.Lists.{or_zero}
use Rattle.document.specs.Lookup.{role_of}
use Rattle.text.specs.Words.{word_of}
use mathlib.Core.Path.{◌∙◌, ap}
use Rattle.stepping.proofs.NamedLaws.{cond_stored, print_placed}
use Rattle.attributes.proofs.cond_storing.store_cond_role.Goals as goal

pub returns : goal.returns
unfolding role_of
returns c d l R N ok read h = let a = c.args in
    cond_stored l d a.c _ h c.place-pos.ensures (word_of a.line.now a.r) a.t _ _ N ok
    (c.number-role.ensures ∙ ap or_zero (c.find_role.ensures.0 _ R)) c.place-end.ensures read
    (c.add_cond_role.ensures d.policy a.text.now _ N (print_placed l d a.c _ h c.place-pos.ensures _ c.print_word-w.ensures.is))
