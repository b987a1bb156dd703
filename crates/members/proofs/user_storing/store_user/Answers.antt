-- `members::user_storing::store_user` meets its contract: the line is kept by its start and end. Assumes nothing.
use Rattle.lists.specs.Lists.{or_zero}
use Rattle.document.specs.Lookup.{role_of}
use Rattle.text.specs.Words.{word_of}
use mathlib.Core.Path.{◌∙◌, ap}
use Rattle.stepping.proofs.NamedLaws.{print_placed, user_stored}
use Rattle.members.proofs.user_storing.store_user.Goals as goal

pub returns : goal.returns
unfolding role_of
returns c d l R N ok h = let a = c.args in
    user_stored l d a.u _ h c.place-pos.ensures (word_of a.line.now a.r) a.gs _ _ N ok
    (c.number-role.ensures ∙ ap or_zero (c.find_role.ensures.0 _ R)) c.place-end.ensures
    (c.add_user.ensures d.policy a.text.now _ N (print_placed l d a.u _ h c.place-pos.ensures _ c.print_word-w.ensures.is))
