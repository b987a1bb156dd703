-- `members::grant_storing::store_grant` meets its contract: both names are known. Assumes nothing.
use Rattle.lists.specs.Lists.{or_zero}
use Rattle.document.specs.Lookup.{cond_role_of, purpose_of}
use Rattle.text.specs.Words.{word_of}
use mathlib.Core.Path.{◌∙◌, ap}
use Rattle.stepping.proofs.NamedLaws.{grant_stored}
use Rattle.members.proofs.grant_storing.store_grant.Goals as goal

pub returns : goal.returns
unfolding purpose_of cond_role_of
returns c d R C N ok = let a = c.args in
    grant_stored a.line.now d (word_of a.line.now a.p) (word_of a.line.now a.c) _ _ N ok
    (c.number-granted.ensures ∙ ap or_zero (c.find_purpose.ensures.0 _ R)) (c.number-holder.ensures ∙ ap or_zero (c.find_cond_role.ensures.0 d.policy _ C))
    (c.add_grant.ensures _ N)
