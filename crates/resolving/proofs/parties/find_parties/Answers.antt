-- `resolving::parties::find_parties` meets its contract: the first lookup that finds nothing decides.
-- Assumes nothing.
use Rattle.document.specs.Lookup.{purpose_of, role_of}
use Rattle.principals.proofs.UserLaws.{user_of_known}
use Rattle.workspace.specs.Found.{FoundBelow, found_as}
use Rattle.resolving.proofs.PartyLaws.{parties_known, purpose_unknown, role_missing, role_unknown, user_unknown}
use Rattle.text.specs.Words.{word_of}
use mathlib.Core.Path.{◌∙◌, ap, subst, sym}
use Rattle.resolving.proofs.parties.find_parties.Goals as goal

pub returns-then-not-user_named : goal.returns-then-not-user_named
unfolding role_of purpose_of
returns-then-not-user_named c d np nr nu = let a = c.args in
    user_unknown d a.query.now a.q a.c (sym (c.user_named.ensures d d.users nu) ∙ c.if-not-user_named.true)

pub returns-in_default : goal.returns-in_default
unfolding role_of purpose_of
returns-in_default c d np nr nu = let a = c.args in
    role_unknown d a.query.now a.q a.c (sym (c.user_named.ensures d d.users nu) ∙ c.if-not-user_named.false)
    (sym (c.find_role-role.ensures.0 d.roles nr) ∙ ap found_as c.in_default.is)

pub returns-in_default-purpose : goal.returns-in_default-purpose
unfolding role_of purpose_of
returns-in_default-purpose c d np nr nu = let a = c.args in
    purpose_unknown d a.query.now a.q a.c (sym (c.user_named.ensures d d.users nu) ∙ c.if-not-user_named.false)
    c.in-Some.r (sym (c.find_role-role.ensures.0 d.roles nr) ∙ ap found_as c.in-Some.is)
    (sym (c.find_purpose-purpose.ensures.0 d.purposes np) ∙ ap found_as c.in_default-purpose.is)

pub returns : goal.returns
unfolding role_of purpose_of
returns c d np nr nu = let a = c.args in
    let role = sym (c.find_role-role.ensures.0 d.roles nr) ∙ ap found_as c.in-Some.is in
    parties_known d a.query.now a.q a.c (sym (c.user_named.ensures d d.users nu) ∙ c.if-not-user_named.false)
    c.in-Some.r role
    c.in-Some-purpose.p (sym (c.find_purpose-purpose.ensures.0 d.purposes np) ∙ ap found_as c.in-Some-purpose.is)
    c.in-Some-user.u
    (user_of_known d (word_of a.query.now a.q.head.user) (word_of a.query.now a.q.head.role) c.in-Some.r role ∙ sym (c.find_user-user.ensures.0 d d.users nu) ∙ ap found_as c.in-Some-user.is)
    (subst (λ x. FoundBelow x a.c.purposes) c.in-Some-purpose.is c.find_purpose-purpose.ensures.1)
    (subst (λ x. FoundBelow x a.c.users) c.in-Some-user.is c.find_user-user.ensures.1)

pub returns-in_default-user : goal.returns-in_default-user
unfolding role_of purpose_of
returns-in_default-user c d np nr nu = let a = c.args in
    let role = sym (c.find_role-role.ensures.0 d.roles nr) ∙ ap found_as c.in-Some.is in
    role_missing d a.query.now a.q a.c (sym (c.user_named.ensures d d.users nu) ∙ c.if-not-user_named.false)
    c.in-Some.r role
    c.in-Some-purpose.p (sym (c.find_purpose-purpose.ensures.0 d.purposes np) ∙ ap found_as c.in-Some-purpose.is)
    (user_of_known d (word_of a.query.now a.q.head.user) (word_of a.query.now a.q.head.role) c.in-Some.r role ∙ sym (c.find_user-user.ensures.0 d d.users nu) ∙ ap found_as c.in_default-user.is)
