-- `authority::grants::authorising_grant` meets its contract. Assumes nothing.
use mathlib.Core.Path.{◌∙◌}
use Rattle.authority.proofs.ActingLaws.{first_for, role_of_lem, user_at, values_of}
use Rattle.principals.specs.Users.{user_in}
use Rattle.query.specs.HostClock.{clock_of}
use Rattle.authority.proofs.grants.authorising_grant.Goals as goal

pub returns : goal.returns
returns c d p held below near inside range = let a = c.args in
    let u = user_in d a.text.now a.users.now a.user in
    c.first_grant.ensures d a.text.now (clock_of a.clock) u p held.roles held.conds held.grants near inside
    (c.store_held.ensures d u held.attributes held.conds held.formed.short range
    (values_of held.users a.user below c.user_start-start.result c.user_end-end.result c.user_place-place.result _ _
    c.user_start-start.ensures c.user_end-end.ensures c.user_place-place.ensures c.line_of-line.ensures (c.store_values.ensures d held.attributes)))
    (role_of_lem held.users a.user below c.user_role-role.result c.user_role-role.ensures)
    ∙ first_for d (clock_of a.clock) a.user p u (user_at held.users a.user below)
