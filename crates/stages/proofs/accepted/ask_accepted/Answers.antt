-- `stages::accepted::ask_accepted` meets its contract: 10 to 14 one after the other, then the answer under the grant. Assumes nothing.
use Rattle.query.specs.Authority.{first_grant}
use Rattle.query.specs.HostClock.{clock_of}
use Rattle.query.specs.QueryPlaces.{form_at}
use Rattle.stages.proofs.Chain.{acting_is, acting_refused, gives_refused, gives_same, granted_is, granted_refused, nothing_found, number_found, parties_refused, read_is, read_refused, timed_passes, timed_refused}
use Rattle.stages.proofs.Parties.{authorities, granted, in_tree_lem, parties_known, party_unknown, purpose_number, query_read, role_missing, wrong_read}
use Rattle.stages.specs.Figures.{answered_as}
use Rattle.stages.specs.Tails.{refused_at}
use Rattle.std.specs.Prelude.{Err}
use Rattle.text.specs.Refusal.{pointing_all, pointing_nowhere, refused}
use mathlib.Core.Path.{◌∙◌, ap, refl, sym}
use Rattle.stages.proofs.accepted.ask_accepted.Goals as goal

pub returns-then-not-in_range : goal.returns-then-not-in_range
unfolding answered_as pointing_nowhere
returns-then-not-in_range c d standing = let a = c.args in
    gives_refused (timed_refused d (clock_of a.clock) a.query.now (sym c.in_range.ensures ∙ c.if-not-in_range.true)) refl

pub returns-in_default : goal.returns-in_default
unfolding answered_as pointing_all
returns-in_default c d standing = let a = c.args in
    gives_refused (timed_passes d (clock_of a.clock) a.query.now (sym c.in_range.ensures ∙ c.if-not-in_range.false) ∙ read_refused d (clock_of a.clock) a.query.now (wrong_read a.query.now c.read_query.ensures c.in_default.is)) refl

pub returns-in-Err-Unknown : goal.returns-in-Err-Unknown
returns-in-Err-Unknown c d standing = let a = c.args in
    let q = c.in-Some.q in
    let who = c.in-Err-Unknown in
    let read = query_read a.query.now c.read_query.ensures c.in-Some.is in
    let parties = c.find_parties.ensures d.policy standing.indexed.purposes standing.indexed.roles standing.indexed.users in
    gives_refused
    (timed_passes d (clock_of a.clock) a.query.now (sym c.in_range.ensures ∙ c.if-not-in_range.false) ∙ read_is d (clock_of a.clock) a.query.now read.is
    ∙ parties_refused d (clock_of a.clock) (form_at a.query.now q) a.query.now (party_unknown d.policy a.query.now (form_at a.query.now q) a.c parties (who.is ∙ ap Err who.field-0-is)))
    (c.refused_at.ensures ∙ ap (λ n. refused (refused_at 12 a.query.now n)) who.at-is)

pub returns-in-Err-NotGiven : goal.returns-in-Err-NotGiven
unfolding refused_at form_at
returns-in-Err-NotGiven c d standing = let a = c.args in
    let q = c.in-Some.q in
    let who = c.in-Err-NotGiven in
    let read = query_read a.query.now c.read_query.ensures c.in-Some.is in
    let parties = c.find_parties.ensures d.policy standing.indexed.purposes standing.indexed.roles standing.indexed.users in
    gives_refused
    (timed_passes d (clock_of a.clock) a.query.now (sym c.in_range.ensures ∙ c.if-not-in_range.false) ∙ read_is d (clock_of a.clock) a.query.now read.is
    ∙ acting_refused d (clock_of a.clock) (form_at a.query.now q) (role_missing d.policy a.query.now (form_at a.query.now q) a.c parties (who.is ∙ ap Err who.field-0-is)))
    c.refused_at-in-Err-NotGiven.ensures

pub returns-in_default-found : goal.returns-in_default-found
unfolding refused_at form_at
returns-in_default-found c d standing = let a = c.args in
    let q = c.in-Some.q in
    let user = c.in-Ok.who.1 in
    let range = sym c.in_range.ensures ∙ c.if-not-in_range.false in
    let read = query_read a.query.now c.read_query.ensures c.in-Some.is in
    let parties = c.find_parties.ensures d.policy standing.indexed.purposes standing.indexed.roles standing.indexed.users in
    let acting = parties_known d.policy a.query.now (form_at a.query.now q) a.c parties c.in-Ok.is in
    let closure = c.purpose_closure-closure.ensures a.text.now d.policy.purposes standing.indexed.purposes standing.formed.grown in
    let grant =
    c.authorising_grant-found.ensures d.policy _ (authorities standing) acting.user_below closure (in_tree_lem standing.indexed.purposes acting.purpose_below) range
    ∙ ap (first_grant d.policy (clock_of a.clock) user) (purpose_number acting.purpose) in
    gives_refused
    (timed_passes d (clock_of a.clock) a.query.now range ∙ read_is d (clock_of a.clock) a.query.now read.is
    ∙ acting_is d (clock_of a.clock) (form_at a.query.now q) acting
    ∙ granted_refused d (clock_of a.clock) (form_at a.query.now q) user (nothing_found c.in_default-found.is grant))
    c.refused_at-in_default-found.ensures

pub returns : goal.returns
returns c d standing = let a = c.args in
    let q = c.in-Some.q in
    let user = c.in-Ok.who.1 in
    let range = sym c.in_range.ensures ∙ c.if-not-in_range.false in
    let read = query_read a.query.now c.read_query.ensures c.in-Some.is in
    let parties = c.find_parties.ensures d.policy standing.indexed.purposes standing.indexed.roles standing.indexed.users in
    let acting = parties_known d.policy a.query.now (form_at a.query.now q) a.c parties c.in-Ok.is in
    let closure = c.purpose_closure-closure.ensures a.text.now d.policy.purposes standing.indexed.purposes standing.formed.grown in
    let grant =
    c.authorising_grant-found.ensures d.policy _ (authorities standing) acting.user_below closure (in_tree_lem standing.indexed.purposes acting.purpose_below) range
    ∙ ap (first_grant d.policy (clock_of a.clock) user) (purpose_number acting.purpose) in
    let said = c.say_labels.ensures _ standing.names d.policy _ standing.indexed.labels closure in
    gives_same
    (timed_passes d (clock_of a.clock) a.query.now range ∙ read_is d (clock_of a.clock) a.query.now read.is
    ∙ acting_is d (clock_of a.clock) (form_at a.query.now q) acting
    ∙ granted_is d (clock_of a.clock) (form_at a.query.now q) user (number_found c.in-Some-found.is grant))
    (c.ask_granted.ensures d (granted standing read acting.purpose said))
