-- Contract: what the code's answer says of who asks: user, role and purpose of a query.
use Rattle.std.specs.Prelude.{◌<◌, ℕ, List, ◌≡◌}
use Rattle.std.proofs.Math.Option.{none, some}
use Rattle.document.specs.Lookup.{purpose_of, user_of}
use Rattle.document.specs.Policy.{Policy}
use Rattle.query.specs.Query.{unknown_party}
use Rattle.query.specs.QueryForm.{QueryForm}
use Rattle.text.specs.Words.{word_of}
use Rattle.index.specs.declared.counts.Counts.{Counts}
use Rattle.std.specs.Prelude.{Err, Ok, Result}
use Rattle.resolving.specs.declared.parties.PartyFault.{PartyFault}
use Rattle.resolving.specs.declared.parties.PartyFault.TheVariants as fault

-- nobody is unknown: the purpose has the number p, and user form u gives the user the role
pub record PartiesKnown (d : Policy) (q : QueryForm) (c : Counts) (p u : ℕ) : Type 0 where
  pub all_known : unknown_party d q ≡ none
  pub purpose : purpose_of d q.purpose ≡ some p
  pub user : user_of d q.user q.role ≡ some u
  pub purpose_below : p < c.purposes
  pub user_below : u < c.users

-- nobody is unknown, but no user form gives the user the role
pub record RoleMissing (d : Policy) (q : QueryForm) : Type 0 where
  pub all_known : unknown_party d q ≡ none
  pub user : user_of d q.user q.role ≡ none

-- THE PARTIES: the code's answer says who asks the query q, whose words stand in s, or why nobody does
unfoldable pub PartiesAre : Policy → List ℕ → QueryForm → Counts → Result (ℕ × ℕ) PartyFault → Type 0
PartiesAre d s q c (Ok (p, u)) = PartiesKnown d q c p u
PartiesAre d s q c (Err (fault.Unknown at)) = unknown_party d q ≡ some (word_of s at)
PartiesAre d s q c (Err fault.NotGiven) = RoleMissing d q
