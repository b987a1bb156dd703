-- Contract: so much of a document as authority needs: who has which roles and values, and which grants there are.
use Rattle.std.specs.Prelude.{ℕ, List}
use Rattle.document.specs.Invariants.{Formed}
use Rattle.document.specs.Policy.{Policy}
use Rattle.principals.specs.Attributes.{Attributes}
use Rattle.principals.specs.CondRoles.{CondRoles}
use Rattle.principals.specs.Grants.{Grants}
use Rattle.principals.specs.Nodes.{Nodes}
use Rattle.principals.specs.Users.{Users}
use Rattle.index.specs.declared.counts.Counts.{Counts}

-- the arrays hold roles rs, attributes bs, users us, conditional roles cs and grants gs of the well-formed policy d
pub record Authorities (text rs bs us cs gs : List ℕ) (c : Counts) (d : Policy) : Type 0 where
  pub formed : Formed d
  pub roles : Nodes 64 text rs c.roles d.roles
  pub attributes : Attributes text bs c.attributes d.attributes
  pub users : Users d text us c.users d.users
  pub conds : CondRoles d text cs c.conds d.cond_roles
  pub grants : Grants gs c.grants d.grants
