-- Contract: how the workspace holds the document so far.
use Rattle.std.specs.Prelude.{ℕ, List}
use Rattle.document.specs.Policy.{Doc}
use Rattle.principals.specs.Attributes.{Attributes}
use Rattle.principals.specs.CondRoles.{CondRoles}
use Rattle.principals.specs.Grants.{Grants}
use Rattle.relations.specs.Labels.{Labels}
use Rattle.principals.specs.Nodes.{Nodes}
use Rattle.relations.specs.Notes.{Notes}
use Rattle.relations.specs.Rows.{Rows}
use Rattle.relations.specs.Tables.{Tables}
use Rattle.principals.specs.Users.{Users}
use Rattle.purpose.specs.Members.{limit}
use Rattle.text.specs.Refusal.{document}
use Rattle.index.specs.declared.counts.Counts.{Counts}

-- the arrays hold the document d, as many of each kind as c says: purposes ps, roles rs, attributes bs, users us, conditional
-- roles cs, grants gs, labels ls with their sets ms, tables ts with what later lines say of them, rows ws
pub record Indexed (text ps rs bs us cs gs ls ms ts ws : List ℕ) (c : Counts) (d : Doc) : Type 0 where
  pub purposes : Nodes limit text ps c.purposes d.policy.purposes
  pub roles : Nodes 64 text rs c.roles d.policy.roles
  pub attributes : Attributes text bs c.attributes d.policy.attributes
  pub users : Users d.policy text us c.users d.policy.users
  pub conds : CondRoles d.policy text cs c.conds d.policy.cond_roles
  pub grants : Grants gs c.grants d.policy.grants
  pub labels : Labels text ls ms c.labels d.policy.labels
  pub tables : Tables text ts c.tables d.policy.tables
  pub notes : Notes ts c.tables d.policy.notes
  pub rows : Rows text ws c.rows d.rows
