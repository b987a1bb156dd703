-- Meaning: what every accepted document has, and every document on the way to it: what contracts between our crates assume of a document. That
-- the check gives it is proved: document/proofs/Formed `formed`, UniqueNames `unique_names`, Denials `denials`.
use Rattle.std.specs.Prelude.{◌≤◌, ℕ, eqb, get_or, length, ◌&&◌, [], ◌≡◌}
use Rattle.std.proofs.Math.ListN.{get_elem?}
use Rattle.std.proofs.Math.Option.{some}
use Rattle.condition.specs.Cond.{comparisons}
use Rattle.document.specs.Lookup.{purpose_of}
use Rattle.document.specs.Policy.{CondRole, Label, Node, Policy, Table, tree_of}
use Rattle.lists.specs.Distinct.{NoTwoSame}
use Rattle.purpose.specs.Compliance.{Grown}
use Rattle.text.specs.Names.{same_name}
use Rattle.text.specs.Words.{plain_word}

-- each purpose but the first stands below an earlier one, and a conditional role has at most 64 comparisons (01, "Bracket texts")
pub record Formed (d : Policy) : Type 0 where
  pub grown : Grown (tree_of d.purposes)
  pub short : (i : ℕ) (r : CondRole) → get_elem? d.cond_roles i ≡ some r → length (comparisons r.condition) ≤ 64
  pub rooted : (n : Node) → get_elem? d.purposes 0 ≡ some n → n.parent ≡ 0

-- names are unique within a kind, clock names included, columns within their table, purposes within a set, pairs of user and role (01, "Bracket texts")
pub record UniqueNames (d : Policy) : Type 0 where
  pub purposes : NoTwoSame (λ x y. same_name x.name y.name) d.purposes
  pub roles : NoTwoSame (λ x y. same_name x.name y.name) d.roles
  pub attributes : NoTwoSame (λ x y. same_name x.name y.name) d.attributes
  pub users : NoTwoSame (λ x y. same_name x.name y.name && eqb x.role y.role) d.users
  pub cond_roles : NoTwoSame (λ x y. same_name x.name y.name) d.cond_roles
  pub labels : NoTwoSame (λ x y. same_name x.name y.name) d.labels
  pub tables : NoTwoSame (λ x y. same_name x.name y.name) d.tables
  pub columns : (i : ℕ) (t : Table) → get_elem? d.tables i ≡ some t → NoTwoSame (λ x y. same_name x.name y.name) t.columns
  pub sets : (i : ℕ) (l : Label) → get_elem? d.labels i ≡ some l → NoTwoSame eqb l.marks.allowed × NoTwoSame eqb l.marks.denied

-- the label has a name for each purpose that it denies, and the name at each place is that of the purpose denied there (02, Q-7)
pub record DeniesNamed (d : Policy) (l : Label) : Type 0 where
  pub as_many : length l.denied_names ≡ length l.marks.denied
  pub named : (j n : ℕ) → get_elem? l.marks.denied j ≡ some n → purpose_of d (plain_word (get_or l.denied_names j [])) ≡ some n

-- so has every label
pub record Denials (d : Policy) : Type 0 where
  pub each : (i : ℕ) (l : Label) → get_elem? d.labels i ≡ some l → DeniesNamed d l
