-- Meaning: what a line adds to the document (01, "Document forms"; 02, Q-2); every name in the line is known.
use Rattle.std.specs.Prelude.{ℕ, length, List, [], ◌++◌, ◌∷◌, map}
use Rattle.std.proofs.Math.Option.{Option, get_or, bind}
use Rattle.condition.specs.Comparison.{Comparison}
use Rattle.condition.specs.Cond.{map_cond}
use Rattle.condition.specs.CondForm.{Compared}
use Rattle.document.specs.Lookup.{attribute_kind, attribute_of, cond_role_of, label_of, purpose_of, role_of, scheme_of, table_of}
use Rattle.document.specs.NameFaults.{row_labels}
use Rattle.document.specs.Policy.{Column, Doc, Given, Node, Policy, Row}
use Rattle.document.specs.ValueFaults.{row_values}
use Rattle.form.specs.Form.{ColumnForm, Form, GivenForm, Item, attr, cond_role, grant, label, map_note, map_scheme, note, purpose, role, row, table, user}
use Rattle.purpose.specs.Compliance.{Marks}
use Rattle.lists.specs.Lists.{or_zero}
use Rattle.text.specs.Words.{Word}

-- the purpose or role that a line defines, behind those that there are: a root's parent is its own number
unfoldable pub node_of : (Word → Option ℕ) → List Node → Word → Option Word → Node
node_of number_of nodes n p = record { name = n.bytes; parent = get_or (bind p number_of) (length nodes) }

-- the value that a user form gives for an attribute
unfoldable pub given_of : Policy → GivenForm → Given
given_of d g = record { attribute = or_zero (attribute_of d g.attribute); value = g.value.bytes }

-- a comparison of an attribute
unfoldable pub attribute_comparison : Policy → Compared → Comparison
attribute_comparison d x =
    record { of = or_zero (attribute_of d x.of); kind = attribute_kind d x.of; op = x.op; value = x.value.bytes }

-- the purposes that a label form allows and denies
unfoldable pub marks_of : Policy → List Word → List Word → Marks
marks_of d ps qs = record { allowed = map (λ w. or_zero (purpose_of d w)) ps; denied = map (λ w. or_zero (purpose_of d w)) qs }

-- a column that a table form gives
unfoldable pub column_meant : ColumnForm → Column
column_meant c = record { name = c.name.bytes; kind = c.kind }

-- the row that a row form gives
unfoldable pub row_meant : Policy → Word → List Item → Row
row_meant d t is = record {
  table = or_zero (table_of d t);
  values = map (λ w. w.bytes) (get_or (row_values (scheme_of d t) is) []);
  labels = map (λ w. or_zero (label_of d w)) (row_labels (scheme_of d t) is);
}

-- the policy with what the line defines at the end of its kind
unfoldable pub define : Policy → Form → Policy
define d (purpose n p) = record {
  purposes = d.purposes ++ (node_of (purpose_of d) d.purposes n p ∷ []);
  roles = d.roles;
  attributes = d.attributes;
  users = d.users;
  cond_roles = d.cond_roles;
  grants = d.grants;
  labels = d.labels;
  tables = d.tables;
  notes = d.notes;
}
define d (role n p) = record {
  purposes = d.purposes;
  roles = d.roles ++ (node_of (role_of d) d.roles n p ∷ []);
  attributes = d.attributes;
  users = d.users;
  cond_roles = d.cond_roles;
  grants = d.grants;
  labels = d.labels;
  tables = d.tables;
  notes = d.notes;
}
define d (attr r a k) = record {
  purposes = d.purposes;
  roles = d.roles;
  attributes = d.attributes ++ (record { name = a.bytes; role = role_of d r; kind = k } ∷ []);
  users = d.users;
  cond_roles = d.cond_roles;
  grants = d.grants;
  labels = d.labels;
  tables = d.tables;
  notes = d.notes;
}
define d (user u r gs) = record {
  purposes = d.purposes;
  roles = d.roles;
  attributes = d.attributes;
  users = d.users ++ (record { name = u.bytes; role = or_zero (role_of d r); values = map (given_of d) gs } ∷ []);
  cond_roles = d.cond_roles;
  grants = d.grants;
  labels = d.labels;
  tables = d.tables;
  notes = d.notes;
}
define d (cond_role c r t) = record {
  purposes = d.purposes;
  roles = d.roles;
  attributes = d.attributes;
  users = d.users;
  cond_roles = d.cond_roles ++ (record { name = c.bytes; role = or_zero (role_of d r); condition = map_cond (attribute_comparison d) t } ∷ []);
  grants = d.grants;
  labels = d.labels;
  tables = d.tables;
  notes = d.notes;
}
define d (grant p c) = record {
  purposes = d.purposes;
  roles = d.roles;
  attributes = d.attributes;
  users = d.users;
  cond_roles = d.cond_roles;
  grants = d.grants ++ (record { purpose = or_zero (purpose_of d p); cond_role = or_zero (cond_role_of d c) } ∷ []);
  labels = d.labels;
  tables = d.tables;
  notes = d.notes;
}
define d (label l ps qs) = record {
  purposes = d.purposes;
  roles = d.roles;
  attributes = d.attributes;
  users = d.users;
  cond_roles = d.cond_roles;
  grants = d.grants;
  labels = d.labels ++ (record { name = l.bytes; marks = marks_of d ps qs; denied_names = map (λ w. w.bytes) qs } ∷ []);
  tables = d.tables;
  notes = d.notes;
}
define d (table t s cs) = record {
  purposes = d.purposes;
  roles = d.roles;
  attributes = d.attributes;
  users = d.users;
  cond_roles = d.cond_roles;
  grants = d.grants;
  labels = d.labels;
  tables = d.tables ++ (record { name = t.bytes; scheme = map_scheme (λ l. or_zero (label_of d l)) s; columns = map column_meant cs } ∷ []);
  notes = d.notes;
}
define d (row t is) = d
define d (note t n) = record {
  purposes = d.purposes;
  roles = d.roles;
  attributes = d.attributes;
  users = d.users;
  cond_roles = d.cond_roles;
  grants = d.grants;
  labels = d.labels;
  tables = d.tables;
  notes = d.notes ++ (record { table = or_zero (table_of d t); note = map_note (λ l. or_zero (label_of d l)) n } ∷ []);
}

-- the row that the line gives, if it is a row line
unfoldable pub rows_given : Policy → Form → List Row
rows_given d (purpose n p) = []
rows_given d (role n p) = []
rows_given d (attr r a k) = []
rows_given d (user u r gs) = []
rows_given d (cond_role c r t) = []
rows_given d (grant p c) = []
rows_given d (label l ps qs) = []
rows_given d (table t s cs) = []
rows_given d (row t is) = row_meant d t is ∷ []
rows_given d (note t n) = []

-- the document with the line added
unfoldable pub add : Doc → Form → Doc
add d f = record { policy = define d.policy f; rows = d.rows ++ rows_given d.policy f }
