-- Meaning: names that a policy knows, by number, and what they name. Every comparison of names is `is_called`.
use Rattle.std.specs.Prelude.{ℕ, eqb, Bool, ◌&&◌, false, not, true, List, [], map}
use Rattle.std.proofs.Math.ListN.{get_elem?}
use Rattle.std.proofs.Math.Option
use Rattle.std.proofs.Math.Option.{Option, get_or, bind, none, some}
use Rattle.condition.specs.Kinds.{Kind, numbers}
use Rattle.document.specs.Policy.{Attribute, Column, Noted, Policy, tree_of}
use Rattle.form.specs.Form.{Note, Scheme, by_cell, by_column, by_row, by_table, nested, public, strong, unlabelled, weak}
use Rattle.purpose.specs.Compliance.{descends}
use Rattle.lists.specs.Lists.{any_of, find_index, found, holds_of, keep, or_zero, there}
use Rattle.text.specs.Words.{Word, is_called}

-- the purpose of this name
unfoldable pub purpose_of : Policy → Word → Option ℕ
purpose_of d w = find_index (λ x. is_called w x.name) d.purposes

-- the role of this name
unfoldable pub role_of : Policy → Word → Option ℕ
role_of d w = find_index (λ x. is_called w x.name) d.roles

-- the attribute of this name, the clock's included
unfoldable pub attribute_of : Policy → Word → Option ℕ
attribute_of d w = find_index (λ x. is_called w x.name) d.attributes

-- the conditional role of this name
unfoldable pub cond_role_of : Policy → Word → Option ℕ
cond_role_of d w = find_index (λ x. is_called w x.name) d.cond_roles

-- the label of this name
unfoldable pub label_of : Policy → Word → Option ℕ
label_of d w = find_index (λ x. is_called w x.name) d.labels

-- the table of this name
unfoldable pub table_of : Policy → Word → Option ℕ
table_of d w = find_index (λ x. is_called w x.name) d.tables

-- the user form that gives the user of this name the role of that name
unfoldable pub user_of : Policy → Word → Word → Option ℕ
user_of d u r = find_index (λ x. is_called u x.name && holds_of (eqb x.role) (role_of d r)) d.users

-- the column of this name
unfoldable pub column_of : List Column → Word → Option ℕ
column_of cs w = find_index (λ c. is_called w c.name) cs

-- the attribute of this name itself
unfoldable pub attribute_named : Policy → Word → Option Attribute
attribute_named d w = bind (attribute_of d w) (get_elem? d.attributes)

-- the type of the attribute of this name
unfoldable pub attribute_kind : Policy → Word → Kind
attribute_kind d w = get_or (Option.map (λ a. a.kind) (attribute_named d w)) numbers

-- the type of the column of this name
unfoldable pub column_kind : List Column → Word → Kind
column_kind cs w = get_or (Option.map (λ c. c.kind) (bind (column_of cs w) (get_elem? cs))) numbers

-- the scheme of the table of this number, as its line gave it: rows are read by it
unfoldable pub scheme_at : Policy → ℕ → Scheme ℕ
scheme_at d t = get_or (Option.map (λ x. x.scheme) (get_elem? d.tables t)) (unlabelled false)

-- what the notes say of the table of this number, in order (02, Q-2)
unfoldable pub notes_of : List Noted → ℕ → List (Note ℕ)
notes_of ns t = map (λ n. n.note) (keep (λ n. eqb n.table t) ns)

-- the note declares its table public (02, Q-2)
unfoldable pub is_public : Note ℕ → Bool
is_public public = true
is_public (weak l) = false
is_public (strong l) = false

-- the weak label that the note gives its table (02, Q-11)
unfoldable pub weak_in : Note ℕ → Option ℕ
weak_in public = none
weak_in (weak l) = some l
weak_in (strong l) = none

-- the strong label that the note gives its table (02, Q-11)
unfoldable pub strong_in : Note ℕ → Option ℕ
strong_in public = none
strong_in (weak l) = none
strong_in (strong l) = some l

-- the first label that the notes give in this way; in an accepted document none gives a second
unfoldable pub given_by : (Note ℕ → Option ℕ) → List (Note ℕ) → Option ℕ
given_by f ns = get_elem? (found (map f ns)) 0

-- the scheme with what the notes say: a table without labels is public if one of them declares it so; on a labelled one that does
-- nothing (02, Q-2); a nest table has the weak and the strong label that they give (02, Q-11)
unfoldable pub settled : List (Note ℕ) → Scheme ℕ → Scheme ℕ
settled ns (unlabelled b) = unlabelled (any_of is_public ns)
settled ns (by_table l) = by_table l
settled ns (by_column ls) = by_column ls
settled ns by_row = by_row
settled ns by_cell = by_cell
settled ns (nested w s) = nested (given_by weak_in ns) (given_by strong_in ns)

-- where the labels of the table of this number stand, its notes included: what is open goes by it (02, Q-2)
unfoldable pub labelling_at : Policy → ℕ → Scheme ℕ
labelling_at d t = settled (notes_of d.notes t) (scheme_at d t)

-- the columns of the table of this number
unfoldable pub columns_at : Policy → ℕ → List Column
columns_at d t = get_or (Option.map (λ x. x.columns) (get_elem? d.tables t)) []

-- the scheme of the table of this name, which is known
unfoldable pub scheme_of : Policy → Word → Scheme ℕ
scheme_of d w = scheme_at d (or_zero (table_of d w))

-- where the labels of the table of this name, which is known, stand, its notes included (02, Q-2)
unfoldable pub labelling_of : Policy → Word → Scheme ℕ
labelling_of d w = labelling_at d (or_zero (table_of d w))

-- the columns of the table of this name, which is known
unfoldable pub columns_of : Policy → Word → List Column
columns_of d w = columns_at d (or_zero (table_of d w))

-- the attribute is one of the clock's
unfoldable pub is_clock : Attribute → Bool
is_clock a = not (there a.role)

-- the role has the attribute: it is defined at the role or above
unfoldable pub has_attribute : Policy → ℕ → Attribute → Bool
has_attribute d r a = holds_of (descends (tree_of d.roles) r) a.role
