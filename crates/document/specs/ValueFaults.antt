-- Meaning: 7, a row or user without the right count or set of values, or row items not shaped for the table's scheme (01, "Checking
-- a document"; 02, Q-11).
use Rattle.std.specs.Prelude.{ℕ, eqb, length, Bool, ◌&&◌, cond, false, not, true, List, [], ◌∷◌, map}
use Rattle.std.proofs.Math.Option
use Rattle.std.proofs.Math.Option.{Option, none, some}
use Rattle.document.specs.Lookup.{attribute_named, columns_of, has_attribute, role_of, scheme_of}
use Rattle.document.specs.Policy.{Attribute, Policy}
use Rattle.form.specs.Form.{Form, Item, Scheme, attr, cond_role, grant, has_brackets, label, labelled, leads_label, note, plain, purpose, role, row, table, user}
use Rattle.lists.specs.Lists.{all_of, count_of, holds_of, keep, or_zero}
use Rattle.text.specs.Names.{is_name}
use Rattle.text.specs.Words.{Word, is_called}

-- the word names an attribute of the role: one that is defined at it or above, so none of the clock's
unfoldable pub is_attribute_of : Policy → ℕ → Word → Bool
is_attribute_of d r w = holds_of (has_attribute d r) (attribute_named d w)

-- exactly one of the words names the attribute
unfoldable pub given_once : List Word → Attribute → Bool
given_once ws a = eqb (count_of (λ w. is_called w a.name) ws) 1

-- one value for each attribute defined at the role or above (01, "Document forms", of a user form): each of the words
-- names an attribute of the role, and each attribute of the role is named by exactly one of them
unfoldable pub gives_all : Policy → ℕ → List Word → Bool
gives_all d r ws = all_of (is_attribute_of d r) ws && all_of (given_once ws) (keep (has_attribute d r) d.attributes)

-- the items as values without labels
unfoldable pub plain_values : List Item → Option (List Word)
plain_values [] = some []
plain_values (plain w ∷ is) = Option.map (λ ws. w ∷ ws) (plain_values is)
plain_values (labelled v l ∷ is) = none

-- the items as values, each with its label
unfoldable pub bracket_values : List Item → Option (List Word)
bracket_values [] = some []
bracket_values (plain w ∷ is) = none
bracket_values (labelled v l ∷ is) = Option.map (λ ws. v ∷ ws) (bracket_values is)

-- the items as values, all in brackets (true) or all without (false)
unfoldable pub shaped_values : (bracketed : Bool) → List Item → Option (List Word)
shaped_values true is = bracket_values is
shaped_values false is = plain_values is

-- the values behind a leading label, which is a name; `values` says how those are shaped
unfoldable pub values_behind_label : (List Item → Option (List Word)) → List Item → Option (List Word)
values_behind_label values [] = none
values_behind_label values (plain w ∷ is) = cond (is_name w.bytes) (values is) none
values_behind_label values (labelled v l ∷ is) = none

-- the values of a row, if its items are shaped for the scheme: all in brackets or all without, behind a label where the row leads with one
unfoldable pub row_values : Scheme ℕ → List Item → Option (List Word)
row_values s is = cond (leads_label s) (values_behind_label (shaped_values (has_brackets s)) is) (shaped_values (has_brackets s) is)

-- the user form does not give each attribute of its role once and no other, or the row does not fit its table
unfoldable pub misfit : Policy → Form → Bool
misfit d (purpose n p) = false
misfit d (role n p) = false
misfit d (attr r a k) = false
misfit d (user u r gs) = not (gives_all d (or_zero (role_of d r)) (map (λ g. g.attribute) gs))
misfit d (cond_role c r t) = false
misfit d (grant p c) = false
misfit d (label l ps qs) = false
misfit d (table t s cs) = false
misfit d (row t is) = not (holds_of (λ ws. eqb (length ws) (length (columns_of d t))) (row_values (scheme_of d t) is))
misfit d (note t n) = false
