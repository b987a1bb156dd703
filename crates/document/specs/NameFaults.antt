-- Meaning: 4, name taken; 5, name unknown (01, "Checking a document"; 02, Q-2, Q-11).
use Rattle.std.specs.Prelude.{ℕ, Bool, ◌||◌, cond, List, [], ◌++◌, ◌∷◌, map}
use Rattle.std.proofs.Math.Option.{Option, none}
use Rattle.condition.specs.Cond.{comparisons}
use Rattle.document.specs.Lookup.{attribute_named, attribute_of, cond_role_of, has_attribute, is_clock, is_public, label_of, notes_of, purpose_of, role_of, scheme_of, table_of, user_of}
use Rattle.document.specs.Policy.{Policy}
use Rattle.form.specs.Form.{Form, Item, Note, Scheme, attr, cond_role, grant, has_brackets, label, labelled, leads_label, note, note_labels, plain, public, purpose, role, row, scheme_labels, strong, table, user, weak}
use Rattle.lists.specs.Lists.{any_of, holds_of, listed, or_zero, there}
use Rattle.text.specs.Names.{is_name}
use Rattle.text.specs.Offending.{leftmost, missing, offending_if, repeated, unless}
use Rattle.text.specs.Words.{Word}

-- the table's name, where the table is declared public a second time (02, Q-2); a second weak or strong line is 25 (02, Q-11)
unfoldable pub taken_note : Policy → Word → Note Word → Option Word
taken_note d t public = offending_if (holds_of (λ x. any_of is_public (notes_of d.notes x)) (table_of d t)) t
taken_note d t (weak l) = none
taken_note d t (strong l) = none

-- the leftmost name that is taken: the later of two equal names; of a user and role given before, the role
unfoldable pub taken : Policy → Form → Option Word
taken d (purpose n p) = offending_if (there (purpose_of d n)) n
taken d (role n p) = offending_if (there (role_of d n)) n
taken d (attr r a k) = offending_if (there (attribute_of d a)) a
taken d (user u r gs) = offending_if (there (user_of d u r)) r
taken d (cond_role c r t) = offending_if (there (cond_role_of d c)) c
taken d (grant p c) = none
taken d (label l ps qs) = leftmost (offending_if (there (label_of d l)) l ∷ repeated ps ∷ repeated qs ∷ [])
taken d (table t s cs) = leftmost (offending_if (there (table_of d t)) t ∷ repeated (map (λ c. c.name) cs) ∷ [])
taken d (row t is) = none
taken d (note t n) = taken_note d t n

-- the word is an attribute that a condition over the role may use: the clock's, or one that the role has
unfoldable pub usable_for : Policy → ℕ → Word → Bool
usable_for d r w = holds_of (λ a. is_clock a || has_attribute d r a) (attribute_named d w)

-- the first item, if it is a name
unfoldable pub leading_name : List Item → List Word
leading_name [] = []
leading_name (plain w ∷ is) = cond (is_name w.bytes) (w ∷ []) []
leading_name (labelled v l ∷ is) = []

-- the label of each bracket
unfoldable pub bracket_labels : List Item → List Word
bracket_labels [] = []
bracket_labels (plain w ∷ is) = bracket_labels is
bracket_labels (labelled v l ∷ is) = l ∷ bracket_labels is

-- the labels that a row uses: where rows lead with a label, the first item, if it is a name; where they have brackets, each bracket's
unfoldable pub row_labels : Scheme ℕ → List Item → List Word
row_labels s is = cond (leads_label s) (leading_name is) [] ++ cond (has_brackets s) (bracket_labels is) []

-- the leftmost name that is used and not known
unfoldable pub unknown : Policy → Form → Option Word
unknown d (purpose n p) = missing (λ w. there (purpose_of d w)) (listed p)
unknown d (role n p) = missing (λ w. there (role_of d w)) (listed p)
unknown d (attr r a k) = unless (there (role_of d r)) r
unknown d (user u r gs) =
    leftmost (unless (there (role_of d r)) r ∷ missing (λ w. there (attribute_of d w)) (map (λ g. g.attribute) gs) ∷ [])
unknown d (cond_role c r t) =
    leftmost (unless (there (role_of d r)) r ∷ missing (usable_for d (or_zero (role_of d r))) (map (λ x. x.of) (comparisons t)) ∷ [])
unknown d (grant p c) = leftmost (unless (there (purpose_of d p)) p ∷ unless (there (cond_role_of d c)) c ∷ [])
unknown d (label l ps qs) = missing (λ w. there (purpose_of d w)) (ps ++ qs)
unknown d (table t s cs) = missing (λ w. there (label_of d w)) (scheme_labels s)
unknown d (row t is) =
    leftmost (unless (there (table_of d t)) t ∷ missing (λ w. there (label_of d w)) (row_labels (scheme_of d t) is) ∷ [])
unknown d (note t n) = leftmost (unless (there (table_of d t)) t ∷ missing (λ w. there (label_of d w)) (note_labels n) ∷ [])
