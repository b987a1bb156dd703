-- Names are unique within their kind, columns within their table, purposes within a set, and pairs of user and role (01,
-- "Bracket texts"): in every accepted document, and after every line on the way to it. Assumes nothing.
use Prim.Native.Nat.{ℕ}
use borrow.Author.Tests.{eq-eqb, eqb-true}
use lib.Dec.{eqb}
use lib.ListN.{get_elem?}
use mathlib.Core.Bool.{Bool, ◌&&◌, false, true}
use mathlib.Core.List.{List, [], ◌++◌, ◌∷◌, map}
use mathlib.Core.Logic.{⊎_elim}
use mathlib.Core.Option.{Option, none-ne-some, none, some}
use mathlib.Core.Path.{◌∙◌, ◌≡◌, ap, refl, subst, sym}
use Rattle.document.proofs.Accepting.{check_accepted, last_accepted, line_accepted, more_accepted}
use Rattle.document.specs.Check.{Accepted, check, check_from, check_line}
use Rattle.document.specs.Computing.{computing}
use Rattle.document.specs.Invariants.{UniqueNames}
use Rattle.document.specs.Lookup.{attribute_of, cond_role_of, label_of, purpose_of, role_of, table_of, user_of}
use Rattle.document.specs.Meaning.{add, column_meant, define, marks_of, node_of}
use Rattle.document.specs.NameFaults.{taken, unknown}
use Rattle.document.specs.Policy.{Doc, Given, Label, Policy, Table, User, clock_attributes, empty_doc}
use Rattle.form.specs.Form.{ColumnForm, Form, attr, cond_role, grant, label, note, purpose, role, row, table, user}
use Rattle.lists.proofs.Distinct.{no_two_grown, no_two_images, no_two_nil, no_two_sources}
use Rattle.lists.proofs.ListLaws.{all_here, all_parts, find_index_none, get_elem?_grown, there_some}
use Rattle.lists.proofs.Tests.{and_both, and_left, and_right, never, true_not_false}
use Rattle.lists.specs.Distinct.{NoTwoSame}
use Rattle.lists.specs.Lists.{all_of, find_index, holds_of, or_zero, there}
use Rattle.text.proofs.NameLaws.{found_same, same_name_sym}
use Rattle.text.proofs.OffendingLaws.{leftmost_head, leftmost_tail, missing_none, offending_if_none, repeated_none, same_word, unless_none}
use Rattle.text.specs.Names.{Name, same_name}
use Rattle.text.specs.Offending.{offending_if, repeated}
use Rattle.text.specs.Refusal.{accepted}
use Rattle.text.specs.Words.{Word, is_called, plain_word}

-- ---- one more of a kind

-- a name that is not taken may be added
named_grown : {A : Type 0} (name_of : A → Name) (w : Word) (xs : List A) (x : A) → name_of x ≡ w.bytes → NoTwoSame (λ x y. same_name (name_of x) (name_of y)) xs
    → offending_if (there (find_index (λ y. is_called w (name_of y)) xs)) w ≡ none → NoTwoSame (λ x y. same_name (name_of x) (name_of y)) (xs ++ (x ∷ []))
unfolding is_called
named_grown name_of w xs x n u t =
    no_two_grown (λ x y. same_name (name_of x) (name_of y)) (λ x y. same_name_sym (name_of x) (name_of y)) xs x u
    (λ i y e. rw n (find_index_none (λ y. is_called w (name_of y)) xs (offending_if_none _ w t) i y e))

-- a user and a role that is known may be added if no form has both
user_grown : (d : Policy) (u r : Word) (vs : List Given) → NoTwoSame (λ x y. same_name x.name y.name && eqb x.role y.role) d.users
    → there (user_of d u r) ≡ false → there (role_of d r) ≡ true
    → NoTwoSame (λ x y. same_name x.name y.name && eqb x.role y.role) (d.users ++ (record { name = u.bytes; role = or_zero (role_of d r); values = vs } ∷ []))
user_grown d u r vs h t k = no_two_grown same_user turn d.users new h (λ i x e. never (same_user new x) (λ s. true_not_false (taken_by_lem x s) (unfold user_of in find_index_none _ d.users t i x e)))
  where
    same_user : User → User → Bool
    same_user x y = same_name x.name y.name && eqb x.role y.role

    new : User
    new = record { name = u.bytes; role = or_zero (role_of d r); values = vs }

    turn : (x y : User) → same_user x y ≡ true → same_user y x ≡ true
    turn x y e =
        and_both (same_name y.name x.name) _ (same_name_sym x.name y.name (and_left (same_name x.name y.name) _ e))
        (eq-eqb y.role x.role (sym (eqb-true x.role y.role (and_right (same_name x.name y.name) _ e))))

    taken_by_lem : (x : User) → same_user new x ≡ true → (is_called u x.name && holds_of (eqb x.role) (role_of d r)) ≡ true
    taken_by_lem x s =
        and_both (is_called u x.name) _ (unfold is_called in and_left (same_name u.bytes x.name) _ s)
        (subst (λ (o : Option ℕ). holds_of (eqb x.role) o ≡ true) (sym (there_some (role_of d r) k))
        (unfold holds_of in eq-eqb x.role (or_zero (role_of d r)) (sym (eqb-true (or_zero (role_of d r)) x.role (and_right (same_name u.bytes x.name) _ s)))))

-- the columns of a table form without repeats
columns_differ : (cs : List ColumnForm) → repeated (map (λ c. c.name) cs) ≡ none → NoTwoSame (λ x y. same_name x.name y.name) (map column_meant cs)
unfolding column_meant is_called
columns_differ cs h = no_two_images (λ x y. same_name x.name y.name) column_meant cs (no_two_sources same_word (λ c. c.name) cs (repeated_none _ h))

-- one more table
columns_grown : (ts : List Table) (t : Table) → ((i : ℕ) (x : Table) → get_elem? ts i ≡ some x → NoTwoSame (λ x y. same_name x.name y.name) x.columns)
    → NoTwoSame (λ x y. same_name x.name y.name) t.columns
    → (i : ℕ) (x : Table) → get_elem? (ts ++ (t ∷ [])) i ≡ some x → NoTwoSame (λ x y. same_name x.name y.name) x.columns
columns_grown ts t h n i x e =
    ⊎_elim (λ k. h i x k) (λ k. subst (λ (y : Table). NoTwoSame (λ x y. same_name x.name y.name) y.columns) k.1 n) (get_elem?_grown ts t i x e)

-- words without repeats, all known, name purposes without repeats
set_differs : (d : Policy) (ps : List Word) → repeated ps ≡ none → all_of (λ w. there (purpose_of d w)) ps ≡ true → NoTwoSame eqb (map (λ w. or_zero (purpose_of d w)) ps)
set_differs d ps h k = no_two_images eqb (λ w. or_zero (purpose_of d w)) ps (record { alone = λ i j v w a b s. (repeated_none ps h).alone i j v w a b (same i j v w a b (eqb-true _ _ s)) })
  where
    same : (i j : ℕ) (v w : Word) → get_elem? ps i ≡ some v → get_elem? ps j ≡ some w → or_zero (purpose_of d v) ≡ or_zero (purpose_of d w) → same_word v w ≡ true
    same i j v w a b s = unfold purpose_of in
        found_same (λ x. x.name) d.purposes v w (or_zero (purpose_of d v)) (there_some _ (all_here (λ w. there (purpose_of d w)) ps k i v a))
        (there_some _ (all_here (λ w. there (purpose_of d w)) ps k j w b) ∙ ap some (sym s))

-- the sets of a label form
marks_differ : (d : Policy) (l : Word) (ps qs : List Word) → taken d (label l ps qs) ≡ none → unknown d (label l ps qs) ≡ none
    → NoTwoSame eqb (marks_of d ps qs).allowed × NoTwoSame eqb (marks_of d ps qs).denied
unfolding taken unknown marks_of
marks_differ d l ps qs t k =
    let in_sets = leftmost_tail _ _ t in
    let known_all = all_parts (λ w. there (purpose_of d w)) ps qs (missing_none _ (ps ++ qs) k) in
    (set_differs d ps (leftmost_head _ _ in_sets) known_all.0, set_differs d qs (leftmost_head _ _ (leftmost_tail _ _ in_sets)) known_all.1)

-- one more label
sets_grown : (ls : List Label) (l : Label) → ((i : ℕ) (x : Label) → get_elem? ls i ≡ some x → NoTwoSame eqb x.marks.allowed × NoTwoSame eqb x.marks.denied)
    → NoTwoSame eqb l.marks.allowed × NoTwoSame eqb l.marks.denied
    → (i : ℕ) (x : Label) → get_elem? (ls ++ (l ∷ [])) i ≡ some x → NoTwoSame eqb x.marks.allowed × NoTwoSame eqb x.marks.denied
sets_grown ls l h n i x e =
    ⊎_elim (λ k. h i x k) (λ k. subst (λ (y : Label). NoTwoSame eqb y.marks.allowed × NoTwoSame eqb y.marks.denied) k.1 n) (get_elem?_grown ls l i x e)

-- ---- lines

-- a form that takes no name that is taken, and uses none that is unknown
unique_form : (d : Policy) (f : Form) → UniqueNames d → taken d f ≡ none → unknown d f ≡ none → UniqueNames (define d f)
unfolding define taken unknown node_of purpose_of role_of attribute_of cond_role_of label_of table_of
unique_form d (purpose n p) u t k = record { purposes = named_grown (λ x. x.name) n d.purposes _ refl u.purposes t; roles = u.roles; attributes = u.attributes; users = u.users; cond_roles = u.cond_roles; labels = u.labels; tables = u.tables; columns = u.columns; sets = u.sets }
unique_form d (role n p) u t k = record { purposes = u.purposes; roles = named_grown (λ x. x.name) n d.roles _ refl u.roles t; attributes = u.attributes; users = u.users; cond_roles = u.cond_roles; labels = u.labels; tables = u.tables; columns = u.columns; sets = u.sets }
unique_form d (attr r a x) u t k = record { purposes = u.purposes; roles = u.roles; attributes = named_grown (λ x. x.name) a d.attributes _ refl u.attributes t; users = u.users; cond_roles = u.cond_roles; labels = u.labels; tables = u.tables; columns = u.columns; sets = u.sets }
unique_form d (user v r gs) u t k = record { purposes = u.purposes; roles = u.roles; attributes = u.attributes; users = user_grown d v r _ u.users (offending_if_none _ r t) (unless_none _ r (leftmost_head _ _ k)); cond_roles = u.cond_roles; labels = u.labels; tables = u.tables; columns = u.columns; sets = u.sets }
unique_form d (cond_role c r x) u t k = record { purposes = u.purposes; roles = u.roles; attributes = u.attributes; users = u.users; cond_roles = named_grown (λ x. x.name) c d.cond_roles _ refl u.cond_roles t; labels = u.labels; tables = u.tables; columns = u.columns; sets = u.sets }
unique_form d (grant p c) u t k = record { purposes = u.purposes; roles = u.roles; attributes = u.attributes; users = u.users; cond_roles = u.cond_roles; labels = u.labels; tables = u.tables; columns = u.columns; sets = u.sets }
unique_form d (label l ps qs) u t k = record { purposes = u.purposes; roles = u.roles; attributes = u.attributes; users = u.users; cond_roles = u.cond_roles; labels = named_grown (λ x. x.name) l d.labels _ refl u.labels (leftmost_head _ _ t); tables = u.tables; columns = u.columns; sets = sets_grown d.labels _ u.sets (marks_differ d l ps qs t k) }
unique_form d (table n s cs) u t k = record { purposes = u.purposes; roles = u.roles; attributes = u.attributes; users = u.users; cond_roles = u.cond_roles; labels = u.labels; tables = named_grown (λ x. x.name) n d.tables _ refl u.tables (leftmost_head _ _ t); columns = columns_grown d.tables _ u.columns (columns_differ cs (leftmost_head _ _ (leftmost_tail _ _ t))); sets = u.sets }
unique_form d (row t is) u t' k = u
unique_form d (note n x) u t k = record { purposes = u.purposes; roles = u.roles; attributes = u.attributes; users = u.users; cond_roles = u.cond_roles; labels = u.labels; tables = u.tables; columns = u.columns; sets = u.sets }

-- before any line
pub unique_empty : UniqueNames empty_doc.policy
unfolding computing
unique_empty = record {
  purposes = no_two_nil _;
  roles = no_two_nil _;
  attributes = no_two_sources same_word (λ a. plain_word a.name) clock_attributes (repeated_none _ refl);
  users = no_two_nil _;
  cond_roles = no_two_nil _;
  labels = no_two_nil _;
  tables = no_two_nil _;
  columns = λ i t e. absurd (none-ne-some _ e);
  sets = λ i l e. absurd (none-ne-some _ e);
}

-- an accepted line keeps names unique
pub unique_line : (d : Doc) (line : List ℕ) (e : Doc) → UniqueNames d.policy → check_line d line ≡ accepted e → UniqueNames e.policy
unique_line d line e u h =
    let x = line_accepted d line e h in
    subst (λ (y : Doc). UniqueNames y.policy) (sym x.added) (unfold add in unique_form d.policy x.form u x.free x.knows)

-- so do all the lines that are accepted after each other
pub unique_from : (ps : List (List ℕ)) (d : Doc) (n at : ℕ) (p : List ℕ) (A : Accepted) → UniqueNames d.policy → check_from d n at p ps ≡ accepted A → UniqueNames A.doc.policy
unique_from [] d n at p A u h = subst (λ (y : Doc). UniqueNames y.policy) (sym (last_accepted d n at p A h)) u
unique_from (p' ∷ ps) d n at p A u h =
    let x = more_accepted d n at p p' ps A h in
    unique_from ps x.0 _ _ p' A (unique_line d p x.0 u x.1) x.2

-- the names of an accepted document are unique
pub unique_names : (text : List ℕ) (A : Accepted) → check text ≡ accepted A → UniqueNames A.doc.policy
unique_names text A h = unique_from _ empty_doc 0 0 _ A unique_empty (check_accepted text A h).1
