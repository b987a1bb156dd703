-- The workspace after one more of a kind: the other kinds' arrays and lists stay. Assumes nothing.
use Prim.Native.Nat.{◌+◌, ℕ}
use borrow.Author.Tests.{ltb-false}
use lib.Dec.{ltb}
use lib.ListN.{length}
use mathlib.Core.Bool.{false}
use mathlib.Core.List.{List, [], ◌++◌, ◌∷◌, append-nil}
use mathlib.Core.Option.{Option}
use mathlib.Core.Path.{◌∙◌, ◌≡◌, ap, refl, subst, sym}
use native.Mathlib.Omega.{arith}
use Rattle.index.specs.Workspace.{Indexed}
use Rattle.condition.specs.Cond.{Cond}
use Rattle.condition.specs.CondForm.{Compared}
use Rattle.condition.specs.Kinds.{Kind}
use Rattle.document.specs.Bounds.{late_attr}
use Rattle.document.specs.Check.{check_form}
use Rattle.document.specs.Lookup.{role_of}
use Rattle.document.specs.Meaning.{add, define, rows_given}
use Rattle.document.specs.Policy.{Doc, Grant, Policy, Row, User}
use Rattle.form.specs.Form.{ColumnForm, Form, GivenForm, Item, Note, Scheme, attr, cond_role, grant, label, note, purpose, role, row, table, user}
use Rattle.principals.proofs.IndexLaws.{conds_grown, conds_same, users_length, users_none, users_same}
use Rattle.workspace.proofs.TabulatedLaws.{length_tabulated}
use Rattle.principals.specs.Attributes.{Attributes}
use Rattle.principals.specs.CondRoles.{CondRoles}
use Rattle.principals.specs.Grants.{Grants, grant_in}
use Rattle.relations.specs.Labels.{Labels}
use Rattle.principals.specs.Nodes.{Nodes}
use Rattle.relations.specs.Notes.{Notes}
use Rattle.relations.specs.Rows.{Rows, row_in}
use Rattle.relations.specs.Tables.{Tables}
use Rattle.principals.specs.Users.{Users}
use Rattle.purpose.specs.Members.{limit}
use Rattle.text.proofs.RefusalLaws.{refuse_if_accepted, then_accepted}
use Rattle.text.specs.Refusal.{accepted}
use Rattle.text.specs.Words.{Word}
use Rattle.index.specs.declared.counts.Counts.{Counts}

-- an accepted form is no late attribute
late_none : (d : Doc) (line : List ℕ) (f : Form) (e : Doc) → check_form d line f ≡ accepted e → late_attr d.policy f ≡ false
unfolding check_form
late_none d line f e h =
    let h3 = then_accepted _ _ _ h in
    let h4 = then_accepted _ _ _ h3.2 in
    let h5 = then_accepted _ _ _ h4.2 in
    let h6 = then_accepted _ _ _ h5.2 in
    let h7 = then_accepted _ _ _ h6.2 in
    let h8 = then_accepted _ _ _ h7.2 in
    let h28 = then_accepted _ _ _ h8.2 in
    let h31 = then_accepted _ _ _ h28.2 in
    let h9 = then_accepted _ _ _ h31.2 in
    refuse_if_accepted _ _ h9.1

-- users that are none stay so, whatever the policy
users_still : (d e : Policy) {text us : List ℕ} (k : ℕ) {xs : List User} → k ≡ 0 → Users d text us k xs → Users e text us k xs
users_still d e {text} {us} k {xs} z u =
    subst (λ (m : ℕ). Users e text us m xs) (sym z) (users_none d e (subst (λ (m : ℕ). Users d text us m xs) z u))

module _ {text ps rs bs us cs gs ls ms ts ws : List ℕ} {c : Counts} {d : Doc} (I : Indexed text ps rs bs us cs gs ls ms ts ws c d) where
  no_row : Rows text ws c.rows (d.rows ++ [])
  no_row = subst (λ (r : List Row). Rows text ws c.rows r) (sym (append-nil d.rows)) I.rows

  pub grow_purpose : (n : Word) (p : Option Word) (ps' : List ℕ) → Nodes limit text ps' (c.purposes + 1) (add d (purpose n p)).policy.purposes
      → Indexed text ps' rs bs us cs gs ls ms ts ws (record { purposes = c.purposes + 1; roles = c.roles; attributes = c.attributes; users = c.users; conds = c.conds; grants = c.grants; labels = c.labels; tables = c.tables; rows = c.rows }) (add d (purpose n p))
  unfolding add define rows_given
  grow_purpose n p ps' h = record {
    purposes = h;
    roles = I.roles;
    attributes = I.attributes;
    users = users_same d.policy (define d.policy (purpose n p)) refl I.users;
    conds = conds_same d.policy (define d.policy (purpose n p)) refl I.conds;
    grants = I.grants;
    labels = I.labels;
    tables = I.tables;
    notes = I.notes;
    rows = no_row;
  }

  pub grow_role : (n : Word) (p : Option Word) (rs' : List ℕ) → Nodes 64 text rs' (c.roles + 1) (add d (role n p)).policy.roles
      → Indexed text ps rs' bs us cs gs ls ms ts ws (record { purposes = c.purposes; roles = c.roles + 1; attributes = c.attributes; users = c.users; conds = c.conds; grants = c.grants; labels = c.labels; tables = c.tables; rows = c.rows }) (add d (role n p))
  unfolding add define rows_given
  grow_role n p rs' h = record {
    purposes = I.purposes;
    roles = h;
    attributes = I.attributes;
    users = users_same d.policy (define d.policy (role n p)) refl I.users;
    conds = conds_same d.policy (define d.policy (role n p)) refl I.conds;
    grants = I.grants;
    labels = I.labels;
    tables = I.tables;
    notes = I.notes;
    rows = no_row;
  }

  pub grow_attr : (r a : Word) (k : Kind) (bs' : List ℕ) → (line : List ℕ) → check_form d line (attr r a k) ≡ accepted (add d (attr r a k)) → Attributes text bs' (c.attributes + 1) (add d (attr r a k)).policy.attributes
      → Indexed text ps rs bs' us cs gs ls ms ts ws (record { purposes = c.purposes; roles = c.roles; attributes = c.attributes + 1; users = c.users; conds = c.conds; grants = c.grants; labels = c.labels; tables = c.tables; rows = c.rows }) (add d (attr r a k))
  unfolding add define rows_given late_attr
  grow_attr r a k bs' line p h =
      let z : ltb 0 (length d.policy.users) ≡ false = late_none d line (attr r a k) _ p in
      let none_yet : c.users ≡ 0 = omega (arith, ltb-false 0 (length d.policy.users) z, users_length I.users) in
      record {
        purposes = I.purposes;
        roles = I.roles;
        attributes = h;
        users = users_still d.policy (define d.policy (attr r a k)) c.users none_yet I.users;
        conds = conds_grown d.policy (define d.policy (attr r a k)) (record { name = a.bytes; role = role_of d.policy r; kind = k } ∷ []) refl I.conds;
        grants = I.grants;
        labels = I.labels;
        tables = I.tables;
        notes = I.notes;
        rows = no_row;
      }

  pub grow_user : (u r : Word) (xs : List GivenForm) (us' : List ℕ) → Users (add d (user u r xs)).policy text us' (c.users + 1) (add d (user u r xs)).policy.users
      → Indexed text ps rs bs us' cs gs ls ms ts ws (record { purposes = c.purposes; roles = c.roles; attributes = c.attributes; users = c.users + 1; conds = c.conds; grants = c.grants; labels = c.labels; tables = c.tables; rows = c.rows }) (add d (user u r xs))
  unfolding add define rows_given
  grow_user u r xs us' h = record {
    purposes = I.purposes;
    roles = I.roles;
    attributes = I.attributes;
    users = h;
    conds = conds_same d.policy (define d.policy (user u r xs)) refl I.conds;
    grants = I.grants;
    labels = I.labels;
    tables = I.tables;
    notes = I.notes;
    rows = no_row;
  }

  pub grow_cond : (n r : Word) (x : Cond Compared) (cs' : List ℕ) → CondRoles (add d (cond_role n r x)).policy text cs' (c.conds + 1) (add d (cond_role n r x)).policy.cond_roles
      → Indexed text ps rs bs us cs' gs ls ms ts ws (record { purposes = c.purposes; roles = c.roles; attributes = c.attributes; users = c.users; conds = c.conds + 1; grants = c.grants; labels = c.labels; tables = c.tables; rows = c.rows }) (add d (cond_role n r x))
  unfolding add define rows_given
  grow_cond n r x cs' h = record {
    purposes = I.purposes;
    roles = I.roles;
    attributes = I.attributes;
    users = users_same d.policy (define d.policy (cond_role n r x)) refl I.users;
    conds = h;
    grants = I.grants;
    labels = I.labels;
    tables = I.tables;
    notes = I.notes;
    rows = no_row;
  }

  pub grow_grant : (p n : Word) (gs' : List ℕ) → Grants gs' (c.grants + 1) (add d (grant p n)).policy.grants
      → Indexed text ps rs bs us cs gs' ls ms ts ws (record { purposes = c.purposes; roles = c.roles; attributes = c.attributes; users = c.users; conds = c.conds; grants = c.grants + 1; labels = c.labels; tables = c.tables; rows = c.rows }) (add d (grant p n))
  unfolding add define rows_given
  grow_grant p n gs' h = record {
    purposes = I.purposes;
    roles = I.roles;
    attributes = I.attributes;
    users = users_same d.policy (define d.policy (grant p n)) refl I.users;
    conds = conds_same d.policy (define d.policy (grant p n)) refl I.conds;
    grants = h;
    labels = I.labels;
    tables = I.tables;
    notes = I.notes;
    rows = no_row;
  }

  pub grow_label : (l : Word) (xs ys : List Word) (ls' ms' : List ℕ) → Labels text ls' ms' (c.labels + 1) (add d (label l xs ys)).policy.labels
      → Indexed text ps rs bs us cs gs ls' ms' ts ws (record { purposes = c.purposes; roles = c.roles; attributes = c.attributes; users = c.users; conds = c.conds; grants = c.grants; labels = c.labels + 1; tables = c.tables; rows = c.rows }) (add d (label l xs ys))
  unfolding add define rows_given
  grow_label l xs ys ls' ms' h = record {
    purposes = I.purposes;
    roles = I.roles;
    attributes = I.attributes;
    users = users_same d.policy (define d.policy (label l xs ys)) refl I.users;
    conds = conds_same d.policy (define d.policy (label l xs ys)) refl I.conds;
    grants = I.grants;
    labels = h;
    tables = I.tables;
    notes = I.notes;
    rows = no_row;
  }

  pub grow_table : (t : Word) (s : Scheme Word) (xs : List ColumnForm) (ts' : List ℕ) → Tables text ts' (c.tables + 1) (add d (table t s xs)).policy.tables → Notes ts' (c.tables + 1) d.policy.notes
      → Indexed text ps rs bs us cs gs ls ms ts' ws (record { purposes = c.purposes; roles = c.roles; attributes = c.attributes; users = c.users; conds = c.conds; grants = c.grants; labels = c.labels; tables = c.tables + 1; rows = c.rows }) (add d (table t s xs))
  unfolding add define rows_given
  grow_table t s xs ts' h noted = record {
    purposes = I.purposes;
    roles = I.roles;
    attributes = I.attributes;
    users = users_same d.policy (define d.policy (table t s xs)) refl I.users;
    conds = conds_same d.policy (define d.policy (table t s xs)) refl I.conds;
    grants = I.grants;
    labels = I.labels;
    tables = h;
    notes = noted;
    rows = no_row;
  }

  pub grow_row : (t : Word) (xs : List Item) (ws' : List ℕ) → Rows text ws' (c.rows + 1) (add d (row t xs)).rows
      → Indexed text ps rs bs us cs gs ls ms ts ws' (record { purposes = c.purposes; roles = c.roles; attributes = c.attributes; users = c.users; conds = c.conds; grants = c.grants; labels = c.labels; tables = c.tables; rows = c.rows + 1 }) (add d (row t xs))
  unfolding add define rows_given
  grow_row t xs ws' h = record {
    purposes = I.purposes;
    roles = I.roles;
    attributes = I.attributes;
    users = I.users;
    conds = I.conds;
    grants = I.grants;
    labels = I.labels;
    tables = I.tables;
    notes = I.notes;
    rows = h;
  }

  -- what a line says of a table: there are as many of each kind as before
  pub grow_note : (t : Word) (n : Note Word) (ts' : List ℕ) → Tables text ts' c.tables d.policy.tables → Notes ts' c.tables (add d (note t n)).policy.notes
      → Indexed text ps rs bs us cs gs ls ms ts' ws c (add d (note t n))
  unfolding add define rows_given
  grow_note t n ts' h noted = record {
    purposes = I.purposes;
    roles = I.roles;
    attributes = I.attributes;
    users = users_same d.policy (define d.policy (note t n)) refl I.users;
    conds = conds_same d.policy (define d.policy (note t n)) refl I.conds;
    grants = I.grants;
    labels = I.labels;
    tables = h;
    notes = noted;
    rows = no_row;
  }

  -- other places hold the same rows
  pub keep_rows : (ws' : List ℕ) → Rows text ws' c.rows d.rows → Indexed text ps rs bs us cs gs ls ms ts ws' c d
  keep_rows ws' h = record {
    purposes = I.purposes;
    roles = I.roles;
    attributes = I.attributes;
    users = I.users;
    conds = I.conds;
    grants = I.grants;
    labels = I.labels;
    tables = I.tables;
    notes = I.notes;
    rows = h;
  }

  pub keep_purposes : (ps' : List ℕ) → Nodes limit text ps' c.purposes d.policy.purposes → Indexed text ps' rs bs us cs gs ls ms ts ws c d
  keep_purposes ps' h = record {
    purposes = h;
    roles = I.roles;
    attributes = I.attributes;
    users = I.users;
    conds = I.conds;
    grants = I.grants;
    labels = I.labels;
    tables = I.tables;
    notes = I.notes;
    rows = I.rows;
  }

-- how many grants and rows there are
pub grants_count : {gs : List ℕ} {k : ℕ} {xs : List Grant} → Grants gs k xs → k ≡ length xs
grants_count {gs} {k} n = sym (length_tabulated (grant_in gs) k) ∙ ap length n.are

pub rows_count : {text ws : List ℕ} {k : ℕ} {xs : List Row} → Rows text ws k xs → k ≡ length xs
rows_count {text} {ws} {k} n = sym (length_tabulated (row_in text ws) k) ∙ ap length n.are
