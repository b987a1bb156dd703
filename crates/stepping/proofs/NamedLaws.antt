-- What the stores of a purpose, a role, an attribute, a user, a conditional role or a grant leave is what its line adds. Each law takes
-- what the store promises, `more`, as a hypothesis. Assumes nothing.
use Prim.Native.Nat.{◌+◌, ◌<◌, ◌≤◌, ℕ}
use borrow.Author.Tests.{leb-false}
use lib.ListN.{length}
use mathlib.Core.Bool.{Bool, true, true≢false}
use mathlib.Core.List.{List, [], ◌++◌, ◌∷◌, map}
use mathlib.Core.Option.{Option, get_or, bind, none, some}
use mathlib.Core.Path.{◌∙◌, ◌≡◌, ap, refl, subst, sym}
use native.Mathlib.Omega.{arith}
use Rattle.condition.specs.Cond.{comparisons, map_cond}
use Rattle.condition.specs.CondForm.{Compared, condition_in_form}
use Rattle.condition.specs.Kinds.{Kind}
use Rattle.document.specs.Bounds.{over_bound}
use Rattle.document.specs.Lookup.{attribute_named, attribute_of, cond_role_of, purpose_of, role_of}
use Rattle.document.specs.Meaning.{add, attribute_comparison, define, given_of, node_of}
use Rattle.document.specs.NameFaults.{unknown, usable_for}
use Rattle.document.specs.Policy.{Attribute, CondRole, Doc, Grant, Node, User}
use Rattle.form.specs.Form.{attr, cond_role, grant, purpose, role, user}
use Rattle.form.specs.Walks.{givens_at}
use Rattle.workspace.proofs.TabulatedLaws.{length_tabulated}
use Rattle.principals.proofs.IndexLaws.{attributes_length, conds_length, conds_same, nodes_length, users_length, users_same}
use Rattle.workspace.specs.Hash.{hash_of, print_of}
use Rattle.principals.specs.Attributes.{Attributes}
use Rattle.workspace.specs.Cells.{line_in}
use Rattle.principals.specs.CondRoles.{CondRoles, attributes_known, condition_in_line, condition_read, condition_reads}
use Rattle.principals.specs.Grants.{Grants, grant_in}
use Rattle.principals.specs.Nodes.{Nodes}
use Rattle.principals.specs.Users.{Users}
use Rattle.lists.proofs.ListLaws.{all_map, there_some}
use Rattle.lists.proofs.Tests.{and_left, neither_left}
use Rattle.lists.specs.Lists.{all_of, holds_of, listed, or_zero, there}
use Rattle.purpose.specs.Members.{limit}
use Rattle.stepping.proofs.PassLaws.{Passed, passed}
use Rattle.stepping.proofs.PlaceLaws.{line_placed, word_placed}
use Rattle.stepping.specs.Stored.{LineAt, Passes}
use Rattle.text.proofs.OffendingLaws.{leftmost_head, leftmost_tail, missing_mono, missing_none, unless_none}
use Rattle.text.specs.Offending.{missing}
use Rattle.text.specs.Reader.{from}
use Rattle.text.specs.Words.{Word, word_at, word_of}

-- the number of a known name, whatever stands for an unknown one
known_else : (o : Option ℕ) (m : ℕ) → there o ≡ true → get_or o m ≡ or_zero o
unfolding or_zero there
known_else none m h = absurd (true≢false (sym h))
known_else (some n) m h = refl

-- what is looked up and passes is there
holds_there : {A : Type 0} (f : A → Bool) (g : ℕ → Option A) (o : Option ℕ) → holds_of f (bind o g) ≡ true → there o ≡ true
unfolding holds_of bind there
holds_there f g none x = x
holds_there f g (some i) x = refl

-- ---- purposes and roles

-- the parent of a line that names it
pub purpose_parent : (d : Doc) (line : List ℕ) (n w : Word) → Passes d line (purpose n (some w)) → or_zero (purpose_of d.policy w) ≡ get_or (bind (some w) (purpose_of d.policy)) (length d.policy.purposes)
unfolding unknown listed all_of bind purpose_of
purpose_parent d line n w ok =
    sym (known_else (purpose_of d.policy w) (length d.policy.purposes) (and_left _ _ (missing_none (λ (v : Word). there (purpose_of d.policy v)) (w ∷ []) (passed d line (purpose n (some w)) ok).knows)))

pub role_parent : (d : Doc) (line : List ℕ) (n w : Word) → Passes d line (role n (some w)) → or_zero (role_of d.policy w) ≡ get_or (bind (some w) (role_of d.policy)) (length d.policy.roles)
unfolding unknown listed all_of bind role_of
role_parent d line n w ok =
    sym (known_else (role_of d.policy w) (length d.policy.roles) (and_left _ _ (missing_none (λ (v : Word). there (role_of d.policy v)) (w ∷ []) (passed d line (role n (some w)) ok).knows)))

module _ {text : List ℕ} {at : ℕ} {line : List ℕ} (l : LineAt text at line) (d : Doc) (n pos : ℕ) (h : n ≤ length line) (e : at + n ≤ length text → pos ≡ at + n) where
  -- the hash and the print of the name, in the line and in the text
  pub hash_placed : (x : ℕ) → x ≡ hash_of (word_at line n) → x ≡ hash_of (word_at text pos)
  hash_placed x q = q ∙ ap hash_of (sym (word_placed l n pos h e))

  pub print_placed : (x : ℕ) → x ≡ print_of (word_at line n) → x ≡ print_of (word_at text pos)
  print_placed x q = q ∙ ap print_of (sym (word_placed l n pos h e))

  pub purpose_stored : {ws ws' : List ℕ} {k : ℕ} (parent : ℕ) (p : Option Word) → Nodes limit text ws k d.policy.purposes → Passes d line (purpose (word_of line n) p)
      → parent ≡ get_or (bind p (purpose_of d.policy)) (length d.policy.purposes)
      → ((k < limit) → Nodes limit text ws' (k + 1) (d.policy.purposes ++ (record { name = word_at text pos; parent = parent } ∷ [])))
      → Nodes limit text ws' (k + 1) (add d (purpose (word_of line n) p)).policy.purposes
  unfolding add define node_of over_bound
  purpose_stored {ws} {ws'} {k} parent p N ok q more =
      let room : length d.policy.purposes < limit = leb-false limit _ (passed d line (purpose (word_of line n) p) ok).room in
      subst (λ (x : Node). Nodes limit text ws' (k + 1) (d.policy.purposes ++ (x ∷ []))) (λ j. record { name = word_placed l n pos h e j; parent = q j })
      (more (subst (λ (m : ℕ). m < limit) (nodes_length N) room))

  pub role_stored : {ws ws' : List ℕ} {k : ℕ} (parent : ℕ) (p : Option Word) → Nodes 64 text ws k d.policy.roles → Passes d line (role (word_of line n) p)
      → parent ≡ get_or (bind p (role_of d.policy)) (length d.policy.roles)
      → ((k < 64) → Nodes 64 text ws' (k + 1) (d.policy.roles ++ (record { name = word_at text pos; parent = parent } ∷ [])))
      → Nodes 64 text ws' (k + 1) (add d (role (word_of line n) p)).policy.roles
  unfolding add define node_of over_bound
  role_stored {ws} {ws'} {k} parent p N ok q more =
      let room : length d.policy.roles < 64 = leb-false 64 _ (passed d line (role (word_of line n) p) ok).room in
      subst (λ (x : Node). Nodes 64 text ws' (k + 1) (d.policy.roles ++ (x ∷ []))) (λ j. record { name = word_placed l n pos h e j; parent = q j })
      (more (subst (λ (m : ℕ). m < 64) (nodes_length N) room))

  -- ---- attributes, users, conditional roles

  pub attr_stored : {ws ws' : List ℕ} {k : ℕ} (r : Word) (number : ℕ) (kind : Kind) → Attributes text ws k d.policy.attributes → Passes d line (attr r (word_of line n) kind)
      → number ≡ or_zero (role_of d.policy r)
      → ((k < 32) → Attributes text ws' (k + 1) (d.policy.attributes ++ (record { name = word_at text pos; role = some number; kind = kind } ∷ [])))
      → Attributes text ws' (k + 1) (add d (attr r (word_of line n) kind)).policy.attributes
  unfolding add define over_bound unknown
  attr_stored {ws} {ws'} {k} r number kind N ok q more =
      let p : Passed d (attr r (word_of line n) kind) = passed d line (attr r (word_of line n) kind) ok in
      let room : length d.policy.attributes < 3 + 32 = leb-false (3 + 32) _ p.room in
      let is : some number ≡ role_of d.policy r = ap some q ∙ sym (there_some (role_of d.policy r) (unless_none _ r p.knows)) in
      subst (λ (x : Attribute). Attributes text ws' (k + 1) (d.policy.attributes ++ (x ∷ []))) (λ j. record { name = word_placed l n pos h e j; role = is j; kind = kind })
      (more (omega (arith, room, attributes_length N)))

  pub user_stored : {ws ws' : List ℕ} {k : ℕ} (r : Word) (gs number end : ℕ) → Users d.policy text ws k d.policy.users → Passes d line (user (word_of line n) r (givens_at line gs))
      → number ≡ or_zero (role_of d.policy r) → (at + length line ≤ length text → end ≡ at + length line)
      → ((k < 256) → Users d.policy text ws' (k + 1) (d.policy.users ++ (record { name = word_at text pos; role = number; values = map (given_of d.policy) (givens_at (line_in text at end) gs) } ∷ [])))
      → Users (add d (user (word_of line n) r (givens_at line gs))).policy text ws' (k + 1) (add d (user (word_of line n) r (givens_at line gs))).policy.users
  unfolding add define over_bound
  user_stored {ws} {ws'} {k} r gs number end N ok q f more =
      let room : length d.policy.users < 256 = leb-false 256 _ (passed d line (user (word_of line n) r (givens_at line gs)) ok).room in
      users_same d.policy (add d (user (word_of line n) r (givens_at line gs))).policy refl
      (subst (λ (x : User). Users d.policy text ws' (k + 1) (d.policy.users ++ (x ∷ [])))
      (λ j. record { name = word_placed l n pos h e j; role = q j; values = map (given_of d.policy) (givens_at (line_placed l end f j) gs) })
      (more (subst (λ (m : ℕ). m < 256) (users_length N) room)))

  pub cond_stored : {ws ws' : List ℕ} {k : ℕ} (r : Word) (t number end : ℕ) → CondRoles d.policy text ws k d.policy.cond_roles → Passes d line (cond_role (word_of line n) r (condition_read (condition_in_form (from line t))))
      → number ≡ or_zero (role_of d.policy r) → (at + length line ≤ length text → end ≡ at + length line) → there (condition_in_form (from line t)) ≡ true
      → ((k < 64) → attributes_known d.policy (condition_in_line text at end t) ≡ true → condition_reads text at end t ≡ true → CondRoles d.policy text ws' (k + 1) (d.policy.cond_roles ++ (record { name = word_at text pos; role = number; condition = map_cond (attribute_comparison d.policy) (condition_in_line text at end t) } ∷ [])))
      → CondRoles (add d (cond_role (word_of line n) r (condition_read (condition_in_form (from line t))))).policy text ws' (k + 1) (add d (cond_role (word_of line n) r (condition_read (condition_in_form (from line t))))).policy.cond_roles
  unfolding add define over_bound unknown
  cond_stored {ws} {ws'} {k} r t number end N ok q f read more =
      let p : Passed d (cond_role (word_of line n) r (condition_read (condition_in_form (from line t)))) = passed d line _ ok in
      let room : length d.policy.cond_roles < 64 = leb-false 64 _ (neither_left _ _ p.room) in
      conds_same d.policy (add d (cond_role (word_of line n) r (condition_read (condition_in_form (from line t))))).policy refl
      (subst (λ (x : CondRole). CondRoles d.policy text ws' (k + 1) (d.policy.cond_roles ++ (x ∷ [])))
      (λ j. record { name = word_placed l n pos h e j; role = q j; condition = map_cond (attribute_comparison d.policy) (same j) })
      (more (subst (λ (m : ℕ). m < 64) (conds_length N) room) (ap (attributes_known d.policy) same ∙ compared (leftmost_head _ _ (leftmost_tail _ _ p.knows))) (reads ∙ read)))
    where
      reads : condition_reads text at end t ≡ there (condition_in_form (from line t))
      reads = unfold condition_reads in ap (λ s. there (condition_in_form (from s t))) (line_placed l end f)

      same : condition_in_line text at end t ≡ condition_read (condition_in_form (from line t))
      same = unfold condition_in_line in ap (λ s. condition_read (condition_in_form (from s t))) (line_placed l end f)

      usable : (m : ℕ) (w : Word) → usable_for d.policy m w ≡ true → there (attribute_of d.policy w) ≡ true
      usable m w = unfold usable_for attribute_named in holds_there _ _ (attribute_of d.policy w)

      compared : missing (usable_for d.policy (or_zero (role_of d.policy r))) (map (λ (x : Compared). x.of) (comparisons (condition_read (condition_in_form (from line t))))) ≡ none → attributes_known d.policy (condition_read (condition_in_form (from line t))) ≡ true
      compared x = unfold attributes_known in
          sym (all_map (λ (w : Word). there (attribute_of d.policy w)) (λ (x : Compared). x.of) (comparisons (condition_read (condition_in_form (from line t)))))
          ∙ missing_none _ _ (missing_mono _ _ (usable (or_zero (role_of d.policy r))) _ x)

-- ---- grants

grants_length : {ws : List ℕ} {k : ℕ} {gs : List Grant} → Grants ws k gs → length gs ≡ k
grants_length {ws} {k} N = ap length (sym N.are) ∙ length_tabulated (grant_in ws) k

pub grant_stored : {ws ws' : List ℕ} {k : ℕ} (line : List ℕ) (d : Doc) (p c : Word) (granted holder : ℕ) → Grants ws k d.policy.grants → Passes d line (grant p c)
    → granted ≡ or_zero (purpose_of d.policy p) → holder ≡ or_zero (cond_role_of d.policy c)
    → ((k < 128) → Grants ws' (k + 1) (d.policy.grants ++ (record { purpose = granted; cond_role = holder } ∷ [])))
    → Grants ws' (k + 1) (add d (grant p c)).policy.grants
unfolding add define over_bound
grant_stored {ws} {ws'} {k} line d p c granted holder N ok q f more =
    let room : length d.policy.grants < 128 = leb-false 128 _ (passed d line (grant p c) ok).room in
    subst (λ (x : Grant). Grants ws' (k + 1) (d.policy.grants ++ (x ∷ []))) (λ j. record { purpose = q j; cond_role = f j })
    (more (subst (λ (m : ℕ). m < 128) (grants_length N) room))
