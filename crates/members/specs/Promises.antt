-- Contract: what functions of this crate promise, where it takes more than a line.
use Rattle.std.specs.Prelude.{◌+◌, ◌≤◌, ℕ, length, List, ◌≡◌}
use Rattle.document.specs.Check.{check_form}
use Rattle.document.specs.Invariants.{UniqueNames}
use Rattle.document.specs.Meaning.{add}
use Rattle.document.specs.Policy.{Doc}
use Rattle.form.specs.Form.{grant, user}
use Rattle.form.specs.Walks.{givens_at}
use Rattle.index.specs.Workspace.{Indexed}
use Rattle.principals.specs.Attributes.{Attributes}
use Rattle.principals.specs.CondRoles.{CondRoles}
use Rattle.principals.specs.Grants.{Grants}
use Rattle.principals.specs.Nodes.{Nodes}
use Rattle.principals.specs.Users.{Users}
use Rattle.purpose.specs.Members.{limit}
use Rattle.stepping.specs.Follows.{Follows}
use Rattle.stepping.specs.Judged.{Judges}
use Rattle.stepping.specs.Stored.{LineAt, Passes}
use Rattle.text.specs.Words.{word_of}
use Rattle.index.specs.declared.counts.Counts.{Counts}
use Rattle.std.specs.Prelude.{Result}
use Rattle.stepping.specs.declared.fault.Fault.{Fault}

-- grant_faults::grant_fault: the purpose whose name stands at p of the line, granted to the conditional role whose name stands at c, behind k grants
abbrev pub GrantFaultPromise : (text purposes : List ℕ) (purposes_count : ℕ) (conds : List ℕ) (conds_count k : ℕ) (line : List ℕ) (p c : ℕ) (r : Result (Unit {0}) Fault) → Type 0
GrantFaultPromise text purposes purposes_count conds conds_count k line p c r =
    Judges (λ d. Nodes limit text purposes purposes_count d.policy.purposes × CondRoles d.policy text conds conds_count d.policy.cond_roles × (k ≡ length d.policy.grants)) ((p ≤ length line) × (c ≤ length line)) line (grant (word_of line p) (word_of line c)) k 128 r

-- grant_storing::store_grant: stores the grant of the purpose of the name at p of the line to the conditional role of the name at c, behind k of them
abbrev pub StoreGrantPromise : (text purposes : List ℕ) (purposes_count : ℕ) (conds : List ℕ) (conds_count : ℕ) (grants grants' : List ℕ) (k : ℕ) (line : List ℕ) (p c : ℕ) → Type 0
StoreGrantPromise text purposes purposes_count conds conds_count grants grants' k line p c =
    (d : Doc) → Nodes limit text purposes purposes_count d.policy.purposes → CondRoles d.policy text conds conds_count d.policy.cond_roles →
    Grants grants k d.policy.grants → Passes d line (grant (word_of line p) (word_of line c)) →
    Grants grants' (k + 1) (add d (grant (word_of line p) (word_of line c))).policy.grants

-- steps::step_user: a user form: the user at u has the role at r, with the values from gs on
abbrev pub StepUserPromise : (text : List ℕ) (at : ℕ) (line roles attributes users users' : List ℕ) (c : Counts) (u r gs : ℕ) (s : Result Counts Fault) → Type 0
StepUserPromise text at line roles attributes users users' c u r gs s =
    (d : Doc) (ps' cs' gs' ls' ms' ts' ws' : List ℕ) → LineAt text at line → ((u ≤ length line) × (r ≤ length line) × (gs ≤ length line)) →
    Indexed text ps' roles attributes users cs' gs' ls' ms' ts' ws' c d → UniqueNames d.policy →
    Follows (Indexed text ps' roles attributes users' cs' gs' ls' ms' ts' ws') line (check_form d line (user (word_of line u) (word_of line r) (givens_at line gs))) s

-- steps::step_grant: a grant of the purpose at p to the conditional role at h
abbrev pub StepGrantPromise : (text : List ℕ) (at : ℕ) (line purposes conds grants grants' : List ℕ) (c : Counts) (p h : ℕ) (s : Result Counts Fault) → Type 0
StepGrantPromise text at line purposes conds grants grants' c p h s =
    (d : Doc) (rs' bs' us' ls' ms' ts' ws' : List ℕ) → LineAt text at line → ((p ≤ length line) × (h ≤ length line)) →
    Indexed text purposes rs' bs' us' conds grants ls' ms' ts' ws' c d →
    Follows (Indexed text purposes rs' bs' us' conds grants' ls' ms' ts' ws') line (check_form d line (grant (word_of line p) (word_of line h))) s

-- user_faults::user_fault: the fault of a user line: the name stands at u, the role at r, and the values from gs on
abbrev pub UserFaultPromise : (text roles : List ℕ) (rcount : ℕ) (attributes : List ℕ) (acount : ℕ) (users : List ℕ) (k : ℕ) (line : List ℕ) (u r gs : ℕ) (f : Result (Unit {0}) Fault) → Type 0
UserFaultPromise text roles rcount attributes acount users k line u r gs f =
    Judges (λ d. Nodes 64 text roles rcount d.policy.roles × Attributes text attributes acount d.policy.attributes × Users d.policy text users k d.policy.users × UniqueNames d.policy) ((u ≤ length line) × (r ≤ length line) × (gs ≤ length line)) line (user (word_of line u) (word_of line r) (givens_at line gs)) k 256 f

-- user_storing::store_user: stores the user of the name at u of the line, behind k of them, in the role of the name at r, with the values from gs on
abbrev pub StoreUserPromise : (text roles : List ℕ) (roles_count : ℕ) (users users' : List ℕ) (k at : ℕ) (line : List ℕ) (u r gs : ℕ) → Type 0
StoreUserPromise text roles roles_count users users' k at line u r gs =
    (d : Doc) → LineAt text at line → Nodes 64 text roles roles_count d.policy.roles → Users d.policy text users k d.policy.users →
    Passes d line (user (word_of line u) (word_of line r) (givens_at line gs)) → u ≤ length line →
    Users (add d (user (word_of line u) (word_of line r) (givens_at line gs))).policy text users' (k + 1) (add d (user (word_of line u) (word_of line r) (givens_at line gs))).policy.users
