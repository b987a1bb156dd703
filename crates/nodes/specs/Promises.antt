-- Contract: what functions of this crate promise, where it takes more than a line.
use Rattle.std.specs.Prelude.{◌+◌, ◌≤◌, ℕ, length, List}
use Rattle.std.proofs.Math.Option.{none, some}
use Rattle.document.specs.Check.{check_form}
use Rattle.document.specs.Meaning.{add}
use Rattle.document.specs.Policy.{Doc}
use Rattle.form.specs.Form.{purpose, role}
use Rattle.index.specs.Workspace.{Indexed}
use Rattle.principals.specs.Nodes.{Nodes}
use Rattle.purpose.specs.Members.{limit}
use Rattle.stepping.specs.Follows.{Follows}
use Rattle.stepping.specs.Stored.{LineAt, Passes}
use Rattle.text.specs.Words.{word_of}
use Rattle.index.specs.declared.counts.Counts.{Counts}
use Rattle.std.specs.Prelude.{Result}
use Rattle.stepping.specs.declared.fault.Fault.{Fault}

-- steps::step_purpose_root: a root purpose, whose name stands at n
abbrev pub StepPurposeRootPromise : (text : List ℕ) (at : ℕ) (line purposes purposes' : List ℕ) (c : Counts) (n : ℕ) (s : Result Counts Fault) → Type 0
StepPurposeRootPromise text at line purposes purposes' c n s =
    (d : Doc) (rs' bs' us' cs' gs' ls' ms' ts' ws' : List ℕ) → LineAt text at line → (n ≤ length line) →
    Indexed text purposes rs' bs' us' cs' gs' ls' ms' ts' ws' c d →
    Follows (Indexed text purposes' rs' bs' us' cs' gs' ls' ms' ts' ws') line (check_form d line (purpose (word_of line n) none)) s

-- steps::step_purpose_below: a purpose below the one whose name stands at p
abbrev pub StepPurposeBelowPromise : (text : List ℕ) (at : ℕ) (line purposes purposes' : List ℕ) (c : Counts) (n p : ℕ) (s : Result Counts Fault) → Type 0
StepPurposeBelowPromise text at line purposes purposes' c n p s =
    (d : Doc) (rs' bs' us' cs' gs' ls' ms' ts' ws' : List ℕ) → LineAt text at line → ((n ≤ length line) × (p ≤ length line)) →
    Indexed text purposes rs' bs' us' cs' gs' ls' ms' ts' ws' c d →
    Follows (Indexed text purposes' rs' bs' us' cs' gs' ls' ms' ts' ws') line (check_form d line (purpose (word_of line n) (some (word_of line p)))) s

-- steps::step_role_root: a root role, whose name stands at n
abbrev pub StepRoleRootPromise : (text : List ℕ) (at : ℕ) (line roles roles' : List ℕ) (c : Counts) (n : ℕ) (s : Result Counts Fault) → Type 0
StepRoleRootPromise text at line roles roles' c n s =
    (d : Doc) (ps' bs' us' cs' gs' ls' ms' ts' ws' : List ℕ) → LineAt text at line → (n ≤ length line) →
    Indexed text ps' roles bs' us' cs' gs' ls' ms' ts' ws' c d →
    Follows (Indexed text ps' roles' bs' us' cs' gs' ls' ms' ts' ws') line (check_form d line (role (word_of line n) none)) s

-- steps::step_role_below: a role below the one whose name stands at p
abbrev pub StepRoleBelowPromise : (text : List ℕ) (at : ℕ) (line roles roles' : List ℕ) (c : Counts) (n p : ℕ) (s : Result Counts Fault) → Type 0
StepRoleBelowPromise text at line roles roles' c n p s =
    (d : Doc) (ps' bs' us' cs' gs' ls' ms' ts' ws' : List ℕ) → LineAt text at line → ((n ≤ length line) × (p ≤ length line)) →
    Indexed text ps' roles bs' us' cs' gs' ls' ms' ts' ws' c d →
    Follows (Indexed text ps' roles' bs' us' cs' gs' ls' ms' ts' ws') line (check_form d line (role (word_of line n) (some (word_of line p)))) s

-- storing::store_purpose_root: stores the purpose of the name at n of the line, behind k of them: the root, whose parent is its own number
abbrev pub StorePurposeRootPromise : (text purposes purposes' : List ℕ) (k at : ℕ) (line : List ℕ) (n : ℕ) → Type 0
StorePurposeRootPromise text purposes purposes' k at line n =
    (d : Doc) → LineAt text at line → Nodes limit text purposes k d.policy.purposes → Passes d line (purpose (word_of line n) none) →
    n ≤ length line → Nodes limit text purposes' (k + 1) (add d (purpose (word_of line n) none)).policy.purposes

-- storing::store_purpose_below: stores the purpose of the name at n of the line, below that of the name at p
abbrev pub StorePurposeBelowPromise : (text purposes purposes' : List ℕ) (k at : ℕ) (line : List ℕ) (n p : ℕ) → Type 0
StorePurposeBelowPromise text purposes purposes' k at line n p =
    (d : Doc) → LineAt text at line → Nodes limit text purposes k d.policy.purposes →
    Passes d line (purpose (word_of line n) (some (word_of line p))) → n ≤ length line →
    Nodes limit text purposes' (k + 1) (add d (purpose (word_of line n) (some (word_of line p)))).policy.purposes

-- storing::store_role_below: stores the role of the name at n of the line, below that of the name at p
abbrev pub StoreRoleBelowPromise : (text roles roles' : List ℕ) (k at : ℕ) (line : List ℕ) (n p : ℕ) → Type 0
StoreRoleBelowPromise text roles roles' k at line n p =
    (d : Doc) → LineAt text at line → Nodes 64 text roles k d.policy.roles → Passes d line (role (word_of line n) (some (word_of line p))) →
    n ≤ length line → Nodes 64 text roles' (k + 1) (add d (role (word_of line n) (some (word_of line p)))).policy.roles
