-- Contract: what functions of this crate promise, where it takes more than a line.
use Rattle.std.specs.Prelude.{◌+◌, ◌<◌, ◌≤◌, ℕ, get_or, length, take, true, List, map, ◌≡◌}
use Rattle.std.proofs.Math.Option
use Rattle.attributes.specs.CondLine.{JudgesCond}
use Rattle.condition.specs.Answers.{compared_at, kind_of}
use Rattle.condition.specs.CondForm.{condition_in_form, mistyped}
use Rattle.document.specs.Check.{check_form, check_line}
use Rattle.document.specs.Lookup.{attribute_kind}
use Rattle.document.specs.Meaning.{add}
use Rattle.document.specs.NameFaults.{usable_for}
use Rattle.document.specs.Policy.{Doc, Policy}
use Rattle.form.specs.Form.{attr, cond_role}
use Rattle.form.specs.FormReader.{form_of}
use Rattle.index.specs.Workspace.{Indexed}
use Rattle.lists.specs.Lists.{there}
use Rattle.principals.specs.Attributes.{Attributes}
use Rattle.principals.specs.CondRoles.{CondRoles, condition_read}
use Rattle.principals.specs.Nodes.{Nodes}
use Rattle.stepping.specs.Follows.{Follows}
use Rattle.stepping.specs.Judged.{Judges}
use Rattle.stepping.specs.Places.{Near}
use Rattle.stepping.specs.Stored.{LineAt, Passes}
use Rattle.text.specs.CodeEnds.{offending_of, offending_value}
use Rattle.text.specs.Offending.{leftmost, missing}
use Rattle.text.specs.Reader.{from}
use Rattle.text.specs.Walking.{next_word}
use Rattle.text.specs.Words.{word_of}
use Rattle.condition.specs.declared.kinds.Kind as kinds
use Rattle.index.specs.declared.counts.Counts.{Counts}
use Rattle.std.specs.Prelude.{Option, Result}
use Rattle.stepping.specs.declared.fault.Fault.{Fault}

-- attr_faults::attr_fault: the attribute whose name stands at a of the line, at the role whose name stands at r, behind k attributes
abbrev pub AttrFaultPromise : (text roles : List ℕ) (roles_count : ℕ) (attributes : List ℕ) (k users_count : ℕ) (line : List ℕ) (r a : ℕ) (kind : kinds.Kind) (f : Result (Unit {0}) Fault) → Type 0
AttrFaultPromise text roles roles_count attributes k users_count line r a kind f =
    Judges (λ d. Nodes 64 text roles roles_count d.policy.roles × Attributes text attributes k d.policy.attributes × (users_count ≡ length d.policy.users)) ((r ≤ length line) × (a ≤ length line)) line (attr (word_of line r) (word_of line a) (kind_of kind)) k 32 f

-- attr_storing::store_attr: stores the attribute of the name at a of the line, behind k of them, at the role of the name at r
abbrev pub StoreAttrPromise : (text roles : List ℕ) (roles_count : ℕ) (attributes attributes' : List ℕ) (k at : ℕ) (line : List ℕ) (r a : ℕ) (kind : kinds.Kind) → Type 0
StoreAttrPromise text roles roles_count attributes attributes' k at line r a kind =
    (d : Doc) → LineAt text at line → Nodes 64 text roles roles_count d.policy.roles → Attributes text attributes k d.policy.attributes →
    Passes d line (attr (word_of line r) (word_of line a) (kind_of kind)) → a ≤ length line →
    Attributes text attributes' (k + 1) (add d (attr (word_of line r) (word_of line a) (kind_of kind))).policy.attributes

-- cond_faults::first_unusable: the first of the comparisons' attributes that is not usable
abbrev pub FirstUnusablePromise : (text roles : List ℕ) (m : ℕ) (attributes : List ℕ) (n : ℕ) (line : List ℕ) (role : ℕ) (ops : List ℕ) (count : ℕ) (f : Option ℕ) → Type 0
FirstUnusablePromise text roles m attributes n line role ops count f =
    ((d : Policy) → Nodes 64 text roles m d.roles → Attributes text attributes n d.attributes → offending_of line f ≡ missing (usable_for d role) (map (λ p. word_of line (next_word line p)) (take count ops))) × (((i : ℕ) → i < count → get_or ops i 0 ≤ length line) → Near line f)

-- cond_faults::first_mistyped: the first operator or value of the comparisons that is of the wrong type
abbrev pub FirstMistypedPromise : (text attributes : List ℕ) (n : ℕ) (line ops : List ℕ) (count : ℕ) (f : Option ℕ) → Type 0
FirstMistypedPromise text attributes n line ops count f =
    ((d : Policy) → Attributes text attributes n d.attributes → offending_value line f ≡ leftmost (map (λ p. mistyped (attribute_kind d (word_of line (next_word line p))) (compared_at line p)) (take count ops))) × (((i : ℕ) → i < count → get_or ops i 0 ≤ length line) → Near line f)

-- cond_faults::cond_role_fault: what is wrong with the line `(cond-role C ROLE cond)`
abbrev pub CondRoleFaultPromise : (text roles : List ℕ) (m : ℕ) (attributes : List ℕ) (n : ℕ) (conds : List ℕ) (k : ℕ) (line : List ℕ) (c r t : ℕ) (f : Result (Unit {0}) Fault) → Type 0
CondRoleFaultPromise text roles m attributes n conds k line c r t f =
    JudgesCond (λ (d : Doc). Nodes 64 text roles m d.policy.roles × Attributes text attributes n d.policy.attributes × CondRoles d.policy text conds k d.policy.cond_roles) ((c ≤ length line) × (r ≤ length line) × (t ≤ length line)) line c r t k f

-- cond_storing::store_cond_role: stores the conditional role of the name at c of the line, behind k of them, over the role of the name at r, with the condition at t
abbrev pub StoreCondRolePromise : (text roles : List ℕ) (roles_count : ℕ) (conds conds' : List ℕ) (k at : ℕ) (line : List ℕ) (c r t : ℕ) → Type 0
StoreCondRolePromise text roles roles_count conds conds' k at line c r t =
    (d : Doc) → LineAt text at line → Nodes 64 text roles roles_count d.policy.roles → CondRoles d.policy text conds k d.policy.cond_roles →
    Passes d line (cond_role (word_of line c) (word_of line r) (condition_read (condition_in_form (from line t)))) →
    there (condition_in_form (from line t)) ≡ true → c ≤ length line →
    CondRoles (add d (cond_role (word_of line c) (word_of line r) (condition_read (condition_in_form (from line t))))).policy text conds' (k + 1) (add d (cond_role (word_of line c) (word_of line r) (condition_read (condition_in_form (from line t))))).policy.cond_roles

-- steps::step_attr: an attribute, whose name stands at a, at the role whose name stands at r
abbrev pub StepAttrPromise : (text : List ℕ) (at : ℕ) (line roles attributes attributes' : List ℕ) (c : Counts) (r a : ℕ) (kind : kinds.Kind) (s : Result Counts Fault) → Type 0
StepAttrPromise text at line roles attributes attributes' c r a kind s =
    (d : Doc) (ps' us' cs' gs' ls' ms' ts' ws' : List ℕ) → LineAt text at line → ((r ≤ length line) × (a ≤ length line)) →
    Indexed text ps' roles attributes us' cs' gs' ls' ms' ts' ws' c d →
    Follows (Indexed text ps' roles attributes' us' cs' gs' ls' ms' ts' ws') line (check_form d line (attr (word_of line r) (word_of line a) (kind_of kind))) s

-- steps::step_cond: a conditional role, whose name stands at n, over the role at r, with the condition at t
abbrev pub StepCondPromise : (text : List ℕ) (at : ℕ) (line roles attributes conds conds' : List ℕ) (c : Counts) (n r t : ℕ) (s : Result Counts Fault) → Type 0
StepCondPromise text at line roles attributes conds conds' c n r t s =
    (d : Doc) (ps' us' gs' ls' ms' ts' ws' : List ℕ) →
    form_of line ≡ Option.map (λ x. cond_role (word_of line n) (word_of line r) x.0) (condition_in_form (from line t)) → LineAt text at line →
    ((n ≤ length line) × (r ≤ length line) × (t ≤ length line)) → Indexed text ps' roles attributes us' conds gs' ls' ms' ts' ws' c d →
    Follows (Indexed text ps' roles attributes us' conds' gs' ls' ms' ts' ws') line (check_line d line) s
