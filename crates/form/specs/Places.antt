-- Contract: what the code's answer for a line stands for: the positions of the line's words and lists, decoded back into its form. The
-- contract of read_line says that this is the form that the line is, and that every position lies in the line.
use Rattle.std.specs.Prelude.{◌≤◌, ℕ, length, List, ◌≡◌}
use Rattle.std.proofs.Math.Option.{Option, map, none, some}
use Rattle.condition.specs.Answers.{kind_of}
use Rattle.condition.specs.CondForm.{condition_in_form}
use Rattle.form.specs.Form.{Form, attr, cond_role, grant, label, note, public, purpose, role, row, strong, user, weak}
use Rattle.form.specs.FormReader.{form_of}
use Rattle.form.specs.TableWords.{table_line}
use Rattle.form.specs.Walks.{deny_place, givens_at, items_at, names_at}
use Rattle.text.specs.Reader.{from}
use Rattle.text.specs.Words.{word_of}
use Rattle.std.specs.Prelude as prelude
use Rattle.std.specs.Prelude.{None, Some}
use Rattle.form.specs.declared.lines.Line.{Line}
use Rattle.form.specs.declared.lines.Line.TheVariants as line

-- the form that a line of the code stands for
unfoldable pub line_at : List ℕ → Line → Option Form
line_at s (line.Purpose n) = some (purpose (word_of s n) none)
line_at s (line.PurposeBelow n p) = some (purpose (word_of s n) (some (word_of s p)))
line_at s (line.Role n) = some (role (word_of s n) none)
line_at s (line.RoleBelow n p) = some (role (word_of s n) (some (word_of s p)))
line_at s (line.Attr r a k) = some (attr (word_of s r) (word_of s a) (kind_of k))
line_at s (line.User u r gs) = some (user (word_of s u) (word_of s r) (givens_at s gs))
line_at s (line.CondRole c r t) = map (λ x. cond_role (word_of s c) (word_of s r) x.0) (condition_in_form (from s t))
line_at s (line.Grant p c) = some (grant (word_of s p) (word_of s c))
line_at s (line.Label l ps qs) = some (label (word_of s l) (names_at s ps) (names_at s qs))
line_at s (line.Table t k l cs) = some (table_line s t k l cs)
line_at s (line.Row t is) = some (row (word_of s t) (items_at s is))
line_at s (line.Public t) = some (note (word_of s t) public)
line_at s (line.Weak t l) = some (note (word_of s t) (weak (word_of s l)))
line_at s (line.Strong t l) = some (note (word_of s t) (strong (word_of s l)))

-- the places of the answer lie in the line, and the purposes that a label denies stand where they are found from its name on
unfoldable pub Within : List ℕ → Line → Type 0
Within s (line.Purpose n) = n ≤ length s
Within s (line.PurposeBelow n p) = (n ≤ length s) × (p ≤ length s)
Within s (line.Role n) = n ≤ length s
Within s (line.RoleBelow n p) = (n ≤ length s) × (p ≤ length s)
Within s (line.Attr r a k) = (r ≤ length s) × (a ≤ length s)
Within s (line.User u r gs) = (u ≤ length s) × (r ≤ length s) × (gs ≤ length s)
Within s (line.CondRole c r t) = (c ≤ length s) × (r ≤ length s) × (t ≤ length s)
Within s (line.Grant p c) = (p ≤ length s) × (c ≤ length s)
Within s (line.Label l ps qs) = (l ≤ length s) × (ps ≤ length s) × (qs ≤ length s) × (names_at s qs ≡ names_at s (deny_place s l))
Within s (line.Table t k l cs) = (t ≤ length s) × (l ≤ length s) × (cs ≤ length s)
Within s (line.Row t is) = (t ≤ length s) × (is ≤ length s)
Within s (line.Public t) = t ≤ length s
Within s (line.Weak t l) = (t ≤ length s) × (l ≤ length s)
Within s (line.Strong t l) = (t ≤ length s) × (l ≤ length s)

-- the form that the code's answer stands for, where it found one
unfoldable pub line_found : List ℕ → prelude.Option Line → Option Form
line_found s None = none
line_found s (Some l) = line_at s l

-- the places of the line that it found lie in the line
unfoldable pub FoundWithin : List ℕ → prelude.Option Line → Type 0
FoundWithin s None = Unit {0}
FoundWithin s (Some l) = Within s l

-- THE LINE: the code's answer r stands for the form that the line is, and its places lie in the line
pub record Reads (s : List ℕ) (r : prelude.Option Line) : Type 0 where
  pub is : form_of s ≡ line_found s r
  pub within : FoundWithin s r
