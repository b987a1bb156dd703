-- Contract: A purpose line below another that is taken in one walk: it is that form, the check finds nothing wrong, and the purpose stands in the
-- workspace.
use Rattle.std.specs.Prelude.{◌+◌, ◌≤◌, ℕ, eqb, get_or, length, Bool, ◌&&◌, false, true, List, ◌≡◌}
use Rattle.std.proofs.Math.Option.{none, some}
use Rattle.document.specs.Meaning.{add}
use Rattle.document.specs.Policy.{Doc, Node}
use Rattle.form.specs.Form.{Form, purpose}
use Rattle.form.specs.FormReader.{form_of}
use Rattle.workspace.specs.Hash.{hash_of}
use Rattle.principals.specs.Nodes.{Nodes}
use Rattle.lists.specs.Lists.{find_index}
use Rattle.purpose.specs.Members.{limit}
use Rattle.stepping.specs.Stored.{Passes}
use Rattle.text.specs.Bytes.{ascii}
use Rattle.text.specs.Names.{same_name}
use Rattle.text.specs.Words.{is_called, word_at, word_of}
use Rattle.std.specs.Prelude.{None, Option, Some}

-- the purpose whose name stands behind `(purpose `, below the one whose name stands at v
abbrev pub below_at : List ℕ → ℕ → Form
below_at line v = purpose (word_of line 9) (some (word_of line v))

-- the line is such a form that the check accepts, and it is stored behind the k purposes of the document
pub record PurposeTaken (text line after : List ℕ) (k : ℕ) (d : Doc) : Type 0 where
  pub place : ℕ
  pub form : form_of line ≡ some (below_at line place)
  pub passes : Passes d line (below_at line place)
  pub purposes : Nodes limit text after (k + 1) (add d (below_at line place)).policy.purposes

-- the code's answer: the purpose is taken, or the purposes are as they were
abbrev pub TakesPurpose : (text line after : List ℕ) → ℕ → Doc → Bool → Type 0
TakesPurpose text line after k d true = PurposeTaken text line after k d
TakesPurpose text line after k d false = Nodes limit text after k d.policy.purposes

-- the line begins with `(purpose `
unfoldable pub begins_purpose : List ℕ → Bool
begins_purpose line = eqb (get_or line 0 0) 40 && same_name (word_at line 1) (ascii "purpose") && eqb (get_or line 8 0) 32

-- the line is a purpose below another, whose name stands at v: its own name has the hash h and is new among the k purposes, where the
-- other's has the number p
pub record BelowAt (text ws : List ℕ) (k : ℕ) (line : List ℕ) (h v p : ℕ) : Type 0 where
  pub form : form_of line ≡ some (below_at line v)
  pub within : 9 ≤ length line
  pub hash : h ≡ hash_of (word_at line 9)
  pub fresh : (ns : List Node) → Nodes limit text ws k ns → none ≡ find_index (λ x. is_called (word_of line 9) x.name) ns
  pub known : (ns : List Node) → Nodes limit text ws k ns → some p ≡ find_index (λ x. is_called (word_of line v) x.name) ns

-- what the reader's answer stands for
abbrev pub ReadsBelow : (text ws : List ℕ) → ℕ → List ℕ → Option (ℕ × ℕ × ℕ) → Type 0
ReadsBelow text ws k line (Some (h, v, p)) = BelowAt text ws k line h v p
ReadsBelow text ws k line None = Unit {0}
