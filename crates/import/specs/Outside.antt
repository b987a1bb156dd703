-- Meaning: what the outside functions hand back (02, Q-1): each answer as a function of what the definitions give, and the buffer.
use Rattle.std.specs.Prelude.{ℕ, leb, length, cond, List, ◌≡◌}
use Rattle.import.specs.Importing.{after_import, importing, length_only, record_lines}
use Rattle.csv_text.specs.Records.{Entry}
use Rattle.std.specs.Prelude.{None, Option, Some, Err, Ok}
use Rattle.text.specs.Names.{Name}
use Rattle.text.specs.Reasons.{refusal_of}
use Rattle.text.specs.Refusal.{Result, ◌>>=◌, accepted, refused}
use Rattle.text.specs.declared.refusals.Refusal.{Refusal}
use Rattle.std.specs.Prelude as prelude

-- a length that is at most `room`
unfoldable pub length_within : (room n : ℕ) → Option ℕ
length_within room n = cond (leb n room) (Some n) None

-- how many records there are, and how long their lines are
unfoldable pub in_brief : Name → Name → Result (List Entry) → Result (ℕ × ℕ)
in_brief t l o = do
  es ← o
  accepted (length es, length (record_lines t l es))

-- what judging a file says: a refusal, or these two
abbrev pub judged_as : prelude.Result (ℕ × ℕ) Refusal → Result (ℕ × ℕ)
judged_as (Err r) = refused (refusal_of r)
judged_as (Ok (n, z)) = accepted (n, z)

-- what the code's answer says: a refusal, or the length of the lines
abbrev pub imported_as : prelude.Result ℕ Refusal → Result ℕ
imported_as (Err r) = refused (refusal_of r)
imported_as (Ok n) = accepted n

-- the code's answer and the buffer are those of importing
pub record Imports (bytes : List ℕ) (t l : Name) (before after : List ℕ) (r : prelude.Result ℕ Refusal) : Type 0 where
  pub is : imported_as r ≡ length_only (importing bytes t l (length before))
  pub buffer : after ≡ after_import (importing bytes t l (length before)) before
