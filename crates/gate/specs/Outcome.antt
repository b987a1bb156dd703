-- Meaning: what the checker answers for a document (01, "Checking a document"; 02, Q-9): a refusal, or the number of lines and the
-- reserve.
use Rattle.std.specs.Prelude.{ℕ, List, ◌≡◌}
use Rattle.answer.specs.Reserve.{Taken}
use Rattle.answer.specs.Reserve as reserve
use Rattle.text.specs.Reasons.{refusal_of}
use Rattle.text.specs.Refusal.{Result, accepted, refused}
use Rattle.std.specs.Prelude.{Err, Ok}
use Rattle.text.specs.declared.refusals.Refusal.{Refusal}
use Rattle.std.specs.Prelude as prelude

-- the outcome that the answer stands for: a refusal, or the number of lines and the reserve
unfoldable pub checked_as : prelude.Result (ℕ × ℕ) Refusal → Result Taken
checked_as (Ok (n, r)) = accepted (record { lines = n; reserve = r })
checked_as (Err x) = refused (refusal_of x)

-- the answer r stands for this outcome
pub record Answers (o : Result Taken) (r : prelude.Result (ℕ × ℕ) Refusal) : Type 0 where
  pub is : checked_as r ≡ o

-- THE CHECK: the answer r stands for the outcome of the check of the document, its reserve to the byte
abbrev pub Checks : List ℕ → prelude.Result (ℕ × ℕ) Refusal → Type 0
Checks doc r = Answers (reserve.checked doc) r
