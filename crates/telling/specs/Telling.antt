-- Meaning: what a host gets for a why line (02, Q-7): the length of the printed line or a refusal, and the lent buffer afterwards.
use Rattle.std.specs.Prelude.{◌≤◌, ℕ, drop, length, List, ◌++◌, ◌≡◌}
use Rattle.answer.specs.Why.{Reason, reason_text}
use Rattle.text.specs.Reasons.{refusal_of}
use Rattle.text.specs.Refusal.{Result, accepted, refused}
use Rattle.std.specs.Prelude.{Err, Ok}
use Rattle.text.specs.declared.refusals.Refusal.{Refusal}
use Rattle.std.specs.Prelude as prelude

-- what the code's answer stands for: the length of a line, or a refusal
unfoldable pub told_as : prelude.Result ℕ Refusal → Result ℕ
told_as (Ok n) = accepted n
told_as (Err r) = refused (refusal_of r)

-- the length of the line that is printed for what was found
unfoldable pub line_length : Result Reason → Result ℕ
line_length (refused r) = refused r
line_length (accepted e) = accepted (length (reason_text e))

-- the lent buffer afterwards: the line fills its first bytes, a refusal leaves it
unfoldable pub after_line : Result Reason → List ℕ → List ℕ
after_line (refused r) buffer = buffer
after_line (accepted e) buffer = reason_text e ++ drop (length (reason_text e)) buffer

-- THE TOLD LINE: the answer r and the buffer are those of what was found
pub record Tells (found : Result Reason) (before after : List ℕ) (r : prelude.Result ℕ Refusal) : Type 0 where
  pub gives : told_as r ≡ line_length found
  pub buffer : after ≡ after_line found before

-- the line fits into 39 bytes; it always does: proofs/Short `why_short`
unfoldable pub Fitting : Result Reason → Type 0
Fitting (refused r) = Unit {0}
Fitting (accepted e) = length (reason_text e) ≤ 39
