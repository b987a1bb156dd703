-- Contract: what answering gives: the answer's length and counts; and the lent buffer afterwards.
use Rattle.std.specs.Prelude.{ltb, drop, length, cond, List, ◌++◌, ◌≡◌, ℕ}
use Rattle.answer.specs.Answer.{Answer}
use Rattle.answering.specs.declared.answers.Measured.{Measured}

-- the code's figures of this answer, whether a buffer has room for it or not
unfoldable pub measured_of : Answer → Measured
measured_of a = record { len = length a.bytes; tally = record { passed = a.passed; withheld = a.withheld; unmatched = a.unmatched } }

-- the buffer afterwards: an answer that it has room for fills its first bytes
unfoldable pub buffer_after : Answer → List ℕ → List ℕ
buffer_after a before = cond (ltb (length before) (length a.bytes)) before (a.bytes ++ drop (length a.bytes) before)

-- the code's figures x and the buffer are those of the answer a
pub record Writes (a : Answer) (before after : List ℕ) (x : Measured) : Type 0 where
  pub is : x ≡ measured_of a
  pub buffer : after ≡ buffer_after a before
