-- Contract: the why line that a text is, by the places of its words. The contract of read_why says that this is the line of WhyForm.
use Rattle.std.specs.Prelude.{ℕ, List}
use Rattle.std.proofs.Math.Option.{Option, none, some}
use Rattle.query.specs.WhyForm.{WhyForm}
use Rattle.text.specs.Reader.{Left, from}
use Rattle.text.specs.Words.{word_of}
use Rattle.std.specs.Prelude as prelude
use Rattle.std.specs.Prelude.{None, Some}
use Rattle.query.specs.declared.why.Why.{Why}

-- the line that the places stand for
unfoldable pub why_at : List ℕ → Why → WhyForm
why_at s w = record { purpose = word_of s w.purpose; table = word_of s w.table; row = word_of s w.row; column = word_of s w.column }

-- the same, if the text is one
unfoldable pub why_line : List ℕ → prelude.Option Why → Option WhyForm
why_line s None = none
why_line s (Some w) = some (why_at s w)

-- what stands behind the keyword, by the code's answer
unfoldable pub why_to : List ℕ → prelude.Option (Why × ℕ) → Option (WhyForm × Left)
why_to s None = none
why_to s (Some (w, e)) = some (why_at s w, from s e)
