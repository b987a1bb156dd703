-- Meaning: what asking answers (01, "Asking"), in figures.
use Rattle.std.specs.Prelude.{ℕ, length}
use Rattle.answer.specs.Ask.{Outcome}
use Rattle.text.specs.Reasons.{refusal_of}
use Rattle.text.specs.Refusal.{Result, accepted, refused}
use Rattle.std.specs.Prelude.{Err, Ok}
use Rattle.stages.specs.declared.answered.Figures as code
use Rattle.text.specs.declared.refusals.Refusal.{Refusal}
use Rattle.std.specs.Prelude as prelude

-- an accepted answer in figures: its length, the grant and the three counts
pub record Figures : Type 0 where
  pub len : ℕ
  pub grant : ℕ
  pub passed : ℕ
  pub withheld : ℕ
  pub unmatched : ℕ

-- the figures that the code's answer gives
unfoldable pub figures_of : code.Figures → Figures
figures_of x = record { len = x.len; grant = x.grant; passed = x.passed; withheld = x.withheld; unmatched = x.unmatched }

-- what the code's answer stands for: a refusal, or the figures of an answer
unfoldable pub answered_as : prelude.Result code.Figures Refusal → Result Figures
answered_as (Ok x) = accepted (figures_of x)
answered_as (Err r) = refused (refusal_of r)

-- the outcome of asking in figures
unfoldable pub in_figures : Outcome → Result Figures
in_figures (refused r) = refused r
in_figures (accepted a) = accepted (record { len = length a.answer.bytes; grant = a.grant; passed = a.answer.passed; withheld = a.answer.withheld; unmatched = a.answer.unmatched })
