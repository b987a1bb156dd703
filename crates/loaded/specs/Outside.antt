-- Meaning: what asking and measuring answer (01, "Asking"; 02, Q-4): 18, the figures of an outcome, and the lent buffer afterwards.
use Rattle.std.specs.Prelude.{ℕ, ltb, length, List, ◌≡◌}
use Rattle.answer.specs.Ask.{after, ask, measure}
use Rattle.query.specs.Authority.{Clock}
use Rattle.stages.specs.Figures.{Figures, answered_as, in_figures}
use Rattle.text.specs.Reasons.{refusal_of}
use Rattle.text.specs.Refusal.{Result, ◌>>=◌, ◌>>◌, accepted, pointing_nowhere, query, refuse_if, refused}
use Rattle.std.specs.Prelude.{Err, Ok}
use Rattle.text.specs.declared.refusals.Refusal.{Refusal}
use Rattle.std.specs.Prelude as prelude
use Rattle.stages.specs.declared.answered.Figures as figures

-- 18 where the answer is longer than the lent buffer, whose length is `room`, by its figures
unfoldable pub figures_fit : (room : ℕ) → Result Figures → Result Figures
figures_fit room o = do
  x ← o
  refuse_if (ltb room x.len) (pointing_nowhere 18 query)
  accepted x

-- what the code's measure stands for: a refusal, or a length
unfoldable pub measured_as : prelude.Result ℕ Refusal → Result ℕ
measured_as (Err r) = refused (refusal_of r)
measured_as (Ok n) = accepted n

-- THE MEASURE: the code's measure r stands for what measuring gives, a refusal that no buffer would change or the length of the answer (02, Q-4)
pub record Measures (doc text : List ℕ) (c : Clock) (r : prelude.Result ℕ Refusal) : Type 0 where
  pub is : measured_as r ≡ measure doc text c

-- THE ANSWER: the code's answer r stands for the outcome of asking, and the lent buffer afterwards is what that outcome says
pub record Asks (doc text : List ℕ) (c : Clock) (before after' : List ℕ) (r : prelude.Result figures.Figures Refusal) : Type 0 where
  pub is : answered_as r ≡ in_figures (ask doc text c (length before))
  pub buffer : after' ≡ after (ask doc text c (length before)) before
