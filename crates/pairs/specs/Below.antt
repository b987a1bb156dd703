-- Contract: what asking one select for two purposes gives: where the second is below the first, its rows contain the first's (02, Q-6).
use Rattle.std.specs.Prelude.{◌≤◌, ℕ, length, List, ◌≡◌}
use Rattle.answer.specs.Ask.{Answered, after}
use Rattle.answer.specs.Further.{Contains, SelectsBelow}
use Rattle.loaded.specs.Outside.{Asks}
use Rattle.stages.specs.Figures.{Figures, answered_as, in_figures}
use Rattle.query.specs.Authority.{Clock}
use Rattle.text.specs.Refusal.{accepted}
use Rattle.std.specs.Prelude.{Result}
use Rattle.pairs.specs.declared.two.Pair.{Pair}
use Rattle.text.specs.declared.refusals.Refusal.{Refusal}
use Rattle.stages.specs.declared.answered.Figures as figures

-- the code's answer r is this answer, and it stands in the buffer
pub record IsGiven (a : Answered) (before after' : List ℕ) (r : Result figures.Figures Refusal) : Type 0 where
  pub answer : answered_as r ≡ in_figures (accepted a)
  pub buffer : after' ≡ after (accepted a) before

-- both selects are answered, the second where its buffer is as long as its answer needs; its rows contain the first's in the same
-- order, and it withholds no more
pub record GivesBelow (out out' other other' : List ℕ) (r : Pair) : Type 0 where
  pub higher : Answered
  pub lower : Answered
  pub first : IsGiven higher out out' r.first
  pub second : length lower.answer.bytes ≤ length other → IsGiven lower other other' r.second
  pub contains : Contains higher.answer lower.answer

-- BOTH PURPOSES: each answer is that of asking; where the first select is answered and the second is the same for a purpose below,
-- the second is answered too, and gives what the first gives
pub record AsksBelow (doc text lower : List ℕ) (c : Clock) (out out' other other' : List ℕ) (r : Pair) : Type 0 where
  pub first : Asks doc text c out out' r.first
  pub second : Asks doc lower c other other' r.second
  pub further : SelectsBelow doc text lower → (f : Figures) → answered_as r.first ≡ accepted f → GivesBelow out out' other other' r
