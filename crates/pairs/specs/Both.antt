-- Meaning: what asking two documents gives: where they are alike for the query, one answer (01, "The no-difference claim").
use Rattle.std.specs.Prelude.{ℕ, List, ◌≡◌}
use Rattle.answer.specs.Alike.{Alike}
use Rattle.loaded.specs.Outside.{Asks}
use Rattle.stages.specs.Figures.{answered_as}
use Rattle.query.specs.Authority.{Clock}
use Rattle.pairs.specs.declared.two.Pair.{Pair}

-- the two answers stand for the same, and the two buffers hold the same bytes afterwards
pub record SameAnswers (r : Pair) (out' other' : List ℕ) : Type 0 where
  pub answers : answered_as r.first ≡ answered_as r.second
  pub buffers : out' ≡ other'

-- BOTH ANSWERS: each is that of asking its document; alike documents, asked into equal buffers, give the same
pub record AsksBoth (a b text : List ℕ) (c : Clock) (out out' other other' : List ℕ) (r : Pair) : Type 0 where
  pub first : Asks a text c out out' r.first
  pub second : Asks b text c other other' r.second
  pub alike : Alike text a b → out ≡ other → SameAnswers r out' other'

-- two answers that are each that of asking its document, as those of two loaded documents are, are both answers
abbrev pub AskedAlike : (a b text : List ℕ) (c : Clock) (out out' other other' : List ℕ) (r : Pair) → Type 0
AskedAlike a b text c out out' other other' r = Asks a text c out out' r.first → Asks b text c other other' r.second → AsksBoth a b text c out out' other other' r
