use mathlib.Core.Path.{◌∙◌, ap}
use Rattle.condition.proofs.FoundLaws.{amount_or_zero}
use Rattle.std.specs.Prelude.{Option, unwrap_or}
use Prim.Native.Nat.{ℕ}
use Rattle.text.specs.Numbers.{rank}
use Rattle.text.specs.Words.{word_at}
use Rattle.condition.proofs.comparisons.known_rank.Goals as goal

pub returns : goal.returns
returns c = c.unwrap_or.ensures ∙ ap (λ (o : Option ℕ). unwrap_or o 0) c.rank_at.ensures ∙ amount_or_zero (rank (word_at c.args.s.now c.args.at))
