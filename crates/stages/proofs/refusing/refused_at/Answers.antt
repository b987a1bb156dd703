-- `stages::refusing::refused_at` meets its contract. Assumes nothing.
use Prim.Native.Nat.{◌-◌}
use Rattle.stages.specs.Figures.{Figures, answered_as}
use Rattle.stages.specs.Tails.{refused_at}
use Rattle.text.specs.Reasons.{reason_number}
use Rattle.text.specs.Refusal.{Result, pointing, query, refused}
use Rattle.text.specs.Words.{word_at}
use lib.ListN.{length}
use mathlib.Core.Path.{◌≡◌, ap}
use native.Mathlib.Omega.{arith}
use Rattle.stages.proofs.refusing.refused_at.Goals as goal

pub returns : goal.returns
unfolding answered_as refused_at pointing
returns c = let a = c.args in
    let l : c.word_end-e.result - a.at ≡ length (word_at a.query.now a.at) = omega (arith, c.word_end-e.ensures) in
    ap {B = Result Figures} (λ k. refused (record { number = reason_number a.reason; source = query; start = a.at; len = k })) l
