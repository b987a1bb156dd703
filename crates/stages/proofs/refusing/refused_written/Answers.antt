-- `stages::refusing::refused_written` meets its contract. Assumes nothing.
use Prim.Native.Nat.{◌-◌}
use Rattle.stages.specs.Figures.{Figures, answered_as}
use Rattle.stages.specs.Tails.{refused_written}
use Rattle.text.specs.Reasons.{reason_number}
use Rattle.text.specs.Refusal.{Result, pointing, query, refused}
use Rattle.text.specs.Words.{written_at}
use lib.ListN.{length}
use mathlib.Core.Path.{◌≡◌, ap}
use native.Mathlib.Omega.{arith}
use Rattle.stages.proofs.refusing.refused_written.Goals as goal

pub returns : goal.returns
unfolding answered_as refused_written pointing
returns c = let a = c.args in
    let l : c.written_end-e.result - a.at ≡ length (written_at a.query.now a.at) = omega (arith, c.written_end-e.ensures) in
    ap {B = Result Figures} (λ k. refused (record { number = reason_number a.reason; source = query; start = a.at; len = k })) l
