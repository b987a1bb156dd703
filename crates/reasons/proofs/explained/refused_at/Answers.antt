-- `reasons::explained::refused_at` meets its contract. Assumes nothing.
use Prim.Native.Nat.{◌-◌}
use Rattle.answer.specs.Why.{Reason}
use Rattle.reasons.specs.Explaining.{explained_as}
use Rattle.text.specs.Reasons.{reason_number}
use Rattle.text.specs.Refusal.{Result, pointing, query, refused}
use Rattle.text.specs.Words.{word_at}
use lib.ListN.{length}
use mathlib.Core.Path.{◌≡◌, ap}
use native.Mathlib.Omega.{arith}
use Rattle.reasons.proofs.explained.refused_at.Goals as goal

pub returns : goal.returns
unfolding explained_as pointing
returns c text = let a = c.args in
    let l : c.word_end-e.result - a.at ≡ length (word_at a.line.now a.at) = omega (arith, c.word_end-e.ensures) in
    ap {B = Result Reason} (λ k. refused (record { number = reason_number a.reason; source = query; start = a.at; len = k })) l
