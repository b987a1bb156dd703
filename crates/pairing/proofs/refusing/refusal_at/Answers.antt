-- `pairing::refusing::refusal_at` meets its contract. Assumes nothing.
use Prim.Native.Nat.{◌-◌}
use Rattle.pairing.specs.Refusing.{refused_at}
use Rattle.text.specs.Reasons.{reason_number}
use Rattle.text.specs.Refusal.{Refusal, pointing, query}
use Rattle.text.specs.Words.{word_at}
use lib.ListN.{length}
use mathlib.Core.Path.{◌≡◌, ap}
use native.Mathlib.Omega.{arith}
use Rattle.pairing.proofs.refusing.refusal_at.Goals as goal

pub returns : goal.returns
unfolding refused_at pointing
returns c = let a = c.args in
    let l : c.word_end-e.result - a.at ≡ length (word_at a.query.now a.at) = omega (arith, c.word_end-e.ensures) in
    ap {B = Refusal} (λ k. record { number = reason_number a.reason; source = query; start = a.at; len = k }) l
