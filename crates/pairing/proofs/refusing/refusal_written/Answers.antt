-- `pairing::refusing::refusal_written` meets its contract. Assumes nothing.
use Prim.Native.Nat.{◌-◌}
use Rattle.pairing.specs.Refusing.{refused_written}
use Rattle.text.specs.Reasons.{reason_number}
use Rattle.text.specs.Refusal.{Refusal, pointing, query}
use Rattle.text.specs.Words.{written_at}
use lib.ListN.{length}
use mathlib.Core.Path.{◌≡◌, ap}
use native.Mathlib.Omega.{arith}
use Rattle.pairing.proofs.refusing.refusal_written.Goals as goal

pub returns : goal.returns
unfolding refused_written pointing
returns c = let a = c.args in
    let l : c.written_end-e.result - a.at ≡ length (written_at a.query.now a.at) = omega (arith, c.written_end-e.ensures) in
    ap {B = Refusal} (λ k. record { number = reason_number a.reason; source = query; start = a.at; len = k }) l
