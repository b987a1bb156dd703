-- `answering::lines::value_size` meets its contract. Assumes nothing.
use Prim.Native.Nat.{◌<◌, ℕ}
use Rattle.answering.proofs.LineLaws.{sizes_more}
use Rattle.answering.specs.Lines.{Sizes}
use lib.ListN.{length}
use mathlib.Core.Path.{◌∙◌, ap, subst, sym}
use Rattle.answering.proofs.lines.value_size.Goals as goal

pub returns : goal.returns
returns c = let a = c.args in
    λ vs e h.
    let n = c.written_size-size.ensures (λ l. c.kept_size.ensures ∙ h.each a.c (subst (λ (k : ℕ). 0 < k) c.kept_size.ensures l) ∙ ap length (sym e)) ∙ ap length e in
    (n, subst (Sizes vs) (sym c.keep_size.ensures) (sizes_more vs a.sizes.now a.c c.written_size-size.result h n))
