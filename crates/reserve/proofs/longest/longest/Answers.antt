-- `reserve::longest::longest` meets its contract. The loop's invariant: the longest among the first t tables. Assumes nothing.
use Prim.Native.Nat.{◌-◌}
use mathlib.Core.Path.{◌∙◌, ◌≡◌, ap, sym}
use native.Mathlib.Omega.{arith}
use Rattle.answer.specs.Reserve.{greatest, larger, whole_length, whole_lengths}
use Rattle.answer.specs.Seen.{rows_in}
use Rattle.reserve.proofs.SumLaws.{longest_more, longest_none}
use Rattle.reserve.proofs.longest.longest.Goals as goal

pub loop-t-init : goal.loop-t-init
loop-t-init c = (omega arith, λ rs h. sym (longest_none rs))

pub table_length-requires : goal.table_length-requires
table_length-requires c = c.requires

pub loop-t-preserved : goal.loop-t-preserved
loop-t-preserved c = let l = c.loop-t in (
  omega (arith, c.loop-t-test.true),
  λ rs h.
      c.larger-best.ensures
      ∙ ap (λ n. larger n l.best) (c.table_length.ensures rs h)
      ∙ ap (larger (whole_length (rows_in l.t rs))) (l.invariant.1 rs h)
      ∙ sym (longest_more rs l.t),
)

pub returns : goal.returns
returns c = let l = c.loop-t in
    let e : l.t ≡ c.args.k = omega (arith, l.invariant.0, c.loop-t-test.false) in
    λ rs h. l.invariant.1 rs h ∙ ap (λ n. greatest (whole_lengths rs n)) e
