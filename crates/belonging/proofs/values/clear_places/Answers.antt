-- `belonging::values::clear_places` meets its contract. The loop's invariant: the places passed are 0. Assumes nothing.
use Prim.Native.Nat.{◌-◌}
use borrow.Author.Fill.{fill_more, fill_none}
use borrow.Author.Rules.{rules}
use lib.ListN.{drop, length, length-set, replicate, set}
use lib.Seq.{drop-length}
use mathlib.Core.List.{◌++◌, append-nil}
use mathlib.Core.Path.{◌∙◌, ◌≡◌, ap}
use native.Mathlib.Omega.{arith}
use Rattle.belonging.proofs.values.clear_places.Goals as goal

pub loop-i-init : goal.loop-i-init
loop-i-init c = (omega arith, search rules, fill_none _ 0)

pub loop-i-preserved : goal.loop-i-preserved
loop-i-preserved c = let now = c.loop-i in
    (simp length-set (omega arith), simp length-set now.invariant.1, ap (λ l. set l now.i 0) now.invariant.2 ∙ fill_more now.i 0 c.args.places.now (omega arith))

pub returns : goal.returns
returns c = let now = c.loop-i in
    let p = c.args.places.now in
    let full : now.i ≡ length p = omega arith in
    now.invariant.2 ∙ ap (λ n. replicate n 0 ++ drop n p) full ∙ ap (λ l. replicate (length p) 0 ++ l) (drop-length p) ∙ append-nil (replicate (length p) 0)
