-- `purpose::closure_of` meets its contract. Assumes nothing.
use mathlib.Core.Path.{refl}
use native.Mathlib.Omega.{arith}
use Rattle.purpose.specs.Meaning.{tree_held}
use Rattle.purpose.proofs.Closures.{closure_inside, closure_outside}
use Rattle.purpose.proofs.closure_of.Goals as goal

pub offset_bounds-up-p : goal.offset_bounds-up-p
offset_bounds-up-p c = omega arith

pub bounds-up-p : goal.bounds-up-p
bounds-up-p c = omega arith

pub relatives-r-requires : goal.relatives-r-requires
relatives-r-requires c = omega arith

pub returns-then-p-n : goal.returns-then-p-n
returns-then-p-n c = let t = c.args.t in
    let p = c.args.p in
    let n = c.size-n.ensures.0 in
    closure_inside (tree_held t) c.upward-up.result p _ (omega arith) c.upward-up.ensures refl
    (rw n at c.relatives-r.ensures)

pub returns : goal.returns
returns c = let t = c.args.t in
    closure_outside (tree_held t) c.args.p c.no_members-none.result
    (omega (arith, c.size-n.ensures.0)) c.no_members-none.ensures
