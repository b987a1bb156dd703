-- `belonging::held::fill_held` meets its contract. The loop's invariant: the truths of the conditional roles passed are stored. Assumes nothing.
use Prim.Native.Nat.{◌-◌}
use borrow.Author.Rules.{rules}
use lib.ListN.{length-set}
use native.Mathlib.Omega.{arith}
use Rattle.belonging.proofs.HeldLaws.{role_short, roles_held, truths_more}
use Rattle.belonging.specs.Held.{condition_holds}
use Rattle.principals.specs.CondRoles.{cond_role_in}
use Rattle.query.specs.HostClock.{clock_of}
use Rattle.belonging.proofs.held.fill_held.Goals as goal

pub loop-i-init : goal.loop-i-init
loop-i-init c = (omega arith, search rules, λ d u rs t h short j l. absurd (omega (arith, l)))

pub bounds-held-i : goal.bounds-held-i
bounds-held-i c = omega (arith, c.requires, c.loop-i.invariant.1)

pub loop-i-preserved : goal.loop-i-preserved
loop-i-preserved c = let a = c.args in
    let now = c.loop-i in
    (omega arith, simp length-set now.invariant.1, λ d u rs t h short. truths_more (λ j. condition_holds (clock_of a.clock) u (cond_role_in d a.text.now a.conds.now j)) now.held now.i c.role_holds-b.result (omega (arith, c.requires, now.invariant.1)) (now.invariant.2 d u rs t h short) (c.role_holds-b.ensures d u a.n rs t h c.loop-i-test.true (role_short d a.text.now a.conds.now a.n rs h short now.i c.loop-i-test.true)))

pub shape_of-held : goal.shape_of-held
shape_of-held c = c.loop-i.invariant.1

pub returns : goal.returns
returns c d u rs t h short = let a = c.args in
    roles_held d a.text.now a.conds.now a.n rs h (clock_of a.clock) u c.loop-i.held (λ j l. c.loop-i.invariant.2 d u rs t h short j (omega (arith, l)))
