-- `relations::labels::fill_said` meets its contract. Assumes nothing.
use Prim.Native.Nat.{◌-◌}
use Rattle.relations.proofs.LabelLaws.{labels_said, said_more}
use borrow.Author.Rules.{rules}
use lib.ListN.{length-set}
use native.Mathlib.Omega.{arith}
use Rattle.relations.proofs.labels.fill_said.Goals as goal

pub loop-i-init : goal.loop-i-init
loop-i-init c = (omega arith, search rules, λ text ws d p h of j l. absurd (omega (arith, l)))

pub bounds-said-i : goal.bounds-said-i
bounds-said-i c = omega (arith, c.loop-i.invariant.1, c.requires)

pub bounds-said-i-in-loop-i : goal.bounds-said-i-in-loop-i
bounds-said-i-in-loop-i c = simp length-set (omega (arith, c.loop-i.invariant.1, c.requires))

pub loop-i-preserved : goal.loop-i-preserved
loop-i-preserved c = let a = c.args in
    let now = c.loop-i in
    (omega arith, simp length-set now.invariant.1, said_more a.sets.now a.k a.closure now.said now.i c.verdict_there-v.result (omega arith) (omega (arith, now.invariant.1, c.requires)) now.invariant.2 c.verdict_there-v.ensures)

pub returns : goal.returns
returns c text ws d p h of = let a = c.args in
    let now = c.loop-i in
    labels_said text ws a.sets.now a.k d h p now.said (λ j l. now.invariant.2 text ws d p h of j (omega arith))
