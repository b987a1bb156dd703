-- `program::running::run_program` meets its contract. The loop's invariant: the steps from j on, where j is next, come to what
-- all of them come to. Assumes nothing.
use lib.ListN.{get_or}
use mathlib.Core.Bool.{Bool, cond, false}
use mathlib.Core.Path.{◌∙◌, ◌≡◌, ap, sym}
use native.Mathlib.Omega.{arith}
use Rattle.program.proofs.RunLaws.{step_back, step_end, step_first, step_on}
use Rattle.program.specs.Program.{truth_in}
use Rattle.program.proofs.running.run_program.Goals as goal

pub loop-j-init : goal.loop-j-init
loop-j-init c = step_first (truth_in c.args.evens.now c.args.odds.now) c.args.trues.now c.args.falses.now c.args.flips.now c.args.m

pub returns-then-next-j : goal.returns-then-next-j
returns-then-next-j c = let told : c.next_of-next.result ≡ cond (truth_in c.args.evens.now c.args.odds.now (get_or c.args.flips.now c.loop-j.j false) c.loop-j.j) (get_or c.args.trues.now c.loop-j.j 0) (get_or c.args.falses.now c.loop-j.j 0) =
    c.next_of-next.ensures ∙ ap (λ (b : Bool). cond b (get_or c.args.trues.now c.loop-j.j 0) (get_or c.args.falses.now c.loop-j.j 0)) c.truth_of.ensures in
    sym (c.loop-j.invariant ∙ step_back (truth_in c.args.evens.now c.args.odds.now) c.args.trues.now c.args.falses.now c.args.flips.now c.args.m c.loop-j.j c.next_of-next.result c.loop-j-test.true told c.if-next-j.true)

pub loop-j-smaller : goal.loop-j-smaller
loop-j-smaller c = omega arith

pub loop-j-preserved : goal.loop-j-preserved
loop-j-preserved c = let told : c.next_of-next.result ≡ cond (truth_in c.args.evens.now c.args.odds.now (get_or c.args.flips.now c.loop-j.j false) c.loop-j.j) (get_or c.args.trues.now c.loop-j.j 0) (get_or c.args.falses.now c.loop-j.j 0) =
    c.next_of-next.ensures ∙ ap (λ (b : Bool). cond b (get_or c.args.trues.now c.loop-j.j 0) (get_or c.args.falses.now c.loop-j.j 0)) c.truth_of.ensures in
    c.loop-j.invariant ∙ step_on (truth_in c.args.evens.now c.args.odds.now) c.args.trues.now c.args.falses.now c.args.flips.now c.args.m c.loop-j.j c.next_of-next.result c.loop-j-test.true told (omega (arith, c.if-next-j.false))

pub returns : goal.returns
returns c = sym (c.loop-j.invariant ∙ step_end (truth_in c.args.evens.now c.args.odds.now) c.args.trues.now c.args.falses.now c.args.flips.now c.args.m c.loop-j.j (omega (arith, c.loop-j-test.false)))
