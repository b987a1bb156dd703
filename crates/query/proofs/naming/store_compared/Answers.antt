-- `query::naming::store_compared` meets its contract. The loop's invariant: behind the first k places stand those of the comparisons
-- gone through.
-- Assumes nothing.
use Prim.Native.Nat.{◌-◌}
use native.Mathlib.Omega.{arith}
use Rattle.query.proofs.NamingLaws.{comparing_done, comparing_full, comparing_more, comparing_short, comparing_start}
use Rattle.query.proofs.naming.store_compared.Goals as goal

pub loop-j-init : goal.loop-j-init
loop-j-init c = comparing_start c.args.s.now c.args.ops.now c.args.n c.args.k c.args.out.now

pub shape_of-out-then-j-ops : goal.shape_of-out-then-j-ops
shape_of-out-then-j-ops c = c.loop-j.invariant.long

pub returns-then-j-ops : goal.returns-then-j-ops
returns-then-j-ops c = comparing_short c.args.s.now
    c.args.ops.now c.args.n
    c.args.k c.args.out.now
    c.loop-j.out c.loop-j.j c.loop-j.m c.loop-j.invariant
    c.loop-j-test.true (omega arith)

pub shape_of-out-then-m-out : goal.shape_of-out-then-m-out
shape_of-out-then-m-out c = c.loop-j.invariant.long

pub returns-then-m-out : goal.returns-then-m-out
returns-then-m-out c = comparing_full c.args.s.now
    c.args.ops.now c.args.n
    c.args.k c.args.out.now
    c.loop-j.out c.loop-j.j c.loop-j.m
    c.loop-j.invariant c.loop-j-test.true (omega arith)

pub loop-j-preserved : goal.loop-j-preserved
loop-j-preserved c = comparing_more c.args.s.now
    c.args.ops.now
    c.args.n
    c.args.k
    c.args.out.now c.loop-j.out
    c.loop-j.j c.loop-j.m
    c.loop-j.invariant c.loop-j-test.true (omega arith) (omega arith)
    c.next_word.result c.next_word.ensures

pub shape_of-out : goal.shape_of-out
shape_of-out c = c.loop-j.invariant.long

pub returns : goal.returns
returns c = comparing_done c.args.s.now c.args.ops.now
    c.args.n c.args.k
    c.args.out.now c.loop-j.out c.loop-j.j c.loop-j.m
    c.loop-j.invariant (omega arith)
