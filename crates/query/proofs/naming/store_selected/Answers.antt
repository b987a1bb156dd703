-- `query::naming::store_selected` meets its contract. The loop's invariant: the words stored and those from the loop's place on are
-- the columns.
-- Assumes nothing.
use Prim.Native.Nat.{◌-◌}
use lib.ListN.{length, length-set}
use mathlib.Core.Path.{◌∙◌, refl, sym}
use native.Mathlib.Omega.{arith}
use Rattle.query.proofs.NamingLaws.{storing_full, storing_last, storing_more, storing_start}
use Rattle.text.proofs.Spaces.{space_here}
use Rattle.query.proofs.naming.store_selected.Goals as goal

pub loop-k-init : goal.loop-k-init
loop-k-init c = storing_start c.args.s.now c.args.p c.args.out.now

pub bounds-out-k : goal.bounds-out-k
bounds-out-k c = c.loop-k-test.true

pub shape_of-out-then-byte_at-ne32 : goal.shape_of-out-then-byte_at-ne32
shape_of-out-then-byte_at-ne32 c = simp length-set c.loop-k.invariant.long

pub returns-then-byte_at-ne32 : goal.returns-then-byte_at-ne32
returns-then-byte_at-ne32 c = storing_last c.args.s.now
    c.args.p
    (length c.args.out.now) c.loop-k.out
    c.loop-k.at c.loop-k.k c.loop-k.invariant
    c.loop-k-test.true c.word_end-e.ensures (λ z. c.if-byte_at-ne32.true (c.byte_at.ensures ∙ z))
    c.args.out.now refl

pub overflow_add-at : goal.overflow_add-at
overflow_add-at c = omega (arith, (space_here c.args.s.now c.word_end-e.result _ c.byte_at.ensures c.if-byte_at-ne32.false).1)

pub loop-k-smaller : goal.loop-k-smaller
loop-k-smaller c = omega (arith, c.loop-k.invariant.long, c.loop-k-test.true)

pub loop-k-preserved : goal.loop-k-preserved
loop-k-preserved c = storing_more c.args.s.now
    c.args.p
    (length c.args.out.now) c.loop-k.out
    c.loop-k.at c.loop-k.k c.loop-k.invariant
    c.loop-k-test.true c.word_end-e.ensures (sym c.byte_at.ensures ∙ c.if-byte_at-ne32.false)

pub shape_of-out : goal.shape_of-out
shape_of-out c = c.loop-k.invariant.long

pub returns : goal.returns
returns c = storing_full c.args.s.now c.args.p
    (length c.args.out.now) c.loop-k.out c.loop-k.at c.loop-k.k
    c.loop-k.invariant (omega arith) c.args.out.now refl
