-- `writing::bytes::put_sized` meets its contract. Assumes nothing.
use Rattle.writing.proofs.Writing.{sized_copied, sized_none, sized_past, written_short}
use native.Mathlib.Omega.{arith}
use Rattle.writing.proofs.bytes.put_sized.Goals as goal

pub returns-then-text-size : goal.returns-then-text-size
returns-then-text-size c = λ e. absurd (omega (arith, e, written_short c.args.text.now c.args.start, c.if-text-size.true))

pub returns-then-text-size-2 : goal.returns-then-text-size-2
returns-then-text-size-2 c = let a = c.args in λ e. sized_none a.out.now a.at a.text.now a.start a.size e (omega (arith, c.if-text-size.false)) c.if-text-size-2.true

pub returns-then-out-at : goal.returns-then-out-at
returns-then-out-at c = let a = c.args in λ e. sized_past a.out.now a.at a.text.now a.start a.size e c.if-out-at.true c.place_behind.result c.place_behind.ensures

pub returns : goal.returns
returns c = let a = c.args in λ e. sized_copied a.out.now a.at a.text.now a.start a.size e _ c.copy_bytes.ensures
