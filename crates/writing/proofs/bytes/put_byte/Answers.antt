-- `writing::bytes::put_byte` meets its contract. A byte past the end is counted; at the largest place nothing is. Assumes nothing.
use Rattle.writing.proofs.Writing as w
use Rattle.writing.proofs.bytes.put_byte.Goals as goal

pub returns-then-at-out : goal.returns-then-at-out
returns-then-at-out c = w.wrote_byte _ _ _

pub returns-then-at-lt-MOST : goal.returns-then-at-lt-MOST
returns-then-at-lt-MOST c = w.wrote_past _ _ _ c.if-at-out.false

pub returns : goal.returns
returns c = w.wrote_over _ _ _ c.if-at-lt-MOST.false
