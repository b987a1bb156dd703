-- `gate::parts::piece` meets its contract. Assumes nothing.
use native.Mathlib.Omega.{arith}
use Rattle.gate.proofs.PartLaws.{piece_behind, piece_end, piece_inside}
use Rattle.gate.proofs.parts.piece.Goals as goal

pub returns-then-start-s : goal.returns-then-start-s
returns-then-start-s c = piece_behind c.args.s.now c.args.start c.args.len (omega (arith, c.if-start-s.true))

pub returns-then-len-s : goal.returns-then-len-s
returns-then-len-s c = piece_inside c.args.s.now c.args.start c.args.len

pub returns : goal.returns
returns c = piece_end c.args.s.now c.args.start c.args.len (omega (arith, c.if-len-s.false))
