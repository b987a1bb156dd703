-- `belonging::line::line_of` meets its contract. Assumes nothing.
use native.Mathlib.Omega.{arith}
use Rattle.belonging.proofs.LineLaws.{line_cut, line_empty, line_past}
use Rattle.belonging.proofs.line.line_of.Goals as goal

pub returns-then-e-a : goal.returns-then-e-a
returns-then-e-a c = line_empty c.args.text.now c.args.a c.args.e c.if-e-a.true

pub returns-then-a-text : goal.returns-then-a-text
returns-then-a-text c = line_cut c.args.text.now c.args.a c.args.e (omega arith)

pub returns : goal.returns
returns c = line_past c.args.text.now c.args.a c.args.e (omega arith)
