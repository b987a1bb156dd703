-- `walks::cells::typed_end` meets its contract: the reader of names, of numbers and ranges, or of dates ends where a value of the type
-- ends. Assumes nothing.
use borrow.Author.Rules.{rules}
use Rattle.walks.proofs.Typed.{typed_name}
use Rattle.walks.proofs.cells.typed_end.Goals as goal

pub returns-in-Name : goal.returns-in-Name
returns-in-Name c = rw c.in-Name.is (cc (typed_name c.args.line.now c.args.at))

pub returns-in-Num : goal.returns-in-Num
returns-in-Num c = rw c.in-Num.is (search rules)

pub returns-in-Date : goal.returns-in-Date
returns-in-Date c = rw c.in-Date.is (search rules)
