-- `reserve::sums::value_length` meets its contract: a value ends as far behind its place as it is long. Assumes nothing.
use mathlib.Core.Path.{ap}
use lib.ListN.{length}
use native.Mathlib.Omega.{arith}
use Rattle.text.specs.Words.{written_at}
use Rattle.writing.proofs.Writing.{written_short}
use Rattle.reserve.proofs.sums.value_length.Goals as goal

pub returns : goal.returns
returns c = (λ l m. omega (arith, c.written_end.ensures, ap (λ p. length (written_at c.args.text.now p)) (c.row_value-place.ensures l m)), omega (arith, c.written_end.ensures, written_short c.args.text.now c.row_value-place.result))
