-- `text::bytes::is_letter` meets its contract: at each way out the byte lies in a range over which `is_letter` is constant.
-- Assumes nothing.
use mathlib.Core.Bool.{false, true}
use native.Mathlib.Omega.{arith}
use Rattle.text.proofs.Ranges.{in_range_lem}
use Rattle.text.specs.Bytes.{is_letter}
use Rattle.text.proofs.bytes.is_letter.Goals as goal

pub returns-in-65-to-90 : goal.returns-in-65-to-90
unfolding is_letter
returns-in-65-to-90 c = in_range_lem is_letter true 65 26 tt c.args.b (omega arith) (omega arith)

pub returns-in-65-to-90-2 : goal.returns-in-65-to-90-2
unfolding is_letter
returns-in-65-to-90-2 c = in_range_lem is_letter true 97 26 tt c.args.b (omega arith) (omega arith)

pub returns-in_default : goal.returns-in_default
unfolding is_letter
returns-in_default c = in_range_lem is_letter false 0 65 tt c.args.b (omega arith) (omega arith)

pub returns-in_default-2 : goal.returns-in_default-2
unfolding is_letter
returns-in_default-2 c = in_range_lem is_letter false 91 6 tt c.args.b (omega arith) (omega arith)

pub returns-in_default-3 : goal.returns-in_default-3
unfolding is_letter
returns-in_default-3 c = in_range_lem is_letter false 123 133 tt c.args.b (omega arith) (omega arith)
