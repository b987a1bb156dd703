-- `text::bytes::is_digit` meets its contract: at each way out the byte lies in a range over which `is_digit` is constant.
-- Assumes nothing.
use mathlib.Core.Bool.{false, true}
use native.Mathlib.Omega.{arith}
use Rattle.text.proofs.Ranges.{in_range_lem}
use Rattle.text.specs.Bytes.{is_digit}
use Rattle.text.proofs.bytes.is_digit.Goals as goal

pub returns-in-48-to-57 : goal.returns-in-48-to-57
unfolding is_digit
returns-in-48-to-57 c = in_range_lem is_digit true 48 10 tt c.args.b (omega arith) (omega arith)

pub returns-in_default : goal.returns-in_default
unfolding is_digit
returns-in_default c = in_range_lem is_digit false 0 48 tt c.args.b (omega arith) (omega arith)

pub returns-in_default-2 : goal.returns-in_default-2
unfolding is_digit
returns-in_default-2 c = in_range_lem is_digit false 58 198 tt c.args.b (omega arith) (omega arith)
