-- `text::bytes::lower` meets its contract. Assumes nothing.
use native.Mathlib.Omega.{arith}
use Rattle.text.proofs.NameLaws.{lower_above, lower_below, lower_capital}
use Rattle.text.proofs.bytes.lower.Goals as goal

pub returns-in-65-to-90 : goal.returns-in-65-to-90
returns-in-65-to-90 c = lower_capital _ (omega arith) (omega arith)

pub returns-in_default : goal.returns-in_default
returns-in_default c = lower_below _ (omega arith)

pub returns-in_default-2 : goal.returns-in_default-2
returns-in_default-2 c = lower_above _ (omega arith)
