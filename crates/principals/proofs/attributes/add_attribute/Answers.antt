-- `principals::attributes::add_attribute` meets its contract: the array has room. Assumes nothing.
use native.Mathlib.Omega.{arith}
use Rattle.principals.proofs.attributes.add_attribute.Goals as goal

pub returns-then-k-lt-ATTRIBUTES : goal.returns-then-k-lt-ATTRIBUTES
returns-then-k-lt-ATTRIBUTES c text xs h l = c.store_attribute.ensures text xs h

pub returns-else-k-lt-ATTRIBUTES : goal.returns-else-k-lt-ATTRIBUTES
returns-else-k-lt-ATTRIBUTES c text xs h l = absurd (omega arith)
