-- `principals::names::seek_purpose` meets its contract. Assumes nothing.
use native.Mathlib.Omega.{arith}
use Rattle.principals.proofs.names.seek_purpose.Goals as goal

pub returns-then-k-gt-PURPOSES : goal.returns-then-k-gt-PURPOSES
returns-then-k-gt-PURPOSES c = record { ends = c.hash_word-w.ensures.ends; hash = c.hash_word-w.ensures.is; is = λ ns n. absurd (omega (arith, n.few)); below = tt }
