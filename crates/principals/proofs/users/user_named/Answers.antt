-- `principals::users::user_named` meets its contract: one has the name where one is found. Assumes nothing.
use mathlib.Core.Path.{◌∙◌}
use native.Mathlib.Omega.{arith}
use Rattle.principals.proofs.UserLaws.{user_called}
use Rattle.workspace.proofs.FoundLaws.{found_there}
use Rattle.workspace.specs.Found.{found_as}
use Rattle.text.specs.Words.{word_of}
use Rattle.principals.proofs.users.user_named.Goals as goal

pub returns-then-k-gt-USERS : goal.returns-then-k-gt-USERS
returns-then-k-gt-USERS c d us h = absurd (omega (arith, h.few))

pub returns : goal.returns
returns c d us h = let a = c.args in
    c.is_some.ensures ∙ found_there c.find_printed.result ∙ user_called (word_of a.line.now a.u) (found_as c.find_printed.result) h (c.find_printed.ensures.0 (omega arith) h.printed)
