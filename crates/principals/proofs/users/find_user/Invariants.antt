-- `principals::users::find_user` meets its contract. The loop's invariant: no form that was passed has the name and the role. Assumes nothing.
use Prim.Native.Nat.{◌-◌, ◌<◌, ◌≤◌, ℕ}
use mathlib.Core.Bool.{false}
use mathlib.Core.Path.{◌≡◌}
use Rattle.workspace.specs.Hash.{Printed}
use Rattle.principals.specs.Users.{user_passes}
use Rattle.text.specs.Words.{word_of}
use Rattle.principals.proofs.users.find_user.Given as goal

abbrev pub invariant-loop-i : goal.invariant-loop-i
invariant-loop-i l = (l.i ≤ l.k) × (l.k ≤ 256) × (((j : ℕ) → j < l.k → Printed 1280 l.text l.ws j) → (j : ℕ) → j < l.i → user_passes (word_of l.line l.u) l.text l.ws l.role j ≡ false)
