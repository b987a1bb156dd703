-- What the code asks of what it finds by a name, said of the number it names: whether there is one, and the number or 0.
-- Assumes nothing.
use Prim.Native.Nat.{ℕ}
use mathlib.Core.Path.{◌≡◌, refl}
use Rattle.lists.specs.Lists.{or_zero, there}
use Rattle.std.specs.Prelude.{None, Option, Some, is_some, unwrap_or}
use Rattle.workspace.specs.Found.{found_as}

pub found_there : (r : Option ℕ) → is_some r ≡ there (found_as r)
unfolding there
found_there None = refl
found_there (Some n) = refl

pub found_or_zero : (r : Option ℕ) → unwrap_or r 0 ≡ or_zero (found_as r)
unfolding or_zero
found_or_zero None = refl
found_or_zero (Some n) = refl
