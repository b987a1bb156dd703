-- What was written, said of bytes that are the same. Assumes nothing.
use Prim.Native.Nat.{ℕ}
use mathlib.Core.List.{List}
use mathlib.Core.Path.{◌≡◌, subst}
use Rattle.writing.specs.Write.{Wrote}

pub wrote_as : {d e s t : List ℕ} {at r : ℕ} → s ≡ t → Wrote d at s e r → Wrote d at t e r
wrote_as {d} {e} {s} {t} {at} {r} p h = subst (λ (v : List ℕ). Wrote d at v e r) p h
