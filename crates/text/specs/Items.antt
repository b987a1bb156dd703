-- Contract: what code that ends a list of any items asks of the reader of an item.
use Rattle.std.specs.Prelude.{◌≡◌, ◌≤◌, ℕ, length}
use Rattle.std.proofs.Math.Option.{some}
use Rattle.text.specs.Reader.{Left, Reader, ◌>>◌, give, skip}

-- the same reader; what it read is dropped
abbrev pub dropped : {A : Type 0} → Reader A → Reader (Unit {0})
dropped R = R >> give tt

-- the reader only goes forward: what it leaves is what was left before, after some bytes more
abbrev pub GoesOn : {A : Type 0} → Reader A → Type 0
GoesOn {A} R = (l : Left) (a : A) (l' : Left) → R l ≡ some (a, l') → (n : ℕ) × (n ≤ length l.bytes) × (l' ≡ skip n l)
