-- Meaning: readers: what each reads at the front of what is left of a text, and what is left then. They are put together with `do`.
use Rattle.std.specs.Prelude.{◌+◌, ℕ, eqb, drop, Bool, cond, false, true, List}
use Rattle.std.proofs.Math.Option.{Option, none, some}
use Rattle.text.specs.Bytes.{first_byte}
use Rattle.lists.specs.Lists.{is_empty}

infixl 10 ◌>>=◌ ◌>>◌
-- what is left to read of a text (a line or a query): its place in the text, and the bytes from there on
pub record Left : Type 0 where
  pub at : ℕ
  pub bytes : List ℕ

-- what is left of the text s from the position `at`
abbrev pub from : List ℕ → ℕ → Left
from s at = record { at = at; bytes = drop at s }

-- what is left after n bytes more
abbrev pub skip : ℕ → Left → Left
skip n l = record { at = l.at + n; bytes = drop n l.bytes }

-- a reader of A gives what it read and what is left, or nothing where the text is wrong
abbrev pub Reader : Type 0 → Type 0
Reader A = Left → Option (A × Left)

-- go on with what was read
abbrev pub and_then : {A B : Type 0} → Option (A × Left) → (A → Reader B) → Option (B × Left)
and_then none k = none
and_then (some r) k = k r.0 r.1

-- one reader, and then another that depends on what was read
abbrev pub ◌>>=◌ : {A B : Type 0} → Reader A → (A → Reader B) → Reader B
◌>>=◌ R k l = and_then (R l) k

-- one reader, and then another; what the first read is dropped
abbrev pub ◌>>◌ : {A B : Type 0} → Reader A → Reader B → Reader B
◌>>◌ R S l = and_then (R l) (λ a. S)

-- read nothing, and give a
abbrev pub give : {A : Type 0} → A → Reader A
give a l = some (a, l)

-- the text is wrong
abbrev pub refuse : {A : Type 0} → Reader A
refuse l = none

-- go on where the test holds; the text is wrong elsewhere
abbrev pub require : Bool → Reader (Unit {0})
require true = give tt
require false = refuse

-- go on with what there is; the text is wrong where there is nothing
abbrev pub given : {A : Type 0} → Option A → Reader A
given none = refuse
given (some a) = give a

-- the byte b comes next
abbrev pub next_is : ℕ → Left → Bool
next_is b l = eqb (first_byte l.bytes) b

-- read the byte b, which is not 0
unfoldable pub byte : ℕ → Reader ℕ
byte b l = cond (next_is b l) (some (b, skip 1 l)) none

-- the first reader if the byte b comes next, and else the second
unfoldable pub if_next : {A : Type 0} → ℕ → Reader A → Reader A → Reader A
if_next b R S l = cond (next_is b l) R S l

-- what was read, if nothing is left then
unfoldable pub ended : {A : Type 0} → Option (A × Left) → Option A
ended none = none
ended (some r) = cond (is_empty r.1.bytes) (some r.0) none

-- what the reader gives for a text, if it reads the text whole
unfoldable pub whole : {A : Type 0} → Reader A → List ℕ → Option A
whole R text = ended (R (from text 0))
