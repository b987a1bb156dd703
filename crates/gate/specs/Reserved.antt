-- Meaning: what the gate answers for a document (01, "Checking a document"): the outcome of the check, and what its reserve covers.
use Rattle.std.specs.Prelude.{ℕ, List}
use Rattle.answer.specs.Reserve.{IsReserve}
use Rattle.gate.specs.Outcome.{Checks}
use Rattle.std.specs.Prelude.{Err, Ok, Result}
use Rattle.text.specs.declared.refusals.Refusal.{Refusal}

-- the second number that an accepted document hands back does as a reserve of it
unfoldable pub HasReserve : List ℕ → Result (ℕ × ℕ) Refusal → Type 0
HasReserve doc (Ok (n, r)) = IsReserve doc r
HasReserve doc (Err x) = Unit {0}

-- the answer r stands for the outcome of the check, and what it hands back as a reserve does as one
pub record ChecksDocument (doc : List ℕ) (r : Result (ℕ × ℕ) Refusal) : Type 0 where
  pub is : Checks doc r
  pub reserve : HasReserve doc r
