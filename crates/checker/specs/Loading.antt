-- Contract: what the check of a document into lent arrays answers: the refusal, or how many of each kind the arrays hold then.
use Rattle.std.specs.Prelude.{◌≤◌, ℕ, length, List, ◌≡◌}
use Rattle.index.specs.Workspace.{Indexed}
use Rattle.document.specs.Check.{Accepted, check}
use Rattle.document.specs.Policy.{Doc}
use Rattle.text.specs.Reasons.{refusal_of}
use Rattle.text.specs.Refusal.{accepted, refused}
use Rattle.index.specs.declared.counts.Counts.{Counts}
use Rattle.std.specs.Prelude.{Err, Ok, Result}
use Rattle.text.specs.declared.refusals.Refusal as code

-- the text is an accepted document of n lines, and the arrays hold it, as many of each kind as c says
pub record HoldsDocument (doc ps rs bs us cs gs ls ms ts ws : List ℕ) (c : Counts) (n : ℕ) : Type 0 where
  pub what : Doc
  pub is : check doc ≡ accepted (record { lines = n; doc = what })
  pub held : Indexed doc ps rs bs us cs gs ls ms ts ws c what
  pub small : length doc ≤ 60000

-- THE CHECK INTO ARRAYS: the answer r stands for the outcome of the check of the document, and the arrays hold what was accepted
pub record Loads (doc ps rs bs us cs gs ls ms ts ws : List ℕ) (r : Result (Counts × ℕ) code.Refusal) : Type 0 where
  pub refuses : (x : code.Refusal) → r ≡ Err x → check doc ≡ refused (refusal_of x)
  pub accepts : (c : Counts) (n : ℕ) → r ≡ Ok (c, n) → HoldsDocument doc ps rs bs us cs gs ls ms ts ws c n
