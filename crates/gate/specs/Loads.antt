-- Contract: what loading a document into lent arrays gives: the outcome of the check, and arrays that hold the document or none.
use Rattle.std.specs.Prelude.{ℕ, get_or, List, ◌≡◌}
use Rattle.document.specs.Check.{check}
use Rattle.document.specs.Policy.{Doc}
use Rattle.gate.specs.Reserved.{ChecksDocument}
use Rattle.loaded.specs.Holds.{Holds}
use Rattle.std.specs.Prelude.{Err, Ok, Result}
use Rattle.index.specs.declared.counts.Counts.{Counts}
use Rattle.reserve.specs.Sums.{HoldsRows}
use Rattle.telling.specs.Holds.{HoldsLabels}
use Rattle.text.specs.Reasons.{refusal_of}
use Rattle.text.specs.Refusal.{accepted, refused}
use Rattle.text.specs.declared.refusals.Refusal as code

-- the text is an accepted document of n lines, and the arrays hold it, as many of each kind as c says
pub record Held (doc ps rs bs us cs gs ls ms ts ws cells : List ℕ) (c : Counts) (n : ℕ) : Type 0 where
  pub what : Doc
  pub is : check doc ≡ accepted (record { lines = n; doc = what })
  pub rows : HoldsRows doc ws c.tables c.rows what
  pub holds : Holds doc ps rs bs us cs gs ms ts ws cells
  pub labelled : HoldsLabels doc ps ls ms ts ws cells

-- the arrays hold the accepted document; or the answer is its refusal, and they are of no version
unfoldable pub HeldOrNone : (doc ps rs bs us cs gs ls ms ts ws cells : List ℕ) → Result (Counts × ℕ) code.Refusal → Type 0
HeldOrNone doc ps rs bs us cs gs ls ms ts ws cells (Ok (c, n)) = Held doc ps rs bs us cs gs ls ms ts ws cells c n
HeldOrNone doc ps rs bs us cs gs ls ms ts ws cells (Err x) = (check doc ≡ refused (refusal_of x)) × (get_or cells 0 0 ≡ 0)

-- the answer r is that of the check, the reserve aside, and so are the arrays
pub record HoldsArrays (doc ps rs bs us cs gs ls ms ts ws cells : List ℕ) (r : Result (Counts × ℕ) code.Refusal) : Type 0 where
  pub is : HeldOrNone doc ps rs bs us cs gs ls ms ts ws cells r

-- THE LOADING: the answer r is that of the check; arrays of an accepted document hold it, and those of a refused one are of no version
pub record LoadsDocument (doc ps rs bs us cs gs ls ms ts ws cells : List ℕ) (r : Result (ℕ × ℕ) code.Refusal) : Type 0 where
  pub checks : ChecksDocument doc r
  pub accepts : (n m : ℕ) → r ≡ Ok (n, m) → Holds doc ps rs bs us cs gs ms ts ws cells
  pub explains : (n m : ℕ) → r ≡ Ok (n, m) → HoldsLabels doc ps ls ms ts ws cells
  pub refuses : (x : code.Refusal) → r ≡ Err x → get_or cells 0 0 ≡ 0
