-- Contract: what the answer to one line stands for.
use Rattle.std.specs.Prelude.{ℕ, List, ◌≡◌}
use Rattle.document.specs.Policy.{Doc}
use Rattle.stepping.specs.Judged.{Reaches, refusal_in}
use Rattle.text.specs.Refusal.{Result, accepted, refused}
use Rattle.stepping.specs.declared.fault.Fault.{Fault}
use Rattle.index.specs.declared.counts.Counts.{Counts}
use Rattle.std.specs.Prelude.{Err, Ok}
use Rattle.std.specs.Prelude as prelude

-- a line is refused: its outcome is the refusal that the fault stands for
pub record Refuses (line : List ℕ) (o : Result Doc) (f : Fault) : Type 0 where
  pub is : o ≡ refused (refusal_in line f)
  pub reaches : Reaches line f

-- a line is accepted: the workspace holds the document that is its outcome
pub record Grows (Held : Counts → Doc → Type 0) (o : Result Doc) (c : Counts) : Type 0 where
  pub doc : Doc
  pub is : o ≡ accepted doc
  pub held : Held c doc

-- the answer s to a line stands for its outcome o, and the workspace holds what it says (Held)
pub record Follows (Held : Counts → Doc → Type 0) (line : List ℕ) (o : Result Doc) (s : prelude.Result Counts Fault) : Type 0 where
  pub fails : (f : Fault) → s ≡ Err f → Refuses line o f
  pub goes : (c : Counts) → s ≡ Ok c → Grows Held o c
