-- Contract: A line of a conditional role, whose condition stands at a place of it: what its fault finder gives.
use Rattle.std.specs.Prelude.{ℕ, List, ◌≡◌}
use Rattle.std.proofs.Math.Option.{none, some}
use Rattle.condition.specs.Cond.{Cond}
use Rattle.condition.specs.CondForm.{Compared, condition_in_form}
use Rattle.document.specs.Policy.{Doc}
use Rattle.stepping.specs.Judged.{Judges}
use Rattle.form.specs.Form.{cond_role}
use Rattle.text.specs.Reader.{Left, from}
use Rattle.text.specs.Words.{word_of}
use Rattle.stepping.specs.declared.fault.Fault.TheVariants.{Whole}
use Rattle.std.specs.Prelude.{Err, Result}
use Rattle.text.specs.declared.refusals.Reason.TheVariants.{WrongForm}
use Rattle.stepping.specs.declared.fault.Fault.{Fault}

-- the outcome of the check, for the condition that is read at t of the line; where none is, the line has the wrong form
pub record JudgesCond (Held : Doc → Type 0) (Placed : Type 0) (line : List ℕ) (c r t k : ℕ) (f : Result (Unit {0}) Fault) : Type 0 where
  pub judges : (x : Cond Compared) (l : Left) → condition_in_form (from line t) ≡ some (x, l) → Judges Held Placed line (cond_role (word_of line c) (word_of line r) x) k 64 f
  pub refuses : condition_in_form (from line t) ≡ none → f ≡ Err (Whole WrongForm)
