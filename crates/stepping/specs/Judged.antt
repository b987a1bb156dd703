-- Contract: what the code's answer to a line stands for: the outcome of its check (01, "Checking a document").
use Rattle.std.specs.Prelude.{◌<◌, ◌≤◌, ℕ, length, List, ◌≡◌}
use Rattle.document.specs.Check.{check_form}
use Rattle.document.specs.Meaning.{add}
use Rattle.document.specs.Policy.{Doc}
use Rattle.form.specs.Form.{Form}
use Rattle.text.specs.Reasons.{reason_number}
use Rattle.text.specs.Refusal.{Refusal, Result, accepted, document, pointing, pointing_all, refused}
use Rattle.text.specs.Words.{word_of, written_of}
use Rattle.stepping.specs.declared.fault.Fault.{Fault}
use Rattle.stepping.specs.declared.fault.Fault.TheVariants.{Item, Value, Whole}
use Rattle.std.specs.Prelude.{Err, Ok}
use Rattle.std.specs.Prelude as prelude

-- the refusal that a fault stands for, its part placed within the line
abbrev pub refusal_in : List ℕ → Fault → Refusal
refusal_in line (Whole x) = pointing_all (reason_number x) document line
refusal_in line (Item x at) = pointing (reason_number x) document (word_of line at)
refusal_in line (Value x at) = pointing (reason_number x) document (written_of line at)

-- the document with the form added, or the refusal
abbrev pub judged : Doc → List ℕ → Form → prelude.Result (Unit {0}) Fault → Result Doc
judged d line f (Ok tt) = accepted (add d f)
judged d line f (Err x) = refused (refusal_in line x)

-- the word or value that is refused stands in the line
abbrev pub Reaches : List ℕ → Fault → Type 0
Reaches line (Whole x) = Unit {0}
Reaches line (Item x at) = at ≤ length line
Reaches line (Value x at) = at ≤ length line

-- the same of the item that the verdict refuses, if it refuses one
abbrev pub ReachesBy : List ℕ → prelude.Result (Unit {0}) Fault → Type 0
ReachesBy line (Ok tt) = Unit {0}
ReachesBy line (Err x) = Reaches line x

-- where nothing is wrong, there is room for one more
abbrev pub RoomFor : prelude.Result (Unit {0}) Fault → ℕ → ℕ → Type 0
RoomFor (Ok tt) k room = k < room
RoomFor (Err x) k room = Unit {0}

-- what a fault finder gives for a line of this form: for every document that the workspace holds (Held), the outcome of the
-- form's check; where nothing is wrong, room for one more than k; and an item of the line, if the given places lie in it
pub record Judges (Held : Doc → Type 0) (Placed : Type 0) (line : List ℕ) (f : Form) (k room : ℕ) (r : prelude.Result (Unit {0}) Fault) : Type 0 where
  pub is : (d : Doc) → Held d → check_form d line f ≡ judged d line f r
  pub roomy : RoomFor r k room
  pub reaches : Placed → ReachesBy line r
