-- Contract: what functions of this crate promise, where it takes more than a line.
use Rattle.std.specs.Prelude.{◌<◌, ◌≤◌, ℕ, length, Bool, false, true, List, ◌≡◌}
use Rattle.std.proofs.Math.Option.{Option}
use Rattle.document.specs.Check.{check_form}
use Rattle.document.specs.Meaning.{add}
use Rattle.document.specs.Policy.{Doc}
use Rattle.document.specs.Lookup.{strong_in, weak_in}
use Rattle.document.specs.NoteFaults.{misplaced_note}
use Rattle.form.specs.Form.{Note, note, public, strong, weak}
use Rattle.index.specs.Workspace.{Indexed}
use Rattle.relations.specs.Labels.{Labels}
use Rattle.relations.specs.Notes.{Notes}
use Rattle.relations.specs.Rows.{Rows}
use Rattle.relations.specs.Tables.{Tables}
use Rattle.stepping.specs.Follows.{Follows}
use Rattle.stepping.specs.Judged.{Judges}
use Rattle.stepping.specs.Stored.{Passes}
use Rattle.text.specs.Words.{Word, word_of}
use Rattle.index.specs.declared.counts.Counts.{Counts}
use Rattle.std.specs.Prelude.{Result}
use Rattle.stepping.specs.declared.fault.Fault.{Fault}

-- note_faults::public_fault: the table whose name stands at t of the line, among k of them, declared public; notes have no bound, so
-- there is room for one more than none
abbrev pub PublicFaultPromise : (text tables : List ℕ) (k : ℕ) (line : List ℕ) (t : ℕ) (r : Result (Unit {0}) Fault) → Type 0
PublicFaultPromise text tables k line t r =
    Judges (λ d. Tables text tables k d.policy.tables × Notes tables k d.policy.notes) (t ≤ length line) line (note (word_of line t) public) 0 1 r

-- note_storing::store_public: stores that the table of the name at t of the line, one of k, is public
abbrev pub StorePublicPromise : (text tables tables' : List ℕ) (k : ℕ) (line : List ℕ) (t : ℕ) → Type 0
StorePublicPromise text tables tables' k line t =
    (d : Doc) → Tables text tables k d.policy.tables → Notes tables k d.policy.notes → Passes d line (note (word_of line t) public) →
    Tables text tables' k d.policy.tables × Notes tables' k (add d (note (word_of line t) public)).policy.notes

-- steps::step_public: the table whose name stands at t is declared public
abbrev pub StepPublicPromise : (text line tables tables' : List ℕ) (c : Counts) (t : ℕ) (s : Result Counts Fault) → Type 0
StepPublicPromise text line tables tables' c t s =
    (d : Doc) (ps' rs' bs' us' cs' gs' ls' ms' ws' : List ℕ) → t ≤ length line → Indexed text ps' rs' bs' us' cs' gs' ls' ms' tables ws' c d →
    Follows (Indexed text ps' rs' bs' us' cs' gs' ls' ms' tables' ws') line (check_form d line (note (word_of line t) public)) s

-- ---- weak and strong labels (02, Q-11)

-- the note of a weak label, or of a strong one
abbrev pub note_by : {L : Type 0} → Bool → L → Note L
note_by false l = weak l
note_by true l = strong l

-- the label that a note gives, if it gives a weak one, or a strong one
abbrev pub given_in : Bool → Note ℕ → Option ℕ
given_in false = weak_in
given_in true = strong_in

-- note_faults::is_out_of_place: a strong label for table t, or a weak one, is out of place
abbrev pub OutOfPlacePromise : (tables rows : List ℕ) (count t : ℕ) (strong? r : Bool) → Type 0
OutOfPlacePromise tables rows count t strong? r =
    (d : Doc) (text : List ℕ) (k : ℕ) (w : Word) → Tables text tables k d.policy.tables → Notes tables k d.policy.notes → Rows text rows count d.rows → t < k →
    r ≡ misplaced_note d t (note_by strong? w)

-- note_faults::label_note_fault: the label whose name stands at l of the line, given to the table whose name stands at t
abbrev pub LabelNoteFaultPromise : (text labels tables rows : List ℕ) (c : Counts) (line : List ℕ) (t l : ℕ) (strong? : Bool) (r : Result (Unit {0}) Fault) → Type 0
LabelNoteFaultPromise text labels tables rows c line t l strong? r =
    Judges (λ d. Tables text tables c.tables d.policy.tables × Notes tables c.tables d.policy.notes × ((sets : List ℕ) × Labels text labels sets c.labels d.policy.labels) × Rows text rows c.rows d.rows)
    ((t ≤ length line) × (l ≤ length line)) line (note (word_of line t) (note_by strong? (word_of line l))) 0 1 r

-- note_storing::store_label_note: stores the label of the name at l of the line for the table of the name at t
abbrev pub StoreLabelNotePromise : (text labels : List ℕ) (labels_count : ℕ) (tables tables' : List ℕ) (k : ℕ) (line : List ℕ) (t l : ℕ) (strong? : Bool) → Type 0
StoreLabelNotePromise text labels labels_count tables tables' k line t l strong? =
    (d : Doc) (sets : List ℕ) → Labels text labels sets labels_count d.policy.labels → Tables text tables k d.policy.tables → Notes tables k d.policy.notes →
    Passes d line (note (word_of line t) (note_by strong? (word_of line l))) →
    Tables text tables' k d.policy.tables × Notes tables' k (add d (note (word_of line t) (note_by strong? (word_of line l)))).policy.notes

-- steps::step_label_note: the table whose name stands at t gets the label whose name stands at l
abbrev pub StepLabelNotePromise : (text line labels tables tables' rows : List ℕ) (c : Counts) (t l : ℕ) (strong? : Bool) (s : Result Counts Fault) → Type 0
StepLabelNotePromise text line labels tables tables' rows c t l strong? s =
    (d : Doc) (ps' rs' bs' us' cs' gs' ms' : List ℕ) → ((t ≤ length line) × (l ≤ length line)) → Indexed text ps' rs' bs' us' cs' gs' labels ms' tables rows c d →
    Follows (Indexed text ps' rs' bs' us' cs' gs' labels ms' tables' rows) line (check_form d line (note (word_of line t) (note_by strong? (word_of line l)))) s
