-- What a fault finder's answer says of a line: that it passes, with room for one more, or that it is refused. Assumes nothing.
use Prim.Native.Nat.{◌<◌, ℕ}
use mathlib.Core.List.{List}
use mathlib.Core.Option.{none, some}
use mathlib.Core.Path.{◌∙◌, ◌≡◌, ap, subst, sym}
use native.Mathlib.Omega.{arith}
use Rattle.stepping.specs.Follows.{Follows, Grows, Refuses}
use Rattle.document.specs.Check.{check_form, check_line}
use Rattle.document.specs.Meaning.{add}
use Rattle.document.specs.Policy.{Doc}
use Rattle.stepping.specs.Judged.{Judges, ReachesBy, RoomFor, judged}
use Rattle.form.specs.Form.{Form}
use Rattle.form.specs.FormReader.{form_of}
use Rattle.text.specs.Refusal.{Result, ◌>>=◌, accepted, document, need, pointing_all, refused}
use Rattle.index.specs.declared.counts.Counts.{Counts}
use Rattle.std.proofs.lemmas.Result.{err_from_is_err_and}
use Rattle.std.specs.Prelude.{Err, IsErrAnd, Ok}
use Rattle.stepping.specs.declared.fault.Fault.{Fault}
use Rattle.std.specs.Prelude as prelude

module _ {Held : Doc → Type 0} {Inside : Type 0} {line : List ℕ} {f : Form} {k room : ℕ} {r : prelude.Result (Unit {0}) Fault} (j : Judges Held Inside line f k room r) where
  -- nothing is wrong: there is room, and the form passes
  pub has_room : r ≡ Ok tt → k < room
  has_room h = subst (λ (x : prelude.Result (Unit {0}) Fault). RoomFor x k room) h j.roomy

  pub passes : r ≡ Ok tt → (d : Doc) → Held d → check_form d line f ≡ accepted (add d f)
  passes h d held = j.is d held ∙ ap (judged d line f) h

  -- something is wrong
  pub refuses : {x : Fault} → r ≡ Err x → (d : Doc) → Held d → Inside → Refuses line (check_form d line f) x
  refuses h d held p = record { is = j.is d held ∙ ap (judged d line f) h; reaches = subst (ReachesBy line) h (j.reaches p) }

-- a line that is a form, and one that is none
pub line_form : (d : Doc) (line : List ℕ) (f : Form) → form_of line ≡ some f → check_line d line ≡ check_form d line f
unfolding check_line need ◌>>=◌
line_form d line f h = rw h

pub line_none : (d : Doc) (line : List ℕ) → form_of line ≡ none → check_line d line ≡ refused (pointing_all 2 document line)
unfolding check_line need ◌>>=◌
line_none d line h = rw h

-- what `?` hands on is the error that it found
pub handed_on : {A E : Type 0} {r : prelude.Result A E} {e : E} → IsErrAnd r (λ x. x ≡ e) → r ≡ Err e
handed_on {A} {E} {r} h = let p = err_from_is_err_and r h in p.1 ∙ ap Err p.2

-- ---- the answer to a line

module _ {Held : Counts → Doc → Type 0} {line : List ℕ} {o : Result Doc} where
  pub follows_fails : {f : Fault} → Refuses line o f → Follows Held line o (Err f)
  follows_fails {f} r = record {
    fails = λ g e. subst (Refuses line o) (let q : f ≡ g = cc in q) r;
    goes = λ c e. absurd (let z : ◌≡◌ {A = ℕ} 0 1 = cc in omega arith);
  }

  pub follows_goes : {c : Counts} → Grows Held o c → Follows Held line o (Ok c)
  follows_goes {c} g = record {
    fails = λ f e. absurd (let z : ◌≡◌ {A = ℕ} 0 1 = cc in omega arith);
    goes = λ k e. subst (Grows Held o) (let q : c ≡ k = cc in q) g;
  }

-- a step that hands on the fault that was found
pub follows_handed : {Held : Counts → Doc → Type 0} {line : List ℕ} {o : Result Doc} {f : Fault} {s : prelude.Result Counts Fault} → Refuses line o f → IsErrAnd s (λ x. x ≡ f) → Follows Held line o s
follows_handed {Held} {line} {o} r e = subst (Follows Held line o) (sym (handed_on e)) (follows_fails r)

-- the same for an outcome that equals it
pub follows_as : {Held : Counts → Doc → Type 0} {line : List ℕ} {o p : Result Doc} {s : prelude.Result Counts Fault} → o ≡ p → Follows Held line o s → Follows Held line p s
follows_as {Held} {line} {o} {p} {s} e f = subst (λ (x : Result Doc). Follows Held line x s) e f

-- the same for a form that equals it
pub judges_as : {Held : Doc → Type 0} {Inside : Type 0} {line : List ℕ} {f g : Form} {k room : ℕ} {r : prelude.Result (Unit {0}) Fault} → f ≡ g → Judges Held Inside line f k room r → Judges Held Inside line g k room r
judges_as {Held} {Inside} {line} {f} {g} {k} {room} {r} e j = subst (λ (x : Form). Judges Held Inside line x k room r) e j
