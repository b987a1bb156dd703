-- Where the code found nothing: that answer is right if the reader refuses. Assumes nothing.
use Prim.Native.Nat.{ℕ}
use mathlib.Core.List.{List}
use mathlib.Core.Option.{Option, none}
use mathlib.Core.Path.{◌≡◌}
use Rattle.form.specs.BodyPlaces.{BodyWithin, ColumnsWithin, ReadsBody, ReadsColumns, ReadsSet, SetWithin, body_at, set_at, table_to}
use Rattle.form.specs.Form.{Form}
use Rattle.form.specs.FormReader.{form_of, schemes}
use Rattle.form.specs.Places.{FoundWithin, Reads, line_found}
use Rattle.form.specs.declared.lines.Line.{Line}
use Rattle.form.specs.declared.lines.Scheme as coded
use Rattle.std.specs.Prelude as prelude
use Rattle.std.specs.Prelude.{None}
use Rattle.text.specs.Brackets.{keyword}
use Rattle.text.specs.Reader.{Left, from}
use Rattle.text.specs.Words.{Word}

module _ (s : List ℕ) where
  -- what stands behind a keyword
  pub body_none : {o : Option (Form × Left)} {r : prelude.Option (Line × ℕ)} → r ≡ None → o ≡ none → ReadsBody s o r
  unfolding body_at BodyWithin
  body_none h k = rw h (record { is = k; within = tt })

  -- a set of purposes
  pub set_none : {o : Option (List Word × Left)} {r : prelude.Option (ℕ × ℕ)} → r ≡ None → o ≡ none → ReadsSet s o r
  unfolding set_at SetWithin
  set_none h k = rw h (record { is = k; within = tt })

  -- a scheme and its columns
  pub columns_none : (at : ℕ) {r : prelude.Option (coded.Scheme × ℕ × ℕ × ℕ)} → r ≡ None → ((t : Word) → keyword (schemes t) (from s at) ≡ none) → ReadsColumns s at r
  unfolding table_to ColumnsWithin
  columns_none at h k = rw h (record { is = k; within = tt })

  -- the whole line
  pub line_none : {r : prelude.Option Line} → r ≡ None → form_of s ≡ none → Reads s r
  unfolding line_found FoundWithin
  line_none h k = rw h (record { is = k; within = tt })
