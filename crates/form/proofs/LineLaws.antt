-- A whole line: a bracket with a keyword and what it calls for, and nothing behind it. Assumes nothing.
use Prim.Native.Nat.{◌+◌, ◌<◌, ℕ}
use lib.ListN.{drop_of_length-le, get_or, length}
use mathlib.Core.List.{List}
use mathlib.Core.Option.{Option, map, none, some}
use mathlib.Core.Path.{◌≡◌}
use native.Mathlib.Omega.{arith}
use Rattle.form.specs.Form.{Form}
use Rattle.form.specs.FormReader.{form, form_of, line_forms}
use Rattle.text.proofs.Lefts.{before_end, drop_here}
use Rattle.text.proofs.ReaderLaws.{byte_at_read, byte_at_refused}
use Rattle.text.specs.Brackets.{bracketed, keyword}
use Rattle.text.specs.Reader.{ended, from, whole}

-- no bracket opens the line
pub line_shut : (s : List ℕ) → (get_or s 0 0 ≡ 40 → ⊥) → form_of s ≡ none
unfolding form_of form whole ended bracketed
line_shut s h = rw (byte_at_refused s 0 40 h)

module _ (s : List ℕ) (opens : get_or s 0 0 ≡ 40) where
  -- what stands in the bracket is wrong
  pub line_wrong : keyword line_forms (from s 1) ≡ none → form_of s ≡ none
  unfolding form_of form whole ended bracketed
  line_wrong h = rw (byte_at_read s 0 40 opens, h)

  module _ (e : ℕ) where
    -- the bracket does not close where its content ends
    pub line_open : (o : Option Form) → keyword line_forms (from s 1) ≡ map (λ f. (f, from s e)) o → (get_or s e 0 ≡ 41 → ⊥) → form_of s ≡ none
    unfolding form_of form whole ended bracketed
    line_open none h k = line_wrong h
    line_open (some f) h k = rw (byte_at_read s 0 40 opens, h, byte_at_refused s e 41 k)

    before : get_or s e 0 ≡ 41 → e < length s
    before h = before_end s e (λ z. absurd (omega (arith, h, z)))

    -- something stands behind it
    pub line_long : (o : Option Form) → keyword line_forms (from s 1) ≡ map (λ f. (f, from s e)) o → get_or s e 0 ≡ 41 → (e + 1 ≡ length s → ⊥) → form_of s ≡ none
    unfolding form_of form whole ended bracketed
    line_long none h k z = line_wrong h
    line_long (some f) h k z =
        let b : e < length s = before k in
        let m : e + 1 < length s = omega arith in
        rw (byte_at_read s 0 40 opens, h, byte_at_read s e 41 k, drop_here s (e + 1) m)

    -- nothing does: the line is the form
    pub line_read : (o : Option Form) → keyword line_forms (from s 1) ≡ map (λ f. (f, from s e)) o → get_or s e 0 ≡ 41 → e + 1 ≡ length s → form_of s ≡ o
    unfolding form_of form whole ended bracketed
    line_read none h k z = line_wrong h
    line_read (some f) h k z = rw (byte_at_read s 0 40 opens, h, byte_at_read s e 41 k, drop_of_length-le s {i = e + 1} (omega arith))
