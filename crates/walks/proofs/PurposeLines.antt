-- A line that begins with `(purpose ` and has two names up to the bracket that ends it is a purpose below another, and what its names
-- are found to be decides its check. Assumes nothing.
use Prim.Native.Nat.{◌+◌, ℕ}
use borrow.Author.Tests.{eqb-true}
use lib.Dec.{eqb}
use lib.ListN.{get_or, length}
use mathlib.Core.Bool.{◌&&◌, true}
use mathlib.Core.List.{List}
use mathlib.Core.Option.{map, some}
use mathlib.Core.Path.{◌∙◌, ◌≡◌, ap, sym}
use Rattle.walks.specs.PurposeLine.{begins_purpose, below_at}
use Rattle.form.proofs.KeywordLaws.{keyword_at}
use Rattle.form.proofs.LineLaws.{line_read}
use Rattle.form.specs.Form.{Form, purpose}
use Rattle.form.specs.FormReader.{form_of, line_forms, node}
use Rattle.lists.proofs.Tests.{and_left, and_right}
use Rattle.walks.proofs.RowLines.{closes_here, closes_last}
use Rattle.walks.specs.Taken.{closes_at}
use Rattle.text.proofs.NameLaws.{same_name_length}
use Rattle.text.proofs.Spaces.{next_here, optional_here}
use Rattle.text.proofs.WordLaws.{word_read}
use Rattle.text.specs.Brackets.{among, keyword}
use Rattle.text.specs.Bytes.{ascii}
use Rattle.text.specs.Names.{is_name, same_name}
use Rattle.text.specs.Reader.{from}
use Rattle.text.specs.Words.{is_called, name, word_at, word_of}

purpose_keyword : (line : List ℕ) → same_name (word_at line 1) (ascii "purpose") ≡ true → keyword line_forms (from line 1) ≡ node purpose (from line 8)
unfolding line_forms among is_called
purpose_keyword line h = rw (keyword_at line_forms line 1 8 (ap (λ n. 1 + n) (sym (same_name_length (word_at line 1) (ascii "purpose") h))), h)

-- a name that ends at e
name_read : (line : List ℕ) (at e : ℕ) → e ≡ at + length (word_at line at) → is_name (word_at line at) ≡ true → name (from line at) ≡ some (word_of line at, from line e)
name_read line at e h k = word_read line at is_name k ∙ ap (λ m. some (word_of line at, from line m)) (sym h)

module _ (line : List ℕ) (h : begins_purpose line ≡ true) where
  front : (eqb (get_or line 0 0) 40 && same_name (word_at line 1) (ascii "purpose")) ≡ true
  unfolding begins_purpose
  front = and_left (eqb (get_or line 0 0) 40 && same_name (word_at line 1) (ascii "purpose")) (eqb (get_or line 8 0) 32) h

  opens : get_or line 0 0 ≡ 40
  opens = eqb-true _ _ (and_left (eqb (get_or line 0 0) 40) (same_name (word_at line 1) (ascii "purpose")) front)

  pub space : get_or line 8 0 ≡ 32
  unfolding begins_purpose
  space = eqb-true _ _ (and_right (eqb (get_or line 0 0) 40 && same_name (word_at line 1) (ascii "purpose")) (eqb (get_or line 8 0) 32) h)

  module _ (e f : ℕ)
      (ends : e ≡ 9 + length (word_at line 9)) (named : is_name (word_at line 9) ≡ true)
      (parted : get_or line e 0 ≡ 32)
      (above : f ≡ (e + 1) + length (word_at line (e + 1))) (known : is_name (word_at line (e + 1)) ≡ true)
      (closed : closes_at line f ≡ true) where
    body : keyword line_forms (from line 1) ≡ map (λ (x : Form). (x, from line f)) (some (below_at line (e + 1)))
    unfolding node
    body =
        purpose_keyword line (and_right (eqb (get_or line 0 0) 40) (same_name (word_at line 1) (ascii "purpose")) front)
        ∙ (rw (next_here name line 8 space, name_read line 9 e ends named, optional_here name line e parted, name_read line (e + 1) f above known))

    pub below_form : form_of line ≡ some (below_at line (e + 1))
    below_form = line_read line opens f (some (below_at line (e + 1))) body (closes_here line f closed) (closes_last line f closed)
