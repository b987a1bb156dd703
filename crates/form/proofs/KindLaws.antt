-- The types of attributes and of columns, as code finds them at a position of a text. Assumes nothing.
use Prim.Native.Nat.{◌+◌, ℕ}
use lib.ListN.{get_or, length}
use mathlib.Core.Bool.{false, true}
use mathlib.Core.List.{List}
use mathlib.Core.Option.{none, some}
use mathlib.Core.Path.{◌∙◌, ◌≡◌, sym}
use Rattle.condition.specs.Kinds.{dates, names, numbers}
use Rattle.form.specs.FormReader.{column_kinds, kinds}
use Rattle.text.proofs.Spaces.{next_here, next_not}
use Rattle.text.proofs.WordLaws.{word_always}
use Rattle.text.specs.Brackets.{among, keyword, next}
use Rattle.text.specs.Bytes.{ascii}
use Rattle.text.specs.Names.{same_name}
use Rattle.text.specs.Reader.{from}
use Rattle.text.specs.Words.{is_called, word_at}

module _ (s : List ℕ) (at : ℕ) where
  -- the word is the keyword `num`
  pub kind_num : same_name (word_at s at) (ascii "num") ≡ true → keyword kinds (from s at) ≡ some (numbers, from s (at + length (word_at s at)))
  unfolding keyword kinds among is_called
  kind_num h = rw (word_always s at, h)

  -- or the keyword `name`
  pub kind_name : same_name (word_at s at) (ascii "num") ≡ false → same_name (word_at s at) (ascii "name") ≡ true → keyword kinds (from s at) ≡ some (names, from s (at + length (word_at s at)))
  unfolding keyword kinds among is_called
  kind_name h k = rw (word_always s at, h, k)

  -- or neither
  pub kind_none : same_name (word_at s at) (ascii "num") ≡ false → same_name (word_at s at) (ascii "name") ≡ false → keyword kinds (from s at) ≡ none
  unfolding keyword kinds among is_called
  kind_none h k = rw (word_always s at, h, k)

-- ---- the types of columns, behind a space

module _ (s : List ℕ) (at : ℕ) where
  pub column_kind_unspaced : (get_or s at 0 ≡ 32 → ⊥) → next (keyword column_kinds) (from s at) ≡ none
  column_kind_unspaced h = next_not (keyword column_kinds) s at h

  module _ (b : get_or s at 0 ≡ 32) where
    -- the word is the keyword `date`
    pub column_kind_date : same_name (word_at s (at + 1)) (ascii "date") ≡ true → next (keyword column_kinds) (from s at) ≡ some (dates, from s (at + 1 + length (word_at s (at + 1))))
    unfolding keyword column_kinds among is_called
    column_kind_date h = next_here (keyword column_kinds) s at b ∙ rw (word_always s (at + 1), h)

    -- or it is not
    pub column_kind_other : same_name (word_at s (at + 1)) (ascii "date") ≡ false → next (keyword column_kinds) (from s at) ≡ next (keyword kinds) (from s at)
    unfolding keyword column_kinds among is_called
    column_kind_other h = next_here (keyword column_kinds) s at b ∙ (rw (word_always s (at + 1), h)) ∙ sym (next_here (keyword kinds) s at b)
