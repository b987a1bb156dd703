-- A line of the explaining tool as the code reads it: four words behind the keyword, in a bracket with nothing behind it. Assumes nothing.
use Prim.Native.Nat.{◌+◌, ℕ}
use lib.ListN.{get_or, length}
use mathlib.Core.Bool.{false, true}
use mathlib.Core.List.{List, [], ◌∷◌}
use mathlib.Core.Option.{none, some}
use mathlib.Core.Path.{◌∙◌, ◌≡◌, refl}
use Rattle.form.proofs.KeywordLaws.{keyword_at}
use Rattle.query.proofs.PartsRead.{Named}
use Rattle.query.proofs.WholeLaws.{whole_long, whole_open, whole_read, whole_shut, whole_wrong}
use Rattle.query.specs.WhyForm.{WhyForm, why_body, why_of}
use Rattle.query.specs.WhyPlaces.{why_at}
use Rattle.text.proofs.CodeLaws.{word_none, word_to}
use Rattle.text.proofs.Spaces.{next_here, next_not}
use Rattle.text.specs.Brackets.{Keywords, among, keyword, next}
use Rattle.text.specs.Bytes.{ascii}
use Rattle.text.specs.CodeEnds.{word_end}
use Rattle.text.specs.Names.{same_name}
use Rattle.text.specs.Numbers.{is_number}
use Rattle.text.specs.Reader.{from}
use Rattle.text.specs.Words.{is_called, name, word_at, word_that}
use Rattle.query.specs.declared.why.Why.{Why}
use Rattle.std.specs.Prelude.{None, Some}

-- ---- the four words

module _ (s : List ℕ) (at : ℕ) where
  pub why_wrong_1 : next name (from s at) ≡ none → why_body (from s at) ≡ none
  unfolding why_body
  why_wrong_1 z = rw z

  module _ {e : ℕ} (p : Named s at e) where
    pub why_wrong_2 : next name (from s e) ≡ none → why_body (from s at) ≡ none
    unfolding why_body
    why_wrong_2 z = rw (p.is, z)

    module _ {f : ℕ} (t : Named s e f) where
      pub why_wrong_3 : (get_or s f 0 ≡ 32 → ⊥) → why_body (from s at) ≡ none
      unfolding why_body
      why_wrong_3 z = rw (p.is, t.is, next_not (word_that is_number) s f z)

      module _ (space : get_or s f 0 ≡ 32) where
        pub why_wrong_4 : word_end (word_that is_number (from s (f + 1))) ≡ None → why_body (from s at) ≡ none
        unfolding why_body
        why_wrong_4 z = rw (p.is, t.is, next_here (word_that is_number) s f space, word_none s (f + 1) is_number z)

        module _ {g : ℕ} (r : word_end (word_that is_number (from s (f + 1))) ≡ Some g) where
          pub why_wrong_5 : next name (from s g) ≡ none → why_body (from s at) ≡ none
          unfolding why_body
          why_wrong_5 z = rw (p.is, t.is, next_here (word_that is_number) s f space, word_to s (f + 1) is_number g r, z)

          pub why_words : {h : ℕ} → Named s g h → why_body (from s at) ≡ some (why_at s (record { purpose = at + 1; table = e + 1; row = f + 1; column = g + 1 }), from s h)
          unfolding why_body why_at
          why_words c = rw (p.is, t.is, next_here (word_that is_number) s f space, word_to s (f + 1) is_number g r, c.is)

-- ---- the line

-- the one keyword
abbrev keywords : Keywords WhyForm
keywords = (ascii "why", why_body) ∷ []

module _ (s : List ℕ) where
  pub line_shut : (get_or s 0 0 ≡ 40 → ⊥) → why_of s ≡ none
  unfolding why_of
  line_shut h = whole_shut (keyword keywords) s h

  module _ (opens : get_or s 0 0 ≡ 40) where
    -- another keyword
    pub line_other : same_name (word_at s 1) (ascii "why") ≡ false → why_of s ≡ none
    unfolding why_of among is_called
    line_other h = whole_wrong (keyword keywords) s opens (rw (keyword_at keywords s 1 (1 + length (word_at s 1)) refl, h))

    module _ {e : ℕ} (called : same_name (word_at s 1) (ascii "why") ≡ true) (ends : e ≡ 1 + length (word_at s 1)) where
      behind : keyword keywords (from s 1) ≡ why_body (from s e)
      unfolding among is_called
      behind = rw (keyword_at keywords s 1 e ends, called)

      -- what stands behind it is wrong
      pub line_wrong : why_body (from s e) ≡ none → why_of s ≡ none
      unfolding why_of
      line_wrong h = whole_wrong (keyword keywords) s opens (behind ∙ h)

      module _ (w : Why) {f : ℕ} (words : why_body (from s e) ≡ some (why_at s w, from s f)) where
        pub line_open : (get_or s f 0 ≡ 41 → ⊥) → why_of s ≡ none
        unfolding why_of
        line_open h = whole_open (keyword keywords) s opens f (some (why_at s w)) (behind ∙ words) h

        pub line_trailing : get_or s f 0 ≡ 41 → (f + 1 ≡ length s → ⊥) → why_of s ≡ none
        unfolding why_of
        line_trailing h k = whole_long (keyword keywords) s opens f (some (why_at s w)) (behind ∙ words) h k

        pub line_read : get_or s f 0 ≡ 41 → f + 1 ≡ length s → why_of s ≡ some (why_at s w)
        unfolding why_of
        line_read h k = whole_read (keyword keywords) s opens f (some (why_at s w)) (behind ∙ words) h k
