-- A line in its text: its words stand there, and it is the bytes from its start to its end. Assumes nothing.
use Prim.Native.Nat.{◌+◌, ◌-◌, ◌≤◌, ℕ}
use borrow.Author.Tests.{eqb-true, ltb-false, ltb-true, ne_eqb}
use lib.Dec.{eqb, ltb}
use lib.ListN.{drop, drop_of_length-le, get_or, length, length-drop, length-take, take, take-append-drop}
use lib.Seq.{drop-append-le, drop-drop, take_at}
use mathlib.Core.Bool.{cond, false}
use mathlib.Core.List.{List, [], ◌++◌, ◌∷◌}
use mathlib.Core.Logic.{⊎_elim}
use mathlib.Core.Path.{◌∙◌, ◌≡◌, ap, refl, sym}
use native.Mathlib.Omega.{arith}
use Rattle.workspace.specs.Cells.{line_in}
use Rattle.lists.proofs.Tests.{decide, never}
use Rattle.stepping.specs.Stored.{LineAt}
use Rattle.text.specs.Bytes.{first_byte, is_digit, is_letter, is_name_byte}
use Rattle.text.specs.Lines.{LineEnd}
use Rattle.text.specs.Words.{name_bytes, to_closing, word_at, written_at}
use Rattle.text.proofs.Closings.{closing_append, closing_feed, closing_none}
use Rattle.text.proofs.Lefts.{first_drop}
use Rattle.text.proofs.WordLaws.{word_stop}

-- name bytes before something that does not begin with one
run_before : (bs rest : List ℕ) → name_bytes rest ≡ [] → name_bytes (bs ++ rest) ≡ name_bytes bs
unfolding name_bytes
run_before [] rest h = h
run_before (b ∷ bs) rest h = ap (λ l. cond (is_name_byte b) (b ∷ l) []) (run_before bs rest h)

-- what no bracket closes begins with a line feed, if with anything
no_byte : (c : ℕ) → (c ≡ 0 → ⊥) → (c ≡ 10 → ⊥) → (bs : List ℕ) → to_closing bs ≡ [] → eqb (first_byte bs) c ≡ false
unfolding to_closing
no_byte c nz nf [] h = ne_eqb 0 c (λ e. nz (sym e))
no_byte c nz nf (b ∷ bs) h = never (eqb b c) (λ e. go (eqb-true b c e) h)
  where
    go : b ≡ c → cond (eqb b 10) [] (b ∷ cond (eqb b 41) [] (to_closing bs)) ≡ [] → ⊥
    go e k = absurd (omega (arith, ap length (rw (ne_eqb b 10 (λ z. nf (sym e ∙ z))) at k)))

module _ {text : List ℕ} {at : ℕ} {line : List ℕ} (l : LineAt text at line) where
  -- a word of the line stands in the text
  pub word_in_line : (p : ℕ) → p ≤ length line → word_at text (at + p) ≡ word_at line p
  word_in_line p h =
      ap name_bytes (sym (drop-drop p at text) ∙ ap (drop p) l.is ∙ drop-append-le p line l.rest h)
      ∙ run_before (drop p line) l.rest l.ends

  -- so it does at the position that the code finds
  pub word_placed : (p r : ℕ) → p ≤ length line → (at + p ≤ length text → r ≡ at + p) → word_at text r ≡ word_at line p
  word_placed p r h e = ap (word_at text) (e (omega (arith, l.within))) ∙ word_in_line p h

  left_in_line : (p : ℕ) → p ≤ length line → drop (at + p) text ≡ drop p line ++ l.rest
  left_in_line p h = sym (drop-drop p at text) ∙ ap (drop p) l.is ∙ drop-append-le p line l.rest h

  -- a byte that is no line feed stands at a place of the text if it stands at that of the line
  pub byte_in_line : (c : ℕ) → (c ≡ 0 → ⊥) → (c ≡ 10 → ⊥) → (p : ℕ) → p ≤ length line → eqb (get_or text (at + p) 0) c ≡ eqb (get_or line p 0) c
  byte_in_line c nz nf p h = ap (λ (b : ℕ). eqb b c) (sym (first_drop text (at + p)) ∙ ap first_byte (left_in_line p h)) ∙ go (drop p line) refl
    where
      go : (bs : List ℕ) → drop p line ≡ bs → eqb (first_byte (bs ++ l.rest)) c ≡ eqb (get_or line p 0) c
      go [] e = no_byte c nz nf l.rest l.closes ∙ sym (ne_eqb 0 c (λ z. nz (sym z))) ∙ ap (λ (b : ℕ). eqb b c) (sym (ap first_byte e) ∙ first_drop line p)
      go (b ∷ bs) e = ap (λ (b : ℕ). eqb b c) (sym (ap first_byte e) ∙ first_drop line p)

  opens_in_line : (p : ℕ) → p ≤ length line → eqb (get_or text (at + p) 0) 40 ≡ eqb (get_or line p 0) 40
  opens_in_line = byte_in_line 40 (λ z. absurd (omega (arith, z))) (λ z. absurd (omega (arith, z)))

  -- and a value does, as it is written
  written_in_line : (p : ℕ) → p ≤ length line → written_at text (at + p) ≡ written_at line p
  unfolding written_at
  written_in_line p h = λ j. cond (opens_in_line p h j) (closing j) (word_in_line p h j)
    where
      closing : to_closing (drop (at + p) text) ≡ to_closing (drop p line)
      closing = ap to_closing (left_in_line p h) ∙ closing_append (drop p line) l.rest l.closes

  pub written_placed : (p r : ℕ) → p ≤ length line → (at + p ≤ length text → r ≡ at + p) → written_at text r ≡ written_at line p
  written_placed p r h e = ap (written_at text) (e (omega (arith, l.within))) ∙ written_in_line p h

  -- the line itself
  pub line_placed : (e : ℕ) → (at + length line ≤ length text → e ≡ at + length line) → line_in text at e ≡ line
  line_placed e h =
      let m : e - at ≡ length line = omega (arith, h l.within) in
      ap (λ n. take n (drop at text)) m ∙ ap (take (length line)) l.is ∙ take_at line l.rest (length line) refl

-- what a line ends with is no name byte
feed_none : is_name_byte 10 ≡ false
unfolding is_name_byte is_letter is_digit
feed_none = refl

-- a line that the code finds stands there
pub line_at : (text : List ℕ) (at e : ℕ) → at ≤ length text → at ≤ e → LineEnd text at e → LineAt text at (line_in text at e)
line_at text at e h k l = record {
  rest = drop e text;
  is = sym (ap (λ x. take (e - at) (drop at text) ++ x) tail ∙ take-append-drop (e - at) (drop at text));
  ends = ⊎_elim (λ t. word_stop text e (ap is_name_byte (l.feed (ltb-true e (length text) t)) ∙ feed_none)) (λ f. last (ltb-false e (length text) f)) (decide (ltb e (length text)));
  closes = ⊎_elim (λ t. closing_feed text e (ltb-true e (length text) t) (l.feed (ltb-true e (length text) t))) (λ f. closing_none text e (ltb-false e (length text) f)) (decide (ltb e (length text)));
  within = omega (arith, length-take (e - at) (drop at text), length-drop at text, l.within h);
}
  where
    tail : drop e text ≡ drop (e - at) (drop at text)
    tail = ap (λ n. drop n text) (split (omega (arith, k))) ∙ sym (drop-drop (e - at) at text)
      where
        split : e ≡ at + (e - at) → e ≡ at + (e - at)
        split x = x

    last : length text ≤ e → name_bytes (drop e text) ≡ []
    last g = unfold name_bytes in ap name_bytes (drop_of_length-le text g)
