-- The purposes that a label's line denies, read from the text again: a walk goes through the text as through the line. Assumes nothing.
use Prim.Native.Nat.{◌+◌, ◌≤◌, suc, zero, ℕ}
use borrow.Author.Tests.{eqb-false, eqb-true}
use lib.Dec.{eqb}
use lib.ListN.{get_or, length}
use mathlib.Core.Bool.{Bool, false, true}
use mathlib.Core.List.{List, ◌∷◌, map}
use mathlib.Core.Path.{◌∙◌, ◌≡◌, ap, refl, sym}
use native.Mathlib.Omega.{arith}
use Rattle.form.proofs.WalkLaws.{walk_end_more, walk_end_stop}
use Rattle.form.proofs.WalkSteps.{names_more, names_stop}
use Rattle.form.specs.Walks.{allow_place, deny_place, first_in, list_end_at, names_at}
use Rattle.stepping.proofs.PlaceLaws.{byte_in_line, word_in_line}
use Rattle.stepping.specs.Stored.{LineAt}
use Rattle.text.proofs.Spaces.{space_here}
use Rattle.text.proofs.WalkingLaws.{past_here, past_other, past_within, word_forward, word_within}
use Rattle.text.specs.Walking.{next_word, past, word_end_at}
use Rattle.text.specs.Words.{Word, word_at}

module _ {text : List ℕ} {at : ℕ} {line : List ℕ} (l : LineAt text at line) where
  -- q is the position in the text of the place p of the line
  record Stands (p q : ℕ) : Type 0 where
    is : q ≡ at + p
    in_line : p ≤ length line

  -- behind a byte that is no line feed, if it stands there
  on_past : (c : ℕ) → (c ≡ 0 → ⊥) → (c ≡ 10 → ⊥) → {p q : ℕ} → Stands p q → Stands (past c line p) (past c text q)
  on_past c nz nf {p} {q} s = record {
    is = ap (past c text) s.is ∙ go (eqb (get_or line p 0) c) refl;
    in_line = past_within c line p s.in_line;
  }
    where
      go : (b : Bool) → eqb (get_or line p 0) c ≡ b → past c text (at + p) ≡ at + past c line p
      go true e =
          let a : past c text (at + p) ≡ at + p + 1 = past_here c text (at + p) nz (eqb-true _ _ (byte_in_line l c nz nf p s.in_line ∙ e)) in
          let b : past c line p ≡ p + 1 = past_here c line p nz (eqb-true _ _ e) in
          omega (arith, a, b)
      go false e =
          let a : past c text (at + p) ≡ at + p = past_other c text (at + p) (eqb-false _ _ (byte_in_line l c nz nf p s.in_line ∙ e)) in
          let b : past c line p ≡ p = past_other c line p (eqb-false _ _ e) in
          omega (arith, a, b)

  -- behind a word
  on_word : {p q : ℕ} → Stands p q → Stands (word_end_at line p) (word_end_at text q)
  on_word {p} {q} s = record { is = ap (word_end_at text) s.is ∙ ends; in_line = word_within line p s.in_line }
    where
      ends : word_end_at text (at + p) ≡ at + word_end_at line p
      ends = unfold word_end_at in omega (arith, ap length (word_in_line l p s.in_line))

  -- the names from a place on, and where they end
  record Listed (p q : ℕ) : Type 0 where
    names : map (λ (w : Word). w.bytes) (names_at text q) ≡ map (λ (w : Word). w.bytes) (names_at line p)
    ends : Stands (list_end_at word_end_at line p) (list_end_at word_end_at text q)

  -- the place behind a space
  behind_space : {p q : ℕ} → Stands p q → get_or line p 0 ≡ 32 → Stands (p + 1) (q + 1)
  behind_space {p} {q} s e = record { is = omega (arith, s.is); in_line = omega (arith, (space_here line p (get_or line p 0) refl e).1) }

  -- one name more, or none
  list_turn : {p q : ℕ} (s : Stands p q) → (get_or line p 0 ≡ 32 → Listed (word_end_at line (p + 1)) (word_end_at text (q + 1))) → Listed p q
  list_turn {p} {q} s more = go (eqb (get_or line p 0) 32) refl
    where
      same : eqb (get_or text q 0) 32 ≡ eqb (get_or line p 0) 32
      same = ap (λ (x : ℕ). eqb (get_or text x 0) 32) s.is ∙ byte_in_line l 32 (λ z. absurd (omega (arith, z))) (λ z. absurd (omega (arith, z))) p s.in_line

      go : (b : Bool) → eqb (get_or line p 0) 32 ≡ b → Listed p q
      go false e =
          let here : list_end_at word_end_at line p ≡ p = walk_end_stop word_end_at line (word_forward line) p (eqb-false _ _ e) in
          let there : list_end_at word_end_at text q ≡ q = walk_end_stop word_end_at text (word_forward text) q (eqb-false _ _ (same ∙ e)) in
          record {
            names = ap (map (λ (w : Word). w.bytes)) (names_stop text q (eqb-false _ _ (same ∙ e))) ∙ sym (ap (map (λ (w : Word). w.bytes)) (names_stop line p (eqb-false _ _ e)));
            ends = record { is = there ∙ s.is ∙ ap (λ (x : ℕ). at + x) (sym here); in_line = omega (arith, here, s.in_line) };
          }
      go true e =
          let space : get_or line p 0 ≡ 32 = eqb-true _ _ e in
          let next = behind_space s space in
          let rest = more space in
          let here : list_end_at word_end_at line p ≡ list_end_at word_end_at line (word_end_at line (p + 1)) = walk_end_more word_end_at line (word_forward line) p space in
          let there : list_end_at word_end_at text q ≡ list_end_at word_end_at text (word_end_at text (q + 1)) = walk_end_more word_end_at text (word_forward text) q (eqb-true _ _ (same ∙ e)) in
          let word : word_at text (q + 1) ≡ word_at line (p + 1) = ap (word_at text) next.is ∙ word_in_line l (p + 1) next.in_line in
          record {
            names = ap (map (λ (w : Word). w.bytes)) (names_more text q (eqb-true _ _ (same ∙ e)))
                ∙ (λ i. word i ∷ rest.names i)
                ∙ sym (ap (map (λ (w : Word). w.bytes)) (names_more line p space));
            ends = record { is = there ∙ rest.ends.is ∙ ap (λ (x : ℕ). at + x) (sym here); in_line = omega (arith, here, rest.ends.in_line) };
          }

  on_list : (m : ℕ) {p q : ℕ} → length line ≤ p + m → Stands p q → Listed p q
  on_list zero {p} {q} h s = list_turn s (λ e. absurd (omega (arith, h, (space_here line p (get_or line p 0) refl e).1)))
  on_list (suc m) {p} {q} h s = list_turn s (λ e. on_list m (omega (arith, h, word_forward line (p + 1))) (on_word (behind_space s e)))

  -- from where on the denied purposes stand
  denied_stand : {p q : ℕ} → Stands p q → Stands (deny_place line p) (deny_place text q)
  unfolding deny_place allow_place first_in next_word
  denied_stand s = on_word (opened (spaced (on_past 41 (λ z. absurd (omega (arith, z))) (λ z. absurd (omega (arith, z))) (on_list (length line) (omega arith) (on_word (opened (spaced (on_word s))))).ends)))
    where
      spaced : {p q : ℕ} → Stands p q → Stands (past 32 line p) (past 32 text q)
      spaced = on_past 32 (λ z. absurd (omega (arith, z))) (λ z. absurd (omega (arith, z)))

      opened : {p q : ℕ} → Stands p q → Stands (past 40 line p) (past 40 text q)
      opened = on_past 40 (λ z. absurd (omega (arith, z))) (λ z. absurd (omega (arith, z)))

  -- the denied purposes of a label whose name stands at n of the line are read at the position that the code finds
  pub denied_placed : (n r : ℕ) → n ≤ length line → (at + n ≤ length text → r ≡ at + n)
      → map (λ (w : Word). w.bytes) (names_at text (deny_place text r)) ≡ map (λ (w : Word). w.bytes) (names_at line (deny_place line n))
  denied_placed n r h e = (on_list (length line) (omega arith) (denied_stand (record { is = e (omega (arith, l.within, h)); in_line = h }))).names
