-- Lines as code finds them: the bytes up to a line feed, and what stands behind it. Assumes nothing.
use Prim.Native.Nat.{◌+◌, ◌-◌, ◌<◌, ◌≤◌, suc, ℕ}
use borrow.Author.Tests.{eq-eqb, ne_eqb, not-true}
use lib.Dec.{eqb}
use lib.ListN.{drop, drop_of_length-le, get_or, length, take}
use mathlib.Core.Bool.{Bool, cond, false, not, true}
use mathlib.Core.List.{List, [], ◌++◌, ◌∷◌}
use mathlib.Core.Path.{◌∙◌, ◌≡◌, ap, ap₂, refl, sym}
use native.Mathlib.Omega.{arith}
use Rattle.lists.proofs.Tests.{and_left, and_right}
use Rattle.lists.specs.Lists.{all_of}
use Rattle.text.proofs.Lefts.{drop_here}
use Rattle.text.specs.Lines.{LineEnd, Pieces, cut, in_front}

-- there is no line feed among the bytes
unfoldable pub no_feed : List ℕ → Bool
no_feed bs = all_of (λ b. not (eqb b 10)) bs

no_feed_first : (b : ℕ) (bs : List ℕ) → no_feed (b ∷ bs) ≡ true → (eqb b 10 ≡ false) × (no_feed bs ≡ true)
unfolding no_feed all_of
no_feed_first b bs h = (not-true (eqb b 10) (and_left (not (eqb b 10)) _ h), and_right (not (eqb b 10)) _ h)

-- a line, its line feed, and the rest
pub cut_line : (line rest : List ℕ) → no_feed line ≡ true → cut (line ++ 10 ∷ rest) ≡ record { head = line; others = (cut rest).head ∷ (cut rest).others }
unfolding cut in_front
cut_line [] rest h = refl
cut_line (b ∷ line) rest h =
    let n = no_feed_first b line h in
    rw (cut_line line rest n.1, n.0)

-- what stands behind the last line feed
pub cut_last : (line : List ℕ) → no_feed line ≡ true → cut line ≡ record { head = line; others = [] }
unfolding cut in_front
cut_last [] h = refl
cut_last (b ∷ line) h =
    let n = no_feed_first b line h in
    rw (cut_last line n.1, n.0)

-- ---- two texts joined

-- pieces with further pieces behind them: what stood behind the last line feed begins the next piece
unfoldable pub joined : List ℕ → List (List ℕ) → Pieces → Pieces
joined piece [] ps = record { head = piece ++ ps.head; others = ps.others }
joined piece (q ∷ qs) ps = record { head = piece; others = (joined q qs ps).head ∷ (joined q qs ps).others }

-- the pieces of two texts joined
pub cut_joined : (xs ys : List ℕ) → cut (xs ++ ys) ≡ joined (cut xs).head (cut xs).others (cut ys)
unfolding cut in_front joined
cut_joined [] ys = refl
cut_joined (b ∷ xs) ys = ap (in_front b) (cut_joined xs ys) ∙ go (eqb b 10) (cut xs).head (cut xs).others (cut ys)
  where
    longer : (piece : List ℕ) (qs : List (List ℕ)) (ps : Pieces) → ◌≡◌ {A = Pieces} (record { head = b ∷ (joined piece qs ps).head; others = (joined piece qs ps).others }) (joined (b ∷ piece) qs ps)
    longer piece [] ps = unfold joined in refl
    longer piece (q ∷ qs) ps = unfold joined in refl

    go : (x : Bool) (piece : List ℕ) (qs : List (List ℕ)) (ps : Pieces)
        → cond {A = Pieces} x (record { head = []; others = (joined piece qs ps).head ∷ (joined piece qs ps).others }) (record { head = b ∷ (joined piece qs ps).head; others = (joined piece qs ps).others })
        ≡ joined (cond {A = Pieces} x (record { head = []; others = piece ∷ qs }) (record { head = b ∷ piece; others = qs })).head
        (cond {A = Pieces} x (record { head = []; others = piece ∷ qs }) (record { head = b ∷ piece; others = qs })).others ps
    go true piece qs ps = unfold joined in refl
    go false piece qs ps = longer piece qs ps

-- ---- the same at positions of a text, as a loop of code goes through it

module _ (s : List ℕ) (at : ℕ) where
  -- what the pieces are at a line feed, at another byte and at the end
  cut_feed : at < length s → get_or s at 0 ≡ 10 → cut (drop at s) ≡ record { head = []; others = (cut (drop (at + 1) s)).head ∷ (cut (drop (at + 1) s)).others }
  unfolding cut in_front
  cut_feed h f = rw (drop_here s at h, eq-eqb _ _ f)

  cut_byte : at < length s → (get_or s at 0 ≡ 10 → ⊥) → cut (drop at s) ≡ record { head = get_or s at 0 ∷ (cut (drop (at + 1) s)).head; others = (cut (drop (at + 1) s)).others }
  unfolding cut in_front
  cut_byte h f = rw (drop_here s at h, ne_eqb _ _ f)

  cut_end : length s ≤ at → cut (drop at s) ≡ record { head = []; others = [] }
  unfolding cut
  cut_end h = rw (drop_of_length-le s h)

  -- a line feed ends the line
  pub ends_here : at < length s → get_or s at 0 ≡ 10 → LineEnd s at at
  ends_here h f =
      let c = cut_feed h f in
      let z : 0 ≡ at - at = omega arith in
      record {
        ends = omega (arith, ap (λ (p : Pieces). length p.head) c);
        line = ap (λ (p : Pieces). p.head) c ∙ ap (λ (n : ℕ). take n (drop at s)) z;
        within = λ k. k;
        feed = λ k. f;
        behind = λ k. ap (λ (p : Pieces). p.others) c;
        last = λ k. absurd (omega arith);
      }

  -- the text's end ends it
  pub ends_last : length s ≤ at → LineEnd s at at
  ends_last h =
      let c = cut_end h in
      let z : 0 ≡ at - at = omega arith in
      record {
        ends = omega (arith, ap (λ (p : Pieces). length p.head) c);
        line = ap (λ (p : Pieces). p.head) c ∙ ap (λ (n : ℕ). take n (drop at s)) z;
        within = λ k. k;
        feed = λ k. absurd (omega arith);
        behind = λ k. absurd (omega arith);
        last = λ k. ap (λ (p : Pieces). p.others) c;
      }

  -- any other byte belongs to it, and it ends where it ends from the next byte on
  pub ends_later : (e : ℕ) → at < length s → (get_or s at 0 ≡ 10 → ⊥) → LineEnd s (at + 1) e → LineEnd s at e
  ends_later e h f l =
      let c = cut_byte h f in
      let z : suc (e - (at + 1)) ≡ e - at = omega (arith, l.ends) in
      record {
        ends = omega (arith, l.ends, ap (λ (p : Pieces). length p.head) c);
        line = ap (λ (p : Pieces). p.head) c ∙ ap (λ (bs : List ℕ). get_or s at 0 ∷ bs) l.line ∙ ap₂ take z (sym (drop_here s at h));
        within = λ k. l.within (omega arith);
        feed = l.feed;
        behind = λ k. ap (λ (p : Pieces). p.others) c ∙ l.behind k;
        last = λ k. ap (λ (p : Pieces). p.others) c ∙ l.last k;
      }
