-- Writes into a buffer, one after the other, and what is left to write. Assumes nothing.
use Prim.Native.Nat.{◌+◌, ◌-◌, ◌<◌, ◌^◌, ◌≤◌, suc, ℕ}
use lib.ListN.{drop, get_or, length, length-append, length-drop, length-set, set, take}
use lib.Seq.{get_or-drop, length-sets, length-take-le, set_out, sets, sets-eq, take-suc}
use mathlib.Core.List.{List, [], ◌++◌, ◌∷◌}
use mathlib.Core.Path.{◌∙◌, ◌≡◌, ap, refl, subst, sym}
use native.Mathlib.Nat.{add-zero}
use native.Mathlib.Numerals.{add-one}
use native.Mathlib.Omega.{arith}
use Rattle.text.proofs.Closings.{written_length, written_taken}
use Rattle.text.proofs.Lefts.{drop_here}
use Rattle.text.specs.Words.{written_at}
use Rattle.writing.specs.Write.{Stored, Wrote}

-- bytes stored one run after the other are stored as one run
pub sets_append : (d : List ℕ) (at : ℕ) (s t : List ℕ) → sets (sets d at s) (at + length s) t ≡ sets d at (s ++ t)
sets_append d at [] t = ap (λ (k : ℕ). sets d k t) (add-zero at)
sets_append d at (b ∷ s) t =
    let e : at + suc (length s) ≡ suc at + length s = omega arith in
    ap (λ (k : ℕ). sets (sets (set d at b) (suc at) s) k t) e ∙ sets_append (set d at b) (suc at) s t

-- nothing is stored in an empty buffer
pub sets_empty : (at : ℕ) (s : List ℕ) → sets [] at s ≡ []
sets_empty at [] = refl
sets_empty at (b ∷ s) = sets_empty (suc at) s

-- one write after another
pub both : {d e f : List ℕ} {at m r : ℕ} {s t : List ℕ} → Wrote d at s e m → Wrote e m t f r → Wrote d at (s ++ t) f r
both {d} {e} {f} {at} {m} {r} {s} {t} w v = record { kept = v.kept ∙ w.kept; room = λ h. go h (w.room (omega (arith, h, length-append s t))) }
  where
    go : at + length (s ++ t) < 2 ^ 63 → Stored d at s e m → Stored d at (s ++ t) f r
    go h x =
        let y = v.room (omega (arith, h, length-append s t, x.behind)) in
        record {
          behind = omega (arith, x.behind, y.behind, length-append s t);
          stored = y.stored ∙ ap (λ (z : List ℕ). sets z m t) x.stored ∙ ap (λ (k : ℕ). sets (sets d at s) k t) x.behind ∙ sets_append d at s t;
        }

-- one byte
pub wrote_byte : (d : List ℕ) (at b : ℕ) → Wrote d at (b ∷ []) (set d at b) (at + 1)
wrote_byte d at b = record { kept = length-set d at b; room = λ h. record { behind = refl; stored = refl } }

-- a byte past the end
pub wrote_past : (d : List ℕ) (at b : ℕ) → length d ≤ at → Wrote d at (b ∷ []) d (at + 1)
wrote_past d at b h = record { kept = refl; room = λ k. record { behind = refl; stored = sym (set_out d at b h) } }

-- a byte where counting ends
pub wrote_over : (d : List ℕ) (at b : ℕ) → 9223372036854775807 ≤ at → Wrote d at (b ∷ []) d at
wrote_over d at b h = record { kept = refl; room = λ k. absurd (omega (arith, h, k)) }

-- nothing
pub wrote_nothing : (d : List ℕ) (at : ℕ) → Wrote d at [] d at
wrote_nothing d at = record { kept = refl; room = λ k. record { behind = sym (add-zero at); stored = refl } }

-- To write cs into e at m comes to the same as to write bs into d at `at`.
pub record Ahead (d : List ℕ) (at : ℕ) (bs e : List ℕ) (m : ℕ) (cs : List ℕ) : Type 0 where
  pub kept : length e ≡ length d
  pub behind : at + length bs < 2 ^ 63 → m + length cs ≡ at + length bs
  pub stored : at + length bs < 2 ^ 63 → sets e m cs ≡ sets d at bs

pub start : (d : List ℕ) (at : ℕ) (bs : List ℕ) → Ahead d at bs d at bs
start d at bs = record { kept = refl; behind = λ h. refl; stored = λ h. refl }

module _ {d e : List ℕ} {at m : ℕ} {bs cs : List ℕ} where
  -- what is left begins with s, and s is written
  pub step : (s t : List ℕ) {f : List ℕ} {r : ℕ} → Ahead d at bs e m cs → cs ≡ s ++ t → Wrote e m s f r → Ahead d at bs f r t
  step s t {f} {r} a q w = record {
    kept = w.kept ∙ a.kept;
    behind = λ h. omega (arith, a.behind h, (w.room (fits h)).behind, length-append s t, ap length q);
    stored = λ h. ap (λ (x : List ℕ). sets x r t) (w.room (fits h)).stored ∙ ap (λ (k : ℕ). sets (sets e m s) k t) (w.room (fits h)).behind ∙ sets_append e m s t
        ∙ ap (λ (x : List ℕ). sets e m x) (sym q) ∙ a.stored h;
  }
    where
      fits : at + length bs < 2 ^ 63 → m + length s < 2 ^ 63
      fits h = omega (arith, h, a.behind h, length-append s t, ap length q)

  -- nothing is left
  pub done : Ahead d at bs e m cs → cs ≡ [] → Wrote d at bs e m
  done a q = record {
    kept = a.kept;
    room = λ h. record {
      behind = omega (arith, a.behind h, ap length q);
      stored = ap (λ (x : List ℕ). sets e m x) (sym q) ∙ a.stored h;
    };
  }

-- all bytes fit: the buffer begins with them
pub filled : (d s : List ℕ) → length s ≤ length d → sets d 0 s ≡ s ++ drop (length s) d
filled d s h =
    let e : 0 + length s ≡ length s = omega arith in
    sets-eq s d 0 (omega arith) ∙ ap (λ (k : ℕ). s ++ drop k d) e

-- ---- a value as one run of bytes

pub written_short : (s : List ℕ) (at : ℕ) → length (written_at s at) ≤ length s
written_short s at = omega (arith, written_length s at, length-drop at s)

-- ---- a value byte by byte: its bytes from a place i on, where it ends at e

module _ (s : List ℕ) (at i e : ℕ) (from_start : at ≤ i) (is : e ≡ at + length (written_at s at)) where
  pub value_left : i < e → i < length s
  value_left h = omega (arith, h, from_start, is, written_length s at, length-drop at s)

  pub value_more : i < e → take (e - i) (drop i s) ≡ get_or s i 0 ∷ take (e - (i + 1)) (drop (i + 1) s)
  value_more h =
      let n : e - i ≡ suc (e - (i + 1)) = omega (arith, h) in
      rw (n, drop_here s i (value_left h))

-- all of them
pub value_whole : (s : List ℕ) (at e : ℕ) → e ≡ at + length (written_at s at) → take (e - at) (drop at s) ≡ written_at s at
value_whole s at e h =
    let n : e - at ≡ length (written_at s at) = omega (arith, h) in
    ap (λ (k : ℕ). take k (drop at s)) n ∙ written_taken s at

-- none is left
pub value_done : (s : List ℕ) (i e : ℕ) → e ≤ i → take (e - i) (drop i s) ≡ []
value_done s i e h = let n : e - i ≡ 0 = omega (arith, h) in ap (λ (k : ℕ). take k (drop i s)) n

-- nothing is stored past the end
sets_past : (d : List ℕ) (at : ℕ) (s : List ℕ) → length d ≤ at → sets d at s ≡ d
sets_past d at [] h = refl
sets_past d at (b ∷ s) h = ap (λ (z : List ℕ). sets z (suc at) s) (set_out d at b h) ∙ sets_past d (suc at) s (omega (arith, h))

no_bytes : (w : List ℕ) → length w ≡ 0 → w ≡ []
no_bytes [] e = refl
no_bytes (b ∷ w) e = absurd (omega (arith, e))

-- one byte more is copied
pub copied_more : (d text : List ℕ) (at start k : ℕ) → start + k < length text → set (sets d at (take k (drop start text))) (at + k) (get_or text (start + k) 0) ≡ sets d at (take (k + 1) (drop start text))
copied_more d text at start k h =
    let l : k < length (drop start text) = omega (arith, h, length-drop start text) in
    (λ i. set (sets d at (take k (drop start text))) (at + sym (length-take-le k (drop start text) (omega (arith, l))) i) (sym (get_or-drop start text k 0) i))
    ∙ sets_append d at (take k (drop start text)) (get_or (drop start text) k 0 ∷ [])
    ∙ ap (sets d at) (sym (take-suc (drop start text) k 0 l) ∙ ap (λ (n : ℕ). take n (drop start text)) (sym (add-one k)))

-- what stands past the end of the buffer is counted
pub counted_past : (d : List ℕ) (at : ℕ) (w : List ℕ) (size : ℕ) → size ≡ length w → length d ≤ at → (r : ℕ) → (at + size < 2 ^ 63 → r ≡ at + size) → Wrote d at w d r
counted_past d at w size e l r h = record { kept = refl; room = λ k. record { behind = omega (arith, h (omega (arith, k, e)), e); stored = sym (sets_past d at w l) } }

module _ (d : List ℕ) (at : ℕ) (text : List ℕ) (start size : ℕ) (e : size ≡ length (written_at text start)) where
  -- behind the text stands nothing
  pub sized_none : size ≤ length text → length text - size < start → Wrote d at (written_at text start) d at
  sized_none l h = subst (λ (w : List ℕ). Wrote d at w d at) (sym (no_bytes (written_at text start) (omega (arith, e, l, h, written_length text start, length-drop start text)))) (wrote_nothing d at)

  -- a value past the end of the buffer is counted
  pub sized_past : length d ≤ at → (r : ℕ) → (at + size < 2 ^ 63 → r ≡ at + size) → Wrote d at (written_at text start) d r
  sized_past l r h = counted_past d at (written_at text start) size e l r h

  -- one that was copied
  pub sized_copied : (f : List ℕ) → f ≡ sets d at (take size (drop start text)) → Wrote d at (written_at text start) f (at + size)
  sized_copied f h =
      let same : f ≡ sets d at (written_at text start) = h ∙ ap (λ (n : ℕ). sets d at (take n (drop start text))) e ∙ ap (sets d at) (written_taken text start) in
      record { kept = ap length same ∙ length-sets d at (written_at text start); room = λ k. record { behind = ap (λ (n : ℕ). at + n) e; stored = same } }
