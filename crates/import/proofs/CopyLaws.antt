-- The plain bytes at a position, as a loop copies them. Assumes nothing.
use Prim.Native.Nat.{◌+◌, ◌<◌, ◌≤◌, ℕ}
use lib.ListN.{drop, get_or, length}
use mathlib.Core.Bool.{false, true}
use mathlib.Core.List.{List, [], ◌∷◌, append-nil}
use mathlib.Core.Path.{◌∙◌, ◌≡◌, ap, refl, subst, sym}
use native.Mathlib.Omega.{arith}
use Rattle.csv_text.proofs.FieldLaws.{plain_more, plain_none, plain_stop}
use Rattle.csv_text.specs.Fields.{is_plain, plain_bytes}
use Rattle.import.specs.Placement.{PlainCopied, PlainCopying}
use Rattle.import.specs.declared.rows.Placed.{Placed}
use Rattle.writing.proofs.Writing.{Ahead, done, start, step, wrote_nothing}
use Rattle.writing.specs.Write.{Wrote}

-- at the loop's place i: to write the plain bytes from there on comes to the same as to write them all at the start
pub record Copying (s : List ℕ) (at i : ℕ) (before : List ℕ) (to : ℕ) (out : List ℕ) (t : ℕ) : Type 0 where
  pub ahead : Ahead before to (plain_bytes (drop at s)) out t (plain_bytes (drop i s))
  pub ends : i + length (plain_bytes (drop i s)) ≡ at + length (plain_bytes (drop at s))

pub copy_start : (s : List ℕ) (at : ℕ) (before : List ℕ) (to : ℕ) → Copying s at at before to before to
copy_start s at before to = record { ahead = start before to (plain_bytes (drop at s)); ends = refl }

module _ (s : List ℕ) (at : ℕ) {i : ℕ} {before out : List ℕ} {to t : ℕ} (g : Copying s at i before to out t) where
  pub copy_more : i < length s → is_plain (get_or s i 0) ≡ true → {out' : List ℕ} {t' : ℕ} → Wrote out t (get_or s i 0 ∷ []) out' t' → Copying s at (i + 1) before to out' t'
  copy_more h p w =
      let q = plain_more s i h p in
      record { ahead = step (get_or s i 0 ∷ []) (plain_bytes (drop (i + 1) s)) g.ahead q w; ends = omega (arith, g.ends, ap length q) }

  -- all are copied
  ended : plain_bytes (drop i s) ≡ [] → (r : Placed) → r.to ≡ t → r.at ≡ i → PlainCopied s at before to out r
  ended e r p q = record { wrote = subst (λ (n : ℕ). Wrote before to (plain_bytes (drop at s)) out n) (sym p) (done g.ahead e); ends = omega (arith, q, g.ends, ap length e) }

  pub copy_stop : i < length s → is_plain (get_or s i 0) ≡ false → (r : Placed) → r.to ≡ t → r.at ≡ i → PlainCopied s at before to out r
  copy_stop h p = ended (plain_stop s i h p)

  pub copy_none : length s ≤ i → (r : Placed) → r.to ≡ t → r.at ≡ i → PlainCopied s at before to out r
  copy_none h = ended (plain_none s i h)

  -- some are copied
  pub copy_part : (end : ℕ) → (i < end → plain_bytes (drop i s) ≡ []) → PlainCopying s at end before to out (record { to = t; at = i })
  copy_part end h = record {
    kept = g.ahead.kept;
    ends = g.ends;
    stop = h;
    rest = λ next last w. done (step (plain_bytes (drop i s)) [] g.ahead (sym (append-nil (plain_bytes (drop i s)))) w) refl;
  }

pub copy_rest : (s : List ℕ) (at : ℕ) {end : ℕ} {before mid after : List ℕ} {to : ℕ} (p r : Placed) → PlainCopying s at end before to mid p → PlainCopied s p.at mid p.to after r → PlainCopied s at before to after r
copy_rest s at p r x y = record { wrote = x.rest _ _ y.wrote; ends = y.ends ∙ x.ends }

pub copy_all : (s : List ℕ) (at : ℕ) {end : ℕ} {before after : List ℕ} {to : ℕ} (p : Placed) → PlainCopying s at end before to after p → p.at < end → PlainCopied s at before to after p
copy_all s at {end} {before} {after} {to} p x h =
    let e = x.stop h in
    record {
      wrote = x.rest _ _ (subst (λ (bs : List ℕ). Wrote after p.to bs after p.to) (sym e) (wrote_nothing after p.to));
      ends = omega (arith, x.ends, ap length e);
    }
