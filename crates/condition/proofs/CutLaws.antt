-- Readers look at nothing behind what they read: where a text is cut off there they read the same, with the same places. So a column that is
-- kept as it was written names what was read (02, Q-3). Assumes nothing.
use Prim.Native.Nat.{◌+◌, ◌-◌, ◌≤◌, suc, zero, ℕ}
use lib.Dec.{eqb}
use lib.ListN.{drop, length, length-drop, take}
use lib.Seq.{drop_at, length-take-le, take-add, take-nil}
use mathlib.Core.Bool.{Bool, cond, false, true}
use mathlib.Core.List.{List, [], ◌∷◌}
use mathlib.Core.Option.{Option, get_or, map, none, some}
use mathlib.Core.Path.{◌∙◌, ◌≡◌, ap, refl, sym}
use native.Mathlib.Nat.{add_assoc}
use native.Mathlib.Omega.{arith}
use Rattle.condition.specs.CondForm.{Ref, of_ref, ref_body, ref_of}
use Rattle.text.proofs.ByteLaws.{run_within}
use Rattle.text.proofs.CellValues.{written_some}
use Rattle.text.proofs.ReadBack.{left}
use Rattle.text.proofs.ReaderLaws.{byte_refused, got, not_read, then_some}
use Rattle.text.specs.Brackets.{among, bracketed, keyword, next}
use Rattle.text.specs.Bytes.{ascii, is_name_byte}
use Rattle.text.specs.Names.{is_name}
use Rattle.text.specs.Reader.{Left, Reader, ◌>>=◌, ◌>>◌, and_then, byte, give, refuse, require, skip}
use Rattle.text.specs.Words.{Word, is_called, name, name_bytes, word, word_that, written}

-- n bytes were read, and with them and m more a reader reads the same, and leaves the m
pub record CutOff {A : Type 0} (R : Reader A) (l : Left) (a : A) (l' : Left) : Type 0 where
  pub n : ℕ
  pub eaten : length l.bytes ≡ n + length l'.bytes
  pub same : (m : ℕ) → R (left l.at (take (n + m) l.bytes)) ≡ some (a, left l'.at (take m l'.bytes))

abbrev pub Cuts : {A : Type 0} → Reader A → Type 0
Cuts {A} R = (l : Left) (a : A) (l' : Left) → R l ≡ some (a, l') → CutOff R l a l'

-- ---- readers put together

module _ {A B : Type 0} where
  cuts_bind : (R : Reader A) (K : A → Reader B) → Cuts R → ((a : A) → Cuts (K a)) → Cuts (R >>= K)
  cuts_bind R K p q l b l' h =
      let r = then_some (R l) K (b, l') h in
      let x = p l r.0.0 r.0.1 r.1 in
      let y = q r.0.0 r.0.1 b l' r.2 in
      record {
        n = x.n + y.n;
        eaten = omega (arith, x.eaten, y.eaten);
        same = λ m. ap (λ (k : ℕ). and_then (R (left l.at (take k l.bytes))) K) (add_assoc x.n y.n m) ∙ ap (λ (o : Option (A × Left)). and_then o K) (x.same (y.n + m)) ∙ y.same m;
      }

module _ {A : Type 0} where
  cuts_give : (a : A) → Cuts (give a)
  cuts_give a l b l' h =
      let g = got (a, l) b l' h in
      record {
        n = 0;
        eaten = omega (arith, ap (λ (k : Left). length k.bytes) g.1);
        same = λ m. let None-more : 0 + m ≡ m = omega arith in (λ i. some (g.0 i, left (g.1 i).at (take (None-more i) (g.1 i).bytes)));
      }

  cuts_refuse : Cuts {A = A} refuse
  cuts_refuse l a l' h = not_read (a, l') h

  cuts_cond : (t : Bool) (R S : Reader A) → Cuts R → Cuts S → Cuts (cond t R S)
  cuts_cond true R S p q = p
  cuts_cond false R S p q = q

-- ---- bytes and words

cuts_byte : (b : ℕ) → (b ≡ 0 → ⊥) → Cuts (byte b)
cuts_byte b nz l a l' h = go l.at l.bytes h
  where
    go : (at : ℕ) (bs : List ℕ) → byte b (left at bs) ≡ some (a, l') → CutOff (byte b) (left at bs) a l'
    go at [] k = not_read (a, l') (sym (byte_refused b (left at []) (λ z. nz (sym z))) ∙ k)
    go at (c ∷ cs) k = unfold byte in here (eqb c b) refl k
      where
        here : (t : Bool) → eqb c b ≡ t → cond {A = Option (ℕ × Left)} t (some (b, left (at + 1) cs)) none ≡ some (a, l') → CutOff (byte b) (left at (c ∷ cs)) a l'
        here true e k =
            let g = got (b, left (at + 1) cs) a l' k in
            let long : length cs ≡ length l'.bytes = ap (λ (x : Left). length x.bytes) g.1 in
            record { n = 1; eaten = omega (arith, long); same = λ m. read m e ∙ (λ i. some (g.0 i, left (g.1 i).at (take m (g.1 i).bytes))) }
          where
            read : (m : ℕ) → eqb c b ≡ true → byte b (left at (take (1 + m) (c ∷ cs))) ≡ some (b, left (at + 1) (take m cs))
            read m e = let one : 1 + m ≡ suc m = omega arith in ap (λ (k : ℕ). byte b (left at (take k (c ∷ cs)))) one ∙ (unfold byte in rw e)
        here false e k = not_read (a, l') k

-- the name bytes at the front are the same where no fewer are left
run_cut : (m : ℕ) (bs : List ℕ) → name_bytes (take (length (name_bytes bs) + m) bs) ≡ name_bytes bs
unfolding name_bytes
run_cut m [] = ap name_bytes (take-nil (0 + m))
run_cut m (b ∷ bs) = go (is_name_byte b) refl (run_cut m bs)
  where
    stops : (k : ℕ) → is_name_byte b ≡ false → name_bytes (take k (b ∷ bs)) ≡ []
    stops zero e = unfold name_bytes in refl
    stops (suc k) e = unfold name_bytes in rw e

    go : (t : Bool) → is_name_byte b ≡ t → name_bytes (take (length (name_bytes bs) + m) bs) ≡ name_bytes bs
        → name_bytes (take (length (cond t (b ∷ name_bytes bs) []) + m) (b ∷ bs)) ≡ cond t (b ∷ name_bytes bs) []
    go true e rest =
        let one : suc (length (name_bytes bs)) + m ≡ suc (length (name_bytes bs) + m) = omega arith in
        ap (λ (k : ℕ). name_bytes (take k (b ∷ bs))) one ∙ (unfold name_bytes in rw e (ap (λ (w : List ℕ). b ∷ w) rest))
    go false e rest = stops (0 + m) e

-- bytes of a longer front
front_rest : (n m : ℕ) (bs : List ℕ) → n ≤ length bs → drop n (take (n + m) bs) ≡ take m (drop n bs)
front_rest n m bs h = ap (drop n) (take-add n m bs) ∙ drop_at (take n bs) (take m (drop n bs)) n (length-take-le n bs h)

cuts_word : Cuts word
unfolding word
cuts_word l w l' h =
    let n = length (name_bytes l.bytes) in
    let g = got (record { at = l.at; bytes = name_bytes l.bytes }, skip n l) w l' h in
    let long : length (drop n l.bytes) ≡ length l'.bytes = ap (λ (x : Left). length x.bytes) g.1 in
    record {
      n = n;
      eaten = omega (arith, long, length-drop n l.bytes, run_within l.bytes);
      same = λ m.
          (λ i. let run = run_cut m l.bytes i in some (record { at = l.at; bytes = run }, left (l.at + length run) (drop (length run) (take (n + m) l.bytes))))
          ∙ ap (λ (bs : List ℕ). some (record { at = l.at; bytes = name_bytes l.bytes }, left (l.at + n) bs)) (front_rest n m l.bytes (run_within l.bytes))
          ∙ (λ i. some (g.0 i, left (g.1 i).at (take m (g.1 i).bytes)));
    }

cuts_word_that : (f : List ℕ → Bool) → Cuts (word_that f)
unfolding word_that
cuts_word_that f = cuts_bind word _ cuts_word (λ w. cuts_bind (require (f w.bytes)) (λ u. give w) (required (f w.bytes)) (λ u. cuts_give w))
  where
    required : (t : Bool) → Cuts (require t)
    required true = cuts_give tt
    required false = cuts_refuse

cuts_next : {A : Type 0} (R : Reader A) → Cuts R → Cuts (next R)
unfolding next
cuts_next R p = cuts_bind (byte 32) (λ b. R) (cuts_byte 32 (λ z. absurd (omega arith))) (λ b. p)

-- ---- `(of T COL)`

cuts_body : Cuts ref_body
unfolding ref_body
cuts_body =
    cuts_bind (next name) _ (cuts_next name (cuts_word_that is_name)) (λ t.
    cuts_bind (next name) _ (cuts_next name (cuts_word_that is_name)) (λ c. cuts_give (record { table = t; column = c })))

cuts_of : Cuts (keyword ((ascii "of", ref_body) ∷ []))
unfolding keyword among
cuts_of = cuts_bind word _ cuts_word (λ w. cuts_cond (is_called w (ascii "of")) ref_body refuse cuts_body cuts_refuse)

cuts_ref : Cuts of_ref
unfolding of_ref bracketed
cuts_ref =
    let of = keyword ((ascii "of", ref_body) ∷ []) in
    cuts_bind (byte 40) (λ b. of >>= (λ x. byte 41 >> give x)) (cuts_byte 40 (λ z. absurd (omega arith))) (λ b.
    cuts_bind of (λ x. byte 41 >> give x) cuts_of (λ x.
    cuts_bind (byte 41) (λ b. give x) (cuts_byte 41 (λ z. absurd (omega arith))) (λ b. cuts_give x)))

-- KEPT: a column that is kept as it was written is the one that was read
pub ref_kept : (l l' : Left) (w : Word) (r : Ref) → written of_ref l ≡ some (w, l') → of_ref l ≡ some (r, l') → ref_of w ≡ r
unfolding written ref_of
ref_kept l l' w r h k =
    let x = cuts_ref l r l' k in
    let size : length l.bytes - length l'.bytes ≡ x.n + 0 = omega (arith, x.eaten) in
    let cut = (written_some of_ref l w l' h).2 in
    ap ref_of (cut ∙ ap (λ (n : ℕ). record { at = l.at; bytes = take n l.bytes }) size)
    ∙ ap (λ (o : Option (Ref × Left)). get_or (map (λ y. y.0) o) (record { table = record { at = l.at; bytes = take (x.n + 0) l.bytes }; column = record { at = l.at; bytes = take (x.n + 0) l.bytes } })) (x.same 0)
