-- How much a reader eats, so that what is left shrinks, and where it ends in the whole text. Assumes nothing.
use Prim.Native.Nat.{◌+◌, ◌-◌, ◌≤◌, suc, zero, ℕ}
use borrow.Author.Tests.{eq-eqb, eqb-false, eqb-true, ne_eqb}
use lib.Dec.{eqb}
use lib.ListN.{get_or, length, length-drop}
use lib.Seq.{drop-drop}
use mathlib.Core.Bool.{Bool, cond, false, true}
use mathlib.Core.List.{List, [], ◌∷◌}
use mathlib.Core.Option
use mathlib.Core.Option.{Option, some-injective, none, some}
use mathlib.Core.Path.{◌∙◌, ◌≡◌, ap, refl, subst, sym}
use native.Mathlib.Nat.{add_assoc, add-zero}
use native.Mathlib.Omega.{arith}
use Rattle.lists.specs.Lists.{is_empty}
use Rattle.text.proofs.ByteLaws.{run_within}
use Rattle.text.proofs.Lefts.{first_drop, skip_from}
use Rattle.text.specs.Brackets.{Keywords, among, bracketed, many, next, up_to}
use Rattle.text.specs.Bytes.{first_byte}
use Rattle.text.specs.Numbers.{rank}
use Rattle.text.specs.Reader.{Left, Reader, ◌>>=◌, ◌>>◌, and_then, byte, ended, from, give, given, if_next, next_is, refuse, require, skip, whole}
use Rattle.text.specs.Words.{Word, is_called, name_bytes, read_number, word, word_that}

-- l' is what is left of l after k bytes or more
pub record Past (k : ℕ) (l l' : Left) : Type 0 where
  pub n : ℕ
  pub enough : k ≤ n
  pub within : n ≤ length l.bytes
  pub skipped : l' ≡ skip n l

-- R eats at least as many bytes as w says of what it read
abbrev pub Eats : {A : Type 0} → (A → ℕ) → Reader A → Type 0
Eats {A} w R = (l : Left) (a : A) (l' : Left) → R l ≡ some (a, l') → Past (w a) l l'

skip_zero : (l : Left) → skip 0 l ≡ l
skip_zero l = rw add-zero

skip_skip : (m n : ℕ) (l : Left) → skip n (skip m l) ≡ skip (m + n) l
skip_skip m n l = rw (add_assoc, drop-drop)

pub stays : (l : Left) → Past 0 l l
stays l = record { n = 0; enough = omega arith; within = omega arith; skipped = sym (skip_zero l) }

pub past_trans : {j k : ℕ} {l l' l'' : Left} → Past j l l' → Past k l' l'' → Past (j + k) l l''
past_trans {j} {k} {l} {l'} {l''} p q =
    let w : p.n + q.n ≤ length l.bytes = omega (arith, p.within, q.within, ap (λ (m : Left). length m.bytes) p.skipped, length-drop p.n l.bytes) in
    record {
      n = p.n + q.n;
      enough = omega (arith, p.enough, q.enough);
      within = w;
      skipped = q.skipped ∙ ap (skip q.n) p.skipped ∙ skip_skip p.n q.n l;
    }

past_less : {j k : ℕ} {l l' : Left} → j ≤ k → Past k l l' → Past j l l'
past_less h p = record { n = p.n; enough = omega (arith, p.enough); within = p.within; skipped = p.skipped }

-- what a reader that succeeds read, and what it left
pub got : {A : Type 0} (r : A × Left) (a : A) (l : Left) → some r ≡ some (a, l) → (r.0 ≡ a) × (r.1 ≡ l)
got {A} r a l h =
    let p : r ≡ (a, l) = ap (λ (o : Option (A × Left)). Option.get_or o r) h in
    (ap (λ (q : A × Left). q.0) p, ap (λ (q : A × Left). q.1) p)

pub not_read : {A : Type 0} {B : Type 0} (r : A) → none ≡ some r → B
not_read {A} {B} r h = let z : ◌≡◌ {A = ℕ} 0 1 = cc in absurd (omega arith)

module _ {A B : Type 0} where
  pub eats_bind : (w : A → ℕ) (u : B → ℕ) (R : Reader A) (K : A → Reader B) → Eats w R → ((a : A) → Eats (λ b. u b - w a) (K a)) → Eats u (R >>= K)
  eats_bind w u R K p q l b l' h = go (R l) refl h
    where
      go : (o : Option (A × Left)) → R l ≡ o → and_then o K ≡ some (b, l') → Past (u b) l l'
      go none e k = not_read (b, l') k
      go (some r) e k = past_less (omega arith) (past_trans (p l r.0 r.1 e) (q r.0 r.1 b l' k))

  pub eats_then : (k : ℕ) (u : B → ℕ) (R : Reader A) (S : Reader B) → Eats (λ a. k) R → Eats (λ b. u b - k) S → Eats u (R >> S)
  eats_then k u R S p q = eats_bind (λ a. k) u R (λ a. S) p (λ a. q)

module _ {A : Type 0} (w : A → ℕ) where
  pub eats_give : (a : A) → w a ≤ 0 → Eats w (give a)
  eats_give a z l a' l' h =
      let g = got (a, l) a' l' h in
      subst (λ (m : Left). Past (w a') l m) g.1 (past_less (rw (← g.0) z) (stays l))

  pub eats_refuse : Eats w refuse
  eats_refuse l a' l' h = not_read (a', l') h

  -- at least as much is no more than more
  pub eats_less : (v : A → ℕ) (R : Reader A) → ((a : A) → v a ≤ w a) → Eats w R → Eats v R
  eats_less v R h p l a l' e = past_less (h a) (p l a l' e)

pub byte_read : (b : ℕ) (l : Left) → first_byte l.bytes ≡ b → byte b l ≡ some (b, skip 1 l)
unfolding byte
byte_read b l h = rw (eq-eqb _ _ h, byte)

pub byte_refused : (b : ℕ) (l : Left) → (first_byte l.bytes ≡ b → ⊥) → byte b l ≡ none
unfolding byte
byte_refused b l h = rw (ne_eqb _ _ h, byte)

-- a text with a first byte that is not 0 has a byte
one_byte : (bs : List ℕ) → (first_byte bs ≡ 0 → ⊥) → 1 ≤ length bs
one_byte [] h = absurd (h refl)
one_byte (b ∷ bs) h = omega arith

pub eats_byte : (b : ℕ) → (b ≡ 0 → ⊥) → Eats (λ c. 1) (byte b)
eats_byte b nz l a l' h = go (eqb (first_byte l.bytes) b) refl
  where
    go : (t : Bool) → eqb (first_byte l.bytes) b ≡ t → Past 1 l l'
    go true e =
        let q = eqb-true _ _ e in
        let g = got (b, skip 1 l) a l' (rw (byte_read b l q) at h) in
        record { n = 1; enough = omega arith; within = one_byte l.bytes (λ z. nz (sym q ∙ z)); skipped = sym g.1 }
    go false e = not_read (a, l') (rw (byte_refused b l (eqb-false _ _ e)) at h)

-- a word eats its bytes
pub eats_word : Eats (λ w. length w.bytes) word
unfolding word
eats_word l a l' h =
    let g = got (record { at = l.at; bytes = name_bytes l.bytes }, skip (length (name_bytes l.bytes)) l) a l' h in
    record { n = length (name_bytes l.bytes); enough = omega (arith, ap (λ (w : Word). length w.bytes) g.0); within = run_within l.bytes; skipped = sym g.1 }

pub eats_require : (t : Bool) → Eats (λ c. 0) (require t)
eats_require true = eats_give (λ c. 0) tt (omega arith)
eats_require false = eats_refuse (λ c. 0)

pub eats_word_that : (f : List ℕ → Bool) → Eats (λ w. length w.bytes) (word_that f)
unfolding word_that
eats_word_that f =
    eats_bind (λ w. length w.bytes) (λ w. length w.bytes) word _ eats_word (λ (w : Word).
    eats_then 0 (λ v. length v.bytes - length w.bytes) (require (f w.bytes)) (give w) (eats_require (f w.bytes))
    (eats_give (λ v. length v.bytes - length w.bytes - 0) w (omega arith)))

pub eats_given : {A : Type 0} (w : A → ℕ) (o : Option A) → ((a : A) → o ≡ some a → w a ≤ 0) → Eats w (given o)
eats_given w none h = eats_refuse w
eats_given w (some a) h = eats_give w a (h a refl)

-- a number has a byte
one_digit : (bs : List ℕ) (k : ℕ) → rank bs ≡ some k → 1 ≤ length bs
unfolding rank
one_digit [] k h = not_read k h
one_digit (b ∷ bs) k h = omega arith

pub eats_number : Eats (λ k. 1) read_number
unfolding read_number
eats_number =
    eats_bind (λ w. length w.bytes) (λ k. 1) word _ eats_word (λ (w : Word).
    eats_given (λ k. 1 - length w.bytes) (rank w.bytes) (λ k e. omega (arith, one_digit w.bytes k e)))

module _ {A : Type 0} (w : A → ℕ) where
  -- either reader eats enough
  pub eats_cond : (t : Bool) (R S : Reader A) → Eats w R → Eats w S → Eats w (cond t R S)
  eats_cond true R S p q = p
  eats_cond false R S p q = q

  pub eats_if_next : (b : ℕ) (R S : Reader A) → Eats w R → Eats w S → Eats w (if_next b R S)
  unfolding if_next
  eats_if_next b R S p q l a l' h = eats_cond (next_is b l) R S p q l a l' h

  pub eats_next : (R : Reader A) → Eats w R → Eats (λ a. 1 + w a) (next R)
  unfolding next
  eats_next R p = eats_then 1 (λ a. 1 + w a) (byte 32) R (eats_byte 32 (λ e. absurd (omega arith))) (eats_less w (λ a. 1 + w a - 1) R (λ a. omega arith) p)

  pub eats_bracketed : (R : Reader A) → Eats w R → Eats (λ a. 2 + w a) (bracketed R)
  unfolding bracketed
  eats_bracketed R p =
      eats_then 1 (λ a. 2 + w a) (byte 40) _ (eats_byte 40 (λ e. absurd (omega arith)))
      (eats_bind w (λ a. 2 + w a - 1) R _ p (λ a.
      eats_then 1 (λ b. 2 + w b - 1 - w a) (byte 41) (give a) (eats_byte 41 (λ e. absurd (omega arith)))
      (eats_give (λ b. 2 + w b - 1 - w a - 1) a (omega arith))))

-- every reader of the list of keywords eats enough
abbrev pub AllEat : {A : Type 0} → (A → ℕ) → Keywords A → Type 0
AllEat w [] = Unit {0}
AllEat w (k ∷ ks) = Eats w k.1 × AllEat w ks

pub eats_among : {A : Type 0} (w : A → ℕ) (ks : Keywords A) (v : Word) → AllEat w ks → Eats w (among ks v)
unfolding among
eats_among w [] v h = eats_refuse w
eats_among w (k ∷ ks) v h = eats_cond w (is_called v k.0) k.1 (among ks v) h.0 (eats_among w ks v h.1)

-- what a list of items takes, each with its space
unfoldable pub list_cost : {A : Type 0} → (A → ℕ) → List A → ℕ
list_cost c [] = 0
list_cost c (x ∷ xs) = 1 + c x + list_cost c xs

module _ {A : Type 0} (c : A → ℕ) (R : Reader A) (p : Eats c R) where
  pub eats_up_to : (n : ℕ) → Eats (list_cost c) (up_to n R)
  unfolding up_to list_cost
  eats_up_to zero = eats_give (list_cost c) [] (omega arith)
  eats_up_to (suc n) = eats_if_next (list_cost c) 32 _ _
      (eats_bind (λ x. 1 + c x) (list_cost c) (next R) _ (eats_next c R p) (λ x.
      eats_bind (list_cost c) (λ xs. list_cost c xs - (1 + c x)) (up_to n R) _ (eats_up_to n) (λ xs.
      eats_give (λ ys. list_cost c ys - (1 + c x) - list_cost c xs) (x ∷ xs) (omega arith))))
      (eats_give (list_cost c) [] (omega arith))

  pub eats_many : Eats (list_cost c) (many R)
  unfolding many
  eats_many l a l' h = eats_up_to (length l.bytes) l a l' h

-- what a reader that reads a text whole eats is no longer than the text
pub eats_whole : {A : Type 0} (w : A → ℕ) (R : Reader A) → Eats w R → (text : List ℕ) (a : A) → whole R text ≡ some a → w a ≤ length text
unfolding whole ended
eats_whole {A} w R p text a h = go (R (from text 0)) refl h
  where
    go : (o : Option (A × Left)) → R (from text 0) ≡ o → ended o ≡ some a → w a ≤ length text
    go none e k = not_read a k
    go (some r) e k = at_end (is_empty r.1.bytes) k
      where
        at_end : (t : Bool) → cond t (some r.0) none ≡ some a → w a ≤ length text
        at_end true k =
            let m = p (from text 0) r.0 r.1 e in
            rw (← some-injective _ _ k) (omega (arith, m.enough, m.within))
        at_end false k = not_read a k

-- what a reader that goes on read first
pub then_some : {A B : Type 0} (o : Option (A × Left)) (k : A → Reader B) (y : B × Left) → and_then o k ≡ some y → (r : A × Left) × (o ≡ some r) × (k r.0 r.1 ≡ some y)
then_some none k y e = not_read y e
then_some (some r) k y e = (r, refl, e)

-- what a text read whole gave
pub whole_some : {A : Type 0} (R : Reader A) (text : List ℕ) (x : A) → whole R text ≡ some x → (rest : Left) × (R (from text 0) ≡ some (x, rest))
unfolding whole ended
whole_some {A} R text x h = go (R (from text 0)) refl h
  where
    go : (o : Option (A × Left)) → R (from text 0) ≡ o → ended o ≡ some x → (rest : Left) × (R (from text 0) ≡ some (x, rest))
    go none e k = not_read x k
    go (some r) e k = at_end (is_empty r.1.bytes) k
      where
        at_end : (t : Bool) → cond t (some r.0) none ≡ some x → (rest : Left) × (R (from text 0) ≡ some (x, rest))
        at_end true k = (r.1, e ∙ ap (λ (y : A). some (y, r.1)) (some-injective _ _ k))
        at_end false k = not_read x k

-- the readers of one byte, at a position of a text
pub byte_at_read : (s : List ℕ) (at b : ℕ) → get_or s at 0 ≡ b → byte b (from s at) ≡ some (b, from s (at + 1))
byte_at_read s at b h = byte_read b (from s at) (first_drop s at ∙ h) ∙ ap (λ (l : Left). some (b, l)) (skip_from s at 1)

pub byte_at_refused : (s : List ℕ) (at b : ℕ) → (get_or s at 0 ≡ b → ⊥) → byte b (from s at) ≡ none
byte_at_refused s at b h = byte_refused b (from s at) (λ e. h (sym (first_drop s at) ∙ e))

-- what a reader leaves of a text is the text from a later position on
pub left_from : (s : List ℕ) (at : ℕ) {k : ℕ} {l : Left} → Past k (from s at) l → l ≡ from s l.at
left_from s at {k} {l} p =
    let e : l ≡ from s (at + p.n) = p.skipped ∙ skip_from s at p.n in
    e ∙ ap (from s) (sym (ap (λ (m : Left). m.at) e))

pub left_past : (s : List ℕ) (at : ℕ) {k : ℕ} {l : Left} → Past k (from s at) l → at + k ≤ l.at
left_past s at {k} {l} p = omega (arith, p.enough, ap (λ (m : Left). m.at) p.skipped)

pub left_within : (s : List ℕ) (at : ℕ) {k : ℕ} {l : Left} → 1 ≤ k → Past k (from s at) l → l.at ≤ length s
left_within s at {k} {l} h p = omega (arith, p.enough, p.within, ap (λ (m : Left). m.at) p.skipped, length-drop at s)
