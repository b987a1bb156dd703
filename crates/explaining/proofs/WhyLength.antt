-- A right why line has at most 101 bytes: so what the program keeps of a longer line is no right line either. Assumes nothing.
use Prim.Native.Nat.{◌+◌, ◌≤◌, ℕ}
use lib.ListN.{length, length-drop}
use mathlib.Core.Bool.{Bool, cond, false, true}
use mathlib.Core.List.{List, [], ◌∷◌}
use mathlib.Core.Option.{Option, none-ne-some, none, some}
use mathlib.Core.Path.{◌∙◌, ◌≡◌, ap, refl, sym}
use native.Mathlib.Omega.{arith}
use Rattle.explaining.proofs.NumberLength.{number_short}
use Rattle.lists.specs.Lists.{is_empty}
use Rattle.query.specs.WhyForm.{WhyForm, why_body, why_of}
use Rattle.telling.proofs.BriefForms.{name_short}
use Rattle.text.proofs.NameLaws.{same_name_length}
use Rattle.text.proofs.ReaderLaws.{got, not_read, then_some}
use Rattle.text.specs.Brackets.{Keywords, among, bracketed, keyword, next}
use Rattle.text.specs.Bytes.{ascii}
use Rattle.text.specs.Names.{is_name}
use Rattle.text.specs.Numbers.{is_number}
use Rattle.text.specs.Reader.{Left, Reader, ◌>>=◌, ◌>>◌, byte, ended, from, give, next_is, refuse, require, skip, whole}
use Rattle.text.specs.Words.{Word, is_called, name, name_bytes, word, word_that}

-- R eats at most k bytes
record EatsUpTo {A : Type 0} (k : ℕ) (R : Reader A) : Type 0 where
  most : (l : Left) (a : A) (l' : Left) → R l ≡ some (a, l') → length l.bytes ≤ k + length l'.bytes

up_to_give : {A : Type 0} (a : A) → EatsUpTo 0 (give a)
up_to_give a = record { most = λ l a' l' h. let g = ap (λ (m : Left). length m.bytes) (got (a, l) a' l' h).1 in omega (arith, g) }

up_to_bind : {A B : Type 0} {j k : ℕ} (R : Reader A) (K : A → Reader B) → EatsUpTo j R → ((a : A) → EatsUpTo k (K a)) → EatsUpTo (j + k) (R >>= K)
up_to_bind {A} {B} {j} {k} R K p q = record {
  most = λ l b l' h.
      let r = then_some (R l) K (b, l') h in
      omega (arith, p.most l r.0.0 r.0.1 r.1, (q r.0.0).most r.0.1 b l' r.2);
}

up_to_byte : (b : ℕ) → EatsUpTo 1 (byte b)
up_to_byte b = record { most = λ l a l' h. go l a l' (next_is b l) (unfold byte in h) }
  where
    go : (l : Left) (a : ℕ) (l' : Left) (t : Bool) → cond {A = Option (ℕ × Left)} t (some (b, skip 1 l)) none ≡ some (a, l') → length l.bytes ≤ 1 + length l'.bytes
    go l a l' true h = let g = ap (λ (m : Left). length m.bytes) (got (b, skip 1 l) a l' h).1 in omega (arith, g, length-drop 1 l.bytes)
    go l a l' false h = not_read (a, l') h

-- a word that passes a test which only short ones pass
up_to_word : (k : ℕ) (f : List ℕ → Bool) → ((bs : List ℕ) → f bs ≡ true → length bs ≤ k) → EatsUpTo k (word_that f)
up_to_word k f short = record { most = λ l w l' h. go l w l' (f (name_bytes l.bytes)) refl (unfold word_that word in h) }
  where
    seen : Left → Word
    seen l = record { at = l.at; bytes = name_bytes l.bytes }

    go : (l : Left) (w : Word) (l' : Left) (t : Bool) → f (name_bytes l.bytes) ≡ t → (require t >> give (seen l)) (skip (length (name_bytes l.bytes)) l) ≡ some (w, l') → length l.bytes ≤ k + length l'.bytes
    go l w l' true e h =
        let g = ap (λ (m : Left). length m.bytes) (got (seen l, skip (length (name_bytes l.bytes)) l) w l' h).1 in
        omega (arith, g, short (name_bytes l.bytes) e, length-drop (length (name_bytes l.bytes)) l.bytes)
    go l w l' false e h = not_read (w, l') h

up_to_next : {A : Type 0} {k : ℕ} (R : Reader A) → EatsUpTo k R → EatsUpTo (1 + k) (next R)
unfolding next
up_to_next R p = up_to_bind (byte 32) (λ b. R) (up_to_byte 32) (λ b. p)

up_to_name : EatsUpTo 25 (next name)
up_to_name = up_to_next name (up_to_word 24 is_name name_short)

-- `P T ROW COL`, each behind a space
up_to_body : EatsUpTo 96 why_body
unfolding why_body
up_to_body =
    up_to_bind (next name) _ up_to_name (λ p.
    up_to_bind (next name) _ up_to_name (λ t.
    up_to_bind (next (word_that is_number)) _ (up_to_next (word_that is_number) (up_to_word 20 is_number number_short)) (λ r.
    up_to_bind (next name) _ up_to_name (λ c.
    up_to_give (record { purpose = p; table = t; row = r; column = c })))))

-- the one keyword
abbrev keywords : Keywords WhyForm
keywords = (ascii "why", why_body) ∷ []

-- the word that is read as the keyword
abbrev seen : Left → Word
seen l = record { at = l.at; bytes = name_bytes l.bytes }

keyword_read : (l : Left) → keyword keywords l ≡ cond {A = Reader WhyForm} (is_called (seen l) (ascii "why")) why_body refuse (skip (length (name_bytes l.bytes)) l)
unfolding keyword word among
keyword_read l = refl

up_to_keyword : EatsUpTo 99 (keyword keywords)
up_to_keyword = record { most = λ l w l' h. go l w l' (is_called (seen l) (ascii "why")) refl (sym (keyword_read l) ∙ h) }
  where
    go : (l : Left) (w : WhyForm) (l' : Left) (t : Bool) → is_called (seen l) (ascii "why") ≡ t → cond {A = Reader WhyForm} t why_body refuse (skip (length (name_bytes l.bytes)) l) ≡ some (w, l') → length l.bytes ≤ 99 + length l'.bytes
    go l w l' true e h =
        let three : length (name_bytes l.bytes) ≡ 3 = same_name_length (name_bytes l.bytes) (ascii "why") (unfold is_called in e) in
        omega (arith, three, up_to_body.most (skip (length (name_bytes l.bytes)) l) w l' h, length-drop (length (name_bytes l.bytes)) l.bytes)
    go l w l' false e h = not_read (w, l') h

up_to_line : EatsUpTo 101 (bracketed (keyword keywords))
unfolding bracketed
up_to_line =
    up_to_bind (byte 40) _ (up_to_byte 40) (λ b.
    up_to_bind (keyword keywords) _ up_to_keyword (λ w.
    up_to_bind (byte 41) _ (up_to_byte 41) (λ c. up_to_give w)))

-- A RIGHT LINE IS SHORT: `(why`, three names and a number, each behind one space, and `)`.
pub why_length : (line : List ℕ) (w : WhyForm) → why_of line ≡ some w → length line ≤ 101
unfolding why_of whole
why_length line w h = go (bracketed (keyword keywords) (from line 0)) refl h
  where
    go : (o : Option (WhyForm × Left)) → bracketed (keyword keywords) (from line 0) ≡ o → ended o ≡ some w → length line ≤ 101
    go none e k = not_read w (unfold ended in k)
    go (some r) e k = last r.1.bytes refl (unfold ended in k)
      where
        last : (bs : List ℕ) → r.1.bytes ≡ bs → cond (is_empty bs) (some r.0) none ≡ some w → length line ≤ 101
        last [] z k = omega (arith, up_to_line.most (from line 0) r.0 r.1 e, ap length z)
        last (b ∷ bs) z k = not_read w k
