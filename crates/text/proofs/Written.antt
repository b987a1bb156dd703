-- What a reader gave is what stood there: the bytes that it read spell it, and what is left stands behind them. Assumes
-- nothing.
use Prim.Native.Nat.{suc, zero, ℕ}
use borrow.Author.Tests.{eqb-true}
use lib.Dec.{eqb}
use lib.ListN.{drop, length, take, take-append-drop}
use mathlib.Core.Bool.{Bool, cond, false, true}
use mathlib.Core.List.{List, [], ◌++◌, ◌∷◌, append_assoc, append-nil, flatten, map}
use mathlib.Core.Option.{Option, some-injective, none, some}
use mathlib.Core.Path.{◌∙◌, ◌≡◌, ap, refl, subst, subst₂, sym}
use native.Mathlib.Omega.{arith}
use Rattle.lists.proofs.Tests.{and_both, true_not_false}
use Rattle.lists.specs.Lists.{all_of, is_empty}
use Rattle.text.proofs.Forward.{Forward}
use Rattle.text.proofs.ReaderLaws.{got, not_read, then_some}
use Rattle.text.specs.Brackets.{Keywords, among, bracketed, keyword, many, next, up_to}
use Rattle.text.specs.Bytes.{first_byte, is_name_byte}
use Rattle.text.specs.Names.{Name, same_name}
use Rattle.text.specs.Reader.{Left, Reader, ◌>>=◌, ◌>>◌, byte, ended, from, give, if_next, next_is, refuse, require, skip, whole}
use Rattle.text.specs.Words.{Word, is_called, name_bytes, word, word_that}

-- bytes were read between l and l', and Q says that they spell a
pub record Spelled {A : Type 0} (Q : A → List ℕ → Type 0) (l : Left) (a : A) (l' : Left) : Type 0 where
  pub read : List ℕ
  pub stood : l.bytes ≡ read ++ l'.bytes
  pub spells : Q a read

-- whatever R gives is spelled by the bytes that it read
abbrev pub Spells : {A : Type 0} → (A → List ℕ → Type 0) → Reader A → Type 0
Spells {A} Q R = (l : Left) (a : A) (l' : Left) → R l ≡ some (a, l') → Spelled Q l a l'

-- the bytes are those that `print` writes for a, and a passes the test
pub record Printed {A : Type 0} (print : A → List ℕ) (fits : A → Bool) (a : A) (bs : List ℕ) : Type 0 where
  pub is : bs ≡ print a
  pub fit : fits a ≡ true

-- ---- readers put together

-- what comes first is spelled as P says, and the rest of the spelling stands behind it
module _ {A B : Type 0} (P : A → List ℕ → Type 0) (Q : B → List ℕ → Type 0) where
  pub spells_bind : (R : Reader A) (K : A → Reader B) → Spells P R → ((a : A) (bs : List ℕ) → P a bs → Spells (λ b cs. Q b (bs ++ cs)) (K a)) → Spells Q (R >>= K)
  spells_bind R K p q l b l' h =
      let r = then_some (R l) K (b, l') h in
      let x = p l r.0.0 r.0.1 r.1 in
      let y = q r.0.0 x.read x.spells r.0.1 b l' r.2 in
      record {
        read = x.read ++ y.read;
        stood = x.stood ∙ ap (λ (bs : List ℕ). x.read ++ bs) y.stood ∙ sym (append_assoc x.read y.read l'.bytes);
        spells = y.spells;
      }

-- the same where what comes first is printed
module _ {A B : Type 0} (print : A → List ℕ) (fits : A → Bool) (Q : B → List ℕ → Type 0) where
  pub prints_bind : (R : Reader A) (K : A → Reader B) → Spells (Printed print fits) R → ((a : A) → fits a ≡ true → Spells (λ b bs. Q b (print a ++ bs)) (K a)) → Spells Q (R >>= K)
  prints_bind R K p q = spells_bind (Printed print fits) Q R K p (λ a bs x. subst (λ (cs : List ℕ). Spells (λ b ds. Q b (cs ++ ds)) (K a)) (sym x.is) (q a x.fit))

module _ {A : Type 0} (Q : A → List ℕ → Type 0) where
  pub spells_give : (a : A) → Q a [] → Spells Q (give a)
  spells_give a h l b l' e =
      let g = got (a, l) b l' e in
      record { read = []; stood = ap (λ (m : Left). m.bytes) g.1; spells = subst (λ (x : A). Q x []) g.0 h }

  pub spells_refuse : Spells Q refuse
  spells_refuse l a l' e = not_read (a, l') e

  pub spells_cond : (t : Bool) (R S : Reader A) → Spells Q R → Spells Q S → Spells Q (cond t R S)
  spells_cond true R S p q = p
  spells_cond false R S p q = q

  pub spells_if_next : (b : ℕ) (R S : Reader A) → Spells Q R → Spells Q S → Spells Q (if_next b R S)
  unfolding if_next
  spells_if_next b R S p q l a l' h = spells_cond (next_is b l) R S p q l a l' h

  -- what says less of the same bytes
  pub spells_more : (P : A → List ℕ → Type 0) (R : Reader A) → ((a : A) (bs : List ℕ) → P a bs → Q a bs) → Spells P R → Spells Q R
  spells_more P R f p l a l' h = let x = p l a l' h in record { read = x.read; stood = x.stood; spells = f a x.read x.spells }

-- ---- bytes and words

-- a byte that is not 0 stands where it is read
byte_stands : (bs : List ℕ) (b : ℕ) → (b ≡ 0 → ⊥) → first_byte bs ≡ b → bs ≡ b ∷ drop 1 bs
byte_stands [] b nz e = absurd (nz (sym e))
byte_stands (c ∷ bs) b nz e = ap (λ (x : ℕ). x ∷ bs) e

pub spells_byte : (b : ℕ) → (b ≡ 0 → ⊥) → Spells (Printed (λ c. b ∷ []) (λ c. true)) (byte b)
unfolding byte
spells_byte b nz l a l' h = go (eqb (first_byte l.bytes) b) refl h
  where
    go : (t : Bool) → eqb (first_byte l.bytes) b ≡ t → cond {A = Option (ℕ × Left)} t (some (b, skip 1 l)) none ≡ some (a, l') → Spelled (Printed (λ c. b ∷ []) (λ c. true)) l a l'
    go true e k = record {
      read = b ∷ [];
      stood = byte_stands l.bytes b nz (eqb-true _ _ e) ∙ ap (λ (m : Left). b ∷ m.bytes) (got (b, skip 1 l) a l' k).1;
      spells = record { is = refl; fit = refl };
    }
    go false e k = not_read (a, l') k

-- the name bytes at the front, and what stands behind them
run_stands : (bs : List ℕ) → bs ≡ name_bytes bs ++ drop (length (name_bytes bs)) bs
unfolding name_bytes
run_stands [] = refl
run_stands (b ∷ bs) = go (is_name_byte b) (run_stands bs)
  where
    go : (t : Bool) → bs ≡ name_bytes bs ++ drop (length (name_bytes bs)) bs → b ∷ bs ≡ cond t (b ∷ name_bytes bs) [] ++ drop (length (cond t (b ∷ name_bytes bs) [])) (b ∷ bs)
    go true h = ap (λ (cs : List ℕ). b ∷ cs) h
    go false h = refl

pub spells_word : Spells (Printed (λ w. w.bytes) (λ w. true)) word
unfolding word
spells_word l a l' h =
    let g = got (record { at = l.at; bytes = name_bytes l.bytes }, skip (length (name_bytes l.bytes)) l) a l' h in
    record {
      read = name_bytes l.bytes;
      stood = run_stands l.bytes ∙ ap (λ (m : Left). name_bytes l.bytes ++ m.bytes) g.1;
      spells = record { is = ap (λ (w : Word). w.bytes) g.0; fit = refl };
    }

-- a word that passes a test of its bytes
pub spells_word_that : (f : List ℕ → Bool) → Spells (Printed (λ w. w.bytes) (λ w. f w.bytes)) (word_that f)
unfolding word_that
spells_word_that f = prints_bind (λ w. w.bytes) (λ w. true) (Printed (λ w. w.bytes) (λ w. f w.bytes)) word _ spells_word (λ w _. go w (f w.bytes) refl)
  where
    go : (w : Word) (t : Bool) → f w.bytes ≡ t → Spells (λ v bs. Printed (λ (w : Word). w.bytes) (λ w. f w.bytes) v (w.bytes ++ bs)) (require t >> give w)
    go w true e = spells_give _ w (record { is = append-nil w.bytes; fit = e })
    go w false e = spells_refuse _

-- ---- brackets and lists

module _ {A : Type 0} (Q : A → List ℕ → Type 0) (R : Reader A) where
  pub spells_next : Spells (λ a bs. Q a (32 ∷ bs)) R → Spells Q (next R)
  unfolding next
  spells_next p = prints_bind (λ c. 32 ∷ []) (λ c. true) Q (byte 32) (λ c. R) (spells_byte 32 (λ e. absurd (omega arith))) (λ c _. p)

  pub spells_bracketed : Spells (λ a bs. Q a (40 ∷ (bs ++ 41 ∷ []))) R → Spells Q (bracketed R)
  unfolding bracketed
  spells_bracketed p =
      prints_bind (λ c. 40 ∷ []) (λ c. true) Q (byte 40) _ (spells_byte 40 (λ e. absurd (omega arith))) (λ c _.
      spells_bind (λ a bs. Q a (40 ∷ (bs ++ 41 ∷ []))) _ R _ p (λ a bs h.
      prints_bind (λ c. 41 ∷ []) (λ c. true) _ (byte 41) _ (spells_byte 41 (λ e. absurd (omega arith))) (λ c _. spells_give _ a h)))

-- items, each behind a space
abbrev pub print_all : {A : Type 0} → (A → List ℕ) → List A → List ℕ
print_all print xs = flatten (map (λ t. 32 ∷ t) (map print xs))

module _ {A : Type 0} (print : A → List ℕ) (fits : A → Bool) (R : Reader A) (p : Spells (Printed print fits) R) where
  pub prints_next : Spells (Printed (λ a. 32 ∷ print a) fits) (next R)
  prints_next = spells_next _ R (spells_more _ (Printed print fits) R (λ a bs x. record { is = ap (λ (cs : List ℕ). 32 ∷ cs) x.is; fit = x.fit }) p)

  prints_up_to : (n : ℕ) → Spells (Printed (print_all print) (all_of fits)) (up_to n R)
  unfolding up_to flatten all_of
  prints_up_to zero = spells_give _ [] (record { is = refl; fit = refl })
  prints_up_to (suc n) = spells_if_next _ 32 _ _
      (prints_bind (λ x. 32 ∷ print x) fits (Printed (print_all print) (all_of fits)) (next R) _ prints_next (λ x h.
      prints_bind (print_all print) (all_of fits) _ (up_to n R) _ (prints_up_to n) (λ xs k.
      spells_give _ (x ∷ xs) (record { is = rw append-nil; fit = and_both (fits x) (all_of fits xs) h k }))))
      (spells_give _ [] (record { is = refl; fit = refl }))

  pub prints_many : Spells (Printed (print_all print) (all_of fits)) (many R)
  unfolding many
  prints_many l xs l' h = prints_up_to (length l.bytes) l xs l' h

-- ---- keywords

-- each reader, with its keyword in front, in any case of letters
abbrev pub AllSpell : {A : Type 0} → (A → List ℕ → Type 0) → Keywords A → Type 0
AllSpell Q [] = Unit {0}
AllSpell Q (k ∷ ks) = ((w : Name) → same_name w k.0 ≡ true → Spells (λ a bs. Q a (w ++ bs)) k.1) × AllSpell Q ks

module _ {A : Type 0} (Q : A → List ℕ → Type 0) where
  spells_among : (ks : Keywords A) (w : Word) → AllSpell Q ks → Spells (λ a bs. Q a (w.bytes ++ bs)) (among ks w)
  unfolding among is_called
  spells_among [] w h = spells_refuse _
  spells_among (k ∷ ks) w h = go (same_name w.bytes k.0) refl (spells_among ks w h.1)
    where
      go : (t : Bool) → same_name w.bytes k.0 ≡ t → Spells (λ a bs. Q a (w.bytes ++ bs)) (among ks w) → Spells (λ a bs. Q a (w.bytes ++ bs)) (cond t k.1 (among ks w))
      go true e rest = h.0 w.bytes e
      go false e rest = rest

  pub spells_keyword : (ks : Keywords A) → AllSpell Q ks → Spells Q (keyword ks)
  unfolding keyword
  spells_keyword ks h = prints_bind (λ w. w.bytes) (λ w. true) Q word (among ks) spells_word (λ w _. spells_among ks w h)

-- ---- a whole text

-- a text that was read whole spells what was read
pub spells_whole : {A : Type 0} (Q : A → List ℕ → Type 0) (R : Reader A) → Spells Q R → (text : List ℕ) (a : A) → whole R text ≡ some a → Q a text
unfolding whole ended
spells_whole {A} Q R p text a h = go (R (from text 0)) refl h
  where
    empty : (bs : List ℕ) → is_empty bs ≡ true → bs ≡ []
    empty [] e = refl
    empty (b ∷ bs) e = true_not_false e refl

    go : (o : Option (A × Left)) → R (from text 0) ≡ o → ended o ≡ some a → Q a text
    go none e k = not_read a k
    go (some r) e k = at_end (is_empty r.1.bytes) refl k
      where
        at_end : (t : Bool) → is_empty r.1.bytes ≡ t → cond t (some r.0) none ≡ some a → Q a text
        at_end true n k =
            let x = p (from text 0) r.0 r.1 e in
            let all : text ≡ x.read = x.stood ∙ ap (λ (bs : List ℕ). x.read ++ bs) (empty r.1.bytes n) ∙ append-nil x.read in
            subst₂ Q (some-injective _ _ k) (sym all) x.spells
        at_end false n k = not_read a k

-- a reader that only goes forward reads some bytes
pub spells_forward : {A : Type 0} (R : Reader A) → Forward R → Spells (λ a bs. Unit {0}) R
spells_forward R p l a l' h =
    let m = p l a l' h in
    record { read = take m.n l.bytes; stood = sym (take-append-drop m.n l.bytes) ∙ ap (λ (x : Left). take m.n l.bytes ++ x.bytes) (sym m.skipped); spells = tt }
