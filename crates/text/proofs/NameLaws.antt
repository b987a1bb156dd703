-- To be the same name is to be equal when lowered (02, Q-8), and so an equivalence. Assumes nothing.
use Prim.Native.Nat.{◌+◌, ◌<◌, ◌≤◌, suc, ℕ}
use borrow.Author.Tests.{eq-eqb, eqb-true, le-leb, lt-leb}
use lib.Dec.{leb}
use lib.ListN.{drop, get_elem?, length}
use mathlib.Core.Bool.{Bool, ◌&&◌, cond, false, true}
use mathlib.Core.List.{List, [], ◌∷◌, map}
use mathlib.Core.Option.{some}
use mathlib.Core.Path.{◌∙◌, ◌≡◌, ap, refl, sym}
use native.Mathlib.Omega.{arith}
use Rattle.lists.proofs.ListLaws.{find_index_found, holds_of_some}
use Rattle.lists.proofs.Tests.{and_both, and_left, and_right, eqb_self, never, true_not_false}
use Rattle.lists.specs.Lists.{find_index, holds_of}
use Rattle.text.specs.Bytes.{first_byte}
use Rattle.text.specs.Names.{Name, lower, same_byte, same_name}
use Rattle.text.specs.Words.{Word, is_called}

-- ---- a byte when lowered, by where it stands

pub lower_capital : (b : ℕ) → 65 ≤ b → b ≤ 90 → b + 32 ≡ lower b
unfolding lower
lower_capital b l h = rw (le-leb _ _ l, le-leb _ _ h)

pub lower_below : (b : ℕ) → b < 65 → b ≡ lower b
unfolding lower
lower_below b l = rw (lt-leb _ _ l)

pub lower_above : (b : ℕ) → 90 < b → b ≡ lower b
unfolding lower
lower_above b l = go (leb 65 b)
  where
    go : (t : Bool) → b ≡ cond (t && leb b 90) (b + 32) b
    go true = rw (lt-leb _ _ l)
    go false = refl

-- ---- sameness is an equivalence

pub same_byte_refl : (a : ℕ) → same_byte a a ≡ true
unfolding same_byte
same_byte_refl a = eqb_self (lower a)

pub same_byte_sym : (a b : ℕ) → same_byte a b ≡ true → same_byte b a ≡ true
unfolding same_byte
same_byte_sym a b e = eq-eqb (lower b) (lower a) (sym (eqb-true (lower a) (lower b) e))

same_byte_trans : (a b c : ℕ) → same_byte a b ≡ true → same_byte b c ≡ true → same_byte a c ≡ true
unfolding same_byte
same_byte_trans a b c e k = eq-eqb (lower a) (lower c) (eqb-true (lower a) (lower b) e ∙ eqb-true (lower b) (lower c) k)

pub same_name_refl : (n : Name) → same_name n n ≡ true
unfolding same_name
same_name_refl [] = refl
same_name_refl (x ∷ xs) = and_both (same_byte x x) _ (same_byte_refl x) (same_name_refl xs)

pub same_name_sym : (m n : Name) → same_name m n ≡ true → same_name n m ≡ true
unfolding same_name
same_name_sym [] [] e = e
same_name_sym [] (y ∷ ys) e = e
same_name_sym (x ∷ xs) [] e = e
same_name_sym (x ∷ xs) (y ∷ ys) e =
    and_both (same_byte y x) _ (same_byte_sym x y (and_left (same_byte x y) _ e)) (same_name_sym xs ys (and_right (same_byte x y) _ e))

pub same_name_trans : (m n o : Name) → same_name m n ≡ true → same_name n o ≡ true → same_name m o ≡ true
unfolding same_name
same_name_trans [] [] o e k = k
same_name_trans [] (y ∷ ys) o e k = true_not_false e refl
same_name_trans (x ∷ xs) [] o e k = true_not_false e refl
same_name_trans (x ∷ xs) (y ∷ ys) [] e k = k
same_name_trans (x ∷ xs) (y ∷ ys) (z ∷ zs) e k =
    and_both (same_byte x z) _ (same_byte_trans x y z (and_left (same_byte x y) _ e) (and_left (same_byte y z) _ k))
    (same_name_trans xs ys zs (and_right (same_byte x y) _ e) (and_right (same_byte y z) _ k))

-- what is the same as a name is no other
pub same_other : (m n o : Name) → same_name m n ≡ true → same_name n o ≡ false → same_name m o ≡ false
same_other m n o e d = never (same_name m o) (λ f. true_not_false (same_name_trans n m o (same_name_sym m n e) f) d)

-- ---- two words that are called the same

-- two words with one name are the same
pub called_same : (v w : Word) (n : Name) → is_called v n ≡ true → is_called w n ≡ true → is_called v w.bytes ≡ true
unfolding is_called
called_same v w n e k = same_name_trans v.bytes n w.bytes e (same_name_sym w.bytes n k)

-- a word that is the same as another has its name
pub called_other : (v w : Word) (n : Name) → is_called v w.bytes ≡ true → is_called v n ≡ true → is_called w n ≡ true
unfolding is_called
called_other v w n s e = same_name_trans w.bytes v.bytes n (same_name_sym v.bytes w.bytes s) e

-- two words that are found at one number are the same
pub found_same : {A : Type 0} (name_of : A → Name) (xs : List A) (v w : Word) (n : ℕ) → find_index (λ x. is_called v (name_of x)) xs ≡ some n → find_index (λ x. is_called w (name_of x)) xs ≡ some n → is_called v w.bytes ≡ true
unfolding holds_of
found_same name_of xs v w n e k =
    let x = holds_of_some (λ x. is_called v (name_of x)) (get_elem? xs n) (find_index_found (λ x. is_called v (name_of x)) xs n e).0 in
    called_same v w (name_of x.0) x.2 (rw x.1 at (find_index_found (λ x. is_called w (name_of x)) xs n k).0)

-- ---- what is the same is equal when lowered, and no more

pub same_name_lowered : (m n : Name) → same_name m n ≡ true → map lower m ≡ map lower n
unfolding same_name same_byte
same_name_lowered [] [] e = refl
same_name_lowered [] (y ∷ ys) e = true_not_false e refl
same_name_lowered (x ∷ xs) [] e = true_not_false e refl
same_name_lowered (x ∷ xs) (y ∷ ys) e =
    let p = eqb-true (lower x) (lower y) (and_left (same_byte x y) _ e) in
    let q = same_name_lowered xs ys (and_right (same_byte x y) _ e) in
    λ i. p i ∷ q i

-- the other way round
pub lowered_same : (m n : Name) → map lower m ≡ map lower n → same_name m n ≡ true
unfolding same_name
lowered_same [] [] e = refl
lowered_same [] (y ∷ ys) e = absurd (omega (arith, ap length e))
lowered_same (x ∷ xs) [] e = absurd (omega (arith, ap length e))
lowered_same (x ∷ xs) (y ∷ ys) e =
    and_both (same_byte x y) _ (unfold same_byte in eq-eqb (lower x) (lower y) (ap first_byte e)) (lowered_same xs ys (ap (drop 1) e))

-- names that are the same are equally long
pub same_name_length : (m n : Name) → same_name m n ≡ true → length m ≡ length n
unfolding same_name
same_name_length [] [] e = refl
same_name_length [] (y ∷ ys) e = true_not_false e refl
same_name_length (x ∷ xs) [] e = true_not_false e refl
same_name_length (x ∷ xs) (y ∷ ys) e = ap suc (same_name_length xs ys (and_right (same_byte x y) _ e))
