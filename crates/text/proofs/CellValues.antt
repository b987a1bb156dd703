-- What a reader reads as it was written; names, numbers and ranges, by how they begin. Assumes nothing.
use Prim.Native.Nat.{◌+◌, ◌-◌, ℕ}
use borrow.Author.Tests.{eqb-true, leb-true}
use lib.Dec.{eqb, leb}
use lib.ListN.{get_or, length, length-append, take}
use mathlib.Core.Bool.{Bool, cond, false, true}
use mathlib.Core.List.{List, [], ◌++◌, ◌∷◌, append-nil}
use mathlib.Core.Option.{Option, bind, none, some}
use mathlib.Core.Path.{◌∙◌, ◌≡◌, ap, refl, sym}
use native.Mathlib.Omega.{arith}
use Rattle.lists.proofs.Tests.{and_left, and_right, never, or_cases, true_not_false}
use Rattle.lists.specs.Lists.{all_of}
use Rattle.text.proofs.ByteLaws.{name_name_bytes, run_stops, value_first}
use Rattle.text.proofs.Closings.{name_byte_not, written_opens}
use Rattle.text.proofs.RangeLaws.{RangeText, range_text}
use Rattle.text.proofs.ReadBack.{Gives, Reads, gives, left, placeless}
use Rattle.text.proofs.ReaderLaws.{got, not_read}
use Rattle.text.specs.Amounts.{Range, range_of}
use Rattle.text.specs.Brackets.{next}
use Rattle.text.specs.Bytes.{first_byte, is_digit, is_letter, is_name_byte, within}
use Rattle.text.specs.Names.{is_name}
use Rattle.text.specs.Numbers.{digits_from, is_value, magnitude, no_leading_zero, rank, rank_up}
use Rattle.text.specs.Reader.{Left, Reader, byte}
use Rattle.text.specs.Words.{Word, cut_out, plain_word, read_number, word, written_at, written}

-- ---- what a reader reads as it was written

-- the bytes in front of others
pub take_front : (v rest : List ℕ) → take (length (v ++ rest) - length rest) (v ++ rest) ≡ v
take_front v rest = rw (length-append v rest, same (length v) (length rest)) (front v)
  where
    same : (m n : ℕ) → m + n - n ≡ m
    same m n = omega arith

    front : (w : List ℕ) → take (length w) (w ++ rest) ≡ w
    front [] = refl
    front (b ∷ w) = ap (λ (l : List ℕ). b ∷ l) (front w)

-- what was read, and its bytes
pub written_some : {A : Type 0} (R : Reader A) (l : Left) (w : Word) (l' : Left) → cut_out l (R l) ≡ some (w, l')
    → (a : A) × (R l ≡ some (a, l')) × (w ≡ record { at = l.at; bytes = take (length l.bytes - length l'.bytes) l.bytes })
written_some {A} R l w l' h = go (R l) refl h
  where
    go : (o : Option (A × Left)) → R l ≡ o → cut_out l o ≡ some (w, l') → (a : A) × (R l ≡ some (a, l')) × (w ≡ record { at = l.at; bytes = take (length l.bytes - length l'.bytes) l.bytes })
    go none e k = not_read (w, l') k
    go (some r) e k =
        let g = got (record { at = l.at; bytes = take (length l.bytes - length r.1.bytes) l.bytes }, r.1) w l' k in
        (r.0, e ∙ ap (λ (m : Left). some (r.0, m)) g.1, sym g.0 ∙ ap (λ (m : Left). record { at = l.at; bytes = take (length l.bytes - length m.bytes) l.bytes }) g.1)

pub written_reads : {A B : Type 0} {e : A → B} {R : Reader A} {x : B} (v rest : List ℕ) → Reads e R (v ++ rest) x rest → Reads placeless (written R) (v ++ rest) (plain_word v) rest
unfolding written placeless
written_reads {A} {B} {e} {R} {x} v rest h = record { from = λ at. go at (h.from at) }
  where
    go : (at : ℕ) {o : Option (A × Left)} → Gives e x rest o → Gives placeless (plain_word v) rest (cut_out (left at (v ++ rest)) o)
    go at (gives p) = gives (ap plain_word (take_front v rest))

-- ---- how values begin

-- a value that is no range begins with a name byte, and so with no bracket
pub value_begins : (v rest : List ℕ) → is_value v ≡ true → eqb (first_byte (v ++ rest)) 40 ≡ false
value_begins v rest h = name_byte_not _ 40 (value_first v rest h) (unfold is_name_byte is_letter is_digit in refl)

pub range_begins : {r : Range} {v : List ℕ} → RangeText r v → (rest : List ℕ) → eqb (first_byte (v ++ rest)) 40 ≡ true
range_begins t rest = ap (λ (w : List ℕ). eqb (first_byte (w ++ rest)) 40) t.is

-- a name or a number is no range
pub value_no_range : (v : List ℕ) → is_value v ≡ true → range_of v ≡ none
value_no_range v h = go (range_of v) refl
  where
    go : (o : Option Range) → range_of v ≡ o → o ≡ none
    go none e = refl
    go (some r) e = true_not_false (range_begins (range_text v r e) []) (value_begins v [] h)

-- where a bracket opens, neither name nor number is written
pub bracket_no_value : (s : List ℕ) (at : ℕ) → get_or s at 0 ≡ 40 → is_value (written_at s at) ≡ false
bracket_no_value s at h = never (is_value (written_at s at)) (λ e.
    true_not_false (ap (λ (b : ℕ). eqb b 40) (written_opens s at h)) (ap (λ (w : List ℕ). eqb (first_byte w) 40) (sym (append-nil (written_at s at))) ∙ value_begins (written_at s at) [] e))

-- ---- a name is no number

-- a letter is no digit, and a name no number
letter_no_digit : (b : ℕ) → is_letter b ≡ true → is_digit b ≡ false
unfolding is_letter is_digit
letter_no_digit b h = never (within 48 57 b) (λ d.
    or_cases {A = ⊥} (within 65 90 b) (within 97 122 b) h
    (λ l. absurd (omega (arith, leb-true b 57 (and_right (leb 48 b) (leb b 57) d), leb-true 65 b (and_left (leb 65 b) (leb b 90) l))))
    (λ l. absurd (omega (arith, leb-true b 57 (and_right (leb 48 b) (leb b 57) d), leb-true 97 b (and_left (leb 97 b) (leb b 122) l)))))

letter_no_minus : (b : ℕ) → is_letter b ≡ true → eqb b 45 ≡ false
letter_no_minus b h = never (eqb b 45) (λ e. true_not_false h (ap is_letter (eqb-true b 45 e) ∙ unfold is_letter in refl))

pub letter_no_number : (b : ℕ) (bs : List ℕ) → is_letter b ≡ true → rank (b ∷ bs) ≡ none
unfolding rank magnitude digits_from bind
letter_no_number b bs letter = rw (letter_no_minus b letter, letter_no_digit b letter) (go (no_leading_zero (b ∷ bs)))
  where
    go : (t : Bool) → bind (cond t none none) rank_up ≡ none
    go true = refl
    go false = refl

pub name_no_number : (l : List ℕ) → is_name l ≡ true → rank l ≡ none
unfolding is_name
name_no_number [] h = unfold is_letter in true_not_false h refl
name_no_number (b ∷ bs) h = letter_no_number b bs (and_left (is_letter b) _ h)

-- where no number stands, none is read
pub number_fails : (w rest : List ℕ) → rank w ≡ none → all_of is_name_byte w ≡ true → is_name_byte (first_byte rest) ≡ false → (at : ℕ) → read_number (left at (w ++ rest)) ≡ none
unfolding read_number word
number_fails w rest e h k at = rw (run_stops w rest h k, e)

pub number_here : (l rest : List ℕ) → is_name l ≡ true → (at : ℕ) → next read_number (left at (32 ∷ (l ++ 41 ∷ rest))) ≡ none
unfolding next byte is_name_byte is_letter is_digit
number_here l rest h at = rw (number_fails l (41 ∷ rest) (name_no_number l h) (name_name_bytes l h) refl (at + 1))
