-- A number has one decimal text. Assumes nothing.
use Prim.Native.Nat.{◌%◌, ◌*◌, ◌+◌, ◌-◌, ◌/◌, ◌<◌, ◌^◌, ◌≤◌, suc, zero, ℕ}
use borrow.Author.Tests.{eq-eqb, le-ltb, leb-false, leb-true, lt-ltb, ltb-false, ltb-true, ne_eqb}
use lib.Dec.{leb, ltb}
use lib.IntN.{ℤ}
use lib.ListN.{length, length-append}
use mathlib.Core.Bool.{Bool, false, true}
use mathlib.Core.List.{List, [], ◌++◌, ◌∷◌}
use mathlib.Core.Option.{some-injective, none, some}
use mathlib.Core.Path.{◌∙◌, ◌≡◌, ap, refl, subst, sym}
use native.Mathlib.Nat.{mul_assoc, pow-suc, suc-mul}
use native.Mathlib.Numerals.{add-one}
use native.Mathlib.Omega.{arith}
use Rattle.lists.proofs.Tests.{and_both, and_left, and_right}
use Rattle.lists.specs.Lists.{all_of}
use Rattle.text.proofs.Integers.{is_decimal, negative, place_value, rank_decimal, rank_integer, rank_opposite, unsigned}
use Rattle.text.proofs.NumberLaws.{digit_range, rank_down_is, rank_down_not, rank_up_is, rank_up_not}
use Rattle.text.specs.Bytes.{is_digit}
use Rattle.text.specs.Numbers.{decimal, digits_of, no_leading_zero, rank}
use Rattle.text.proofs.Integers as integers

last_place : (d : ℕ) (ds : List ℕ) → place_value (ds ++ (d ∷ [])) ≡ place_value ds * 10 + (d - 48)
unfolding place_value
last_place d [] = omega arith
last_place d (x ∷ ds) =
    rw (length-append ds (d ∷ []), add-one, pow-suc) (omega (arith, last_place d ds, mul_assoc (x - 48) (10 ^ length ds) 10))

all_front : (d : ℕ) (ds : List ℕ) → all_of is_digit (ds ++ (d ∷ [])) ≡ true → (all_of is_digit ds ≡ true) × (is_digit d ≡ true)
unfolding all_of
all_front d [] h = (refl, and_left (is_digit d) true h)
all_front d (x ∷ ds) h =
    let r = all_front d ds (and_right (is_digit x) (all_of is_digit (ds ++ (d ∷ []))) h) in
    (and_both (is_digit x) (all_of is_digit ds) (and_left (is_digit x) (all_of is_digit (ds ++ (d ∷ []))) h) r.0, r.1)

-- a list that is not empty has a last element
ending : (b : ℕ) (bs : List ℕ) → (ds : List ℕ) × (d : ℕ) × (b ∷ bs ≡ ds ++ (d ∷ []))
ending b [] = ([], b, refl)
ending b (c ∷ bs) = let r = ending c bs in (b ∷ r.0, r.1, ap (λ (l : List ℕ). b ∷ l) r.2)

ten_pos : (k : ℕ) → 1 ≤ 10 ^ k
ten_pos zero = omega arith
ten_pos (suc k) = omega (arith, ten_pos k, pow-suc 10 k)

-- digits with a first that is no 0 are a number above 0
leads : (b : ℕ) (bs : List ℕ) → 49 ≤ b → 1 ≤ place_value (b ∷ bs)
unfolding place_value
leads b bs h =
    let above : b - 48 ≡ suc (b - 49) = omega arith in
    rw above (omega (arith, suc-mul (b - 49) (10 ^ length bs), ten_pos (length bs)))

single : (fuel n : ℕ) → n < 10 → digits_of fuel n ≡ (48 + n) ∷ []
unfolding digits_of
single zero n h = let r : n % 10 ≡ n = omega arith in rw r
single (suc fuel) n h = rw (lt-ltb n 10 h)

several : (fuel n : ℕ) → 10 ≤ n → digits_of (suc fuel) n ≡ digits_of fuel (n / 10) ++ ((48 + n % 10) ∷ [])
unfolding digits_of
several fuel n h = rw (le-ltb n 10 h)

no_zero : (b c : ℕ) (cs : List ℕ) → no_leading_zero (b ∷ c ∷ cs) ≡ true → b ≡ 48 → ⊥
unfolding no_leading_zero
no_zero b c cs h e = let z : false ≡ true = rw (eq-eqb b 48 e) at h in let y : ◌≡◌ {A = ℕ} 0 1 = cc in omega arith

leading : (b : ℕ) (bs : List ℕ) → (b ≡ 48 → ⊥) → no_leading_zero (b ∷ bs) ≡ true
unfolding no_leading_zero
leading b bs h = rw (ne_eqb b 48 h)

first_digit : (b : ℕ) (bs : List ℕ) → all_of is_digit (b ∷ bs) ≡ true → is_digit b ≡ true
unfolding all_of
first_digit b bs h = and_left (is_digit b) (all_of is_digit bs) h

-- two digits or more, the last of them apart
record Ended (b c : ℕ) (cs : List ℕ) : Type 0 where
  front : List ℕ
  final : ℕ
  same : b ∷ c ∷ cs ≡ (b ∷ front) ++ (final ∷ [])
  digits : all_of is_digit (b ∷ front) ≡ true
  digit : is_digit final ≡ true
  above : 49 ≤ b
  worth : place_value (b ∷ c ∷ cs) ≡ place_value (b ∷ front) * 10 + (final - 48)

ended : (b c : ℕ) (cs : List ℕ) → all_of is_digit (b ∷ c ∷ cs) ≡ true → no_leading_zero (b ∷ c ∷ cs) ≡ true → Ended b c cs
ended b c cs a z =
    let r = ending c cs in
    let same : b ∷ c ∷ cs ≡ (b ∷ r.0) ++ (r.1 ∷ []) = ap (λ (l : List ℕ). b ∷ l) r.2 in
    let all = all_front r.1 (b ∷ r.0) (subst (λ (l : List ℕ). all_of is_digit l ≡ true) same a) in
    let apart : b ≡ 48 → ⊥ = no_zero b c cs z in
    record {
      front = r.0;
      final = r.1;
      same = same;
      digits = all.0;
      digit = all.1;
      above = omega (arith, (digit_range b (first_digit b (c ∷ cs) a)).0);
      worth = ap place_value same ∙ last_place r.1 (b ∷ r.0);
    }

empty_not : {A : Type 0} → no_leading_zero [] ≡ true → A
unfolding no_leading_zero
empty_not h = absurd (let z : ◌≡◌ {A = ℕ} 0 1 = cc in omega arith)

-- one digit
digit_one : (fuel b : ℕ) → all_of is_digit (b ∷ []) ≡ true → b ∷ [] ≡ digits_of fuel (place_value (b ∷ []))
unfolding place_value
digit_one fuel b a =
    let range = digit_range b (first_digit b [] a) in
    let worth : (b - 48) * 1 + 0 ≡ b - 48 = omega arith in
    let back : b ≡ 48 + (b - 48) = omega (arith, range.0) in
    rw worth (ap (λ (x : ℕ). x ∷ []) back ∙ sym (single fuel (b - 48) (omega (arith, range.1))))

-- digits without a leading zero are those that are written for the number
digits_one : (fuel : ℕ) (bs : List ℕ) → all_of is_digit bs ≡ true → no_leading_zero bs ≡ true → place_value bs < 10 ^ suc fuel → bs ≡ digits_of fuel (place_value bs)
digits_one zero bs = go bs
  where
    go : (bs : List ℕ) → all_of is_digit bs ≡ true → no_leading_zero bs ≡ true → place_value bs < 10 ^ 1 → bs ≡ digits_of 0 (place_value bs)
    go [] a z l = empty_not z
    go (b ∷ []) a z l = digit_one 0 b a
    go (b ∷ c ∷ cs) a z l =
        let e = ended b c cs a z in
        absurd (omega (arith, e.worth, leads b e.front e.above))
digits_one (suc fuel) bs = go bs (digits_one fuel)
  where
    go : (bs : List ℕ)
        → ((ds : List ℕ) → all_of is_digit ds ≡ true → no_leading_zero ds ≡ true → place_value ds < 10 ^ suc fuel → ds ≡ digits_of fuel (place_value ds))
        → all_of is_digit bs ≡ true → no_leading_zero bs ≡ true → place_value bs < 10 ^ suc (suc fuel) → bs ≡ digits_of (suc fuel) (place_value bs)
    go [] shorter a z l = empty_not z
    go (b ∷ []) shorter a z l = digit_one (suc fuel) b a
    go (b ∷ c ∷ cs) shorter a z l =
        let e = ended b c cs a z in
        let n : ℕ = place_value (b ∷ c ∷ cs) in
        let m : ℕ = place_value (b ∷ e.front) in
        let range = digit_range e.final e.digit in
        let least : 1 ≤ m = leads b e.front e.above in
        let worth : n ≡ m * 10 + (e.final - 48) = e.worth in
        let tenth : n / 10 ≡ m = omega (arith, range.1) in
        let rest : 48 + n % 10 ≡ e.final = omega (arith, range.0, range.1) in
        let apart : b ≡ 48 → ⊥ = λ q. omega (arith, e.above) in
        let small : m < 10 ^ suc fuel = omega (arith, pow-suc 10 (suc fuel)) in
        e.same
        ∙ ap (λ (ds : List ℕ). ds ++ (e.final ∷ [])) (shorter (b ∷ e.front) e.digits (leading b e.front apart) small)
        ∙ ap (λ (x : ℕ). digits_of fuel x ++ (e.final ∷ [])) (sym tenth)
        ∙ ap (λ (x : ℕ). digits_of fuel (n / 10) ++ (x ∷ [])) (sym rest)
        ∙ sym (several fuel n (omega arith))

decimal_one : (bs : List ℕ) → is_decimal bs ≡ true → place_value bs < 10 ^ 20 → bs ≡ decimal (place_value bs)
unfolding decimal is_decimal
decimal_one bs h l = digits_one 19 bs (and_left (all_of is_digit bs) (no_leading_zero bs) h) (and_right (all_of is_digit bs) (no_leading_zero bs) h) l

up_text : (ds : List ℕ) (n : ℕ) → is_decimal ds ≡ true → rank ds ≡ some (2 ^ 63 + n) → ds ≡ decimal n
up_text ds n e h = go (ltb (place_value ds) (2 ^ 63)) refl
  where
    go : (t : Bool) → ltb (place_value ds) (2 ^ 63) ≡ t → ds ≡ decimal n
    go true f =
        let small : place_value ds < 2 ^ 63 = ltb-true (place_value ds) (2 ^ 63) f in
        let same : 2 ^ 63 + place_value ds ≡ 2 ^ 63 + n = some-injective _ _ (sym (rank_up_is (place_value ds) small) ∙ sym (rank_decimal ds e) ∙ h) in
        let worth : place_value ds ≡ n = omega arith in
        decimal_one ds e (omega arith) ∙ ap decimal worth
    go false f =
        let no : none ≡ some (2 ^ 63 + n) = sym (rank_up_not (place_value ds) (ltb-false (place_value ds) (2 ^ 63) f)) ∙ sym (rank_decimal ds e) ∙ h in
        absurd (let z : ◌≡◌ {A = ℕ} 0 1 = cc in omega arith)

down_text : (ds : List ℕ) (n : ℕ) → is_decimal ds ≡ true → 0 < place_value ds → rank (45 ∷ ds) ≡ some (2 ^ 63 + n) → 45 ∷ ds ≡ decimal n
down_text ds n e p h = go (leb (place_value ds) (2 ^ 63)) refl
  where
    go : (t : Bool) → leb (place_value ds) (2 ^ 63) ≡ t → 45 ∷ ds ≡ decimal n
    go true f =
        let few : place_value ds ≤ 2 ^ 63 = leb-true (place_value ds) (2 ^ 63) f in
        let same : 2 ^ 63 - place_value ds ≡ 2 ^ 63 + n =
        some-injective _ _ (sym (rank_down_is (place_value ds) (λ z. omega arith) few) ∙ sym (rank_opposite ds e) ∙ h) in
        absurd (omega arith)
    go false f =
        let no : none ≡ some (2 ^ 63 + n) = sym (rank_down_not (place_value ds) (leb-false (place_value ds) (2 ^ 63) f)) ∙ sym (rank_opposite ds e) ∙ h in
        absurd (let z : ◌≡◌ {A = ℕ} 0 1 = cc in omega arith)

-- the text of a number from 0 on, by its rank
pub rank_text : (bs : List ℕ) (n : ℕ) → rank bs ≡ some (2 ^ 63 + n) → bs ≡ decimal n
rank_text bs n h = go (rank_integer bs (2 ^ 63 + n) h).1 h
  where
    go : {cs : List ℕ} {i : ℤ} → integers.Spells cs i → rank cs ≡ some (2 ^ 63 + n) → cs ≡ decimal n
    go (unsigned {ds} e q) k = up_text ds n e k
    go (negative {ds} e p q) k = down_text ds n e p k
