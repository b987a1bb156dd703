-- The integers that words spell. A word has the rank k exactly when it is the decimal spelling of an integer from -2^63 to 2^63-1 that
-- is k less 2^63; so ranks stand in the order of the integers. Assumes nothing.
use Prim.Native.Nat.{◌*◌, ◌+◌, ◌-◌, ◌<◌, ◌^◌, ◌≤◌, suc, zero, ℕ}
use borrow.Author.Tests.{eqb-true, le-ltb, leb-true, lt-ltb, ltb-true, ne_eqb}
use lib.Dec.{eqb, leb, leb→le, le→leb, ltb}
use lib.IntN.{+ℤ-neg_ℤ_cancel, ℤ, ◌+ℤ◌, ◌-ℤ◌, nat_abs, negsuc, neg_ℤ, pos}
use lib.ListN.{drop, length}
use lib.Signed.{◌≤ℤ◌, lt_z}
use mathlib.Core.Bool.{Bool, ◌&&◌, cond, false, false≢true, true}
use mathlib.Core.List.{List, [], ◌∷◌}
use mathlib.Core.Option.{none-ne-some, some-injective, bind, none, some}
use mathlib.Core.Path.{◌∙◌, ◌≡◌, ap, refl, subst, sym}
use native.Mathlib.Nat.{add-mul, mul_assoc, mul_right_comm, pow-suc}
use native.Mathlib.Omega.{arith}
use Rattle.lists.proofs.Tests.{and_left, and_right, both, true_not_false}
use Rattle.lists.specs.Lists.{all_of}
use Rattle.text.proofs.NumberLaws.{rank_down_is, rank_up_is}
use Rattle.text.specs.Bytes.{first_byte, is_digit}
use Rattle.text.specs.Numbers.{digits_from, magnitude, no_leading_zero, rank, rank_down, rank_of, rank_up}

-- the natural number that digits spell: a digit counts tenfold for each digit that stands behind it
unfoldable pub place_value : List ℕ → ℕ
place_value [] = 0
place_value (d ∷ ds) = (d - 48) * 10 ^ length ds + place_value ds

-- the bytes are decimal: one digit or more, the first no 0 unless it is the only one
unfoldable pub is_decimal : List ℕ → Bool
is_decimal ds = all_of is_digit ds && no_leading_zero ds

-- the bytes spell the integer i: by its digits, or by `-` (byte 45) and the digits of a number above 0, whose opposite i is
pub data Spells : List ℕ → ℤ → Type 0 where
  unsigned : {ds : List ℕ} {i : ℤ} → is_decimal ds ≡ true → i ≡ pos (place_value ds) → Spells ds i
  negative : {ds : List ℕ} {i : ℤ} → is_decimal ds ≡ true → 0 < place_value ds → i ≡ neg_ℤ (pos (place_value ds)) → Spells (45 ∷ ds) i

-- the integer i is a number of the texts, and k is its rank
pub record Ranked (i : ℤ) (k : ℕ) : Type 0 where
  pub least : neg_ℤ (pos (2 ^ 63)) ≤ℤ i
  pub greatest : i ≤ℤ pos (2 ^ 63 - 1)
  pub above : pos k ≡ i +ℤ pos (2 ^ 63)

-- ---- the digits, read from the left and counted by their places

shift : (n x p v : ℕ) → (n * 10 + x) * p + v ≡ n * (p * 10) + (x * p + v)
shift n x p v = omega (arith, add-mul (n * 10) x p, mul_right_comm n 10 p, mul_assoc n p 10)

pub digits_place : (n : ℕ) (ds : List ℕ) → all_of is_digit ds ≡ true → digits_from n ds ≡ some (n * 10 ^ length ds + place_value ds)
unfolding digits_from all_of place_value
digits_place n [] h = ap some (omega arith)
digits_place n (d ∷ ds) h =
    rw (and_left (is_digit d) _ h, digits_from)
    (digits_place (n * 10 + (d - 48)) ds (and_right (is_digit d) _ h) ∙ ap some (rw pow-suc (shift n (d - 48) (10 ^ length ds) (place_value ds))))

digits_none : (n : ℕ) (ds : List ℕ) → all_of is_digit ds ≡ false → digits_from n ds ≡ none
unfolding digits_from all_of
digits_none n [] h = true_not_false refl h
digits_none n (d ∷ ds) h = go (is_digit d) refl (digits_none (n * 10 + (d - 48)) ds)
  where
    go : (t : Bool) → is_digit d ≡ t → (all_of is_digit ds ≡ false → digits_from (n * 10 + (d - 48)) ds ≡ none) → digits_from n (d ∷ ds) ≡ none
    go true e rest = rw (e, digits_from) (rest (rw e at h))
    go false e rest = rw (e, digits_from)

pub magnitude_decimal : (ds : List ℕ) → is_decimal ds ≡ true → magnitude ds ≡ some (place_value ds)
unfolding magnitude is_decimal
magnitude_decimal ds h =
    rw (and_right (all_of is_digit ds) _ h, magnitude) (digits_place 0 ds (and_left (all_of is_digit ds) _ h) ∙ ap some (omega arith))

magnitude_not : (ds : List ℕ) → is_decimal ds ≡ false → magnitude ds ≡ none
unfolding magnitude is_decimal
magnitude_not ds h = go (no_leading_zero ds) refl (all_of is_digit ds) refl
  where
    go : (z : Bool) → no_leading_zero ds ≡ z → (a : Bool) → all_of is_digit ds ≡ a → magnitude ds ≡ none
    go false e a q = rw (e, magnitude)
    go true e false q = rw (e, magnitude) (digits_none 0 ds q)
    go true e true q = true_not_false refl (rw (e, q) at h)

-- ---- the rank of digits, and of `-` and digits

digit_no_minus : (d : ℕ) → is_digit d ≡ true → d ≡ 45 → ⊥
unfolding is_digit
digit_no_minus d h e = false≢true (rw e at h)

-- digits do not begin with `-`
decimal_first : (ds : List ℕ) → is_decimal ds ≡ true → eqb (first_byte ds) 45 ≡ false
unfolding is_decimal all_of no_leading_zero
decimal_first [] h = true_not_false h refl
decimal_first (d ∷ ds) h = ne_eqb d 45 (digit_no_minus d (and_left (is_digit d) _ (and_left (all_of is_digit (d ∷ ds)) _ h)))

pub rank_decimal : (ds : List ℕ) → is_decimal ds ≡ true → rank ds ≡ rank_up (place_value ds)
unfolding rank is_decimal no_leading_zero bind all_of
rank_decimal [] h = true_not_false h refl
rank_decimal (d ∷ ds) h = rw (decimal_first (d ∷ ds) h, magnitude_decimal (d ∷ ds) h)

pub rank_opposite : (ds : List ℕ) → is_decimal ds ≡ true → rank (45 ∷ ds) ≡ rank_down (place_value ds)
unfolding rank bind
rank_opposite ds h = rw (magnitude_decimal ds h)

rank_up_some : (n k : ℕ) → rank_up n ≡ some k → (n < 2 ^ 63) × (k ≡ 2 ^ 63 + n)
unfolding rank_up rank_of
rank_up_some n k h = go (ltb n (2 ^ 63)) refl h
  where
    go : (t : Bool) → ltb n (2 ^ 63) ≡ t → cond t (some (2 ^ 63 + n)) none ≡ some k → (n < 2 ^ 63) × (k ≡ 2 ^ 63 + n)
    go true e q = (ltb-true _ _ e, sym (some-injective _ _ q))
    go false e q = absurd (none-ne-some _ q)

rank_down_some : (n k : ℕ) → rank_down n ≡ some k → (0 < n) × (n ≤ 2 ^ 63) × (k ≡ 2 ^ 63 - n)
unfolding rank_down
rank_down_some n k h = go (ltb 0 n && leb n (2 ^ 63)) refl h
  where
    go : (t : Bool) → (ltb 0 n && leb n (2 ^ 63)) ≡ t → cond t (some (2 ^ 63 - n)) none ≡ some k → (0 < n) × (n ≤ 2 ^ 63) × (k ≡ 2 ^ 63 - n)
    go true e q = (ltb-true _ _ (and_left (ltb 0 n) _ e), leb-true _ _ (and_right (ltb 0 n) _ e), sym (some-injective _ _ q))
    go false e q = absurd (none-ne-some _ q)

-- ---- the rank of an integer

ranked_pos : (n : ℕ) → n < 2 ^ 63 → Ranked (pos n) (2 ^ 63 + n)
ranked_pos n h = record { least = record { le = tt }; greatest = record { le = le→leb n (2 ^ 63 - 1) (omega arith) }; above = ap pos (omega arith) }

ranked_neg : (n : ℕ) → 0 < n → n ≤ 2 ^ 63 → Ranked (neg_ℤ (pos n)) (2 ^ 63 - n)
ranked_neg zero p h = absurd (omega arith)
ranked_neg (suc m) p h = record { least = record { le = le→leb m (2 ^ 63 - 1) (omega arith) }; greatest = record { le = tt }; above = rw (le-ltb (2 ^ 63) (suc m) h) }

pos_ranked : (n k : ℕ) → Ranked (pos n) k → (n < 2 ^ 63) × (k ≡ 2 ^ 63 + n)
pos_ranked n k r = (omega (arith, leb→le n (2 ^ 63 - 1) r.greatest.le), ap nat_abs r.above ∙ omega arith)

negsuc_ranked : (m k : ℕ) → Ranked (negsuc m) k → (suc m ≤ 2 ^ 63) × (k ≡ 2 ^ 63 - suc m)
negsuc_ranked m k r =
    let h : suc m ≤ 2 ^ 63 = omega (arith, leb→le m (2 ^ 63 - 1) r.least.le) in
    let q : pos k ≡ pos (2 ^ 63 - suc m) = r.above ∙ rw (le-ltb (2 ^ 63) (suc m) h) in
    (h, ap nat_abs q)

neg_ranked : (n k : ℕ) → 0 < n → Ranked (neg_ℤ (pos n)) k → (n ≤ 2 ^ 63) × (k ≡ 2 ^ 63 - n)
neg_ranked zero k p r = absurd (omega arith)
neg_ranked (suc m) k p r = negsuc_ranked m k r

-- ---- the laws

-- a word that has a rank spells the integer whose rank it is
pub rank_integer : (bs : List ℕ) (k : ℕ) → rank bs ≡ some k → (i : ℤ) × Spells bs i × Ranked i k
unfolding rank bind
rank_integer [] k h = absurd (none-ne-some _ h)
rank_integer (b ∷ bs) k h = go (eqb b 45) refl h
  where
    up : (ds : List ℕ) (t : Bool) → is_decimal ds ≡ t → bind (magnitude ds) rank_up ≡ some k → (i : ℤ) × Spells ds i × Ranked i k
    up ds true e q =
        let u = rank_up_some (place_value ds) k (rw (magnitude_decimal ds e) at q) in
        (pos (place_value ds), unsigned e refl, subst (Ranked (pos (place_value ds))) (sym u.1) (ranked_pos (place_value ds) u.0))
    up ds false e q = absurd (none-ne-some _ (rw (magnitude_not ds e) at q))

    down : (ds : List ℕ) (t : Bool) → is_decimal ds ≡ t → bind (magnitude ds) rank_down ≡ some k → (i : ℤ) × Spells (45 ∷ ds) i × Ranked i k
    down ds true e q =
        let u = rank_down_some (place_value ds) k (rw (magnitude_decimal ds e) at q) in
        (neg_ℤ (pos (place_value ds)), negative e u.0 refl, subst (Ranked (neg_ℤ (pos (place_value ds)))) (sym u.2) (ranked_neg (place_value ds) u.0 u.1))
    down ds false e q = absurd (none-ne-some _ (rw (magnitude_not ds e) at q))

    go : (t : Bool) → eqb b 45 ≡ t → cond t (bind (magnitude bs) rank_down) (bind (magnitude (b ∷ bs)) rank_up) ≡ some k → (i : ℤ) × Spells (b ∷ bs) i × Ranked i k
    go true e q = rw (eqb-true b 45 e) (down bs (is_decimal bs) refl q)
    go false e q = up (b ∷ bs) (is_decimal (b ∷ bs)) refl q

-- and a word that spells an integer from -2^63 to 2^63-1 has its rank
pub integer_rank : (bs : List ℕ) (i : ℤ) (k : ℕ) → Spells bs i → Ranked i k → rank bs ≡ some k
integer_rank bs i k (unsigned {ds} d e) r =
    let u = pos_ranked (place_value ds) k (subst (λ (z : ℤ). Ranked z k) e r) in
    rank_decimal ds d ∙ rank_up_is (place_value ds) u.0 ∙ ap some (sym u.1)
integer_rank bs i k (negative {ds} d p e) r =
    let u = neg_ranked (place_value ds) k p (subst (λ (z : ℤ). Ranked z k) e r) in
    rank_opposite ds d ∙ rank_down_is (place_value ds) (λ z. absurd (omega arith)) u.0 ∙ ap some (sym u.1)

-- a word spells one integer at most
pub spells_one : (bs : List ℕ) (i j : ℤ) → Spells bs i → Spells bs j → i ≡ j
spells_one bs i j p q = spelled bs i p ∙ sym (spelled bs j q)
  where
    spelled : (cs : List ℕ) (z : ℤ) → Spells cs z → z ≡ cond (eqb (first_byte cs) 45) (neg_ℤ (pos (place_value (drop 1 cs)))) (pos (place_value cs))
    spelled cs z (unsigned {ds} d e) = rw (decimal_first ds d) e
    spelled cs z (negative {ds} d p e) = e

-- the rank of a word that spells an integer is the integer's
pub spelled_rank : (bs : List ℕ) (i : ℤ) (k : ℕ) → Spells bs i → rank bs ≡ some k → Ranked i k
spelled_rank bs i k p h =
    let q = rank_integer bs k h in
    subst (λ (z : ℤ). Ranked z k) (spells_one bs q.0 i q.1 p) q.2

same_order : (a b c d : ℕ) → (a < b → c < d) → (c < d → a < b) → ltb a b ≡ ltb c d
same_order a b c d f g = both (ltb a b) (ltb c d) (λ h. lt-ltb c d (f (ltb-true a b h))) (λ h. lt-ltb a b (g (ltb-true c d h)))

-- ranks stand in the order of the integers
pub rank_order : (a b : ℤ) (j k : ℕ) → Ranked a j → Ranked b k → ltb j k ≡ lt_z a b
rank_order (pos m) (pos n) j k p q =
    let u = pos_ranked m j p in
    let v = pos_ranked n k q in
    same_order j k m n (λ h. omega (arith, u, v)) (λ h. omega (arith, u, v))
rank_order (pos m) (negsuc n) j k p q = le-ltb j k (omega (arith, pos_ranked m j p, negsuc_ranked n k q))
rank_order (negsuc m) (pos n) j k p q = lt-ltb j k (omega (arith, negsuc_ranked m j p, pos_ranked n k q))
rank_order (negsuc m) (negsuc n) j k p q =
    let u = negsuc_ranked m j p in
    let v = negsuc_ranked n k q in
    same_order j k n m (λ h. omega (arith, u, v)) (λ h. omega (arith, u, v))

-- so of two words that are numbers, the ranks stand in the order of the integers that the words spell
pub words_order : (v w : List ℕ) (a b : ℤ) (j k : ℕ) → Spells v a → Spells w b → rank v ≡ some j → rank w ≡ some k → ltb j k ≡ lt_z a b
words_order v w a b j k p q h l = rank_order a b j k (spelled_rank v a j p h) (spelled_rank w b k q l)

-- and two integers with the same rank are the same
pub rank_same : (a b : ℤ) (k : ℕ) → Ranked a k → Ranked b k → a ≡ b
rank_same a b k p q =
    sym (+ℤ-neg_ℤ_cancel a (pos (2 ^ 63))) ∙ ap (λ (z : ℤ). z -ℤ pos (2 ^ 63)) (sym p.above ∙ q.above) ∙ +ℤ-neg_ℤ_cancel b (pos (2 ^ 63))
