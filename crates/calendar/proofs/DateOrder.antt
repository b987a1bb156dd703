-- The order of ranks is the order of year and day number, which is that of year, month and day. Assumes nothing.
use Prim.Native.Nat.{◌*◌, ◌+◌, ◌-◌, ◌<◌, ◌≤◌, ℕ}
use borrow.Author.Tests.{eq-eqb, eqb-false, eqb-true, le-ltb, lt-ltb, ltb-false, ltb-true, ne_eqb}
use lib.Dec.{eqb, ltb}
use lib.ListN.{take}
use lib.Seq.{take-take}
use mathlib.Core.Bool.{Bool, false, true}
use mathlib.Core.List.{List}
use mathlib.Core.Option.{some-injective, some}
use mathlib.Core.Path.{◌∙◌, ◌≡◌, ap, refl, subst, sym}
use native.Mathlib.Omega.{arith}
use Rattle.calendar.proofs.Conversions.{Real, date_of_its_rank, number_few, numbered, real}
use Rattle.calendar.proofs.MonthLaws.{month_span, total_take_le}
use Rattle.calendar.specs.Calendar.{Date, date_rank, day_number, day_of_date, exists, leap, month_days, months, pair_rank, total}
use Rattle.calendar.specs.Order.{earlier, earlier_day, lexed}
use Rattle.lists.proofs.ListLaws.{map_inv}

-- two numbers: the first is the less, or they are the same, or it is the greater
three : {P : Type 0} (a b : ℕ) → (a < b → P) → (a ≡ b → P) → (b < a → P) → P
three {P} a b less same more = go (ltb a b) refl (eqb a b) refl
  where
    go : (x : Bool) → ltb a b ≡ x → (y : Bool) → eqb a b ≡ y → P
    go true e y f = less (ltb-true a b e)
    go false e true f = same (eqb-true a b f)
    go false e false f =
        let apart : a ≡ b → ⊥ = eqb-false a b f in
        more (omega (arith, ltb-false a b e))

-- a test that goes as another
same_test : (a b c d : ℕ) → (a < b → c < d) → (b ≤ a → d ≤ c) → ltb a b ≡ ltb c d
same_test a b c d f g = go (ltb a b) refl
  where
    go : (x : Bool) → ltb a b ≡ x → ltb a b ≡ ltb c d
    go true e = e ∙ sym (lt-ltb c d (f (ltb-true a b e)))
    go false e = e ∙ sym (le-ltb c d (g (ltb-false a b e)))

module _ (a b : ℕ) (x : Bool) where
  lexed_less : a < b → lexed a b x ≡ true
  unfolding lexed
  lexed_less h = rw (lt-ltb a b h)

  lexed_same : a ≡ b → lexed a b x ≡ x
  unfolding lexed
  lexed_same h =
      let least : b ≤ a = omega arith in
      rw (le-ltb a b least, eq-eqb a b h)

  lexed_more : b < a → lexed a b x ≡ false
  unfolding lexed
  lexed_more h =
      let least : b ≤ a = omega arith in
      let apart : a ≡ b → ⊥ = λ e. omega arith in
      rw (le-ltb a b least, ne_eqb a b apart)

-- ranks stand in the order of the pairs, where day numbers are at most 366
pub rank_lexed : (y n z k : ℕ) → n ≤ 366 → k ≤ 366 → ltb (pair_rank y n) (pair_rank z k) ≡ lexed y z (ltb n k)
unfolding pair_rank
rank_lexed y n z k h i =
    three y z
    (λ (e : y < z). lt-ltb (y * 367 + n) (z * 367 + k) (omega arith) ∙ sym (lexed_less y z (ltb n k) e))
    (λ (e : y ≡ z).
    same_test (y * 367 + n) (z * 367 + k) n k (λ (g : y * 367 + n < z * 367 + k). omega arith) (λ (g : z * 367 + k ≤ y * 367 + n). omega arith)
    ∙ sym (lexed_same y z (ltb n k) e))
    (λ (e : z < y). le-ltb (y * 367 + n) (z * 367 + k) (omega arith) ∙ sym (lexed_more y z (ltb n k) e))

total_take_mono : (ks : List ℕ) (i j : ℕ) → i ≤ j → total (take i ks) ≤ total (take j ks)
total_take_mono ks i j h = subst (λ (xs : List ℕ). total xs ≤ total (take j ks)) (take-take i j ks h) (total_take_le (take j ks) i)

-- a month that stands before another ends before a day of that
before_it : (y m c d e : ℕ) → 1 ≤ m → m ≤ 12 → d ≤ month_days y m → m < c → 1 ≤ e
    → total (take (m - 1) (months (leap y))) + d < total (take (c - 1) (months (leap y))) + e
before_it y m c d e low high inside less first =
    let spaced : total (take m (months (leap y))) ≤ total (take (c - 1) (months (leap y))) = total_take_mono (months (leap y)) m (c - 1) (omega arith) in
    omega (arith, month_span y m low high)

-- in one year, day numbers stand in the order of months and days
in_year : (y m d c e : ℕ) → 1 ≤ m → m ≤ 12 → 1 ≤ d → d ≤ month_days y m → 1 ≤ c → c ≤ 12 → 1 ≤ e → e ≤ month_days y c
    → ltb (total (take (m - 1) (months (leap y))) + d) (total (take (c - 1) (months (leap y))) + e) ≡ lexed m c (ltb d e)
in_year y m d c e m1 m2 d1 d2 c1 c2 e1 e2 =
    let s : ℕ = total (take (m - 1) (months (leap y))) in
    let t : ℕ = total (take (c - 1) (months (leap y))) in
    three m c
    (λ (h : m < c). lt-ltb (s + d) (t + e) (before_it y m c d e m1 m2 d2 h e1) ∙ sym (lexed_less m c (ltb d e) h))
    (λ (h : m ≡ c).
    let same : s ≡ t = ap (λ (x : ℕ). total (take (x - 1) (months (leap y)))) h in
    same_test (s + d) (t + e) d e (λ (g : s + d < t + e). omega arith) (λ (g : t + e ≤ s + d). omega arith)
    ∙ sym (lexed_same m c (ltb d e) h))
    (λ (h : c < m).
    let more : t + e < s + d = before_it y c m e d c1 c2 e2 h d1 in
    le-ltb (s + d) (t + e) (omega arith) ∙ sym (lexed_more m c (ltb d e) h))

-- the two orders are one
pub orders_agree : (a b : Date) → exists a ≡ true → exists b ≡ true → earlier_day a b ≡ earlier a b
unfolding earlier_day earlier day_number
orders_agree a b ha hb =
    let r : Real a = real a ha in
    let s : Real b = real b hb in
    let by_month : Bool = lexed a.month b.month (ltb a.day b.day) in
    let by_number : Bool = ltb (day_number a) (day_number b) in
    three a.year b.year
    (λ (h : a.year < b.year). lexed_less a.year b.year by_number h ∙ sym (lexed_less a.year b.year by_month h))
    (λ (h : a.year ≡ b.year).
    ap (λ (x : Bool). lexed a.year b.year x)
    (ap (λ (y : ℕ). ltb (day_number a) (total (take (b.month - 1) (months (leap y))) + b.day)) (sym h)
    ∙ in_year a.year a.month a.day b.month b.day
    r.month_low r.month_high r.day_low r.day_high
    s.month_low s.month_high s.day_low (subst (λ (y : ℕ). b.day ≤ month_days y b.month) (sym h) s.day_high)))
    (λ (h : b.year < a.year). lexed_more a.year b.year by_number h ∙ sym (lexed_more a.year b.year by_month h))

-- the order of ranks is the order of the pair of year and day number, and that of year, month and day
pub rank_order :
    (a b : Date) (r s : ℕ) → date_rank a ≡ some r → date_rank b ≡ some s
    → (ltb r s ≡ earlier_day a b) × (ltb r s ≡ earlier a b)
unfolding date_rank earlier_day
rank_order a b r s ha hb =
    let (n, its_a, ra) = map_inv (pair_rank a.year) (day_of_date a) r ha in
    let (k, its_b, rb) = map_inv (pair_rank b.year) (day_of_date b) s hb in
    let by_pair : ltb r s ≡ lexed a.year b.year (ltb n k) =
    ap (λ (x : ℕ). ltb x s) ra ∙ ap (λ (x : ℕ). ltb (pair_rank a.year n) x) rb
    ∙ rank_lexed a.year n b.year k (number_few a n its_a).0 (number_few b k its_b).0 in
    let numbers : ltb n k ≡ ltb (day_number a) (day_number b) =
    ap (λ (x : ℕ). ltb x k) (sym (numbered a n its_a).1) ∙ ap (λ (x : ℕ). ltb (day_number a) x) (sym (numbered b k its_b).1) in
    let first : ltb r s ≡ earlier_day a b = by_pair ∙ ap (λ (x : Bool). lexed a.year b.year x) numbers in
    (first, first ∙ orders_agree a b (numbered a n its_a).0 (numbered b k its_b).0)

-- dates of one rank are one date
pub rank_one : (a b : Date) (r : ℕ) → date_rank a ≡ some r → date_rank b ≡ some r → a ≡ b
rank_one a b r ha hb = some-injective _ _ (sym (date_of_its_rank a r ha) ∙ date_of_its_rank b r hb)
