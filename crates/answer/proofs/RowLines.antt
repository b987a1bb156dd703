-- The line of a row that a select or a blank prints, if it repeats no column, is no longer than that of all columns. For the reserve. Assumes
-- nothing.
use Prim.Native.Nat.{◌+◌, ◌<◌, ◌≤◌, suc, zero, zero-le, ℕ}
use borrow.Author.Tests.{ne_eqb}
use lib.Dec.{eqb}
use lib.ListN.{get_or, length, length-append}
use mathlib.Core.Bool.{Bool, ◌||◌, cond, false, false≢true, true, true≢false}
use mathlib.Core.List.{List, [], ◌++◌, ◌∷◌, flatten, map}
use mathlib.Core.Path.{◌∙◌, ◌≡◌, ap, refl, subst, sym}
use native.Mathlib.Nat.{le_refl, not-suc-le-zero}
use native.Mathlib.Omega.{arith}
use Rattle.answer.proofs.ValuesFilled.{filled}
use Rattle.answer.specs.Answer.{row_line}
use Rattle.answer.specs.Reserve.{columns_from, whole_line}
use Rattle.answer.specs.Seen.{gap, seen_value, seen_values}
use Rattle.text.proofs.ReaderLaws.{list_cost}
use Rattle.lists.proofs.Tests.{eqb_self}
use Rattle.text.specs.Bytes.{ascii}
use Rattle.lists.specs.Lists.{all_of, any_of, member}
use Rattle.text.specs.Numbers.{Value}

differ : (m n : ℕ) → m < n → eqb n m ≡ false
differ m n h = ne_eqb n m (λ e. omega (arith, e, h))

differ' : (m n : ℕ) → m < n → eqb m n ≡ false
differ' m n h = ne_eqb m n (λ e. omega (arith, e, h))

-- ---- columns without repeats cost no more than all of them

-- what the columns of a printed row take, each with its space
cols_cost : List Value → List ℕ → ℕ
cols_cost vs [] = 0
cols_cost vs (c ∷ cs) = 1 + length (get_or vs c []) + cols_cost vs cs

-- what the values take, from column i on, without those of the columns that were used
unused_cost : ℕ → List ℕ → List Value → ℕ
unused_cost i used [] = 0
unused_cost i used (v ∷ vs) = cond (member i used) 0 (1 + length v) + unused_cost (suc i) used vs

-- no column is used twice
abbrev pub Distinct : List ℕ → List ℕ → Type 0
Distinct used [] = Unit {0}
Distinct used (c ∷ cs) = (member c used ≡ false) × Distinct (c ∷ used) cs

abbrev pub AllBelow : ℕ → List ℕ → Type 0
AllBelow n [] = Unit {0}
AllBelow n (c ∷ cs) = (c < n) × AllBelow n cs

unused_all : (i : ℕ) (vs : List Value) → unused_cost i [] vs ≡ list_cost length vs
unfolding unused_cost member any_of list_cost
unused_all i [] = refl
unused_all i (v ∷ vs) = ap (λ (n : ℕ). 1 + length v + n) (unused_all (suc i) vs)

-- a column that is another plays no part in whether one was used
member_other : (c i : ℕ) (used : List ℕ) → eqb i c ≡ false → member i (c ∷ used) ≡ member i used
unfolding member any_of
member_other c i used h = ap (λ (b : Bool). b || member i used) h

member_here : (c : ℕ) (used : List ℕ) → member c (c ∷ used) ≡ true
unfolding member any_of
member_here c used = ap (λ (b : Bool). b || member c used) (eqb_self c)

-- a column further left plays no part
unused_left : (c i : ℕ) (used : List ℕ) (vs : List Value) → c < i → unused_cost i (c ∷ used) vs ≡ unused_cost i used vs
unfolding unused_cost
unused_left c i used [] h = refl
unused_left c i used (v ∷ vs) h =
    ap (λ (n : ℕ). cond (member i (c ∷ used)) 0 (1 + length v) + n) (unused_left c (suc i) used vs (omega (arith, h)))
    ∙ ap (λ (b : Bool). cond b 0 (1 + length v) + unused_cost (suc i) used vs) (member_other c i used (differ c i h))

-- to use a column takes its cost off
unused_take : (vs : List Value) (i j c : ℕ) (used : List ℕ) → c ≡ i + j → j < length vs → member c used ≡ false
    → 1 + length (get_or vs j []) + unused_cost i (c ∷ used) vs ≤ unused_cost i used vs
unfolding unused_cost
unused_take [] i j c used e h m = absurd (not-suc-le-zero h)
unused_take (v ∷ vs) i zero c used e h m = go c (member i (c ∷ used)) (member i used) (ap (λ (x : ℕ). member x (c ∷ used)) i≡c ∙ member_here c used) (ap (λ (x : ℕ). member x used) i≡c ∙ m) (unused_left c (suc i) used vs (omega (arith, e)))
  where
    i≡c : i ≡ c
    i≡c = omega (arith, e)

    go : (c : ℕ) (a b : Bool) → a ≡ true → b ≡ false → unused_cost (suc i) (c ∷ used) vs ≡ unused_cost (suc i) used vs
        → 1 + length v + (cond a 0 (1 + length v) + unused_cost (suc i) (c ∷ used) vs) ≤ cond b 0 (1 + length v) + unused_cost (suc i) used vs
    go c true false p q h = omega (arith, h)
    go c true true p q h = absurd (true≢false q)
    go c false b p q h = absurd (false≢true p)
unused_take (v ∷ vs) i (suc j) c used e h m =
    subst (λ (b : Bool). 1 + length (get_or vs j []) + (cond b 0 (1 + length v) + unused_cost (suc i) (c ∷ used) vs) ≤ cond (member i used) 0 (1 + length v) + unused_cost (suc i) used vs)
    (sym (member_other c i used (differ' i c (omega (arith, e)))))
    (omega (arith, unused_take vs (suc i) j c used (omega (arith, e)) (omega (arith, h)) m))

cols_cost_lem : (vs : List Value) (used cs : List ℕ) → Distinct used cs → AllBelow (length vs) cs → cols_cost vs cs ≤ unused_cost 0 used vs
unfolding cols_cost
cols_cost_lem vs used [] d b = zero-le
cols_cost_lem vs used (c ∷ cs) d b = omega (arith, cols_cost_lem vs (c ∷ used) cs d.1 b.1, unused_take vs 0 c c used (omega arith) b.0 d.0)

-- columns without repeats cost no more than all of them
distinct_cost : (vs : List Value) (cs : List ℕ) → Distinct [] cs → AllBelow (length vs) cs → cols_cost vs cs ≤ list_cost length vs
distinct_cost vs cs d b = omega (arith, cols_cost_lem vs [] cs d b, unused_all 0 vs)

-- a value that is left out costs less, and so does a gap: a value has a byte at least
seen_value_lem : (o : ℕ → Bool) (ns : List ℕ) (i : ℕ) (vs : List Value) → all_of filled vs ≡ true → (c : ℕ) → length (get_or (seen_values o ns i vs) c []) ≤ length (get_or vs c [])
unfolding seen_values seen_value gap filled all_of
seen_value_lem o ns i [] h c = le_refl _
seen_value_lem o ns i ([] ∷ vs) h c = absurd (true≢false (sym h))
seen_value_lem o ns i ((b ∷ bs) ∷ vs) h zero = go (member i ns) (o i)
  where
    go : (x y : Bool) → length (cond x (cond y (b ∷ bs) gap) []) ≤ length (b ∷ bs)
    go true true = le_refl _
    go true false = omega arith
    go false y = zero-le
seen_value_lem o ns i ((b ∷ bs) ∷ vs) h (suc c) = seen_value_lem o ns (suc i) vs h c

seen_cost : (o : ℕ → Bool) (ns : List ℕ) (vs : List Value) → all_of filled vs ≡ true → (cs : List ℕ) → cols_cost (seen_values o ns 0 vs) cs ≤ cols_cost vs cs
unfolding cols_cost
seen_cost o ns vs h [] = zero-le
seen_cost o ns vs h (c ∷ cs) = omega (arith, seen_value_lem o ns 0 vs h c, seen_cost o ns vs h cs)

-- ---- the printed rows

items_length : (vs : List Value) (cs : List ℕ) → length (flatten (map (λ c. 32 ∷ get_or vs c []) cs)) ≡ cols_cost vs cs
unfolding flatten cols_cost
items_length vs [] = refl
items_length vs (c ∷ cs) = length-append (32 ∷ get_or vs c []) _ ∙ omega (arith, items_length vs cs)

row_line_length : (cs : List ℕ) (vs : List Value) → length (row_line cs vs) ≡ 6 + cols_cost vs cs
unfolding row_line
row_line_length cs vs = length-append (ascii "(row" ++ flatten (map (λ c. 32 ∷ get_or vs c []) cs)) (ascii ")\n") ∙ omega (arith, length-append (ascii "(row") (flatten (map (λ c. 32 ∷ get_or vs c []) cs)), items_length vs cs)

-- the line of all columns, where the values vs are those of ws from number i on
columns_length : (ws vs : List Value) (i : ℕ) → ((j : ℕ) → get_or ws (i + j) [] ≡ get_or vs j []) → cols_cost ws (columns_from i vs) ≡ list_cost length vs
unfolding cols_cost columns_from list_cost
columns_length ws [] i h = refl
columns_length ws (v ∷ vs) i h =
    let here : get_or ws i [] ≡ v = ap (λ (k : ℕ). get_or ws k []) (omega arith) ∙ h 0 in
    let rest = columns_length ws vs (suc i) (λ j. ap (λ (k : ℕ). get_or ws k []) (omega arith) ∙ h (suc j)) in
    omega (arith, ap length here, rest)

pub whole_length_lem : (vs : List Value) → length (whole_line vs) ≡ 6 + list_cost length vs
unfolding whole_line
whole_length_lem vs = row_line_length (columns_from 0 vs) vs ∙ ap (λ n. 6 + n) (columns_length vs vs 0 (λ j. ap (λ (k : ℕ). get_or vs k []) (omega arith)))

-- what is seen of a row, printed, takes no more than the row with all its columns
pub row_cost_lem : (o : ℕ → Bool) (ns cs : List ℕ) (vs : List Value) → all_of filled vs ≡ true → Distinct [] cs → AllBelow (length vs) cs → length (row_line cs (seen_values o ns 0 vs)) ≤ length (whole_line vs)
row_cost_lem o ns cs vs h u b = omega (arith, row_line_length cs (seen_values o ns 0 vs), whole_length_lem vs, seen_cost o ns vs h cs, distinct_cost vs cs u b)
