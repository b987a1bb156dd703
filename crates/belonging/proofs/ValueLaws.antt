-- A user's values by the numbers of the attributes: a turn of the walk through a user line, and where it ends. Assumes nothing.
use Prim.Native.Nat.{◌+◌, ◌-◌, ◌<◌, ◌≤◌, suc, zero, ℕ}
use borrow.Author.Tests.{eq-eqb, eqb-false, eqb-true, ne_eqb}
use lib.Dec.{eqb}
use lib.ListN.{get_or-eq_default, get_or, get_or-replicate, length, length-set, replicate, set}
use lib.Seq.{get_or-set_other, get_or-set_same, set_out}
use mathlib.Core.Bool.{cond}
use mathlib.Core.List.{List, ◌∷◌, map}
use mathlib.Core.Logic.{⊎_elim}
use mathlib.Core.Option
use mathlib.Core.Option.{Option, none, or_else, some}
use mathlib.Core.Path.{◌∙◌, ◌≡◌, ap, refl, sym}
use native.Mathlib.Omega.{arith}
use Rattle.belonging.specs.Values.{Values, first_kept, value_given_at}
use Rattle.document.specs.Lookup.{attribute_of}
use Rattle.document.specs.Meaning.{given_of}
use Rattle.document.specs.Policy.{Given, Policy}
use Rattle.form.proofs.WalkSteps.{givens_more, givens_stop, pair_after}
use Rattle.form.specs.Walks.{first_in, given_at, givens_at, pair_end_at, second_in}
use Rattle.principals.specs.Attributes.{Attributes}
use Rattle.lists.proofs.Tests.{decide}
use Rattle.lists.specs.Lists.{find, or_zero}
use Rattle.text.proofs.Lefts.{before_end}
use Rattle.text.proofs.WalkingLaws.{next_within, past_within}
use Rattle.text.specs.Numbers.{Value}
use Rattle.text.specs.Words.{word_at, word_of}

-- ---- a turn

-- where a space stands, the line goes on
pub space_here : (s : List ℕ) (j : ℕ) → get_or s j 0 ≡ 32 → j < length s
space_here s j h = before_end s j (λ z. omega (arith, h, z))

-- the value of a bracket behind it stands in the line
pub second_near : (s : List ℕ) (j : ℕ) → get_or s j 0 ≡ 32 → second_in s (j + 1) ≤ length s
unfolding second_in first_in
second_near s j h = next_within s (first_in s (j + 1)) (past_within 40 s (j + 1) (omega (arith, space_here s j h)))

-- what is left of the line gets less
pub pair_less : (s : List ℕ) (j : ℕ) → get_or s j 0 ≡ 32 → (e : ℕ) → e ≡ pair_end_at s (j + 1) → length s - e < length s - j
pair_less s j h e p = omega (arith, p, space_here s j h, pair_after s j)

-- ---- the value that is stored, or else the first one to come

-- the first value given for attribute i
abbrev pub value_for : ℕ → List Given → Option Value
value_for i gs = Option.map (λ g. g.value) (find (λ g. eqb g.attribute i) gs)

-- the value for attribute i that is stored, or else the first of those given
abbrev pub stored : List ℕ → List ℕ → ℕ → List Given → Option Value
stored line places i gs = or_else (value_given_at line (get_or places i 0)) (value_for i gs)

for_this : (i : ℕ) (g : Given) (gs : List Given) → g.attribute ≡ i → value_for i (g ∷ gs) ≡ some g.value
unfolding find
for_this i g gs e = ap (λ b. Option.map (λ (x : Given). x.value) (cond b (some g) (find (λ x. eqb x.attribute i) gs))) (eq-eqb g.attribute i e)

for_other : (i : ℕ) (g : Given) (gs : List Given) → (g.attribute ≡ i → ⊥) → value_for i (g ∷ gs) ≡ value_for i gs
unfolding find
for_other i g gs e = ap (λ b. Option.map (λ (x : Given). x.value) (cond b (some g) (find (λ x. eqb x.attribute i) gs))) (ne_eqb g.attribute i e)

-- a value that is stored stays
kept_there : (line : List ℕ) (p : ℕ) (x y : Option Value) → (p ≡ 0 → ⊥) → or_else (value_given_at line p) x ≡ or_else (value_given_at line p) y
unfolding or_else value_given_at
kept_there line zero x y h = absurd (h refl)
kept_there line (suc p) x y h = refl

-- one that is not is the next one given
new_there : (line : List ℕ) (p v : ℕ) (x : Option Value) → p ≡ 0 → or_else (value_given_at line (v + 1)) x ≡ or_else (value_given_at line p) (some (word_at line v))
unfolding or_else value_given_at
new_there line p v x e = ap (λ q. or_else (value_given_at line q) x) one ∙ both ∙ ap (λ q. or_else (value_given_at line q) (some (word_at line v))) (sym e)
  where
    one : v + 1 ≡ suc v
    one = omega arith

    both : or_else (value_given_at line (suc v)) x ≡ or_else (value_given_at line 0) (some (word_at line v))
    both = refl

pub kept_set : (places : List ℕ) (n v : ℕ) → get_or places n 0 ≡ 0 → first_kept places n v ≡ set places n (v + 1)
unfolding first_kept
kept_set places n v e = ap (λ b. cond b (set places n (v + 1)) places) (eq-eqb (get_or places n 0) 0 e)

pub kept_old : (places : List ℕ) (n v : ℕ) → (get_or places n 0 ≡ 0 → ⊥) → first_kept places n v ≡ places
unfolding first_kept
kept_old places n v e = ap (λ b. cond b (set places n (v + 1)) places) (ne_eqb (get_or places n 0) 0 e)

-- behind the end nothing is stored
pub kept_out : (places : List ℕ) (n v : ℕ) → length places ≤ n → places ≡ first_kept places n v
kept_out places n v h = sym (kept_set places n v (get_or-eq_default places 0 h) ∙ set_out places n (v + 1) h)

pub kept_long : (places : List ℕ) (n v : ℕ) → length (first_kept places n v) ≡ length places
kept_long places n v = ⊎_elim (λ e. ap length (kept_set places n v (eqb-true _ _ e)) ∙ length-set places n (v + 1)) (λ e. ap length (kept_old places n v (eqb-false _ _ e))) (decide (eqb (get_or places n 0) 0))

kept_else : (places : List ℕ) (n v i : ℕ) → (i ≡ n → ⊥) → get_or (first_kept places n v) i 0 ≡ get_or places i 0
kept_else places n v i apart =
    ⊎_elim
    (λ e. ap (λ l. get_or l i 0) (kept_set places n v (eqb-true _ _ e)) ∙ get_or-set_other places n i (v + 1) 0 apart)
    (λ e. ap (λ l. get_or l i 0) (kept_old places n v (eqb-false _ _ e)))
    (decide (eqb (get_or places n 0) 0))

-- the next value given is kept
pub stored_next : (line places : List ℕ) (i : ℕ) (g : Given) (gs : List Given) (v : ℕ) → i < length places → g.value ≡ word_at line v
    → stored line (first_kept places g.attribute v) i gs ≡ stored line places i (g ∷ gs)
stored_next line places i g gs v l e = ⊎_elim (λ t. this (eqb-true _ _ t)) (λ t. other (eqb-false _ _ t)) (decide (eqb i g.attribute))
  where
    n : ℕ
    n = g.attribute

    other : (i ≡ n → ⊥) → stored line (first_kept places n v) i gs ≡ stored line places i (g ∷ gs)
    other apart = ap (λ p. or_else (value_given_at line p) (value_for i gs)) (kept_else places n v i apart) ∙ ap (or_else (value_given_at line (get_or places i 0))) (sym (for_other i g gs (λ t. apart (sym t))))

    first : i ≡ n → get_or places n 0 ≡ 0 → stored line (first_kept places n v) i gs ≡ stored line places i (g ∷ gs)
    first same none_yet =
        ap (λ p. or_else (value_given_at line p) (value_for i gs)) (ap (λ l. get_or l i 0) (kept_set places n v none_yet) ∙ ap (λ m. get_or (set places n (v + 1)) m 0) same ∙ get_or-set_same places n (v + 1) 0 (omega (arith, same, l)))
        ∙ new_there line (get_or places i 0) v (value_for i gs) (ap (λ m. get_or places m 0) same ∙ none_yet)
        ∙ ap (or_else (value_given_at line (get_or places i 0))) (ap some (sym e) ∙ sym (for_this i g gs (sym same)))

    later : i ≡ n → (get_or places n 0 ≡ 0 → ⊥) → stored line (first_kept places n v) i gs ≡ stored line places i (g ∷ gs)
    later same there =
        ap (λ l. or_else (value_given_at line (get_or l i 0)) (value_for i gs)) (kept_old places n v there)
        ∙ kept_there line (get_or places i 0) (value_for i gs) (value_for i (g ∷ gs)) (λ z. there (ap (λ m. get_or places m 0) (sym same) ∙ z))

    this : i ≡ n → stored line (first_kept places n v) i gs ≡ stored line places i (g ∷ gs)
    this same = ⊎_elim (λ t. first same (eqb-true _ _ t)) (λ t. later same (eqb-false _ _ t)) (decide (eqb (get_or places n 0) 0))

-- ---- the walk

-- what is stored and what is still to come are all the values given from `place` on
abbrev pub Walked : List ℕ → List ℕ → ℕ → List ℕ → ℕ → List ℕ → ℕ → Type 0
Walked text attributes k line place places j =
    (d : Policy) → Attributes text attributes k d.attributes → (i : ℕ) → i < 35 → stored line places i (map (given_of d) (givens_at line j)) ≡ value_for i (map (given_of d) (givens_at line place))

stored_nothing : (line : List ℕ) (n i : ℕ) (gs : List Given) → i < n → stored line (replicate n 0) i gs ≡ value_for i gs
unfolding or_else value_given_at
stored_nothing line n i gs l = ap (λ p. or_else (value_given_at line p) (value_for i gs)) (get_or-replicate n i 0 0 l) ∙ none_first
  where
    none_first : or_else (value_given_at line 0) (value_for i gs) ≡ value_for i gs
    none_first = refl

pub walk_start : (text attributes : List ℕ) (k : ℕ) (line : List ℕ) (place : ℕ) (places : List ℕ) → length places ≡ 35 → places ≡ replicate (length places) 0 → Walked text attributes k line place places place
walk_start text attributes k line place places long e d h i l =
    ap (λ ps. stored line ps i (map (given_of d) (givens_at line place))) e ∙ stored_nothing line (length places) i (map (given_of d) (givens_at line place)) (omega (arith, l, long))

pub walk_on : (text attributes : List ℕ) (k : ℕ) (line : List ℕ) (place : ℕ) (places : List ℕ) (j a v n e : ℕ) → length places ≡ 35 → get_or line j 0 ≡ 32
    → a ≡ first_in line (j + 1) → v ≡ second_in line (j + 1) → e ≡ pair_end_at line (j + 1)
    → ((d : Policy) → Attributes text attributes k d.attributes → n ≡ or_zero (attribute_of d (word_of line a)))
    → Walked text attributes k line place places j → Walked text attributes k line place (first_kept places n v) e
unfolding given_of given_at
walk_on text attributes k line place places j a v n e long sp pa pv pe num walked d h i l =
    ap (λ x. stored line (first_kept places n v) i (map (given_of d) (givens_at line x))) pe
    ∙ ap (λ x. stored line (first_kept places x v) i rest) (num d h ∙ ap (λ x. or_zero (attribute_of d (word_of line x))) pa ∙ sym is_attribute)
    ∙ stored_next line places i g rest v (omega (arith, l, long)) (is_value ∙ ap (word_at line) (sym pv))
    ∙ ap (λ gs. stored line places i (map (given_of d) gs)) (sym (givens_more line j sp))
    ∙ walked d h i l
  where
    rest : List Given
    rest = map (given_of d) (givens_at line (pair_end_at line (j + 1)))

    g : Given
    g = given_of d (given_at line (j + 1))

    is_attribute : g.attribute ≡ or_zero (attribute_of d (word_of line (first_in line (j + 1))))
    is_attribute = refl

    is_value : g.value ≡ word_at line (second_in line (j + 1))
    is_value = refl

or_none : (o : Option Value) → o ≡ or_else o none
unfolding or_else
or_none none = refl
or_none (some x) = refl

pub walk_over : (text attributes : List ℕ) (k : ℕ) (line : List ℕ) (place : ℕ) (places : List ℕ) (j : ℕ) → (get_or line j 0 ≡ 32 → ⊥) → Walked text attributes k line place places j
    → (d : Policy) → Attributes text attributes k d.attributes → Values line (map (given_of d) (givens_at line place)) places
unfolding find
walk_over text attributes k line place places j stop walked d h = record { are = λ i l. or_none _ ∙ nothing i ∙ walked d h i l }
  where
    nothing : (i : ℕ) → or_else (value_given_at line (get_or places i 0)) none ≡ stored line places i (map (given_of d) (givens_at line j))
    nothing i = ap (λ gs. stored line places i (map (given_of d) gs)) (sym (givens_stop line j stop))
