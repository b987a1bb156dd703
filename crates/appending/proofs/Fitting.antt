-- What it says that a record fits columns: as many fields as columns, and each field of its column's type. Assumes nothing.
use Prim.Native.Nat.{suc, zero, ℕ}
use borrow.Author.Tests.{eq-eqb, eqb-true, not-true}
use lib.Dec.{eqb}
use lib.ListN.{get_elem?, length}
use mathlib.Core.Bool.{not, true}
use mathlib.Core.List.{List, [], ◌∷◌, map}
use mathlib.Core.Option.{Option, none-ne-some, some-injective, none, some}
use mathlib.Core.Path.{◌≡◌, ap, refl, subst₂}
use Rattle.appending.specs.Appended.{fits_columns}
use Rattle.document.specs.Policy.{Column}
use Rattle.document.specs.TypeFaults.{cell_has_kind, mistyped_value}
use Rattle.csv_text.specs.Records.{Entry}
use Rattle.lists.proofs.ListLaws.{there_none}
use Rattle.lists.proofs.Tests.{and_both, and_left, and_right}
use Rattle.lists.specs.Lists.{there}
use Rattle.text.proofs.OffendingLaws.{leftmost_head, leftmost_nil, leftmost_none, leftmost_tail, unless_none, unless_true}
use Rattle.text.specs.Numbers.{Value}
use Rattle.text.specs.Words.{Word, plain_word}

-- each value is of its column's type
pub record Typed (cs : List Column) (vs : List Value) : Type 0 where
  pub each : (i : ℕ) (c : Column) (v : Value) → get_elem? cs i ≡ some c → get_elem? vs i ≡ some v → cell_has_kind c.kind v ≡ true

typed_if : (cs : List Column) (vs : List Value) → mistyped_value cs (map plain_word vs) ≡ none → Typed cs vs
typed_if [] vs h = record { each = λ i c v e g. absurd (none-ne-some _ e) }
typed_if (d ∷ cs) [] h = record { each = λ i c v e g. absurd (none-ne-some _ g) }
typed_if (d ∷ cs) (w ∷ vs) h = record { each = go (unfold mistyped_value plain_word in unless_none _ _ (leftmost_head _ _ h)) (typed_if cs vs (unfold mistyped_value in leftmost_head _ _ (leftmost_tail _ _ h))).each }
  where
    go : cell_has_kind d.kind w ≡ true → ((i : ℕ) (c : Column) (v : Value) → get_elem? cs i ≡ some c → get_elem? vs i ≡ some v → cell_has_kind c.kind v ≡ true)
        → (i : ℕ) (c : Column) (v : Value) → get_elem? (d ∷ cs) i ≡ some c → get_elem? (w ∷ vs) i ≡ some v → cell_has_kind c.kind v ≡ true
    go k rest zero c v e g = subst₂ (λ (x : Column) (y : Value). cell_has_kind x.kind y ≡ true) (some-injective _ _ e) (some-injective _ _ g) k
    go k rest (suc i) c v e g = rest i c v e g

if_typed_lem : (cs : List Column) (vs : List Value) → Typed cs vs → mistyped_value cs (map plain_word vs) ≡ none
unfolding mistyped_value plain_word
if_typed_lem [] vs h = refl
if_typed_lem (c ∷ cs) [] h = refl
if_typed_lem (c ∷ cs) (v ∷ vs) h =
    leftmost_none _ _ (unless_true _ _ (h.each 0 c v refl refl)) (leftmost_none _ _ (if_typed_lem cs vs (record { each = λ i. h.each (suc i) })) leftmost_nil)

pub fits_reads : (cs : List Column) (e : Entry) → fits_columns cs e ≡ true → (length e.fields ≡ length cs) × Typed cs e.fields
unfolding fits_columns
fits_reads cs e h =
    let n : eqb (length e.fields) (length cs) ≡ true = and_left _ _ h in
    let t : not (there (mistyped_value cs (map plain_word e.fields))) ≡ true = and_right (eqb (length e.fields) (length cs)) _ h in
    (eqb-true _ _ n, typed_if cs e.fields (there_none _ (not-true _ t)))

pub reads_fits : (cs : List Column) (e : Entry) → length e.fields ≡ length cs → Typed cs e.fields → fits_columns cs e ≡ true
unfolding fits_columns there
reads_fits cs e n t = and_both (eqb (length e.fields) (length cs)) _ (eq-eqb _ _ n) (ap (λ (o : Option Word). not (there o)) (if_typed_lem cs e.fields t))
