-- Contract: A user's values by the numbers of the attributes: where each stands in the user's line.
use Rattle.std.specs.Prelude.{◌+◌, ◌<◌, suc, zero, ℕ, eqb, get_or, set, cond, List, ◌≡◌}
use Rattle.std.proofs.Math.Option.{Option, map, none, some}
use Rattle.document.specs.Policy.{Given}
use Rattle.lists.specs.Lists.{find}
use Rattle.text.specs.Numbers.{Value}
use Rattle.text.specs.Words.{word_at}

-- a place of the line, by a number that is one more: 0 says that there is no value
unfoldable pub value_given_at : List ℕ → ℕ → Option Value
value_given_at line zero = none
value_given_at line (suc p) = some (word_at line p)

-- the places are those of the values: for each attribute that of the first value given for it
pub record Values (line : List ℕ) (gs : List Given) (places : List ℕ) : Type 0 where
  pub are : (i : ℕ) → i < 35 → value_given_at line (get_or places i 0) ≡ map (λ g. g.value) (find (λ g. eqb g.attribute i) gs)

-- the places with v as that of attribute n, unless it has one
unfoldable pub first_kept : List ℕ → ℕ → ℕ → List ℕ
first_kept places n v = cond (eqb (get_or places n 0) 0) (set places n (v + 1)) places
