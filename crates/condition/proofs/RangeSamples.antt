-- A few comparisons and conditions on the range from 3 to 7. Assumes nothing.
use Prim.Native.Nat.{ℕ}
use Prim.Native.String.{String}
use mathlib.Core.Bool.{Bool, beq, ◌&&◌, false, true}
use mathlib.Core.List.{List, [], ◌∷◌}
use mathlib.Core.Path.{◌≡◌, refl}
use Rattle.condition.specs.Comparison.{Comparison}
use Rattle.condition.specs.Computing.{computing}
use Rattle.condition.specs.Cond.{Cond, both, either, last, more, negate, test}
use Rattle.condition.specs.Kinds.{Op, eq, ge, gt, le, lt, ne, numbers}
use Rattle.condition.specs.Ranges.{passes_in, possible, sure}
use Rattle.text.specs.Bytes.{ascii}

abbrev from3to7 : List ℕ
from3to7 = ascii "(3 7)"

abbrev is : Op → String → Cond Comparison
is op v = test (record { of = 0; kind = numbers; op = op; value = ascii v })

pub record Case : Type 0 where
  pub condition : Cond Comparison
  pub sure? : Bool
  pub possible? : Bool

unfoldable pub case : Cond Comparison → Bool → Bool → Case
case c s p = record { condition = c; sure? = s; possible? = p }

unfoldable pub cases : List Case
cases =
    case (is lt "8") true true
    ∷ case (is lt "7") false true
    ∷ case (is lt "3") false false
    ∷ case (is le "7") true true
    ∷ case (is gt "2") true true
    ∷ case (is ge "8") false false
    ∷ case (is eq "5") false true
    ∷ case (is eq "-5") false false
    ∷ case (is ne "5") false true
    ∷ case (is ne "9") true true
    ∷ case (negate (is eq "5")) false true
    ∷ case (negate (is eq "9")) true true
    ∷ case (negate (negate (is lt "8"))) true true
    ∷ case (both (more (is ge "3") (last (is le "7")))) true true
    -- each choice passes, but neither part is sure
    ∷ case (either (more (is lt "5") (last (is ge "5")))) false true
    -- no choice passes, but each part is possible
    ∷ case (both (more (is lt "5") (last (is ge "5")))) false true
    ∷ []

unfoldable pub agree : List Case → Bool
agree [] = true
agree (c ∷ cs) = beq (passes_in sure (λ i. from3to7) c.condition) c.sure? && beq (passes_in possible (λ i. from3to7) c.condition) c.possible? && agree cs

pub sample : agree cases ≡ true
unfolding computing case cases agree
sample = refl
