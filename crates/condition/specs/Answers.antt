-- Contract: what the code's answers stand for.
use Rattle.std.specs.Prelude.{◌+◌, suc, zero, ℕ, eqb, get_or, length, take, Bool, ◌&&◌, cond, false, true, List, [], ◌∷◌, map, ◌≡◌}
use Rattle.std.proofs.Math.Option.{Option, none, some}
use Rattle.condition.specs.Cond.{Cond, Conds, both, comparisons, either, holds, last, more, negate, test}
use Rattle.condition.specs.CondForm.{Compared, Naming, condition_in_form, condition_in_join, plainly, tabled}
use Rattle.condition.specs.Kinds.{Kind, Op, dates, eq, ge, gt, le, lt, names, ne, numbers}
use Rattle.condition.specs.Ranges.{Mode, possible, sure}
use Rattle.condition.specs.RefPlaces.{ref_end_at, ref_written}
use Rattle.lists.specs.Lists.{any_of}
use Rattle.text.specs.Amounts.{Range}
use Rattle.text.specs.Bytes.{ascii}
use Rattle.text.specs.Ends.{answer}
use Rattle.text.specs.Names.{same_name}
use Rattle.text.specs.Reader.{Left, Reader, from}
use Rattle.text.specs.Walking.{next_word, past}
use Rattle.text.specs.Words.{word_at, word_of, written_of}
use Rattle.std.specs.Prelude as prelude
use Rattle.std.specs.Prelude.{None, Some}
use Rattle.condition.specs.declared.kinds.Kind as kinds
use Rattle.condition.specs.declared.kinds.Kind.TheVariants as kind
use Rattle.condition.specs.declared.kinds.Op as ops
use Rattle.condition.specs.declared.kinds.Op.TheVariants as op
use Rattle.condition.specs.declared.ranges.Ends.{Ends}

-- the type that the code's answer names
abbrev pub kind_of : kinds.Kind → Kind
kind_of kind.Num = numbers
kind_of kind.Name = names
kind_of kind.Date = dates

-- the operator that the code's answer names
abbrev pub op_of : ops.Op → Op
op_of op.Eq = eq
op_of op.Ne = ne
op_of op.Lt = lt
op_of op.Le = le
op_of op.Gt = gt
op_of op.Ge = ge

-- how comparisons name what they compare, by a flag: in a join or not (02, Q-3)
abbrev pub naming_by : Bool → Naming
naming_by true = tabled
naming_by false = plainly

-- the mode that a flag names
abbrev pub mode_by : Bool → Mode
mode_by true = sure
mode_by false = possible

-- the range that the code's two ends are
abbrev pub range_by : Ends → Range
range_by e = record { low = e.low; high = e.high }

-- the word is one of the six operators
unfoldable pub is_comparator : List ℕ → Bool
is_comparator w = any_of (same_name w) (ascii "eq" ∷ ascii "ne" ∷ ascii "lt" ∷ ascii "le" ∷ ascii "gt" ∷ ascii "ge" ∷ [])

-- the operator that the word is; `ge` where it is none of the other five
unfoldable pub operator_of : List ℕ → Op
operator_of w =
    cond (same_name w (ascii "eq")) eq
    (cond (same_name w (ascii "ne")) ne
    (cond (same_name w (ascii "lt")) lt
    (cond (same_name w (ascii "le")) le
    (cond (same_name w (ascii "gt")) gt
    ge))))

-- the operator of a code
unfoldable pub operator_by : ℕ → Op
operator_by zero = eq
operator_by (suc zero) = ne
operator_by (suc (suc zero)) = lt
operator_by (suc (suc (suc zero))) = le
operator_by (suc (suc (suc (suc zero)))) = gt
operator_by (suc (suc (suc (suc (suc n))))) = ge

-- the comparison whose operator stands at a position of a text: the name is the word behind it, and the value is what is written behind
-- that; the operator too is given as it is written, so that code names either by its place alone
unfoldable pub compared_at : List ℕ → ℕ → Compared
compared_at s at = record { op = operator_of (word_at s at); operator = written_of s at; of = word_of s (next_word s at); value = written_of s (next_word s (next_word s at)) }

-- the same in a join, whose comparisons name columns by `(of T COL)` (02, Q-3): the value is what is written behind that
unfoldable pub compared_joined : List ℕ → ℕ → Compared
compared_joined s at = record { op = operator_of (word_at s at); operator = written_of s at; of = ref_written s (next_word s at); value = written_of s (past 32 s (ref_end_at s (next_word s at))) }

-- the comparison whose operator stands at a position, by how it names what it compares
abbrev pub compared_by : Naming → List ℕ → ℕ → Compared
compared_by plainly = compared_at
compared_by tabled = compared_joined

-- where its value stands
abbrev pub value_at : Naming → List ℕ → ℕ → ℕ
value_at plainly s at = next_word s (next_word s at)
value_at tabled s at = past 32 s (ref_end_at s (next_word s at))

-- the condition of a form, or that of a join
abbrev pub condition_by : Naming → Reader (Cond Compared)
condition_by plainly = condition_in_form
condition_by tabled = condition_in_join

-- where a condition ends, and how many comparisons it has
abbrev pub read_to : Option (Cond Compared × Left) → prelude.Option (ℕ × ℕ)
read_to o = answer (λ e n. Some (e, n)) None (λ c. length (comparisons c)) o

-- the comparisons of the condition that was read, from left to right
abbrev pub compared_in : Option (Cond Compared × Left) → List Compared
compared_in none = []
compared_in (some r) = comparisons r.0

-- the comparisons of the condition at a position of a text, from left to right; none where there is no condition
abbrev pub comparisons_at : List ℕ → ℕ → List Compared
comparisons_at s at = compared_in (condition_in_form (from s at))

-- a condition was read, and it holds, given which comparisons do
abbrev pub held_read : (Compared → Bool) → Option (Cond Compared × Left) → Bool
held_read f none = false
held_read f (some r) = holds f r.0

-- what the code's answer r and the positions that it stored say of the condition at a position of the text s: where it ends
-- and how many comparisons it has, and the first 64 comparisons by the positions of their operators
pub record PlacedBy (way : Naming) (s : List ℕ) (at : ℕ) (r : prelude.Option (ℕ × ℕ)) (ops : List ℕ) : Type 0 where
  pub reads : r ≡ read_to (condition_by way (from s at))
  pub places : map (compared_by way s) (take (length (compared_in (condition_by way (from s at)))) ops) ≡ take 64 (compared_in (condition_by way (from s at)))

-- the same of the condition of a form
abbrev pub Placed : List ℕ → ℕ → prelude.Option (ℕ × ℕ) → List ℕ → Type 0
Placed s at r ops = PlacedBy plainly s at r ops

-- ---- for the functions that are not called from outside

-- `either` or `both`
abbrev pub joining : {C : Type 0} → Bool → Conds C → Cond C
joining one = cond one either both

-- the condition with each comparison replaced by its number, counted from left to right, the first being k
unfoldable mutual
  pub numbered : {C : Type 0} → ℕ → Cond C → Cond ℕ
  numbered k (test c) = test k
  numbered k (negate c) = negate (numbered k c)
  numbered k (both cs) = both (numbered_all k cs)
  numbered k (either cs) = either (numbered_all k cs)

  -- one condition or more, likewise
  pub numbered_all : {C : Type 0} → ℕ → Conds C → Conds ℕ
  numbered_all k (last c) = last (numbered k c)
  numbered_all k (more c cs) = more (numbered k c) (numbered_all (k + length (comparisons c)) cs)

-- where a condition ends, and the number of the comparison behind it, where its first one has the number k
abbrev pub walked : ℕ → Option (Cond Compared × Left) → prelude.Option (ℕ × ℕ)
walked k o = answer (λ e n. Some (e, n)) None (λ c. k + length (comparisons c)) o

-- a comparison's bracket opens at a position
unfoldable pub opens_comparison : List ℕ → ℕ → Bool
opens_comparison s at = eqb (get_or s at 0) 40 && is_comparator (word_at s (at + 1))
