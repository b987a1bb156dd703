-- Meaning: numbers known to a range (02, Q-12): when a comparison and a condition are sure, and when they are possible.
use Rattle.std.specs.Prelude.{◌≤◌, ℕ, eqb, leb, ltb, Bool, ◌&&◌, false, not, ◌≡◌}
use Rattle.std.proofs.Math.Option.{get_or, some}
use Rattle.calendar.specs.DateText.{day_rank_of}
use Rattle.condition.specs.Comparison.{Comparison, names_meet, ranks_meet}
use Rattle.condition.specs.Cond.{Cond, holds_two}
use Rattle.condition.specs.Kinds.{Kind, Op, dates, eq, ge, gt, le, lt, names, ne, numbers}
use Rattle.lists.specs.Lists.{or_zero}
use Rattle.text.specs.Amounts.{Range, is_range, range_of}
use Rattle.text.specs.Numbers.{Value, rank}

-- sure is for every number in the range, possible is for some
pub data Mode : Type 0 where
  sure possible : Mode

-- the mode in which c counts inside `(not c)`
unfoldable pub other : Mode → Mode
other sure = possible
other possible = sure

-- every number from low to high stands to n as the operator says, or some number does; numbers by their ranks
unfoldable pub range_meets : Mode → Op → ℕ → ℕ → ℕ → Bool
range_meets sure eq low high n = eqb low n && eqb high n
range_meets sure ne low high n = not (leb low n && leb n high)
range_meets sure lt low high n = ltb high n
range_meets sure le low high n = leb high n
range_meets sure gt low high n = ltb n low
range_meets sure ge low high n = leb n low
range_meets possible eq low high n = leb low n && leb n high
range_meets possible ne low high n = not (eqb low n && eqb high n)
range_meets possible lt low high n = ltb low n
range_meets possible le low high n = leb low n
range_meets possible gt low high n = ltb n high
range_meets possible ge low high n = leb n high

-- the range from n to n
unfoldable pub point : ℕ → Range
point n = record { low = n; high = n }

-- the ends of a value, by their ranks: a range's own; of any other value both are its rank, 0 where it has none, as in `values_meet`
unfoldable pub ends_of : Value → Range
ends_of v = get_or (range_of v) (point (or_zero (rank v)))

-- a value of a type, which may be a range, stands to another as the operator says; names are compared alike in both modes,
-- and so are dates, each of which is one day
unfoldable pub values_meet_in : Mode → Kind → Op → Value → Value → Bool
values_meet_in m numbers op v w = range_meets m op (ends_of v).low (ends_of v).high (or_zero (rank w))
values_meet_in m names op v w = names_meet op v w
values_meet_in m dates op v w = ranks_meet op (day_rank_of v) (day_rank_of w)

-- the comparison is sure, or possible, of the value of what it names
unfoldable pub meets_in : Mode → Comparison → Value → Bool
meets_in m c v = values_meet_in m c.kind c.op v c.value

-- the condition is sure, or possible, of the values of a row
unfoldable pub passes_in : Mode → (ℕ → Value) → Cond Comparison → Bool
passes_in m values c = holds_two (λ t. meets_in m t (values t.of)) (λ t. meets_in (other m) t (values t.of)) c

-- ---- choices of numbers

-- w is a choice for the value v: a number from one end to the other where v is a range, and v itself where it is none
pub record Chosen (v w : Value) : Type 0 where
  pub itself : is_range v ≡ false → w ≡ v
  pub within : (r : Range) → range_of v ≡ some r → (n : ℕ) × (rank w ≡ some n) × (r.low ≤ n) × (n ≤ r.high)
