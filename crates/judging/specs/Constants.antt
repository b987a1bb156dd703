-- Contract: a constant that a condition compares with, as it is read.
use Rattle.std.specs.Prelude.{eqb, ◌≡◌}
use Rattle.calendar.specs.DateText.{day_rank_of}
use Rattle.condition.specs.Kinds.{Kind, dates, has_kind, numbers}
use Rattle.judging.specs.declared.constants.Constant.{Constant}
use Rattle.lists.specs.Lists.{or_zero}
use Rattle.text.specs.Numbers.{Value, rank}

-- x is read of the value v, where one of the type k should stand
pub record ConstantOf (k : Kind) (v : Value) (x : Constant) : Type 0 where
  pub fits : eqb x.fits 1 ≡ has_kind k v
  pub ranked : k ≡ numbers → x.rank ≡ or_zero (rank v)
  pub dated : k ≡ dates → x.rank ≡ day_rank_of v
