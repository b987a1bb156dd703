-- Contract: which conditions of conditional roles hold for a user.
use Rattle.std.specs.Prelude.{ℕ, get_or, Bool, false, true, List, ◌≡◌}
use Rattle.std.proofs.Math.ListN.{get_elem?}
use Rattle.std.proofs.Math.Option.{some}
use Rattle.belonging.specs.Values.{Values}
use Rattle.condition.specs.Cond.{holds}
use Rattle.condition.specs.CondForm.{Compared}
use Rattle.condition.specs.Kinds.{Op}
use Rattle.document.specs.Lookup.{attribute_kind, attribute_of}
use Rattle.document.specs.Policy.{CondRole, Policy, User}
use Rattle.principals.specs.Attributes.{Attributes}
use Rattle.lists.specs.Lists.{or_zero}
use Rattle.query.specs.Authority.{Clock, attribute_meets, clock_number, in_range}
use Rattle.text.specs.Numbers.{Value}
use Rattle.text.specs.Words.{Word}

-- the condition of the conditional role holds for the clock and the user's values
unfoldable pub condition_holds : Clock → User → CondRole → Bool
condition_holds c u r = holds (λ x. attribute_meets u x (clock_number c x.of)) r.condition

-- the truths say of each conditional role whether its condition holds
pub record Held (c : Clock) (u : User) (rs : List CondRole) (truths : List Bool) : Type 0 where
  pub are : (i : ℕ) (r : CondRole) → get_elem? rs i ≡ some r → get_or truths i false ≡ condition_holds c u r

-- ---- for the functions that are not called from outside

-- the arrays hold the policy's attributes and the user's values, and the clock is in range
pub record Told (text attributes : List ℕ) (k : ℕ) (c : Clock) (line places : List ℕ) (d : Policy) (u : User) : Type 0 where
  pub attributed : Attributes text attributes k d.attributes
  pub timed : in_range c ≡ true
  pub valued : Values line u.values places

-- the attribute of a name and a value stand as the operator says, for the clock and the user's values
unfoldable pub words_meet : Policy → Clock → User → Op → Word → Value → Bool
words_meet d c u op w v = attribute_meets u (record { of = or_zero (attribute_of d w); kind = attribute_kind d w; op = op; value = v }) (clock_number c (or_zero (attribute_of d w)))

-- the comparison, as read, holds
unfoldable pub comparison_holds : Policy → Clock → User → Compared → Bool
comparison_holds d c u x = words_meet d c u x.op x.of x.value.bytes
