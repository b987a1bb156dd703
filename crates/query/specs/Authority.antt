-- Meaning: clock and authority (01, "Clock and authority"; 001, definition 8).
use Rattle.std.specs.Prelude.{ℕ, eqb, leb, Bool, ◌&&◌, [], ◌∷◌}
use Rattle.std.proofs.Math.ListN.{get_elem?}
use Rattle.std.proofs.Math.Option.{Option, map, bind, none, some}
use Rattle.calendar.specs.Calendar.{days_in}
use Rattle.condition.specs.Comparison.{Comparison, meets, ranks_meet}
use Rattle.condition.specs.Cond.{holds}
use Rattle.document.specs.Policy.{CondRole, Grant, Policy, User, tree_of}
use Rattle.purpose.specs.Compliance.{descends}
use Rattle.text.specs.Bytes.{within}
use Rattle.lists.specs.Lists.{find, find_index, holds_of, or_zero}
use Rattle.text.specs.Numbers.{Value, rank, rank_of}

-- the host's clock
pub record Clock : Type 0 where
  pub year : ℕ
  pub day : ℕ
  pub hour : ℕ

-- year 1 to 9999, day 1 to 365 or 366, hour 0 to 23
unfoldable pub in_range : Clock → Bool
in_range c = within 1 9999 c.year && (within 1 (days_in c.year) c.day && leb c.hour 23)

-- the number that the clock gives for one of its attributes, which are the attributes 0, 1 and 2
unfoldable pub clock_number : Clock → ℕ → Option ℕ
clock_number c i = get_elem? (c.year ∷ c.day ∷ c.hour ∷ []) i

-- the user's value for an attribute
unfoldable pub user_value : User → ℕ → Option Value
user_value u i = map (λ g. g.value) (find (λ g. eqb g.attribute i) u.values)

-- the comparison holds for the clock's number, if it is one of the clock's, and else for the user's value
unfoldable pub attribute_meets : User → Comparison → Option ℕ → Bool
attribute_meets u x (some n) = ranks_meet x.op (rank_of n) (or_zero (rank x.value))
attribute_meets u x none = holds_of (meets x) (user_value u x.of)

-- the user, acting in the role of this user form, belongs to the conditional role
unfoldable pub belongs : Policy → Clock → User → CondRole → Bool
belongs d c u r =
    descends (tree_of d.roles) u.role r.role
    && holds (λ x. attribute_meets u x (clock_number c x.of)) r.condition

-- the grant authorises purpose p: its purpose is an ancestor of p, and the user belongs to its conditional role
unfoldable pub authorises : Policy → Clock → User → ℕ → Grant → Bool
authorises d c u p g =
    descends (tree_of d.purposes) p g.purpose
    && holds_of (belongs d c u) (get_elem? d.cond_roles g.cond_role)

-- the position of the first grant that authorises purpose p for the user form of number u
unfoldable pub first_grant : Policy → Clock → ℕ → ℕ → Option ℕ
first_grant d c u p = bind (get_elem? d.users u) (λ x. find_index (authorises d c x p) d.grants)
