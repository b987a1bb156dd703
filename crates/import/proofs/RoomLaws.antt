-- Whether lines fit, told by a quotient, since a product could wrap. Assumes nothing.
use Prim.Native.Nat.{◌*◌, ◌+◌, ◌-◌, ◌/◌, ◌<◌, ◌≤◌, ℕ}
use borrow.Author.Tests.{le-leb, leb-true, lt-leb}
use Rattle.import.specs.Outside.{length_within}
use Rattle.std.specs.Prelude.{None, Some}
use lib.Dec.{leb}
use mathlib.Core.Bool.{Bool, cond, false, true}
use mathlib.Core.Path.{◌∙◌, ◌≡◌, ap, sym}
use native.Mathlib.Nat.{le-div_iff_mul-le}
use native.Mathlib.Omega.{arith}
use Rattle.lists.proofs.Tests.{both}

room_short : (room count each more : ℕ) → room < more → false ≡ leb (count * each + more) room
room_short room count each more h = sym (lt-leb (count * each + more) room (omega (arith, h)))

room_by : (room count each more : ℕ) → 0 < each → more ≤ room → leb count ((room - more) / each) ≡ leb (count * each + more) room
room_by room count each more p h =
    both (leb count ((room - more) / each)) (leb (count * each + more) room)
    (λ k. le-leb (count * each + more) room (fits ((le-div_iff_mul-le p).0 (leb-true count ((room - more) / each) k))))
    (λ k. le-leb count ((room - more) / each) ((le-div_iff_mul-le p).1 (rest (leb-true (count * each + more) room k))))
  where
    fits : count * each ≤ room - more → count * each + more ≤ room
    fits k = omega (arith, h, k)

    rest : count * each + more ≤ room → count * each ≤ room - more
    rest k = omega (arith, h, k)

module _ (room count each more : ℕ) where
  -- the bytes more alone are too many
  pub within_less : room < more → None ≡ length_within room (count * each + more)
  unfolding length_within
  within_less h = ap (λ (b : Bool). cond b (Some (count * each + more)) None) (room_short room count each more h)

  module _ (some_bytes : 0 < each) (h : more ≤ room) where
    -- the lines fit, and their length does not wrap
    pub product_small : count ≤ (room - more) / each → count * each + more ≤ room
    product_small k = leb-true (count * each + more) room (sym (room_by room count each more some_bytes h) ∙ le-leb count ((room - more) / each) k)

    pub within_fits : count ≤ (room - more) / each → Some (count * each + more) ≡ length_within room (count * each + more)
    unfolding length_within
    within_fits k = ap (λ (b : Bool). cond b (Some (count * each + more)) None) (sym (le-leb (count * each + more) room (product_small k)))

    -- they don't
    pub within_not : (room - more) / each < count → None ≡ length_within room (count * each + more)
    unfolding length_within
    within_not k = ap (λ (b : Bool). cond b (Some (count * each + more)) None) (sym (lt-leb count ((room - more) / each) k) ∙ room_by room count each more some_bytes h)
