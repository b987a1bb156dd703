-- `text::numbers::read_digits` meets its contract. The loop's invariant: the answer for the digits that are left, behind a part that spells
-- n, is the answer for the whole word. Assumes nothing.
use Prim.Native.Nat.{◌*◌, ◌+◌, ◌-◌, ◌<◌, ◌≤◌}
use lib.ListN.{get_or, length}
use mathlib.Core.Bool.{true}
use mathlib.Core.Path.{◌∙◌, ◌≡◌, refl, sym}
use native.Mathlib.Omega.{arith}
use Rattle.text.proofs.ByteLaws.{digit_name_byte}
use Rattle.text.proofs.CodeLaws.{digits_done, digits_large, digits_on, digits_over, digits_wrong, digits_end}
use Rattle.text.proofs.Lefts.{test_of}
use Rattle.text.proofs.NumberLaws.{digit_range}
use Rattle.text.proofs.WordLaws.{name_byte_here}
use Rattle.text.specs.Bytes.{is_digit, is_name_byte}
use Rattle.text.proofs.numbers.read_digits.Goals.{After-byte_at-in-loop-at}
use Rattle.text.proofs.numbers.read_digits.Goals as goal

pub loop-at-init : goal.loop-at-init
loop-at-init c = refl

pub returns-then-n-gt922337203685477580 : goal.returns-then-n-gt922337203685477580
returns-then-n-gt922337203685477580 c = let d = test_of is_digit c.byte_at.ensures c.is_digit.ensures c.loop-at-test.true in
    sym (digits_large c.args.s.now c.loop-at.i c.loop-at.n d c.if-n-gt922337203685477580.true) ∙ c.loop-at.invariant

pub overflow_mul-n : goal.overflow_mul-n
overflow_mul-n c = omega arith

-- in a turn, a digit stands at the loop's place
turn : (c : After-byte_at-in-loop-at) →
    let s = c.args.s.now in
    let i = c.loop-at.i in
    let n = c.loop-at.n in
    let d = c.byte_at-in-loop-at.result in
    (i < length s) × (48 ≤ d) × (d ≤ 57) × (digits_end s i n ≡ digits_end s (i + 1) (n * 10 + (d - 48)))
turn c =
    let s = c.args.s.now in
    let i = c.loop-at.i in
    let n = c.loop-at.n in
    let e = c.byte_at-in-loop-at.ensures in
    let d : is_digit (get_or s i 0) ≡ true = test_of is_digit c.byte_at.ensures c.is_digit.ensures c.loop-at-test.true in
    let r = digit_range (get_or s i 0) d in
    (name_byte_here s i (digit_name_byte _ d), rw e r.0, rw e r.1, rw e (digits_on s i n d))

pub overflow_sub-n : goal.overflow_sub-n
overflow_sub-n c = (turn c).1

pub overflow_cast-n : goal.overflow_cast-n
overflow_cast-n c = omega (arith, turn c)

pub overflow_add-n : goal.overflow_add-n
overflow_add-n c = omega (arith, turn c)

pub overflow_add-i : goal.overflow_add-i
overflow_add-i c = omega (arith, (turn c).0)

pub loop-at-smaller : goal.loop-at-smaller
loop-at-smaller c = omega (arith, (turn c).0)

pub loop-at-preserved : goal.loop-at-preserved
loop-at-preserved c = sym (turn c).3 ∙ c.loop-at.invariant

pub returns-then-is_name_byte : goal.returns-then-is_name_byte
returns-then-is_name_byte c = let d = test_of is_digit c.byte_at.ensures c.is_digit.ensures c.loop-at-test.false in
    let h = test_of is_name_byte c.byte_at-2.ensures c.is_name_byte.ensures c.if-is_name_byte.true in
    sym (digits_wrong c.args.s.now c.loop-at.i c.loop-at.n d h) ∙ c.loop-at.invariant

pub returns-then-n-le9223372036854775808 : goal.returns-then-n-le9223372036854775808
returns-then-n-le9223372036854775808 c = let h = test_of is_name_byte c.byte_at-2.ensures c.is_name_byte.ensures c.if-is_name_byte.false in
    sym (digits_done c.args.s.now c.loop-at.i c.loop-at.n h (omega arith)) ∙ c.loop-at.invariant

pub returns-else-n-le9223372036854775808 : goal.returns-else-n-le9223372036854775808
returns-else-n-le9223372036854775808 c = let h = test_of is_name_byte c.byte_at-2.ensures c.is_name_byte.ensures c.if-is_name_byte.false in
    sym (digits_over c.args.s.now c.loop-at.i c.loop-at.n h (omega arith)) ∙ c.loop-at.invariant
