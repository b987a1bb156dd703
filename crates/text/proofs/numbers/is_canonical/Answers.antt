-- `text::numbers::is_canonical` meets its contract: no name byte, another first byte than 0, or a 0 alone.
-- Assumes nothing.
use lib.ListN.{get_or}
use mathlib.Core.Bool.{false, true}
use mathlib.Core.Path.{◌∙◌, ◌≡◌, ap, sym}
use native.Mathlib.Omega.{arith}
use Rattle.text.proofs.Lefts.{test_of}
use Rattle.text.proofs.NumberLaws.{zero_first, zero_none, zero_stop}
use Rattle.text.proofs.WordLaws.{name_byte_here}
use Rattle.text.specs.Bytes.{is_name_byte}
use Rattle.text.proofs.numbers.is_canonical.Goals as goal

pub returns-then-not-is_name_byte : goal.returns-then-not-is_name_byte
returns-then-not-is_name_byte c = let s = c.args.s.now in
    let at = c.args.at in
    let h : is_name_byte (get_or s at 0) ≡ false = test_of is_name_byte c.byte_at-b.ensures c.is_name_byte.ensures c.if-not-is_name_byte.true in
    sym (zero_stop s at h)

pub returns-then-b-ne48 : goal.returns-then-b-ne48
returns-then-b-ne48 c = let s = c.args.s.now in
    let at = c.args.at in
    let h : is_name_byte (get_or s at 0) ≡ true = test_of is_name_byte c.byte_at-b.ensures c.is_name_byte.ensures c.if-not-is_name_byte.false in
    let e = c.byte_at-b.ensures in
    sym (zero_none s at h (rw e at c.if-b-ne48.true))

pub overflow_add-at : goal.overflow_add-at
overflow_add-at c = let s = c.args.s.now in
    let at = c.args.at in
    let h : is_name_byte (get_or s at 0) ≡ true = test_of is_name_byte c.byte_at-b.ensures c.is_name_byte.ensures c.if-not-is_name_byte.false in
    omega (arith, name_byte_here s at h)

pub returns : goal.returns
returns c = let s = c.args.s.now in
    let at = c.args.at in
    let h : is_name_byte (get_or s at 0) ≡ true = test_of is_name_byte c.byte_at-b.ensures c.is_name_byte.ensures c.if-not-is_name_byte.false in
    let e : get_or s at 0 ≡ 48 = sym c.byte_at-b.ensures ∙ c.if-b-ne48.false in
    let k = sym (c.is_name_byte-2.ensures ∙ ap is_name_byte c.byte_at.ensures) in
    sym (zero_first s at c.is_name_byte-2.result h e k)
