-- `text::amounts::read_range` meets its contract. Assumes nothing.
use Prim.Native.Nat.{◌+◌}
use lib.ListN.{get_or}
use mathlib.Core.Path.{◌∙◌, ◌≡◌, ap, sym}
use native.Mathlib.Omega.{arith}
use Rattle.text.proofs.CodeLaws.{number_none, number_to}
use Rattle.text.proofs.Lefts.{before_end}
use Rattle.text.proofs.RangeLaws.{range_no_high, range_no_low, range_read, range_unclosed, range_unopened, range_unspaced}
use Rattle.text.specs.CodeEnds.{end_of_range}
use Rattle.text.proofs.amounts.read_range.Goals as goal

pub returns-then-byte_at-ne40 : goal.returns-then-byte_at-ne40
returns-then-byte_at-ne40 c = let s = c.args.s.now in
    let at = c.args.at in
    sym (ap end_of_range (range_unopened s at (λ z. c.if-byte_at-ne40.true (c.byte_at.ensures ∙ z))))

pub overflow_add-at : goal.overflow_add-at
overflow_add-at c = let s = c.args.s.now in
    let at = c.args.at in
    let a : get_or c.args.s.now c.args.at 0 ≡ 40 = sym c.byte_at.ensures ∙ c.if-byte_at-ne40.false in
    omega (arith, before_end s at (λ z. absurd (omega (arith, a, z))))

pub returns-in_err-e : goal.returns-in_err-e
returns-in_err-e c = let s = c.args.s.now in
    let at = c.args.at in
    let a : get_or c.args.s.now c.args.at 0 ≡ 40 = sym c.byte_at.ensures ∙ c.if-byte_at-ne40.false in
    c.from_residual.ensures ∙ sym (ap end_of_range (range_no_low s at a (number_none s (at + 1) (sym c.read_number.ensures ∙ c.in_err-e.was))))

pub returns-then-byte_at-ne32 : goal.returns-then-byte_at-ne32
returns-then-byte_at-ne32 c = let s = c.args.s.now in
    let at = c.args.at in
    let a : get_or c.args.s.now c.args.at 0 ≡ 40 = sym c.byte_at.ensures ∙ c.if-byte_at-ne40.false in
    let b = number_to s (at + 1) c.in_ok-e.e c.in_ok-e.low (sym c.read_number.ensures ∙ c.in_ok-e.was) in
    sym (ap end_of_range (range_unspaced s at a b (λ z. c.if-byte_at-ne32.true (c.byte_at-2.ensures ∙ z))))

pub overflow_add-e : goal.overflow_add-e
overflow_add-e c = let s = c.args.s.now in
    let at = c.args.at in
    let d : get_or c.args.s.now c.in_ok-e.e 0 ≡ 32 = sym c.byte_at-2.ensures ∙ c.if-byte_at-ne32.false in
    omega (arith, before_end s c.in_ok-e.e (λ z. absurd (omega (arith, d, z))))

pub returns-in_err-f : goal.returns-in_err-f
returns-in_err-f c = let s = c.args.s.now in
    let at = c.args.at in
    let a : get_or c.args.s.now c.args.at 0 ≡ 40 = sym c.byte_at.ensures ∙ c.if-byte_at-ne40.false in
    let b = number_to s (at + 1) c.in_ok-e.e c.in_ok-e.low (sym c.read_number.ensures ∙ c.in_ok-e.was) in
    let d : get_or c.args.s.now c.in_ok-e.e 0 ≡ 32 = sym c.byte_at-2.ensures ∙ c.if-byte_at-ne32.false in
    c.from_residual-in_err-f.ensures ∙ sym (ap end_of_range (range_no_high s at a b d (number_none s (c.in_ok-e.e + 1) (sym c.read_number-2.ensures ∙ c.in_err-f.was))))

pub returns-then-byte_at-ne41 : goal.returns-then-byte_at-ne41
returns-then-byte_at-ne41 c = let s = c.args.s.now in
    let at = c.args.at in
    let a : get_or c.args.s.now c.args.at 0 ≡ 40 = sym c.byte_at.ensures ∙ c.if-byte_at-ne40.false in
    let b = number_to s (at + 1) c.in_ok-e.e c.in_ok-e.low (sym c.read_number.ensures ∙ c.in_ok-e.was) in
    let d : get_or c.args.s.now c.in_ok-e.e 0 ≡ 32 = sym c.byte_at-2.ensures ∙ c.if-byte_at-ne32.false in
    let e = number_to s (c.in_ok-e.e + 1) c.in_ok-f.f c.in_ok-f.high (sym c.read_number-2.ensures ∙ c.in_ok-f.was) in
    sym (ap end_of_range (range_unclosed s at a b d e (λ z. c.if-byte_at-ne41.true (c.byte_at-3.ensures ∙ z))))

pub overflow_add-result : goal.overflow_add-result
overflow_add-result c = let s = c.args.s.now in
    let at = c.args.at in
    let g : get_or c.args.s.now c.in_ok-f.f 0 ≡ 41 = sym c.byte_at-3.ensures ∙ c.if-byte_at-ne41.false in
    omega (arith, before_end s c.in_ok-f.f (λ z. absurd (omega (arith, g, z))))

pub returns : goal.returns
returns c = let s = c.args.s.now in
    let at = c.args.at in
    let a : get_or c.args.s.now c.args.at 0 ≡ 40 = sym c.byte_at.ensures ∙ c.if-byte_at-ne40.false in
    let b = number_to s (at + 1) c.in_ok-e.e c.in_ok-e.low (sym c.read_number.ensures ∙ c.in_ok-e.was) in
    let d : get_or c.args.s.now c.in_ok-e.e 0 ≡ 32 = sym c.byte_at-2.ensures ∙ c.if-byte_at-ne32.false in
    let e = number_to s (c.in_ok-e.e + 1) c.in_ok-f.f c.in_ok-f.high (sym c.read_number-2.ensures ∙ c.in_ok-f.was) in
    let g : get_or c.args.s.now c.in_ok-f.f 0 ≡ 41 = sym c.byte_at-3.ensures ∙ c.if-byte_at-ne41.false in
    sym (ap end_of_range (range_read s at a b d e g))
