-- `csv_text::fields::digits_end` meets its contract. The loop's invariant: the digits from the loop's place on end where all of them end. Assumes nothing.
use Rattle.csv_text.proofs.ShortValues.{digits_more, digits_none, digits_stop}
use Prim.Native.Nat.{◌+◌}
use lib.ListN.{drop, length}
use mathlib.Core.Path.{◌∙◌, ◌≡◌, ap, refl, sym}
use native.Mathlib.Omega.{arith}
use Rattle.csv_text.specs.Scanned.{digit_bytes}
use Rattle.text.proofs.ScanEnds.{scan_end}
use Rattle.csv_text.proofs.fields.digits_end.Goals as goal

pub loop-i-init : goal.loop-i-init
loop-i-init c = refl

pub returns-then-not-is_digit : goal.returns-then-not-is_digit
returns-then-not-is_digit c = omega (arith, c.loop-i.invariant, ap length (digits_stop c.args.s.now c.loop-i.i c.loop-i-test.true (sym c.is_digit.ensures ∙ c.if-not-is_digit.true)))

pub loop-i-preserved : goal.loop-i-preserved
loop-i-preserved c = omega (arith, c.loop-i.invariant, ap length (digits_more c.args.s.now c.loop-i.i c.loop-i-test.true (sym c.is_digit.ensures ∙ c.if-not-is_digit.false)))

pub returns : goal.returns
returns c = let s = c.args.s.now in
    let at = c.args.at in
    scan_end
    (λ e. e ≡ at + length (digit_bytes (drop at s)))
    c.max.ensures
    c.loop-i-test.false
    c.loop-i.auto.i-end
    (λ h. omega (arith, ap length (digits_none s at h)))
    (omega (arith, c.loop-i.invariant, ap length (digits_none s c.loop-i.i c.loop-i-test.false)))
