-- `csv_text::fields::plain_end` meets its contract. The loop's invariant: the plain bytes from the loop's place on end where all of them end. Assumes nothing.
use Rattle.csv_text.proofs.FieldLaws.{plain_more, plain_none, plain_stop}
use Prim.Native.Nat.{◌+◌}
use lib.ListN.{drop, length}
use mathlib.Core.Path.{◌∙◌, ◌≡◌, ap, refl, sym}
use native.Mathlib.Omega.{arith}
use Rattle.csv_text.specs.Fields.{plain_bytes}
use Rattle.text.proofs.ScanEnds.{scan_end}
use Rattle.csv_text.proofs.fields.plain_end.Goals as goal

pub loop-i-init : goal.loop-i-init
loop-i-init c = refl

pub returns-then-not-is_plain : goal.returns-then-not-is_plain
returns-then-not-is_plain c = omega (arith, c.loop-i.invariant, ap length (plain_stop c.args.s.now c.loop-i.i c.loop-i-test.true (sym c.is_plain.ensures ∙ c.if-not-is_plain.true)))

pub loop-i-preserved : goal.loop-i-preserved
loop-i-preserved c = omega (arith, c.loop-i.invariant, ap length (plain_more c.args.s.now c.loop-i.i c.loop-i-test.true (sym c.is_plain.ensures ∙ c.if-not-is_plain.false)))

pub returns : goal.returns
returns c = let s = c.args.s.now in
    let at = c.args.at in
    scan_end
    (λ e. e ≡ at + length (plain_bytes (drop at s)))
    c.max.ensures
    c.loop-i-test.false
    c.loop-i.auto.i-end
    (λ h. omega (arith, ap length (plain_none s at h)))
    (omega (arith, c.loop-i.invariant, ap length (plain_none s c.loop-i.i c.loop-i-test.false)))
