-- `text::words::word_end` meets its contract. The loop's invariant: the word from the loop's place on ends where the whole word ends.
-- Assumes nothing.
use Prim.Native.Nat.{◌+◌}
use lib.ListN.{length}
use mathlib.Core.Path.{◌∙◌, ◌≡◌, ap, refl, sym}
use native.Mathlib.Omega.{arith}
use Rattle.text.proofs.ScanEnds.{scan_end}
use Rattle.text.proofs.WordLaws.{word_more, word_none, word_stop}
use Rattle.text.specs.Words.{word_at}
use Rattle.text.proofs.words.word_end.Goals as goal

pub loop-i-init : goal.loop-i-init
loop-i-init c = refl

pub returns-then-not-is_name_byte : goal.returns-then-not-is_name_byte
returns-then-not-is_name_byte c = let s = c.args.s.now in
    omega (arith, c.loop-i.invariant, ap length (word_stop s c.loop-i.i (sym c.is_name_byte.ensures ∙ c.if-not-is_name_byte.true)))

pub loop-i-preserved : goal.loop-i-preserved
loop-i-preserved c = let s = c.args.s.now in
    omega (arith, c.loop-i.invariant, ap length (word_more s c.loop-i.i (sym c.is_name_byte.ensures ∙ c.if-not-is_name_byte.false)))

pub returns : goal.returns
returns c = let s = c.args.s.now in
    let at = c.args.at in
    scan_end
    (λ e. e ≡ at + length (word_at s at))
    c.max.ensures
    c.loop-i-test.false
    c.loop-i.auto.i-end
    (λ h. omega (arith, ap length (word_none s at h)))
    (omega (arith, c.loop-i.invariant, ap length (word_none s c.loop-i.i c.loop-i-test.false)))
