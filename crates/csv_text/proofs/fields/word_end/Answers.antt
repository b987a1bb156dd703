-- `csv_text::fields::word_end` meets its contract. The loop's invariant: the word from the loop's place on ends where the whole word ends. Assumes nothing.
use Rattle.csv_text.proofs.ShortValues.{word_none}
use Rattle.text.proofs.WordLaws.{word_more, word_stop}
use Prim.Native.Nat.{◌+◌}
use lib.ListN.{length}
use mathlib.Core.Path.{◌∙◌, ◌≡◌, ap, refl, sym}
use native.Mathlib.Omega.{arith}
use Rattle.text.proofs.ScanEnds.{scan_end}
use Rattle.text.specs.Words.{word_at}
use Rattle.csv_text.proofs.fields.word_end.Goals as goal

pub loop-i-init : goal.loop-i-init
loop-i-init c = refl

pub returns-then-not-is_word_byte : goal.returns-then-not-is_word_byte
returns-then-not-is_word_byte c = omega (arith, c.loop-i.invariant, ap length (word_stop c.args.s.now c.loop-i.i (sym c.is_word_byte.ensures ∙ c.if-not-is_word_byte.true)))

pub loop-i-preserved : goal.loop-i-preserved
loop-i-preserved c = omega (arith, c.loop-i.invariant, ap length (word_more c.args.s.now c.loop-i.i (sym c.is_word_byte.ensures ∙ c.if-not-is_word_byte.false)))

pub returns : goal.returns
returns c = let s = c.args.s.now in
    let at = c.args.at in
    scan_end
    (λ e. e ≡ at + length (word_at s at))
    c.max.ensures
    c.loop-i-test.false
    c.loop-i.auto.i-end
    (λ h. omega (arith, ap length (word_none s at h)))
    (omega (arith, c.loop-i.invariant, ap length (word_none s c.loop-i.i c.loop-i-test.false)))
