-- `form::parts::kind_end` meets its contract: a space, and then one of the two keywords.
-- Assumes nothing.
use mathlib.Core.Path.{◌∙◌, ap, sym}
use native.Mathlib.Omega.{arith}
use Rattle.form.proofs.KindLaws.{kind_name, kind_none, kind_num}
use Rattle.form.specs.FormReader.{kinds}
use Rattle.text.proofs.EndLaws.{then_off, then_on}
use Rattle.text.proofs.Forward.{forward_byte}
use Rattle.text.specs.Brackets.{keyword, next}
use Rattle.text.specs.CodeEnds.{word_end}
use Rattle.text.specs.Reader.{byte}
use Rattle.std.specs.Prelude.{Some}
use Rattle.form.proofs.parts.kind_end.Goals as goal

pub returns-in_err-a : goal.returns-in_err-a
unfolding next
returns-in_err-a c = let s = c.args.s.now in
    let at = c.args.at in
    c.from_residual.ensures ∙ then_off (byte 32) s at (λ b. keyword kinds) c.byte_end.ensures c.in_err-a.was

pub returns-then-is_word : goal.returns-then-is_word
unfolding next
returns-then-is_word c = let s = c.args.s.now in
    let at = c.args.at in
    let a = c.in_ok-a.a in
    then_on (byte 32) s at (forward_byte 32 (λ z. absurd (omega arith))) (λ b. keyword kinds) c.byte_end.ensures c.in_ok-a.was (λ b. ap Some c.word_end.ensures ∙ sym (ap word_end (kind_num s a (sym c.is_word.ensures ∙ c.if-is_word.true))))

pub returns-then-is_word-2 : goal.returns-then-is_word-2
unfolding next
returns-then-is_word-2 c = let s = c.args.s.now in
    let at = c.args.at in
    let a = c.in_ok-a.a in
    then_on (byte 32) s at (forward_byte 32 (λ z. absurd (omega arith))) (λ b. keyword kinds) c.byte_end.ensures c.in_ok-a.was (λ b. ap Some c.word_end-then-is_word-2.ensures ∙ sym (ap word_end (kind_name s a (sym c.is_word.ensures ∙ c.if-is_word.false) (sym c.is_word-2.ensures ∙ c.if-is_word-2.true))))

pub returns : goal.returns
unfolding next
returns c = let s = c.args.s.now in
    let at = c.args.at in
    let a = c.in_ok-a.a in
    then_on (byte 32) s at (forward_byte 32 (λ z. absurd (omega arith))) (λ b. keyword kinds) c.byte_end.ensures c.in_ok-a.was (λ b. sym (ap word_end (kind_none s a (sym c.is_word.ensures ∙ c.if-is_word.false) (sym c.is_word-2.ensures ∙ c.if-is_word-2.false))))
