-- `telling::lines::put_word` meets its contract: where a bracket opens no word stands, and elsewhere what is written is the word. Assumes nothing.
use Rattle.telling.proofs.TellLaws.{wrote_as}
use Rattle.text.proofs.Closings.{written_word}
use Rattle.text.proofs.WordLaws.{word_stop}
use Rattle.text.specs.Bytes.{is_digit, is_letter, is_name_byte}
use Rattle.writing.proofs.Writing.{wrote_nothing}
use mathlib.Core.Bool.{false}
use mathlib.Core.Path.{◌∙◌, ◌≡◌, ap, refl, sym}
use Rattle.telling.proofs.lines.put_word.Goals as goal

-- an opening bracket is no name byte
bracket_none : is_name_byte 40 ≡ false
unfolding is_name_byte is_letter is_digit
bracket_none = refl

pub returns-then-byte_at-eq40 : goal.returns-then-byte_at-eq40
returns-then-byte_at-eq40 c = let a = c.args in
    wrote_as (sym (word_stop a.text.now a.at (ap is_name_byte (sym c.byte_at.ensures ∙ c.if-byte_at-eq40.true) ∙ bracket_none))) (wrote_nothing a.out.now a.to)

pub returns : goal.returns
returns c = let a = c.args in
    wrote_as (written_word a.text.now a.at (λ z. c.if-byte_at-eq40.false (c.byte_at.ensures ∙ z))) c.put_written.ensures
