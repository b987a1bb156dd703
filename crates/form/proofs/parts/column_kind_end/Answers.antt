-- `form::parts::column_kind_end` meets its contract: a space, and then `date` or a type of attributes.
-- Assumes nothing.
use lib.ListN.{get_or}
use mathlib.Core.Path.{◌∙◌, ◌≡◌, ap, sym}
use native.Mathlib.Omega.{arith}
use Rattle.form.proofs.KindLaws.{column_kind_date, column_kind_other, column_kind_unspaced}
use Rattle.text.proofs.Spaces.{space_here}
use Rattle.text.specs.CodeEnds.{word_end}
use Rattle.std.specs.Prelude.{Some}
use Rattle.form.proofs.parts.column_kind_end.Goals as goal

pub returns-then-byte_at-ne32 : goal.returns-then-byte_at-ne32
returns-then-byte_at-ne32 c = let x = c.args in
    sym (ap word_end (column_kind_unspaced x.s.now x.at (λ z. c.if-byte_at-ne32.true (c.byte_at.ensures ∙ z))))

pub overflow_add-at : goal.overflow_add-at
overflow_add-at c = let x = c.args in
    omega (arith, (space_here x.s.now x.at c.byte_at.result c.byte_at.ensures c.if-byte_at-ne32.false).1)

pub overflow_add-at-then-is_word : goal.overflow_add-at-then-is_word
overflow_add-at-then-is_word c = let x = c.args in
    omega (arith, (space_here x.s.now x.at c.byte_at.result c.byte_at.ensures c.if-byte_at-ne32.false).1)

pub returns-then-is_word : goal.returns-then-is_word
returns-then-is_word c = let x = c.args in
    let b : get_or x.s.now x.at 0 ≡ 32 = sym c.byte_at.ensures ∙ c.if-byte_at-ne32.false in
    ap Some c.word_end.ensures ∙ sym (ap word_end (column_kind_date x.s.now x.at b (sym c.is_word.ensures ∙ c.if-is_word.true)))

pub returns : goal.returns
returns c = let x = c.args in
    let b : get_or x.s.now x.at 0 ≡ 32 = sym c.byte_at.ensures ∙ c.if-byte_at-ne32.false in
    c.kind_end.ensures ∙ sym (ap word_end (column_kind_other x.s.now x.at b (sym c.is_word.ensures ∙ c.if-is_word.false)))
