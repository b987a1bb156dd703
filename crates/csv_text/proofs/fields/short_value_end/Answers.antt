-- `csv_text::fields::short_value_end` meets its contract. Assumes nothing.
use Rattle.csv_text.proofs.ShortValues.{letter_here, name_ended}
use Rattle.text.proofs.Lefts.{test_of}
use Rattle.text.specs.Bytes.{is_letter}
use mathlib.Core.Path.{sym}
use native.Mathlib.Omega.{arith}
use Rattle.csv_text.proofs.fields.short_value_end.Goals as goal

pub overflow_add-at : goal.overflow_add-at
overflow_add-at c = omega (arith, letter_here c.args.s.now c.args.at (test_of is_letter c.byte_at.ensures c.is_letter.ensures c.if-is_letter.true))

pub overflow_sub-e : goal.overflow_sub-e
overflow_sub-e c = omega (arith, c.word_end-e.ensures)

pub returns-then-e-at-le24 : goal.returns-then-e-at-le24
returns-then-e-at-le24 c = name_ended c.args.s.now c.args.at (test_of is_letter c.byte_at.ensures c.is_letter.ensures c.if-is_letter.true) c.word_end-e.ensures c.if-e-at-le24.true

pub returns-then-is_letter : goal.returns-then-is_letter
returns-then-is_letter c = c.value_end.ensures

pub returns-then-is_short_number : goal.returns-then-is_short_number
returns-then-is_short_number c = sym (c.is_short_number.ensures c.digits_end-d.ensures c.if-is_short_number.true)

pub returns : goal.returns
returns c = c.value_end-2.ensures
