-- `csv_text::fields::is_short_number` meets its contract. Assumes nothing.
use Rattle.csv_text.proofs.FieldLaws.{not_plain}
use Rattle.csv_text.proofs.ShortValues.{few_ended, first_most, nineteen_ended, zero_ended}
use Rattle.csv_text.specs.Fields.{is_plain}
use Rattle.lists.proofs.Tests.{true_not_false}
use Rattle.text.proofs.Lefts.{test_of}
use borrow.Author.Tests.{eqb-true, ltb-true}
use mathlib.Core.Path.{◌∙◌, refl, sym}
use Rattle.csv_text.proofs.fields.is_short_number.Goals as goal

pub returns-then-end-at : goal.returns-then-end-at
returns-then-end-at c = λ e r. true_not_false r refl

pub returns-then-is_plain : goal.returns-then-is_plain
returns-then-is_plain c = λ e r. true_not_false r refl

pub returns-then-byte_at-eq48 : goal.returns-then-byte_at-eq48
returns-then-byte_at-eq48 c = λ e r. zero_ended c.args.s.now c.args.at e c.if-end-at.false (not_plain _ (test_of is_plain c.byte_at.ensures c.is_plain.ensures c.if-is_plain.false)) (sym c.byte_at-2.ensures ∙ c.if-byte_at-eq48.true) (eqb-true _ _ r)

pub returns-then-byte_at-eq57 : goal.returns-then-byte_at-eq57
returns-then-byte_at-eq57 c = λ e r. few_ended c.args.s.now c.args.at e c.if-end-at.false (not_plain _ (test_of is_plain c.byte_at.ensures c.is_plain.ensures c.if-is_plain.false)) (λ z. c.if-byte_at-eq48.false (c.byte_at-2.ensures ∙ z)) (first_most c.args.s.now c.args.at e c.if-end-at.false (not_plain _ (test_of is_plain c.byte_at.ensures c.is_plain.ensures c.if-is_plain.false))) (ltb-true _ _ r)

pub returns : goal.returns
returns c = λ e r. nineteen_ended c.args.s.now c.args.at e c.if-end-at.false (not_plain _ (test_of is_plain c.byte_at.ensures c.is_plain.ensures c.if-is_plain.false)) (λ z. c.if-byte_at-eq48.false (c.byte_at-2.ensures ∙ z)) (λ z. c.if-byte_at-eq57.false (c.byte_at-3.ensures ∙ z)) (first_most c.args.s.now c.args.at e c.if-end-at.false (not_plain _ (test_of is_plain c.byte_at.ensures c.is_plain.ensures c.if-is_plain.false))) (ltb-true _ _ r)
