-- `csv_text::fields::field_end` meets its contract. Assumes nothing.
use Rattle.csv_text.proofs.FieldLaws.{ends_bare_from, ends_quoted_from}
use Rattle.std.specs.Prelude.{Some}
use mathlib.Core.Path.{◌∙◌, ap, sym}
use Rattle.csv_text.proofs.fields.field_end.Goals as goal

pub returns-then-byte_at-eq34 : goal.returns-then-byte_at-eq34
returns-then-byte_at-eq34 c = λ k e h. c.quoted_end.ensures ∙ ends_quoted_from c.args.s.now c.args.at c.args.i k e h (sym c.byte_at.ensures ∙ c.if-byte_at-eq34.true)

pub returns : goal.returns
returns c = λ k e h. ap Some c.plain_end.ensures ∙ ends_bare_from c.args.s.now c.args.at c.args.i k e h (λ q. c.if-byte_at-eq34.false (c.byte_at.ensures ∙ q))
