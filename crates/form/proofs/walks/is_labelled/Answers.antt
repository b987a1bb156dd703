-- `form::walks::is_labelled` meets its contract. Assumes nothing.
use borrow.Author.Tests.{ne_eqb}
use mathlib.Core.Path.{◌∙◌, sym}
use Rattle.form.proofs.PartLaws.{bracket_decided}
use Rattle.form.proofs.WalkLaws.{unopened_unlabelled}
use Rattle.form.proofs.walks.is_labelled.Goals as goal

pub returns-then-byte_at-eq40 : goal.returns-then-byte_at-eq40
returns-then-byte_at-eq40 c = bracket_decided c.args.line.now c.args.at (sym c.byte_at.ensures ∙ c.if-byte_at-eq40.true) c.cell_value_end.ensures c.is_none.ensures

pub returns-else-byte_at-eq40 : goal.returns-else-byte_at-eq40
returns-else-byte_at-eq40 c = ne_eqb _ 40 c.if-byte_at-eq40.false ∙ sym (unopened_unlabelled c.args.line.now c.args.at (λ z. c.if-byte_at-eq40.false (c.byte_at.ensures ∙ z)))
