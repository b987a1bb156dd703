-- `rows::faults::typed` meets its contract: a value is a word, or a bracket opens. Assumes nothing.
use mathlib.Core.Path.{◌∙◌, ap, sym}
use Rattle.condition.specs.Answers.{kind_of}
use Rattle.document.specs.TypeFaults.{cell_has_kind}
use Rattle.rows.proofs.RowTypes.{bracket_date, bracket_name, bracket_number, word_kind}
use Rattle.text.specs.Words.{written_at}
use Rattle.rows.proofs.faults.typed.Goals as goal

pub returns-then-byte_at-ne40 : goal.returns-then-byte_at-ne40
returns-then-byte_at-ne40 c = let entry = c.args in c.has_kind.ensures ∙ word_kind entry.line.now entry.at (kind_of entry.kind) (λ z. c.if-byte_at-ne40.true (c.byte_at.ensures ∙ z))

pub returns-in-Name : goal.returns-in-Name
returns-in-Name c = let a = c.args in
    sym (ap (λ k. cell_has_kind (kind_of k) (written_at a.line.now a.at)) c.in-Name.is ∙ bracket_name a.line.now a.at (sym c.byte_at.ensures ∙ c.if-byte_at-ne40.false))

pub returns-in-Num : goal.returns-in-Num
returns-in-Num c = let a = c.args in
    c.is_range.ensures ∙ sym (ap (λ k. cell_has_kind (kind_of k) (written_at a.line.now a.at)) c.in-Num.is ∙ bracket_number a.line.now a.at (sym c.byte_at.ensures ∙ c.if-byte_at-ne40.false))

pub returns-in-Date : goal.returns-in-Date
returns-in-Date c = let a = c.args in
    c.is_date.ensures ∙ sym (ap (λ k. cell_has_kind (kind_of k) (written_at a.line.now a.at)) c.in-Date.is ∙ bracket_date a.line.now a.at)
