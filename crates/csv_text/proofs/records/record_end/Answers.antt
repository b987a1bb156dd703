-- `csv_text::records::record_end` meets its contract. Assumes nothing.
use Rattle.csv_text.proofs.RecordLaws.{end_file, end_line_lem, ends_feed, ends_lone, ends_not, ends_return}
use Rattle.text.specs.CodeEnds.{word_end}
use mathlib.Core.Path.{◌∙◌, ap, sym}
use Rattle.csv_text.proofs.records.record_end.Goals as goal

pub returns-then-s-at : goal.returns-then-s-at
returns-then-s-at c = sym (ap word_end (end_file c.args.s.now c.args.at c.if-s-at.true))

pub returns-then-byte_at-eq10 : goal.returns-then-byte_at-eq10
returns-then-byte_at-eq10 c = sym (ap word_end (end_line_lem c.args.s.now c.args.at c.if-s-at.false ∙ ends_return c.args.s.now c.args.at (sym c.byte_at.ensures ∙ c.if-byte_at-eq13.true) (sym c.byte_at-then-byte_at-eq13.ensures ∙ c.if-byte_at-eq10.true)))

pub returns-then-byte_at-eq13 : goal.returns-then-byte_at-eq13
returns-then-byte_at-eq13 c = sym (ap word_end (end_line_lem c.args.s.now c.args.at c.if-s-at.false ∙ ends_lone c.args.s.now c.args.at (sym c.byte_at.ensures ∙ c.if-byte_at-eq13.true) (λ e. c.if-byte_at-eq10.false (c.byte_at-then-byte_at-eq13.ensures ∙ e))))

pub returns-then-byte_at-eq10-2 : goal.returns-then-byte_at-eq10-2
returns-then-byte_at-eq10-2 c = sym (ap word_end (end_line_lem c.args.s.now c.args.at c.if-s-at.false ∙ ends_feed c.args.s.now c.args.at (λ e. c.if-byte_at-eq13.false (c.byte_at.ensures ∙ e)) (sym c.byte_at-2.ensures ∙ c.if-byte_at-eq10-2.true)))

pub returns : goal.returns
returns c = sym (ap word_end (end_line_lem c.args.s.now c.args.at c.if-s-at.false ∙ ends_not c.args.s.now c.args.at (λ e. c.if-byte_at-eq13.false (c.byte_at.ensures ∙ e)) (λ e. c.if-byte_at-eq10-2.false (c.byte_at-2.ensures ∙ e))))
