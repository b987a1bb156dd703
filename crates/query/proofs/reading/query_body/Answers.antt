-- `query::reading::query_body` meets its contract: the keyword decides which of the five is read.
-- Assumes nothing.
use mathlib.Core.Path.{◌∙◌, sym}
use Rattle.query.proofs.BodiesRead.{at_blank, at_count, at_none, at_possible, at_select, at_sure}
use Rattle.query.proofs.reading.query_body.Goals as goal

pub returns-then-is_word : goal.returns-then-is_word
returns-then-is_word c = at_select c.args.s.now c.args.at c.word_end-e.ensures (sym c.is_word.ensures ∙ c.if-is_word.true) c.rows_body.ensures

pub returns-then-is_word-2 : goal.returns-then-is_word-2
returns-then-is_word-2 c = at_count c.args.s.now
    c.args.at
    c.word_end-e.ensures
    (sym c.is_word.ensures ∙ c.if-is_word.false)
    (sym c.is_word-2.ensures ∙ c.if-is_word-2.true) c.count_body.ensures

pub returns-then-is_word-3 : goal.returns-then-is_word-3
returns-then-is_word-3 c = at_blank c.args.s.now
    c.args.at
    c.word_end-e.ensures
    (sym c.is_word.ensures ∙ c.if-is_word.false)
    (sym c.is_word-2.ensures ∙ c.if-is_word-2.false)
    (sym c.is_word-3.ensures ∙ c.if-is_word-3.true) c.rows_body-then-is_word-3.ensures

pub returns-then-is_word-4 : goal.returns-then-is_word-4
returns-then-is_word-4 c = at_sure
    c.args.s.now
    c.args.at
    c.word_end-e.ensures
    (sym c.is_word.ensures ∙ c.if-is_word.false)
    (sym c.is_word-2.ensures ∙ c.if-is_word-2.false)
    (sym c.is_word-3.ensures ∙ c.if-is_word-3.false)
    (sym c.is_word-4.ensures ∙ c.if-is_word-4.true) c.rows_body-then-is_word-4.ensures

pub returns-then-is_word-5 : goal.returns-then-is_word-5
returns-then-is_word-5 c = at_possible
    c.args.s.now
    c.args.at
    c.word_end-e.ensures
    (sym c.is_word.ensures ∙ c.if-is_word.false)
    (sym c.is_word-2.ensures ∙ c.if-is_word-2.false)
    (sym c.is_word-3.ensures ∙ c.if-is_word-3.false)
    (sym c.is_word-4.ensures ∙ c.if-is_word-4.false)
    (sym c.is_word-5.ensures ∙ c.if-is_word-5.true) c.rows_body-then-is_word-5.ensures

pub returns : goal.returns
returns c = at_none
    c.args.s.now
    c.args.at
    c.word_end-e.ensures
    (sym c.is_word.ensures ∙ c.if-is_word.false)
    (sym c.is_word-2.ensures ∙ c.if-is_word-2.false)
    (sym c.is_word-3.ensures ∙ c.if-is_word-3.false)
    (sym c.is_word-4.ensures ∙ c.if-is_word-4.false)
    (sym c.is_word-5.ensures ∙ c.if-is_word-5.false)
