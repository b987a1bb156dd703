-- `form::lines::read_body` meets its contract: the keyword decides which form is read.
-- Assumes nothing.
use mathlib.Core.Path.{◌∙◌, sym}
use Rattle.form.proofs.KeywordLaws.{keyword_at}
use Rattle.form.specs.BodyPlaces.{BodyWithin, body_at}
use Rattle.form.specs.FormReader.{line_forms}
use Rattle.text.specs.Brackets.{among}
use Rattle.text.specs.Words.{is_called}
use Rattle.form.proofs.lines.read_body.Goals as goal

pub returns-then-is_word : goal.returns-then-is_word
unfolding line_forms among is_called
returns-then-is_word c = record { is = rw (keyword_at line_forms c.args.s.now c.args.at c.word_end-e.result c.word_end-e.ensures, sym c.is_word.ensures ∙ c.if-is_word.true) c.purpose_body.ensures.is; within = c.purpose_body.ensures.within }

pub returns-then-is_word-2 : goal.returns-then-is_word-2
unfolding line_forms among is_called
returns-then-is_word-2 c = record { is = rw (keyword_at line_forms c.args.s.now c.args.at c.word_end-e.result c.word_end-e.ensures, sym c.is_word.ensures ∙ c.if-is_word.false, sym c.is_word-2.ensures ∙ c.if-is_word-2.true) c.role_body.ensures.is; within = c.role_body.ensures.within }

pub returns-then-is_word-3 : goal.returns-then-is_word-3
unfolding line_forms among is_called
returns-then-is_word-3 c = record { is = rw (keyword_at line_forms c.args.s.now c.args.at c.word_end-e.result c.word_end-e.ensures, sym c.is_word.ensures ∙ c.if-is_word.false, sym c.is_word-2.ensures ∙ c.if-is_word-2.false, sym c.is_word-3.ensures ∙ c.if-is_word-3.true) c.attr_body.ensures.is; within = c.attr_body.ensures.within }

pub returns-then-is_word-4 : goal.returns-then-is_word-4
unfolding line_forms among is_called
returns-then-is_word-4 c = record { is = rw (keyword_at line_forms c.args.s.now c.args.at c.word_end-e.result c.word_end-e.ensures, sym c.is_word.ensures ∙ c.if-is_word.false, sym c.is_word-2.ensures ∙ c.if-is_word-2.false, sym c.is_word-3.ensures ∙ c.if-is_word-3.false, sym c.is_word-4.ensures ∙ c.if-is_word-4.true) c.user_body.ensures.is; within = c.user_body.ensures.within }

pub returns-then-is_word-5 : goal.returns-then-is_word-5
unfolding line_forms among is_called
returns-then-is_word-5 c = record { is = rw (keyword_at line_forms c.args.s.now c.args.at c.word_end-e.result c.word_end-e.ensures, sym c.is_word.ensures ∙ c.if-is_word.false, sym c.is_word-2.ensures ∙ c.if-is_word-2.false, sym c.is_word-3.ensures ∙ c.if-is_word-3.false, sym c.is_word-4.ensures ∙ c.if-is_word-4.false, sym c.is_word-5.ensures ∙ c.if-is_word-5.true) c.cond_role_body.ensures.is; within = c.cond_role_body.ensures.within }

pub returns-then-is_word-6 : goal.returns-then-is_word-6
unfolding line_forms among is_called
returns-then-is_word-6 c = record { is = rw (keyword_at line_forms c.args.s.now c.args.at c.word_end-e.result c.word_end-e.ensures, sym c.is_word.ensures ∙ c.if-is_word.false, sym c.is_word-2.ensures ∙ c.if-is_word-2.false, sym c.is_word-3.ensures ∙ c.if-is_word-3.false, sym c.is_word-4.ensures ∙ c.if-is_word-4.false, sym c.is_word-5.ensures ∙ c.if-is_word-5.false, sym c.is_word-6.ensures ∙ c.if-is_word-6.true) c.grant_body.ensures.is; within = c.grant_body.ensures.within }

pub returns-then-is_word-7 : goal.returns-then-is_word-7
unfolding line_forms among is_called
returns-then-is_word-7 c = record { is = rw (keyword_at line_forms c.args.s.now c.args.at c.word_end-e.result c.word_end-e.ensures, sym c.is_word.ensures ∙ c.if-is_word.false, sym c.is_word-2.ensures ∙ c.if-is_word-2.false, sym c.is_word-3.ensures ∙ c.if-is_word-3.false, sym c.is_word-4.ensures ∙ c.if-is_word-4.false, sym c.is_word-5.ensures ∙ c.if-is_word-5.false, sym c.is_word-6.ensures ∙ c.if-is_word-6.false, sym c.is_word-7.ensures ∙ c.if-is_word-7.true) c.label_body.ensures.is; within = c.label_body.ensures.within }

pub returns-then-is_word-8 : goal.returns-then-is_word-8
unfolding line_forms among is_called
returns-then-is_word-8 c = record { is = rw (keyword_at line_forms c.args.s.now c.args.at c.word_end-e.result c.word_end-e.ensures, sym c.is_word.ensures ∙ c.if-is_word.false, sym c.is_word-2.ensures ∙ c.if-is_word-2.false, sym c.is_word-3.ensures ∙ c.if-is_word-3.false, sym c.is_word-4.ensures ∙ c.if-is_word-4.false, sym c.is_word-5.ensures ∙ c.if-is_word-5.false, sym c.is_word-6.ensures ∙ c.if-is_word-6.false, sym c.is_word-7.ensures ∙ c.if-is_word-7.false, sym c.is_word-8.ensures ∙ c.if-is_word-8.true) c.table_body.ensures.is; within = c.table_body.ensures.within }

pub returns-then-is_word-9 : goal.returns-then-is_word-9
unfolding line_forms among is_called
returns-then-is_word-9 c = record { is = rw (keyword_at line_forms c.args.s.now c.args.at c.word_end-e.result c.word_end-e.ensures, sym c.is_word.ensures ∙ c.if-is_word.false, sym c.is_word-2.ensures ∙ c.if-is_word-2.false, sym c.is_word-3.ensures ∙ c.if-is_word-3.false, sym c.is_word-4.ensures ∙ c.if-is_word-4.false, sym c.is_word-5.ensures ∙ c.if-is_word-5.false, sym c.is_word-6.ensures ∙ c.if-is_word-6.false, sym c.is_word-7.ensures ∙ c.if-is_word-7.false, sym c.is_word-8.ensures ∙ c.if-is_word-8.false, sym c.is_word-9.ensures ∙ c.if-is_word-9.true) c.public_body.ensures.is; within = c.public_body.ensures.within }

pub returns-then-is_word-10 : goal.returns-then-is_word-10
unfolding line_forms among is_called
returns-then-is_word-10 c = record { is = rw (keyword_at line_forms c.args.s.now c.args.at c.word_end-e.result c.word_end-e.ensures, sym c.is_word.ensures ∙ c.if-is_word.false, sym c.is_word-2.ensures ∙ c.if-is_word-2.false, sym c.is_word-3.ensures ∙ c.if-is_word-3.false, sym c.is_word-4.ensures ∙ c.if-is_word-4.false, sym c.is_word-5.ensures ∙ c.if-is_word-5.false, sym c.is_word-6.ensures ∙ c.if-is_word-6.false, sym c.is_word-7.ensures ∙ c.if-is_word-7.false, sym c.is_word-8.ensures ∙ c.if-is_word-8.false, sym c.is_word-9.ensures ∙ c.if-is_word-9.false, sym c.is_word-10.ensures ∙ c.if-is_word-10.true) c.weak_body.ensures.is; within = c.weak_body.ensures.within }

pub returns-then-is_word-11 : goal.returns-then-is_word-11
unfolding line_forms among is_called
returns-then-is_word-11 c = record { is = rw (keyword_at line_forms c.args.s.now c.args.at c.word_end-e.result c.word_end-e.ensures, sym c.is_word.ensures ∙ c.if-is_word.false, sym c.is_word-2.ensures ∙ c.if-is_word-2.false, sym c.is_word-3.ensures ∙ c.if-is_word-3.false, sym c.is_word-4.ensures ∙ c.if-is_word-4.false, sym c.is_word-5.ensures ∙ c.if-is_word-5.false, sym c.is_word-6.ensures ∙ c.if-is_word-6.false, sym c.is_word-7.ensures ∙ c.if-is_word-7.false, sym c.is_word-8.ensures ∙ c.if-is_word-8.false, sym c.is_word-9.ensures ∙ c.if-is_word-9.false, sym c.is_word-10.ensures ∙ c.if-is_word-10.false, sym c.is_word-11.ensures ∙ c.if-is_word-11.true) c.strong_body.ensures.is; within = c.strong_body.ensures.within }

pub returns-then-is_word-12 : goal.returns-then-is_word-12
unfolding line_forms among is_called
returns-then-is_word-12 c = record { is = rw (keyword_at line_forms c.args.s.now c.args.at c.word_end-e.result c.word_end-e.ensures, sym c.is_word.ensures ∙ c.if-is_word.false, sym c.is_word-2.ensures ∙ c.if-is_word-2.false, sym c.is_word-3.ensures ∙ c.if-is_word-3.false, sym c.is_word-4.ensures ∙ c.if-is_word-4.false, sym c.is_word-5.ensures ∙ c.if-is_word-5.false, sym c.is_word-6.ensures ∙ c.if-is_word-6.false, sym c.is_word-7.ensures ∙ c.if-is_word-7.false, sym c.is_word-8.ensures ∙ c.if-is_word-8.false, sym c.is_word-9.ensures ∙ c.if-is_word-9.false, sym c.is_word-10.ensures ∙ c.if-is_word-10.false, sym c.is_word-11.ensures ∙ c.if-is_word-11.false, sym c.is_word-12.ensures ∙ c.if-is_word-12.true) c.row_body.ensures.is; within = c.row_body.ensures.within }

pub returns : goal.returns
unfolding line_forms among is_called body_at BodyWithin
returns c = record { is = rw (keyword_at line_forms c.args.s.now c.args.at c.word_end-e.result c.word_end-e.ensures, sym c.is_word.ensures ∙ c.if-is_word.false, sym c.is_word-2.ensures ∙ c.if-is_word-2.false, sym c.is_word-3.ensures ∙ c.if-is_word-3.false, sym c.is_word-4.ensures ∙ c.if-is_word-4.false, sym c.is_word-5.ensures ∙ c.if-is_word-5.false, sym c.is_word-6.ensures ∙ c.if-is_word-6.false, sym c.is_word-7.ensures ∙ c.if-is_word-7.false, sym c.is_word-8.ensures ∙ c.if-is_word-8.false, sym c.is_word-9.ensures ∙ c.if-is_word-9.false, sym c.is_word-10.ensures ∙ c.if-is_word-10.false, sym c.is_word-11.ensures ∙ c.if-is_word-11.false, sym c.is_word-12.ensures ∙ c.if-is_word-12.false); within = tt }
