-- `form::lines::table_columns` meets its contract: the keyword decides the scheme.
-- Assumes nothing.
use Prim.Native.Nat.{◌+◌}
use mathlib.Core.Path.{◌∙◌, refl, sym}
use native.Mathlib.Omega.{arith}
use Rattle.form.proofs.KeywordLaws.{keyword_at}
use Rattle.form.proofs.NoneLaws.{columns_none}
use Rattle.form.proofs.PartLaws.{Behind, name_to}
use Rattle.form.proofs.TableLaws.{labelled_table, plain_table}
use Rattle.form.specs.BodyPlaces.{ColumnsWithin, table_to}
use Rattle.form.specs.FormReader.{columns_under_label, schemes}
use Rattle.form.specs.TableWords.{column_words, scheme_words}
use Rattle.text.proofs.EndLaws.{end_none}
use Rattle.text.specs.Brackets.{among, next}
use Rattle.text.specs.Words.{is_called, name, word_of}
use Rattle.form.specs.declared.lines.Scheme.TheVariants as scheme
use Rattle.form.proofs.lines.table_columns.Goals.{In_ok-f}
use Rattle.form.proofs.lines.table_columns.Goals as goal

label : (c : In_ok-f) → Behind name (word_of c.args.s.now (c.word_end-e.result + 1)) c.args.s.now c.word_end-e.result c.in_ok-f.f
label c = name_to c.args.s.now c.word_end-e.result c.in_ok-f.f c.spaced_name_end.ensures c.in_ok-f.was

pub returns-then-is_word : goal.returns-then-is_word
unfolding schemes among is_called scheme_words column_words
returns-then-is_word c = plain_table c.args.s.now c.args.at c.word_end-e.result scheme.Unlabelled 0 c.columns_end.result c.under_scheme.ensures c.columns_end.ensures refl (omega arith) (λ t.
    rw (keyword_at (schemes t) c.args.s.now c.args.at c.word_end-e.result c.word_end-e.ensures, sym c.is_word.ensures ∙ c.if-is_word.true))

pub returns-in_err-f : goal.returns-in_err-f
unfolding schemes among is_called columns_under_label
returns-in_err-f c = columns_none c.args.s.now c.args.at c.from_residual.ensures (λ t. rw (keyword_at (schemes t) c.args.s.now c.args.at c.word_end-e.result c.word_end-e.ensures, sym c.is_word.ensures ∙ c.if-is_word.false, sym c.is_word-2.ensures ∙ c.if-is_word-2.true, end_none (next name) c.args.s.now c.word_end-e.result (sym c.spaced_name_end.ensures ∙ c.in_err-f.was)))

pub overflow_add-e : goal.overflow_add-e
overflow_add-e c = omega (arith, label (goal.at.overflow_add-e c).In_ok-f)

pub returns-then-is_word-2 : goal.returns-then-is_word-2
unfolding schemes among is_called columns_under_label scheme_words column_words
returns-then-is_word-2 c = plain_table c.args.s.now c.args.at c.in_ok-f.f scheme.ByTable (c.word_end-e.result + 1) c.columns_end-then-is_word-2.result c.under_scheme-then-is_word-2.ensures c.columns_end-then-is_word-2.ensures refl (omega (arith, label (goal.at.returns-then-is_word-2 c).In_ok-f)) (λ t.
    rw (keyword_at (schemes t) c.args.s.now c.args.at c.word_end-e.result c.word_end-e.ensures, sym c.is_word.ensures ∙ c.if-is_word.false, sym c.is_word-2.ensures ∙ c.if-is_word-2.true, (label (goal.at.returns-then-is_word-2 c).In_ok-f).is))

pub returns-then-is_word-3 : goal.returns-then-is_word-3
unfolding schemes among is_called
returns-then-is_word-3 c = labelled_table c.args.s.now c.args.at c.word_end-e.result c.labelled_columns_end.result c.under_scheme-then-is_word-3.ensures c.labelled_columns_end.ensures (λ t.
    rw (keyword_at (schemes t) c.args.s.now c.args.at c.word_end-e.result c.word_end-e.ensures, sym c.is_word.ensures ∙ c.if-is_word.false, sym c.is_word-2.ensures ∙ c.if-is_word-2.false, sym c.is_word-3.ensures ∙ c.if-is_word-3.true))

pub returns-then-is_word-4 : goal.returns-then-is_word-4
unfolding schemes among is_called scheme_words column_words
returns-then-is_word-4 c = plain_table c.args.s.now c.args.at c.word_end-e.result scheme.ByRow 0 c.columns_end-then-is_word-4.result c.under_scheme-then-is_word-4.ensures c.columns_end-then-is_word-4.ensures refl (omega arith) (λ t.
    rw (keyword_at (schemes t) c.args.s.now c.args.at c.word_end-e.result c.word_end-e.ensures, sym c.is_word.ensures ∙ c.if-is_word.false, sym c.is_word-2.ensures ∙ c.if-is_word-2.false, sym c.is_word-3.ensures ∙ c.if-is_word-3.false, sym c.is_word-4.ensures ∙ c.if-is_word-4.true))

pub returns-then-is_word-5 : goal.returns-then-is_word-5
unfolding schemes among is_called scheme_words column_words
returns-then-is_word-5 c = plain_table c.args.s.now c.args.at c.word_end-e.result scheme.ByCell 0 c.columns_end-then-is_word-5.result c.under_scheme-then-is_word-5.ensures c.columns_end-then-is_word-5.ensures refl (omega arith) (λ t.
    rw (keyword_at (schemes t) c.args.s.now c.args.at c.word_end-e.result c.word_end-e.ensures, sym c.is_word.ensures ∙ c.if-is_word.false, sym c.is_word-2.ensures ∙ c.if-is_word-2.false, sym c.is_word-3.ensures ∙ c.if-is_word-3.false, sym c.is_word-4.ensures ∙ c.if-is_word-4.false, sym c.is_word-5.ensures ∙ c.if-is_word-5.true))

pub returns-then-is_word-6 : goal.returns-then-is_word-6
unfolding schemes among is_called scheme_words column_words
returns-then-is_word-6 c = plain_table c.args.s.now c.args.at c.word_end-e.result scheme.Nested 0 c.columns_end-then-is_word-6.result c.under_scheme-then-is_word-6.ensures c.columns_end-then-is_word-6.ensures refl (omega arith) (λ t.
    rw (keyword_at (schemes t) c.args.s.now c.args.at c.word_end-e.result c.word_end-e.ensures, sym c.is_word.ensures ∙ c.if-is_word.false, sym c.is_word-2.ensures ∙ c.if-is_word-2.false, sym c.is_word-3.ensures ∙ c.if-is_word-3.false, sym c.is_word-4.ensures ∙ c.if-is_word-4.false, sym c.is_word-5.ensures ∙ c.if-is_word-5.false, sym c.is_word-6.ensures ∙ c.if-is_word-6.true))

pub returns : goal.returns
unfolding schemes among is_called table_to ColumnsWithin
returns c = record { is = λ t. rw (keyword_at (schemes t) c.args.s.now c.args.at c.word_end-e.result c.word_end-e.ensures, sym c.is_word.ensures ∙ c.if-is_word.false, sym c.is_word-2.ensures ∙ c.if-is_word-2.false, sym c.is_word-3.ensures ∙ c.if-is_word-3.false, sym c.is_word-4.ensures ∙ c.if-is_word-4.false, sym c.is_word-5.ensures ∙ c.if-is_word-5.false, sym c.is_word-6.ensures ∙ c.if-is_word-6.false); within = tt }
