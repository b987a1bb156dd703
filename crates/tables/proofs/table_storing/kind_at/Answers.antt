-- `tables::table_storing::kind_at` meets its contract. Assumes nothing.
use Rattle.form.specs.Walks.{column_kind_at, kind_at}
use mathlib.Core.Bool.{cond}
use mathlib.Core.Path.{◌∙◌, ap, sym}
use Rattle.condition.specs.Kinds.{dates, names, numbers}
use Rattle.tables.proofs.table_storing.kind_at.Goals as goal

pub returns-then-is_word : goal.returns-then-is_word
unfolding column_kind_at
returns-then-is_word c = let a = c.args in
    sym (ap (λ b. cond b dates (kind_at a.line.now a.q)) (sym c.is_word.ensures ∙ c.if-is_word.true))

pub returns-then-is_word-2 : goal.returns-then-is_word-2
unfolding column_kind_at kind_at
returns-then-is_word-2 c = let a = c.args in
    sym (ap (λ b. cond b dates (kind_at a.line.now a.q)) (sym c.is_word.ensures ∙ c.if-is_word.false) ∙ ap (λ b. cond b numbers names) (sym c.is_word-2.ensures ∙ c.if-is_word-2.true))

pub returns : goal.returns
unfolding column_kind_at kind_at
returns c = let a = c.args in
    sym (ap (λ b. cond b dates (kind_at a.line.now a.q)) (sym c.is_word.ensures ∙ c.if-is_word.false) ∙ ap (λ b. cond b numbers names) (sym c.is_word-2.ensures ∙ c.if-is_word-2.false))
