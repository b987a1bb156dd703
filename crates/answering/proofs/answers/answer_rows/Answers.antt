-- `answering::answers::answer_rows` meets its contract. Assumes nothing.
use Rattle.answering.proofs.Bridge.{answer_is}
use Rattle.answering.specs.Answering.{Writes}
use mathlib.Core.Path.{subst, sym}
use native.Mathlib.Omega.{arith}
use Rattle.answering.proofs.answers.answer_rows.Goals as goal

pub returns-then-text-gt-TEXT_BYTES : goal.returns-then-text-gt-TEXT_BYTES
returns-then-text-gt-TEXT_BYTES c = λ d q h. absurd (omega (arith, h.small, c.if-text-gt-TEXT_BYTES.true))

pub returns-then-s-gt-COLUMNS : goal.returns-then-s-gt-COLUMNS
returns-then-s-gt-COLUMNS c = λ d q h. absurd (omega (arith, h.few_chosen, c.if-s-gt-COLUMNS.true))

pub returns-then-count-gt-ROWS : goal.returns-then-count-gt-ROWS
returns-then-count-gt-ROWS c = λ d q h. absurd (omega (arith, h.rows.few, c.if-count-gt-ROWS.true))

pub returns : goal.returns
returns c = λ d q h.
    subst (λ a. Writes a c.args.out.now c.put_measured.new.out c.put_measured.result) (sym (answer_is h (c.judge_rows-tally.ensures d q h) c.table_scheme-scheme.result c.table_scheme-scheme.ensures c.writes_gaps-gaps.ensures))
    (c.put_measured.ensures d h.rows)
