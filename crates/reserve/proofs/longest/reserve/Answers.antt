-- `reserve::longest::reserve` meets its contract: a document that the workspace holds is within the bounds. Assumes nothing.
use mathlib.Core.Path.{◌∙◌, ap, sym}
use native.Mathlib.Omega.{arith}
use Rattle.answer.specs.Reserve.{greatest, reserve_of, whole_lengths}
use Rattle.reserve.proofs.longest.reserve.Goals as goal

pub returns-then-text-gt-TEXT_BYTES : goal.returns-then-text-gt-TEXT_BYTES
returns-then-text-gt-TEXT_BYTES c = λ d h. absurd (omega (arith, h.small, c.if-text-gt-TEXT_BYTES.true))

pub returns-then-count-gt-ROWS : goal.returns-then-count-gt-ROWS
returns-then-count-gt-ROWS c = λ d h. absurd (omega (arith, h.rows.few, c.if-count-gt-ROWS.true))

pub returns-then-k-gt-TABLES : goal.returns-then-k-gt-TABLES
returns-then-k-gt-TABLES c = λ d h. absurd (omega (arith, h.few, c.if-k-gt-TABLES.true))

pub longest-requires : goal.longest-requires
longest-requires c = (omega (arith, c.if-text-gt-TEXT_BYTES.false), omega (arith, c.if-count-gt-ROWS.false))

pub returns : goal.returns
unfolding reserve_of
returns c = λ d h. c.longest.ensures d.rows h.rows ∙ ap (λ n. greatest (whole_lengths d.rows n)) (sym h.tables)
