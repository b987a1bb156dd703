-- `reasons::lines::row_sought` meets its contract: a number that the code takes, or one that counts no row. Assumes nothing.
use Prim.Native.Nat.{ℕ}
use Rattle.answer.specs.Seen.{rows_in}
use Rattle.reasons.proofs.ExplainLaws.{no_row}
use Rattle.relations.proofs.RowLaws.{rows_counted}
use Rattle.text.proofs.CodeLaws.{limited_is}
use Rattle.text.specs.Numbers.{magnitude}
use Rattle.text.specs.Words.{word_at}
use lib.ListN.{get_elem?}
use mathlib.Core.Option.{Option, bind}
use mathlib.Core.Path.{◌∙◌, ap, sym}
use native.Mathlib.Omega.{arith}
use Rattle.reasons.proofs.lines.row_sought.Goals as goal

pub returns : goal.returns
unfolding bind
returns c = let a = c.args in
    (λ text rs h. c.nth_row.ensures.0 text rs h ∙ sym (ap (λ (o : Option ℕ). bind o (get_elem? (rows_in a.t rs))) (limited_is (magnitude (word_at a.line.now a.row)) c.in_ok-n.n (sym c.magnitude_at.ensures ∙ c.in_ok-n.was)).0), c.nth_row.ensures.1)

pub returns-in_err-n : goal.returns-in_err-n
unfolding bind
returns-in_err-n c = let a = c.args in
    rw c.from_residual.ensures (λ text rs h. sym (no_row a.t rs (omega (arith, rows_counted text a.rows.now a.count rs h, h.few)) (magnitude (word_at a.line.now a.row)) (sym c.magnitude_at.ensures ∙ c.in_err-n.was)), tt)
