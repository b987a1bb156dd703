use lib.ListN.{drop}
use mathlib.Core.Path.{◌∙◌, ap, sym}
use Rattle.text.proofs.ByteLaws.{run_name_bytes}
use Rattle.text.proofs.Closings.{written_word}
use Rattle.text.proofs.Enclosed.{written_other}
use Rattle.text.specs.Names.{same_name}
use Rattle.text.specs.Words.{word_at, written_at}
use Rattle.condition.proofs.comparisons.names_meet.Goals as goal

pub returns-then-byte_at-eq40 : goal.returns-then-byte_at-eq40
returns-then-byte_at-eq40 c = let x = c.args in
    c.same_meets.ensures (word_at x.a.now x.i) (written_at x.b.now x.j)
    (sym (written_other x.b.now x.j (word_at x.a.now x.i) (run_name_bytes (drop x.i x.a.now)) (sym c.byte_at.ensures ∙ c.if-byte_at-eq40.true)))

pub returns : goal.returns
returns c = let x = c.args in
    c.same_meets-2.ensures (word_at x.a.now x.i) (written_at x.b.now x.j)
    (c.same_name.ensures ∙ ap (same_name (word_at x.a.now x.i)) (sym (written_word x.b.now x.j (λ z. c.if-byte_at-eq40.false (c.byte_at.ensures ∙ z)))))
