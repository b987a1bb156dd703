-- `belonging::held::words_meet` meets its contract: the clock has the first three attributes, and the user the others. Assumes nothing.
use mathlib.Core.Path.{◌∙◌, ap, sym}
use native.Mathlib.Omega.{arith}
use Rattle.belonging.proofs.HeldLaws.{attribute_there, clock_there, meets_clock, meets_user}
use Rattle.condition.specs.Answers.{op_of}
use Rattle.condition.specs.Comparison.{ranks_meet}
use Rattle.lists.specs.Lists.{or_zero}
use Rattle.query.specs.HostClock.{clock_of}
use Rattle.text.proofs.Enclosed.{written_rank}
use Rattle.text.specs.Numbers.{rank_of}
use Rattle.text.specs.Words.{word_of, written_at}
use Rattle.belonging.proofs.held.words_meet.Goals as goal

pub returns-then-n-lt3 : goal.returns-then-n-lt3
returns-then-n-lt3 c d u t k = let a = c.args in
    let n = c.attribute_number-n.result in
    let got = clock_there (clock_of a.clock) n c.if-n-lt3.true t.timed in
    let number = c.clock_number.ensures got.0 got.1 in
    let ranked = c.clock_rank-m.ensures (omega (arith, number, got.2)) in
    c.ranks_meet.ensures
    ∙ ap (λ m. ranks_meet (op_of a.op) m c.known_rank.result) (ranked ∙ ap rank_of number)
    ∙ ap (ranks_meet (op_of a.op) (rank_of got.0)) (c.known_rank.ensures ∙ ap or_zero (sym (written_rank a.line.now a.v)))
    ∙ meets_clock d (clock_of a.clock) u (op_of a.op) (word_of a.line.now a.name) (written_at a.line.now a.v) n (c.attribute_number-n.ensures d t.attributed) got.0 got.1

pub returns : goal.returns
returns c d u t k = let a = c.args in
    let n = c.attribute_number-n.result in
    let e = c.attribute_number-n.ensures d t.attributed in
    let w = word_of a.line.now a.name in
    let v = written_at a.line.now a.v in
    let got = attribute_there d (clock_of a.clock) u (op_of a.op) w v n e k in
    c.value_meets.ensures a.text.now d u got.0 t.attributed t.valued got.1
    ∙ meets_user d (clock_of a.clock) u (op_of a.op) w v n e got.0.kind c.if-n-lt3.false got.2
