-- `belonging::held::comparison_holds` meets its contract. Assumes nothing.
use mathlib.Core.Path.{◌∙◌}
use Rattle.belonging.proofs.HeldLaws.{compared_holds, compared_known}
use Rattle.condition.specs.Answers.{op_of}
use Rattle.query.specs.HostClock.{clock_of}
use Rattle.belonging.proofs.held.comparison_holds.Goals as goal

pub returns : goal.returns
returns c d u t k = let a = c.args in
    let name = c.next_word-name.result in
    let v = c.next_word-v.result in
    let p = c.next_word-name.ensures in
    let q = c.next_word-v.ensures in
    c.words_meet.ensures d u t (compared_known a.line.now a.at name v p q d k)
    ∙ compared_holds a.line.now a.at name v p q d (clock_of a.clock) u (op_of c.op_at-op.result) c.op_at-op.ensures
