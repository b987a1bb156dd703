-- `belonging::held::role_holds` meets its contract: the line that is read is the one stored. Assumes nothing.
use lib.ListN.{length}
use mathlib.Core.Path.{◌∙◌, ap}
use native.Mathlib.Omega.{arith}
use Rattle.belonging.proofs.HeldLaws.{role_few, role_is, role_read, role_reads}
use Rattle.belonging.specs.Held.{comparison_holds}
use Rattle.condition.specs.Cond.{comparisons, holds}
use Rattle.principals.specs.CondRoles.{attributes_known}
use Rattle.query.specs.HostClock.{clock_of}
use Rattle.belonging.proofs.held.role_holds.Goals as goal

pub returns : goal.returns
returns c d u k rs t h l few = let a = c.args in
    let same = role_read a.text.now a.conds.now a.i c.cond_role_start-start.result c.cond_role_end-end.result c.cond_role_place-place.result c.line_of-line.result.now (c.cond_role_start-start.ensures (omega (arith, l, h.few))) (c.cond_role_end-end.ensures (omega (arith, l, h.few))) (c.cond_role_place-place.ensures (omega (arith, l, h.few))) c.line_of-line.ensures in
    let reads = role_reads a.text.now a.conds.now a.i c.cond_role_start-start.result c.cond_role_end-end.result c.cond_role_place-place.result c.line_of-line.result.now (c.cond_role_start-start.ensures (omega (arith, l, h.few))) (c.cond_role_end-end.ensures (omega (arith, l, h.few))) (c.cond_role_place-place.ensures (omega (arith, l, h.few))) c.line_of-line.ensures in
    c.condition_holds.ensures d u t (reads ∙ h.reads a.i l) (ap (attributes_known d) same ∙ h.known a.i l) (omega (arith, ap (λ x. length (comparisons x)) same, role_few d (clock_of a.clock) u a.text.now a.conds.now a.i few))
    ∙ ap (holds (comparison_holds d (clock_of a.clock) u)) same
    ∙ role_is d (clock_of a.clock) u a.text.now a.conds.now a.i
