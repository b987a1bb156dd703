-- `belonging::held::condition_holds` meets its contract: by its comparisons where it can be read. Assumes nothing.
use mathlib.Core.Path.{◌∙◌, ap, sym}
use native.Mathlib.Omega.{arith}
use Rattle.belonging.proofs.HeldLaws.{read_few, read_holds, read_known}
use Rattle.condition.proofs.ReadLaws.{condition_at_lem, condition_none}
use Rattle.lists.proofs.Tests.{true_not_false}
use Rattle.lists.specs.Lists.{there}
use Rattle.query.specs.HostClock.{clock_of}
use Rattle.belonging.proofs.held.condition_holds.Goals as goal

pub returns-then-n-gt64 : goal.returns-then-n-gt64
returns-then-n-gt64 c d u t read k few = let a = c.args in
    let got = condition_at_lem a.line.now a.place _ _ (sym c.read_places-c.ensures.reads ∙ c.in-Some.is) in
    absurd (omega (arith, read_few d (clock_of a.clock) u a.line.now a.place got.what _ got.is _ got.made a.line.now few))

pub returns : goal.returns
returns c d u t read k few = let a = c.args in
    let placed = c.read_places-c.ensures in
    let got = condition_at_lem a.line.now a.place _ _ (sym placed.reads ∙ c.in-Some.is) in
    let small = read_few d (clock_of a.clock) u a.line.now a.place got.what _ got.is _ got.made a.line.now few in
    read_holds d (clock_of a.clock) u a.line.now a.place got.what _ got.is _ got.made _ _ placed small _ _ c.holds_condition.ensures
    (c.store_truths.ensures small d u t (read_known d (clock_of a.clock) u a.line.now a.place got.what _ got.is _ got.made _ _ placed small k))

pub returns-in_default : goal.returns-in_default
unfolding there
returns-in_default c d u t read k few = let h = condition_none c.args.line.now c.args.place (sym c.read_places-c.ensures.reads ∙ c.in_default.is) in
    true_not_false read (ap there h)
