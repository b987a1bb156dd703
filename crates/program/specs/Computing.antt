-- One name that unfolds every definition here and in the crates below: `unfolding computing` lets a closed example compute.
use Rattle.lists.specs.Computing as lists
use Rattle.text.specs.Computing as text
use Rattle.calendar.specs.Computing as calendar
use Rattle.condition.specs.Computing as condition
use Rattle.program.specs.Program as Program

unfoldable pub computing : Unit {0}
unfolding mathlib.Core.Option.bind mathlib.Core.List.flatten lists.computing text.computing calendar.computing condition.computing Program.run Program.branches_of Program.code
computing = tt
