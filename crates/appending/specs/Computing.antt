-- One name that unfolds every definition here and in the crates below: `unfolding computing` lets a closed example compute.
use Rattle.lists.specs.Computing as lists
use Rattle.purpose.specs.Computing as purpose
use Rattle.text.specs.Computing as text
use Rattle.calendar.specs.Computing as calendar
use Rattle.condition.specs.Computing as condition
use Rattle.form.specs.Computing as form
use Rattle.csv_text.specs.Computing as csv_text
use Rattle.import.specs.Computing as import
use Rattle.document.specs.Computing as document
use Rattle.appending.specs.Appended as Appended

unfoldable pub computing : Unit {0}
unfolding mathlib.Core.Option.bind mathlib.Core.List.flatten lists.computing purpose.computing text.computing calendar.computing condition.computing form.computing csv_text.computing import.computing document.computing Appended.fits_columns Appended.row_for Appended.appended
computing = tt
