-- One name that unfolds every definition here and in the crates below: `unfolding computing` lets a closed example compute.
use Rattle.lists.specs.Computing as lists
use Rattle.text.specs.Computing as text
use Rattle.calendar.specs.Computing as calendar
use Rattle.condition.specs.Computing as condition
use Rattle.form.specs.Computing as form
use Rattle.csv_text.specs.Computing as csv_text
use Rattle.import.specs.Importing as Importing
use Rattle.import.specs.Outside as Outside
use Rattle.import.specs.ReadBack as ReadBack

unfoldable pub computing : Unit {0}
unfolding mathlib.Core.Option.bind mathlib.Core.List.flatten lists.computing text.computing calendar.computing condition.computing form.computing csv_text.computing Importing.refusal_at Importing.well_formed Importing.refuse_unfit Importing.record_line Importing.record_lines Importing.if_writable Importing.importable Importing.importing Importing.length_only Importing.longest_buffer Importing.measure_import Importing.after_import Outside.length_within Outside.in_brief ReadBack.item_words ReadBack.row_words ReadBack.line_words ReadBack.whole_lines ReadBack.lines_read
computing = tt
