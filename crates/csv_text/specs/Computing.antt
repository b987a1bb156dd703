-- One name that unfolds every definition here and in the crates below: `unfolding computing` lets a closed example compute.
use Rattle.lists.specs.Computing as lists
use Rattle.text.specs.Computing as text
use Rattle.calendar.specs.Computing as calendar
use Rattle.condition.specs.Computing as condition
use Rattle.form.specs.Computing as form
use Rattle.csv_text.specs.Fields as Fields
use Rattle.csv_text.specs.Records as Records
use Rattle.csv_text.specs.Scanned as Scanned
use Rattle.csv_text.specs.Rendered as Rendered

unfoldable pub computing : Unit {0}
unfolding mathlib.Core.Option.bind mathlib.Core.List.flatten lists.computing text.computing calendar.computing condition.computing form.computing Fields.is_plain Fields.plain_bytes Fields.bare Fields.wrap Fields.quoted Fields.with_left Fields.in_quotes Fields.field Records.line_ending Records.record_end Records.fields_up_to Records.fields Records.record_of Records.entry_before Records.go_on Records.records_up_to Records.count_read Records.width Records.records Records.first_unfit Scanned.digit_bytes Scanned.field_size Scanned.field_unfit Scanned.size_of Scanned.unfit_in Scanned.total_size Scanned.width_after Rendered.doubled Rendered.cell_text Rendered.is_cell Rendered.cells_text Rendered.end_text Rendered.file_text Rendered.line_fields Rendered.is_line Rendered.ends_by Rendered.ends_well Rendered.is_file
computing = tt
