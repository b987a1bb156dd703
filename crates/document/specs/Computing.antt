-- One name that unfolds every definition here and in the crates below: `unfolding computing` lets a closed example compute.
use Rattle.lists.specs.Computing as lists
use Rattle.purpose.specs.Computing as purpose
use Rattle.text.specs.Computing as text
use Rattle.calendar.specs.Computing as calendar
use Rattle.condition.specs.Computing as condition
use Rattle.form.specs.Computing as form
use Rattle.document.specs.Policy as Policy
use Rattle.document.specs.Open as Open
use Rattle.document.specs.Lookup as Lookup
use Rattle.document.specs.Bounds as Bounds
use Rattle.document.specs.NameFaults as NameFaults
use Rattle.document.specs.ValueFaults as ValueFaults
use Rattle.document.specs.TypeFaults as TypeFaults
use Rattle.document.specs.AmountFaults as AmountFaults
use Rattle.document.specs.NoteFaults as NoteFaults
use Rattle.document.specs.Meaning as Meaning
use Rattle.document.specs.Check as Check

unfoldable pub computing : Unit {0}
unfolding mathlib.Core.Option.bind mathlib.Core.List.flatten lists.computing purpose.computing text.computing calendar.computing condition.computing form.computing Policy.tree_of Policy.clock_attributes Policy.empty_policy Policy.empty_doc Open.label_open Open.marks_at Open.nest_open Open.table_open Open.column_open Open.cell_open Open.row_withheld Lookup.purpose_of Lookup.role_of Lookup.attribute_of Lookup.cond_role_of Lookup.label_of Lookup.table_of Lookup.user_of Lookup.column_of Lookup.attribute_named Lookup.attribute_kind Lookup.column_kind Lookup.scheme_at Lookup.notes_of Lookup.is_public Lookup.weak_in Lookup.strong_in Lookup.given_by Lookup.settled Lookup.labelling_at Lookup.columns_at Lookup.scheme_of Lookup.labelling_of Lookup.columns_of Lookup.is_clock Lookup.has_attribute Bounds.over_bound Bounds.second_root Bounds.late_attr NameFaults.taken_note NameFaults.taken NameFaults.usable_for NameFaults.leading_name NameFaults.bracket_labels NameFaults.row_labels NameFaults.unknown ValueFaults.is_attribute_of ValueFaults.given_once ValueFaults.gives_all ValueFaults.plain_values ValueFaults.bracket_values ValueFaults.shaped_values ValueFaults.values_behind_label ValueFaults.row_values ValueFaults.misfit TypeFaults.cell_has_kind TypeFaults.mistyped_value TypeFaults.wrong_type AmountFaults.in_order AmountFaults.broken_range AmountFaults.date_exists AmountFaults.no_such_date NoteFaults.is_nested NoteFaults.takes_no_label NoteFaults.misplaced_note NoteFaults.misplaced Meaning.node_of Meaning.given_of Meaning.attribute_comparison Meaning.marks_of Meaning.column_meant Meaning.row_meant Meaning.define Meaning.rows_given Meaning.add Check.check_form Check.check_line Check.check_from Check.check
computing = tt
