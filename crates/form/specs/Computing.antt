-- One name that unfolds every definition here and in the crates below: `unfolding computing` lets a closed example compute.
use Rattle.lists.specs.Computing as lists
use Rattle.text.specs.Computing as text
use Rattle.calendar.specs.Computing as calendar
use Rattle.condition.specs.Computing as condition
use Rattle.form.specs.Form as Form
use Rattle.form.specs.FormReader as FormReader
use Rattle.form.specs.RowText as RowText
use Rattle.form.specs.Walks as Walks
use Rattle.form.specs.TableWords as TableWords
use Rattle.form.specs.Places as Places
use Rattle.form.specs.BodyPlaces as BodyPlaces

unfoldable pub computing : Unit {0}
unfolding mathlib.Core.Option.bind mathlib.Core.List.flatten lists.computing text.computing calendar.computing condition.computing Form.scheme_labels Form.map_scheme Form.leads_label Form.has_brackets Form.note_labels Form.map_note FormReader.kinds FormReader.column_kinds FormReader.node FormReader.attr_form FormReader.given_form FormReader.user_form FormReader.cond_role_form FormReader.grant_form FormReader.purpose_set FormReader.label_form FormReader.column_body FormReader.column FormReader.labelled_column FormReader.plain_columns FormReader.columns_under_label FormReader.labelled_columns FormReader.schemes FormReader.table_form FormReader.labelled_item FormReader.plain_item FormReader.item FormReader.row_form FormReader.public_form FormReader.label_note FormReader.line_forms FormReader.form FormReader.form_of RowText.bracket_text RowText.value_texts RowText.item_texts RowText.label_count RowText.spaced RowText.row_text RowText.keyword_in Walks.list_up_to Walks.list_at Walks.last_or Walks.list_end_at Walks.names_at Walks.first_in Walks.allow_place Walks.deny_place Walks.second_in Walks.third_in Walks.pair_end_at Walks.triple_end_at Walks.given_at Walks.givens_at Walks.kind_at Walks.column_kind_at Walks.column_at Walks.column_forms_at Walks.labelled_columns_at Walks.column_label_at Walks.column_labels_at Walks.cell_label_in Walks.cell_end_at Walks.cell_at Walks.plain_at Walks.cells_at Walks.is_labelled_at Walks.value_place Walks.item_at Walks.item_end_at Walks.items_at TableWords.scheme_words TableWords.column_words Places.line_at Places.Within Places.line_found Places.FoundWithin BodyPlaces.body_at BodyPlaces.BodyWithin BodyPlaces.set_at BodyPlaces.SetWithin BodyPlaces.columns_to BodyPlaces.under_scheme BodyPlaces.table_to BodyPlaces.ColumnsWithin
computing = tt
