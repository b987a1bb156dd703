-- One name that unfolds every definition here and in the crates below: `unfolding computing` lets a closed example compute.
use Rattle.lists.specs.Computing as lists
use Rattle.purpose.specs.Computing as purpose
use Rattle.text.specs.Computing as text
use Rattle.calendar.specs.Computing as calendar
use Rattle.condition.specs.Computing as condition
use Rattle.form.specs.Computing as form
use Rattle.document.specs.Computing as document
use Rattle.query.specs.Computing as query
use Rattle.answer.specs.Seen as Seen
use Rattle.answer.specs.Ranged as Ranged
use Rattle.answer.specs.Answer as Answer
use Rattle.answer.specs.Ask as Ask
use Rattle.answer.specs.Faults as Faults
use Rattle.answer.specs.Exactly as Exactly
use Rattle.answer.specs.Choices as Choices
use Rattle.answer.specs.Reserve as Reserve
use Rattle.answer.specs.Alike as Alike
use Rattle.answer.specs.AlikeTest as AlikeTest
use Rattle.answer.specs.Further as Further
use Rattle.answer.specs.Session as Session
use Rattle.answer.specs.Why as Why

unfoldable pub computing : Unit {0}
unfolding mathlib.Core.Option.bind mathlib.Core.List.flatten lists.computing purpose.computing text.computing calendar.computing condition.computing form.computing document.computing query.computing Seen.gap Seen.seen_value Seen.seen_values Seen.seen_row Seen.rows_in Seen.seen_in Seen.seen_rows Seen.in_columns Seen.pair_values Seen.beside Seen.pairs_of Seen.seen_pairs Ranged.ranged_at Ranged.has_range Ranged.ranged_word Ranged.ranged_column Ranged.ranged_ref Answer.matches Answer.satisfies Answer.satisfies_join Answer.row_line Answer.end_line Answer.is_withheld Answer.is_passed Answer.is_unmatched Answer.line_of Answer.row_lines Answer.counted Answer.answer_to Answer.answer_join Ask.answer_form Ask.ask_unbounded Ask.if_fits Ask.ask Ask.measure Ask.after Ask.pointed_text Ask.part_of Faults.first_fault Faults.refusal_number Faults.form_faults Faults.form_answer Faults.query_faults Faults.ask_faults Exactly.is_withheld_row Exactly.is_given Exactly.is_unmatched_row Exactly.with_gaps Exactly.gapped_values Exactly.is_out Exactly.row_pairs Exactly.values_of Exactly.is_withheld_pair Exactly.is_given_pair Exactly.is_unmatched_pair Choices.asking Reserve.columns_from Reserve.whole_line Reserve.whole_length Reserve.whole_lengths Reserve.larger Reserve.greatest Reserve.reserve_of Reserve.checked Reserve.SelectsOnce Reserve.IsReserve Alike.sees Alike.free Alike.row_of Alike.lines_of AlikeTest.same_bytes AlikeTest.same_texts AlikeTest.same_or_free AlikeTest.row_in_form AlikeTest.label_texts AlikeTest.same_row AlikeTest.both_rows AlikeTest.same_or_rows AlikeTest.lines_alike AlikeTest.both_alike AlikeTest.alike? Further.select_text Further.Prints Session.source_name Session.refusal_line Session.printed Session.natural Session.clock_numbers Session.clock_in_line Session.lines_in Session.program_room Session.answers Session.writes Session.session Why.reason_by Why.label_reason Why.reason_at Why.cell_reason Why.unknown_why Why.row_numbered Why.explain Why.why Why.reason_text Why.printed_reason Why.explains Why.explaining Why.is_opened Why.label_meant
computing = tt
