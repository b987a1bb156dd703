-- One name that unfolds every definition here and in the crates below: `unfolding computing` lets a closed example compute.
use Rattle.lists.specs.Computing as lists
use Rattle.text.specs.Bytes as Bytes
use Rattle.text.specs.Names as Names
use Rattle.text.specs.Numbers as Numbers
use Rattle.text.specs.Reader as Reader
use Rattle.text.specs.Words as Words
use Rattle.text.specs.Brackets as Brackets
use Rattle.text.specs.Amounts as Amounts
use Rattle.text.specs.Lines as Lines
use Rattle.text.specs.Refusal as Refusal
use Rattle.text.specs.Offending as Offending
use Rattle.text.specs.Walking as Walking

unfoldable pub computing : Unit {0}
unfolding mathlib.Core.Option.bind mathlib.Core.List.flatten lists.computing Bytes.is_letter Bytes.is_digit Bytes.is_name_byte Names.is_name Names.lower Names.same_byte Names.same_name Numbers.digits_from Numbers.no_leading_zero Numbers.magnitude Numbers.rank_of Numbers.rank_up Numbers.rank_down Numbers.rank Numbers.is_number Numbers.is_value Numbers.digits_of Numbers.decimal Reader.byte Reader.if_next Reader.ended Reader.whole Words.name_bytes Words.to_closing Words.written_at Words.word Words.word_that Words.read_number Words.written Words.is_called Words.plain_word Brackets.next Brackets.optional Brackets.up_to Brackets.many Brackets.bracketed Brackets.among Brackets.keyword Amounts.range Amounts.range_of Amounts.is_range Lines.in_front Lines.cut Refusal.pointing Refusal.pointing_nowhere Refusal.pointing_all Refusal.moved Refusal.◌>>=◌ Refusal.◌>>◌ Refusal.refuse_if Refusal.refuse_at Refusal.need Refusal.moved_by Offending.offending_if Offending.unless Offending.leftmost Offending.missing Offending.repeated_after Offending.repeated Walking.past Walking.word_end_at Walking.written_end_at Walking.next_word
computing = tt
