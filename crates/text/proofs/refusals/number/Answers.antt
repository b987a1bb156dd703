-- `text::refusals::number` meets its contract: each case has its number. Assumes nothing.
use mathlib.Core.Path.{ap, sym}
use Rattle.text.specs.Reasons.{reason_number}
use Rattle.text.proofs.refusals.number.Goals as goal

pub returns-in-TooLong : goal.returns-in-TooLong
returns-in-TooLong c = sym (ap reason_number c.in-TooLong.is)

pub returns-in-WrongForm : goal.returns-in-WrongForm
returns-in-WrongForm c = sym (ap reason_number c.in-WrongForm.is)

pub returns-in-OverBound : goal.returns-in-OverBound
returns-in-OverBound c = sym (ap reason_number c.in-OverBound.is)

pub returns-in-NameTaken : goal.returns-in-NameTaken
returns-in-NameTaken c = sym (ap reason_number c.in-NameTaken.is)

pub returns-in-NameUnknown : goal.returns-in-NameUnknown
returns-in-NameUnknown c = sym (ap reason_number c.in-NameUnknown.is)

pub returns-in-SecondRoot : goal.returns-in-SecondRoot
returns-in-SecondRoot c = sym (ap reason_number c.in-SecondRoot.is)

pub returns-in-WrongValues : goal.returns-in-WrongValues
returns-in-WrongValues c = sym (ap reason_number c.in-WrongValues.is)

pub returns-in-WrongType : goal.returns-in-WrongType
returns-in-WrongType c = sym (ap reason_number c.in-WrongType.is)

pub returns-in-LateAttribute : goal.returns-in-LateAttribute
returns-in-LateAttribute c = sym (ap reason_number c.in-LateAttribute.is)

pub returns-in-ClockOutOfRange : goal.returns-in-ClockOutOfRange
returns-in-ClockOutOfRange c = sym (ap reason_number c.in-ClockOutOfRange.is)

pub returns-in-NotAQuery : goal.returns-in-NotAQuery
returns-in-NotAQuery c = sym (ap reason_number c.in-NotAQuery.is)

pub returns-in-UnknownParty : goal.returns-in-UnknownParty
returns-in-UnknownParty c = sym (ap reason_number c.in-UnknownParty.is)

pub returns-in-RoleNotGiven : goal.returns-in-RoleNotGiven
returns-in-RoleNotGiven c = sym (ap reason_number c.in-RoleNotGiven.is)

pub returns-in-NotAuthorised : goal.returns-in-NotAuthorised
returns-in-NotAuthorised c = sym (ap reason_number c.in-NotAuthorised.is)

pub returns-in-UnknownColumn : goal.returns-in-UnknownColumn
returns-in-UnknownColumn c = sym (ap reason_number c.in-UnknownColumn.is)

pub returns-in-MistypedQuery : goal.returns-in-MistypedQuery
returns-in-MistypedQuery c = sym (ap reason_number c.in-MistypedQuery.is)

pub returns-in-Closed : goal.returns-in-Closed
returns-in-Closed c = sym (ap reason_number c.in-Closed.is)

pub returns-in-BufferTooShort : goal.returns-in-BufferTooShort
returns-in-BufferTooShort c = sym (ap reason_number c.in-BufferTooShort.is)

pub returns-in-MalformedRecord : goal.returns-in-MalformedRecord
returns-in-MalformedRecord c = sym (ap reason_number c.in-MalformedRecord.is)

pub returns-in-UnfitField : goal.returns-in-UnfitField
returns-in-UnfitField c = sym (ap reason_number c.in-UnfitField.is)

pub returns-in-ImportTooShort : goal.returns-in-ImportTooShort
returns-in-ImportTooShort c = sym (ap reason_number c.in-ImportTooShort.is)

pub returns-in-SelfJoined : goal.returns-in-SelfJoined
returns-in-SelfJoined c = sym (ap reason_number c.in-SelfJoined.is)

pub returns-in-UnknownWhy : goal.returns-in-UnknownWhy
returns-in-UnknownWhy c = sym (ap reason_number c.in-UnknownWhy.is)

pub returns-in-NoSuchRow : goal.returns-in-NoSuchRow
returns-in-NoSuchRow c = sym (ap reason_number c.in-NoSuchRow.is)

pub returns-in-NoteMisplaced : goal.returns-in-NoteMisplaced
returns-in-NoteMisplaced c = sym (ap reason_number c.in-NoteMisplaced.is)

pub returns-in-NestExplained : goal.returns-in-NestExplained
returns-in-NestExplained c = sym (ap reason_number c.in-NestExplained.is)

pub returns-in-RangeNotTaken : goal.returns-in-RangeNotTaken
returns-in-RangeNotTaken c = sym (ap reason_number c.in-RangeNotTaken.is)

pub returns-in-RangeReversed : goal.returns-in-RangeReversed
returns-in-RangeReversed c = sym (ap reason_number c.in-RangeReversed.is)

pub returns-in-NoSuchDate : goal.returns-in-NoSuchDate
returns-in-NoSuchDate c = sym (ap reason_number c.in-NoSuchDate.is)
