-- Meaning: what the code's refusals stand for (01, "Checking a document" and "Asking"; 02, Q-1, Q-3, Q-7, Q-11, Q-12, Q-14): the number of each case.
use Rattle.std.specs.Prelude.{ℕ}
use Rattle.text.specs.Refusal as meant
use Rattle.text.specs.declared.refusals.Reason.{Reason}
use Rattle.text.specs.declared.refusals.Reason.TheVariants.{TooLong, WrongForm, OverBound, NameTaken, NameUnknown, SecondRoot, WrongValues, WrongType, LateAttribute, ClockOutOfRange, NotAQuery, UnknownParty, RoleNotGiven, NotAuthorised, UnknownColumn, MistypedQuery, Closed, BufferTooShort, MalformedRecord, UnfitField, ImportTooShort, SelfJoined, UnknownWhy, NoSuchRow, NoteMisplaced, NestExplained, RangeNotTaken, RangeReversed, NoSuchDate}
use Rattle.text.specs.declared.refusals.Source.{Source}
use Rattle.text.specs.declared.refusals.Source.TheVariants.{Document, File, Query}
use Rattle.text.specs.declared.refusals.Refusal.{Refusal}

-- the number of a reason
abbrev pub reason_number : Reason → ℕ
reason_number TooLong = 1
reason_number WrongForm = 2
reason_number OverBound = 3
reason_number NameTaken = 4
reason_number NameUnknown = 5
reason_number SecondRoot = 6
reason_number WrongValues = 7
reason_number WrongType = 8
reason_number LateAttribute = 9
reason_number ClockOutOfRange = 10
reason_number NotAQuery = 11
reason_number UnknownParty = 12
reason_number RoleNotGiven = 13
reason_number NotAuthorised = 14
reason_number UnknownColumn = 15
reason_number MistypedQuery = 16
reason_number Closed = 17
reason_number BufferTooShort = 18
reason_number MalformedRecord = 19
reason_number UnfitField = 20
reason_number ImportTooShort = 21
reason_number SelfJoined = 22
reason_number UnknownWhy = 23
reason_number NoSuchRow = 24
reason_number NoteMisplaced = 25
reason_number NestExplained = 26
reason_number RangeNotTaken = 27
reason_number RangeReversed = 28
reason_number NoSuchDate = 31

-- the text that a refusal points into
abbrev pub source_of : Source → meant.Source
source_of Document = meant.document
source_of Query = meant.query
source_of File = meant.file

-- the refusal that the code's answer stands for
abbrev pub refusal_of : Refusal → meant.Refusal
refusal_of r = record { number = reason_number r.reason; source = source_of r.source; start = r.start; len = r.len }
