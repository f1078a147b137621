-- The number that each reason to refuse is told by, and the line of a refusal.
use Rattle.std.specs.Prelude.{ℕ, List, [], ◌++◌, codes, decimal}
use Rattle.second.specs.declared.reply.Reason.{Reason}
use Rattle.second.specs.declared.reply.Reply.{Reply}
use Rattle.second.specs.declared.reply.Reply.TheVariants.{Refused}
use Rattle.second.specs.declared.reply.Reason.TheVariants.{WrongLength, UnknownFormat, SpareBit, OtherKind, OutOfRange, TooLittleTime, SectionTooLong, NotForTest, IdTaken, TooManyTasks, UnknownId, UnderWay, NotBegun, NotFinished, NoTasks, AlwaysLate, TooManySteps, BufferTooSmall, AboveItself, NoRecord}

abbrev pub number_of : Reason → ℕ
number_of WrongLength = 1
number_of UnknownFormat = 2
number_of SpareBit = 3
number_of OtherKind = 4
number_of OutOfRange = 5
number_of TooLittleTime = 6
number_of SectionTooLong = 7
number_of NotForTest = 8
number_of IdTaken = 9
number_of TooManyTasks = 10
number_of UnknownId = 11
number_of UnderWay = 12
number_of NotBegun = 13
number_of NotFinished = 14
number_of NoTasks = 15
number_of AlwaysLate = 16
number_of TooManySteps = 17
number_of BufferTooSmall = 18
number_of AboveItself = 19
number_of NoRecord = 20

abbrev pub refused_text : ℕ → ℕ → List ℕ
refused_text number entry = codes "refused " ++ decimal number ++ codes " record " ++ decimal entry ++ codes "\n"

-- empty for any other answer
abbrev pub line : Reply → List ℕ
line (Refused number entry) = refused_text number entry
line _ = []
