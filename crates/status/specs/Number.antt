-- The numbers of the paper's words ("Trade words"): 1 to 8 are refusals, 20 to 32 failures that end the port, and so are 33 of request K4 and 34 of request K9.
use Rattle.std.specs.Prelude.{ℕ}
use Rattle.status.specs.declared.words.Refusal.{Refusal}
use Rattle.status.specs.declared.words.Refusal.TheVariants.{BadRequest, TransferEnded, FrameSpaceShort, AnswerWithoutFrame, MalformedFrame, UnexpectedFrameType, WrongAddress, UnknownTag}
use Rattle.status.specs.declared.words.Failure.{Failure}
use Rattle.status.specs.declared.words.Failure.TheVariants.{DataOffsetError, TooMuchData, IncorrectDataLength, XferRdyTooShort, XferRdyTooLong, XferRdyIncorrectWriteDataLength, XferRdyRequestedOffsetError, XferRdyNotExpected, NakReceived, AckNakTimeout, ConnectionLost, NexusLoss, ResponseTooShort, InitiatorResponseTimeout, ResponseDataWrong}

abbrev pub refusal_number : Refusal → ℕ
refusal_number BadRequest = 1
refusal_number TransferEnded = 2
refusal_number FrameSpaceShort = 3
refusal_number AnswerWithoutFrame = 4
refusal_number MalformedFrame = 5
refusal_number UnexpectedFrameType = 6
refusal_number WrongAddress = 7
refusal_number UnknownTag = 8

abbrev pub failure_number : Failure → ℕ
failure_number DataOffsetError = 20
failure_number TooMuchData = 21
failure_number IncorrectDataLength = 22
failure_number XferRdyTooShort = 23
failure_number XferRdyTooLong = 24
failure_number XferRdyIncorrectWriteDataLength = 25
failure_number XferRdyRequestedOffsetError = 26
failure_number XferRdyNotExpected = 27
failure_number NakReceived = 28
failure_number AckNakTimeout = 29
failure_number ConnectionLost = 30
failure_number NexusLoss = 31
failure_number ResponseTooShort = 32
failure_number InitiatorResponseTimeout = 33
failure_number ResponseDataWrong = 34
