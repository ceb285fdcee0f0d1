-- The table of refusals (document 01; 17 to 22 of document 02): the numbers that callers are told. Definitions only.
use Rattle.std.specs.Prelude.{ℕ}
use Rattle.refusals.specs.declared.Reason.{Reason}
use Rattle.refusals.specs.declared.Reason.TheVariants.{ToleranceBelowZero, FractionOutOfRange, UnderEightBytes, VersionNotZero, ExtendedBit, ReservedBits, EnvelopeIndicator, EndsInEnvelope, BytesMissing, ByteOrder, UnknownKind, TooManyLevels, NoZ, NoLine, WorkspaceTooSmall, OutputTooShort, UnknownRule, SridsDiffer, NestsTooDeep, BrokenTape, NoSuchBlob, ListsTooShort}
use Rattle.refusals.specs.declared.Side.{Side}
use Rattle.refusals.specs.declared.Side.TheVariants.{Neither, First, Second}
use Rattle.refusals.specs.declared.Refusal.{Refusal}

-- a reason's number
abbrev pub number_of : Reason → ℕ
number_of ToleranceBelowZero = 1
number_of FractionOutOfRange = 2
number_of UnderEightBytes = 3
number_of VersionNotZero = 4
number_of ExtendedBit = 5
number_of ReservedBits = 6
number_of EnvelopeIndicator = 7
number_of EndsInEnvelope = 8
number_of BytesMissing = 9
number_of ByteOrder = 10
number_of UnknownKind = 11
number_of TooManyLevels = 12
number_of NoZ = 13
number_of NoLine = 14
number_of WorkspaceTooSmall = 15
number_of OutputTooShort = 16
number_of UnknownRule = 17
number_of SridsDiffer = 18
number_of NestsTooDeep = 19
number_of BrokenTape = 20
number_of NoSuchBlob = 21
number_of ListsTooShort = 22

-- a side's number: 0 for neither blob
abbrev pub number_of_side : Side → ℕ
number_of_side Neither = 0
number_of_side First = 1
number_of_side Second = 2

-- a reason, given with a side
abbrev pub sided : Side → Reason → Refusal
sided side reason = record { reason = reason; side = side }
