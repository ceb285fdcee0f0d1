-- No two reasons have one number, and no two sides. Assumes nothing.
use Prim.Native.Nat.{ℕ}
use mathlib.Core.Path.{◌≡◌, refl, sym, ap, ◌∙◌}
use mathlib.Core.List.{[], ◌∷◌}
use lib.ListN.{get_or}
use Rattle.refusals.specs.Table.{number_of, number_of_side}
use Rattle.refusals.specs.declared.Reason.{Reason}
use Rattle.refusals.specs.declared.Reason.TheVariants.{ToleranceBelowZero, FractionOutOfRange, UnderEightBytes, VersionNotZero, ExtendedBit, ReservedBits, EnvelopeIndicator, EndsInEnvelope, BytesMissing, ByteOrder, UnknownKind, TooManyLevels, NoZ, NoLine, WorkspaceTooSmall, OutputTooShort, UnknownRule, SridsDiffer, NestsTooDeep, BrokenTape, NoSuchBlob, ListsTooShort}
use Rattle.refusals.specs.declared.Side.{Side}
use Rattle.refusals.specs.declared.Side.TheVariants.{Neither, First, Second}

-- the rows in order
abbrev numbered : ℕ → Reason
numbered n = get_or (ToleranceBelowZero ∷ ToleranceBelowZero ∷ FractionOutOfRange ∷ UnderEightBytes ∷ VersionNotZero ∷ ExtendedBit ∷ ReservedBits ∷ EnvelopeIndicator ∷ EndsInEnvelope ∷ BytesMissing ∷ ByteOrder ∷ UnknownKind ∷ TooManyLevels ∷ NoZ ∷ NoLine ∷ WorkspaceTooSmall ∷ OutputTooShort ∷ UnknownRule ∷ SridsDiffer ∷ NestsTooDeep ∷ BrokenTape ∷ NoSuchBlob ∷ ListsTooShort ∷ []) n ListsTooShort

back : (r : Reason) → numbered (number_of r) ≡ r
back ToleranceBelowZero = refl
back FractionOutOfRange = refl
back UnderEightBytes = refl
back VersionNotZero = refl
back ExtendedBit = refl
back ReservedBits = refl
back EnvelopeIndicator = refl
back EndsInEnvelope = refl
back BytesMissing = refl
back ByteOrder = refl
back UnknownKind = refl
back TooManyLevels = refl
back NoZ = refl
back NoLine = refl
back WorkspaceTooSmall = refl
back OutputTooShort = refl
back UnknownRule = refl
back SridsDiffer = refl
back NestsTooDeep = refl
back BrokenTape = refl
back NoSuchBlob = refl
back ListsTooShort = refl

pub same_reason : (a b : Reason) → number_of a ≡ number_of b → a ≡ b
same_reason a b e = sym (back a) ∙ ap numbered e ∙ back b

abbrev numbered_side : ℕ → Side
numbered_side n = get_or (Neither ∷ First ∷ Second ∷ []) n Neither

side_back : (s : Side) → numbered_side (number_of_side s) ≡ s
side_back Neither = refl
side_back First = refl
side_back Second = refl

pub same_side : (a b : Side) → number_of_side a ≡ number_of_side b → a ≡ b
same_side a b e = sym (side_back a) ∙ ap numbered_side e ∙ side_back b
