-- The walk's refusals as checks (document 01, the table and "Order"). Definitions only.
use Rattle.std.specs.Prelude.{ℕ, List, [], ◌∷◌, Bool, true, false, eqb}
use Rattle.refusals.specs.Checks.{Check, check}
use Rattle.refusals.specs.Table.{number_of}
use Rattle.refusals.specs.declared.Reason.{Reason}
use Rattle.refusals.specs.declared.Reason.TheVariants.{BytesMissing, ByteOrder, UnknownKind, TooManyLevels}
use Rattle.coords.specs.Walk.{Geometry, Parsed, ok, refused, walk_of, all_levels}

-- whether the walk refuses for this reason: no two reasons have one number
unfoldable pub refused_with : Reason → Parsed Geometry → Bool
refused_with reason (ok g end) = false
refused_with reason (refused k) = eqb (number_of k) (number_of reason)

-- whether the walk refuses nothing
unfoldable pub is_accepted : Parsed Geometry → Bool
is_accepted (ok g end) = true
is_accepted (refused k) = false

-- 12 a level above 32, 9 bytes that are missing, 10 a byte order above 1, 11 an unknown kind: the walk gives the one that it meets first, so at most one of these holds
unfoldable pub walk_checks : List ℕ → ℕ → List (Check Reason)
walk_checks s at =
    check TooManyLevels (refused_with TooManyLevels (walk_of all_levels s at))
    ∷ check BytesMissing (refused_with BytesMissing (walk_of all_levels s at))
    ∷ check ByteOrder (refused_with ByteOrder (walk_of all_levels s at))
    ∷ check UnknownKind (refused_with UnknownKind (walk_of all_levels s at))
    ∷ []
