-- Two blobs joined into one: the bytes, and the refusals in order (document 02, 4/13). Definitions only.
use Rattle.std.specs.Prelude.{ℕ, suc, max, Bool, not, List, [], ◌∷◌, ◌++◌, ltb, eqb, length}
use Rattle.std.proofs.Math.Seq.{slice}
use Rattle.refusals.specs.Checks.{Check, check}
use Rattle.refusals.specs.declared.Reason.TheVariants.{SridsDiffer, NestsTooDeep, OutputTooShort}
use Rattle.refusals.specs.declared.Refusal.{Refusal}
use Rattle.fields.specs.Fields.{bytes_of_u32}
use Rattle.gpb.specs.Header.{geometry_start, srid_of}
use Rattle.gpb.specs.Written.{header_bytes}
use Rattle.coords.specs.Walk.{Geometry, Parsed, ok, refused}
use Rattle.coords.specs.Levels.{deepest_level}
use Rattle.blob.specs.Blob.{walk_of_blob, walk_end}
use Rattle.operands.specs.Operands.{both_checks}
use Rattle.outcomes.specs.Operations.{no_side}

-- ---- the bytes

-- a geometry's own bytes: from its start to where its walk ends, SRID bytes too, its own and its members', without what trails it
unfoldable pub own_bytes : List ℕ → List ℕ
own_bytes s = slice (geometry_start s) (walk_end (walk_of_blob s)) s

-- "a GP header without envelope (little-endian, empty flag never set), then a little-endian type 1007 collection of two, each geometry's own bytes"; the SRID is a's, and by 18 also b's
unfoldable pub joined_blob : List ℕ → List ℕ → List ℕ
joined_blob a b = header_bytes (srid_of a) 1007 ++ bytes_of_u32 2 ++ own_bytes a ++ own_bytes b

-- ---- the refusals

-- 18: the SRIDs differ, as 32 bits, each read in its own byte order
unfoldable pub srids_differ : List ℕ → List ℕ → Bool
srids_differ a b = not (eqb (srid_of a) (srid_of b))

-- the deepest level of a geometry that was read; 0 where none was
unfoldable pub deepest_of : Parsed Geometry → ℕ
deepest_of (ok g end) = deepest_level g
deepest_of (refused k) = 0

-- 19: the join, which holds both one level deeper, would nest past level 32
unfoldable pub nests_too_deep : List ℕ → List ℕ → Bool
nests_too_deep a b = ltb 32 (suc (max (deepest_of (walk_of_blob a)) (deepest_of (walk_of_blob b))))

-- what the join can break, each with side 0: 18, then 19, then 16 of an output of so many bytes
unfoldable pub together_checks : List ℕ → List ℕ → ℕ → List (Check Refusal)
together_checks a b room =
    check (no_side SridsDiffer) (srids_differ a b)
    ∷ check (no_side NestsTooDeep) (nests_too_deep a b)
    ∷ check (no_side OutputTooShort) (ltb room (length (joined_blob a b)))
    ∷ []

-- all refusals, in order: what the bytes of either blob can break, as in every operation on two, then these
unfoldable pub join_checks : List ℕ → List ℕ → ℕ → List (Check Refusal)
join_checks a b room = both_checks a b ++ together_checks a b room
