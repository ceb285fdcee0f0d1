-- What the bytes of a join are read and measured as (document 02, 4/13: "we join two blobs into one and measure the result"). Definitions only.
use Rattle.std.specs.Prelude.{ℕ, ◌+◌, ◌≡◌, true, false, cond, List, length, take, None}
use Rattle.std.proofs.Math.Option.{some}
use Rattle.std.proofs.Math.ListN.{get_elem?}
use Rattle.std.specs.Float.Ieee.{lt}
use Rattle.refusals.specs.Checks.{first_of}
use Rattle.gpb.specs.Header.{srid_of, header_checks_3d}
use Rattle.coords.specs.Walk.{Coordinate, Geometry, geometry, members, no_members, one_more, ok}
use Rattle.blob.specs.Blob.{walk_of_blob}
use Rattle.parts.specs.Points.{point_of}
use Rattle.extremes.specs.Pairs.{Pair, pairs_of}
use Rattle.extremes.specs.Extreme.{HasDistance, distance_of}
use Rattle.operands.specs.Operands.{Workspaces}
use Rattle.outcomes.specs.Answers.{Value, number, decided, blob, nothing, answering}
use Rattle.outcomes.specs.Operations.{vertices_of_blob, max_distance}
use Rattle.joining.specs.Joined.{own_bytes}

-- ---- read as a blob

-- the collection of two geometries, of type 1007: kind 7, with z, without m
abbrev pub collection_of : Geometry → Geometry → Geometry
collection_of g h = geometry 7 true false (members (one_more g (one_more h no_members)))

-- j is as long as 17 and both lengths, header with the Z test and walk accept it, to its last byte; its SRID is a's, its tree the collection of both
pub record ReadsAsBoth (a b j : List ℕ) : Type 0 where
  pub size : length j ≡ 17 + (length (own_bytes a) + length (own_bytes b))
  pub header : first_of (header_checks_3d j) ≡ None
  pub srid : srid_of j ≡ srid_of a
  pub first : Geometry
  pub second : Geometry
  pub end1 : ℕ
  pub end2 : ℕ
  pub walk1 : walk_of_blob a ≡ ok first end1
  pub walk2 : walk_of_blob b ≡ ok second end2
  pub walk : walk_of_blob j ≡ ok (collection_of first second) (length j)

-- ---- measured against a third blob

-- no computed distance of a vertex of s and one of c is NaN
abbrev pub NoNanBetween : List ℕ → List ℕ → Type 0
NoNanBetween s c = (k : ℕ) (p : Pair Coordinate) → get_elem? (pairs_of (vertices_of_blob s) (vertices_of_blob c)) k ≡ some p → HasDistance (distance_of point_of) p

-- "the larger of the two separate ones, or the only one there is, else none"; a max distance answers a number or nothing
unfoldable pub larger : Value → Value → Value
larger (number x) (number y) = number (cond (lt x y) y x)
larger (number x) (decided d) = number x
larger (number x) blob = number x
larger (number x) nothing = number x
larger (decided d) v = v
larger blob v = v
larger nothing v = v

-- of accepted calls, whatever memory is lent to each: the max distance from j to a third blob c is the larger of a's and b's, and so it is from c to j
pub record MaxDistanceOfBoth (a b j : List ℕ) : Type 0 where
  pub to_third : (c : List ℕ) → NoNanBetween a c → NoNanBetween b c → (w w1 w2 : Workspaces) (v v1 v2 : Value)
      → (max_distance j c w).report ≡ answering v → (max_distance a c w1).report ≡ answering v1 → (max_distance b c w2).report ≡ answering v2 → v ≡ larger v1 v2
  pub from_third : (c : List ℕ) → NoNanBetween c a → NoNanBetween c b → (w w1 w2 : Workspaces) (v v1 v2 : Value)
      → (max_distance c j w).report ≡ answering v → (max_distance c a w1).report ≡ answering v1 → (max_distance c b w2).report ≡ answering v2 → v ≡ larger v1 v2

-- How a call tells the size of what it wrote: an operation by its answer, an export by its reply.
module _ {R : Type 0} (size : ℕ → R) where
  -- of an accepted join: it tells 17 plus both lengths, and the bytes that it wrote read as both
  pub record JoinReads (a b : List ℕ) (told : R) (output : List ℕ) : Type 0 where
    pub answered : (n : ℕ) → told ≡ size n → n ≡ 17 + (length (own_bytes a) + length (own_bytes b))
    pub reads : (n : ℕ) → told ≡ size n → ReadsAsBoth a b (take n output)

  -- and have the max distance of both to every third blob
  pub record JoinMaxDistance (a b : List ℕ) (told : R) (output : List ℕ) : Type 0 where
    pub max_distance : (n : ℕ) → told ≡ size n → MaxDistanceOfBoth a b (take n output)
