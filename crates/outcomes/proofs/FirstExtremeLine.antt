-- From a sweep's third property to that of the line that is written: one law for the longest and the shortest. Assumes nothing.
use mathlib.Core.Path.{◌≡◌, refl}
use mathlib.Core.Logic.{◌↔◌}
use mathlib.Core.Bool.{Bool}
use mathlib.Core.List.{List}
use mathlib.Core.Option.{some}
use Prim.Native.Nat.{ℕ, ◌^◌, ◌<◌}
use lib.ListN.{get_or, get_elem?, drop}
use lib.Ieee.{Float, binary64, of_bits, to_bits}
use lib.Ieee.Bits.{of_bits-fits, to_bits-of_bits}
use Rattle.std.specs.Prelude.{Option, None, Some}
use Rattle.refusals.specs.declared.Refusal.{Refusal}
use Rattle.gpb.specs.Header.{srid_of}
use Rattle.gpb.proofs.Bounds.{srid_fits}
use Rattle.coords.specs.Walk.{Coordinate, Geometry, Parsed, ok, refused, all_levels}
use Rattle.coords.specs.Parts.{walked_runs, vertices_of, of_kind}
use Rattle.coords.proofs.Each as coords-each
use Rattle.coords.proofs.RunFacts.{Patterns, vertex_patterns}
use Rattle.primitives.specs.declared.Witness.{Witness}
use Rattle.primitives.specs.Witnesses.{witness_of, between_of}
use Rattle.parts.specs.Points.{point_of}
use Rattle.extremes.specs.Pairs.{Pair, pairs_of}
use Rattle.extremes.specs.Extreme.{measured, distance_of, HasDistance, Holds}
use Rattle.extremes.proofs.Lists.{Each, at_each, each_at}
use Rattle.extremes.proofs.PairLists.{Sides, pairs_sides}
use Rattle.extremes.proofs.Distances.{NoNan, counts_no_nan}
use Rattle.extremes.proofs.FirstExtreme.{holds_restated}
use Rattle.extremes.proofs.BoxOfAll.{IsBinary64, patterns_binary64}
use Rattle.blob.specs.Blob.{walk_of_blob}
use Rattle.blob.proofs.LineReadBack.{coordinate_of, line_geometry, taken_line_reads_back}
use Rattle.operands.specs.Operands.{Workspaces}
use Rattle.outcomes.specs.Answers.{nothing, blob, answering}
use Rattle.outcomes.specs.Operations.{outcome, unless, vertices_of_blob, blob_value, line_after}
use Rattle.outcomes.specs.ThirdProperty.{SameBits, ReadsBack, FirstExtremeLine}

-- the point of a coordinate is of binary64, whatever its patterns
pub point_binary64 : (c : Coordinate) → IsBinary64 (point_of c)
unfolding point_of
point_binary64 c = patterns_binary64 c.x c.y c.z

-- ---- a vertex keeps its bits

-- the patterns of the floats of a vertex
abbrev written : Coordinate → Coordinate
written c = coordinate_of (to_bits binary64 (of_bits binary64 c.x)) (to_bits binary64 (of_bits binary64 c.y)) (to_bits binary64 (of_bits binary64 c.z))

-- a vertex with no NaN is written with its own bits
same_bits : (c : Coordinate) → Patterns c → NoNan (point_of c) → SameBits (written c) c
unfolding point_of
same_bits c p n =
    record {
      x = to_bits-of_bits binary64 c.x p.x_fits n.on_x;
      y = to_bits-of_bits binary64 c.y p.y_fits n.on_y;
      z = to_bits-of_bits binary64 c.z p.z_fits n.on_z;
    }

-- the line of a pair that counts reads back as the pair
pub pair_reads_back : (srid : ℕ) (p : Pair Coordinate) (output : List ℕ) → srid < 2 ^ 32 → Sides Patterns p → HasDistance (distance_of point_of) p → ReadsBack (line_after srid (Some (measured point_of p)) output) p
unfolding between_of witness_of point_of
pair_reads_back srid p output small fit c =
    let n = counts_no_nan point_of p c in
    let r = taken_line_reads_back srid (of_bits binary64 p.left.x) (of_bits binary64 p.left.y) (of_bits binary64 p.left.z) (of_bits binary64 p.right.x) (of_bits binary64 p.right.y) (of_bits binary64 p.right.z) small
    (of_bits-fits binary64 p.left.x) (of_bits-fits binary64 p.left.y) (of_bits-fits binary64 p.left.z) (of_bits-fits binary64 p.right.x) (of_bits-fits binary64 p.right.y) (of_bits-fits binary64 p.right.z) (drop 65 output) in
    record {
      header = r.header;
      tree = line_geometry (written p.left) (written p.right);
      end = 65;
      walk = r.walk;
      start = written p.left;
      finish = written p.right;
      only_run = r.only_run;
      first = same_bits p.left fit.0 n.0;
      second = same_bits p.right fit.1 n.1;
    }

-- ---- what is reported

pub nothing_exactly : (answer : Option Witness) → (answering (blob_value answer) ≡ answering nothing) ↔ (answer ≡ None)
nothing_exactly None = (λ e. refl, λ e. refl)
nothing_exactly (Some w) = (λ e. cc, λ e. cc)

-- ---- vertices of bytes

walked_patterns : (s : List ℕ) → ((i : ℕ) → get_or s i 0 < 256) → (w : Parsed Geometry) → walk_of_blob s ≡ w → coords-each.Each Patterns (vertices_of (walked_runs w))
unfolding walked_runs vertices_of of_kind
walked_patterns s bytes (ok g end) e = vertex_patterns s bytes all_levels _ g end e
walked_patterns s bytes (refused k) e = tt

-- every ordinate of every vertex of a blob's bytes is a pattern of 64 bits
pub vertices_patterns : (s : List ℕ) → ((i : ℕ) → get_or s i 0 < 256) → Each Patterns (vertices_of_blob s)
vertices_patterns s bytes = at_each Patterns (vertices_of_blob s) (coords-each.each_at Patterns (vertices_of_blob s) (walked_patterns s bytes (walk_of_blob s) refl))

-- ---- the line that is written

module _ (a b : List ℕ) (bytes1 : (i : ℕ) → get_or a i 0 < 256) (bytes2 : (i : ℕ) → get_or b i 0 < 256) {order : Float → Float → Bool} (answer : Option Witness)
    (h : Holds (distance_of point_of) order (vertices_of_blob a) (vertices_of_blob b) (answer ≡ None) (λ p. answer ≡ Some (measured point_of p))) (output : List ℕ) where
  sides : (k : ℕ) (p : Pair Coordinate) → get_elem? (pairs_of (vertices_of_blob a) (vertices_of_blob b)) k ≡ some p → Sides Patterns p
  sides = each_at (Sides Patterns) (pairs_of (vertices_of_blob a) (vertices_of_blob b)) (pairs_sides Patterns (vertices_of_blob a) (vertices_of_blob b) (vertices_patterns a bytes1) (vertices_patterns b bytes2))

  -- an answer that is the first extreme pair is written as that pair's line
  pub first_extreme_line : FirstExtremeLine (answering nothing) (answering blob) order a b (answering (blob_value answer)) (line_after (srid_of a) answer output)
  first_extreme_line =
      holds_restated (nothing_exactly answer)
      (λ k p at c is. record { is_told = rw is; reads_back = rw is (pair_reads_back (srid_of a) p output (srid_fits a bytes1) (sides k p at) c) }) h

  -- and so the outcome of an accepted call has the third property
  pub accepted_line : (first : Option Refusal) (memory lent : Workspaces) → first ≡ None
      → (let o = unless first (outcome (answering (blob_value answer)) memory (line_after (srid_of a) answer output)) lent output in FirstExtremeLine (answering nothing) (answering blob) order a b o.report o.output)
  accepted_line first memory lent e = rw e first_extreme_line
