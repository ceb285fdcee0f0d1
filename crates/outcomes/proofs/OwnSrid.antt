-- End theorems: a blob that is written carries side 1's SRID, whatever side 2's is (document 01, "SRID is A's only"). Assumes nothing.
use mathlib.Core.Path.{◌≡◌}
use mathlib.Core.List.{List, ◌++◌}
use Rattle.std.specs.Prelude.{None, Some, Ok}
use Prim.Native.Nat.{ℕ, ◌^◌, ◌<◌}
use lib.ListN.{get_or, drop}
use Rattle.refusals.specs.Checks.{first_of}
use Rattle.gpb.specs.Header.{srid_of, header_of_3d}
use Rattle.gpb.specs.Written.{point_bytes}
use Rattle.gpb.specs.declared.Header.{Header}
use Rattle.gpb.proofs.Bounds.{srid_fits}
use Rattle.gpb.proofs.ReadBack.{point_header_back, line_header_back}
use Rattle.primitives.specs.declared.Witness.{Witness}
use Rattle.operands.specs.Operands.{Workspaces, lent_checks}
use Rattle.outcomes.specs.Operations.{rule_checks, output_checks, farthest_pair, closest_pair, line_after, point_after, line_checks, longest_line, closest_point, shortest_line}

-- the header of a blob that is written
abbrev pub found : ℕ → ℕ → Header
found code srid = record { at = 8; code = code; srid = srid }

line_srid : (srid : ℕ) (x : Witness) (lent : List ℕ) → srid < 2 ^ 32 → header_of_3d (line_after srid (Some x) lent) ≡ Ok (found 1002 srid)
line_srid srid x lent h = line_header_back srid x.a.x x.a.y x.a.z x.b.x x.b.y x.b.z (drop 65 lent) h

point_srid : (srid : ℕ) (x : Witness) (lent : List ℕ) → srid < 2 ^ 32 → header_of_3d (point_after srid (Some x) lent) ≡ Ok (found 1001 srid)
point_srid srid x lent h = point_header_back srid x.a.x x.a.y x.a.z (drop 37 lent) h

-- the header of the output of an accepted call that finds a pair
module _ (a b : List ℕ) (w : Workspaces) (lent : List ℕ) (x : Witness) (bytes : (i : ℕ) → get_or a i 0 < 256) where
  pub longest_line_srid : first_of (line_checks a b w lent) ≡ None → farthest_pair a b ≡ Some x → header_of_3d (longest_line a b w lent).output ≡ Ok (found 1002 (srid_of a))
  unfolding longest_line
  longest_line_srid e p = rw (e, p) (line_srid (srid_of a) x lent (srid_fits a bytes))

  module _ (rule : ℕ) where
    pub shortest_line_srid : first_of (rule_checks rule ++ line_checks a b w lent) ≡ None → closest_pair rule a b ≡ Some x → header_of_3d (shortest_line a b rule w lent).output ≡ Ok (found 1002 (srid_of a))
    unfolding shortest_line
    shortest_line_srid e p = rw (e, p) (line_srid (srid_of a) x lent (srid_fits a bytes))

    pub closest_point_srid : first_of (rule_checks rule ++ (lent_checks a b w ++ output_checks point_bytes lent)) ≡ None → closest_pair rule a b ≡ Some x → header_of_3d (closest_point a b rule w lent).output ≡ Ok (found 1001 (srid_of a))
    unfolding closest_point
    closest_point_srid e p = rw (e, p) (point_srid (srid_of a) x lent (srid_fits a bytes))
