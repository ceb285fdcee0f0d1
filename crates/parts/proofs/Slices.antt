-- What a walk by slices takes off the floats and off the table. Assumes nothing.
use mathlib.Core.Path.{◌≡◌, refl}
use mathlib.Core.List.{List, [], ◌∷◌}
use Prim.Native.Nat.{ℕ, ◌+◌, ◌-◌, ◌*◌, ◌/◌, ◌<◌, ◌≤◌}
use native.Mathlib.Omega.{arith}
use lib.ListN.{length, take, drop, get_or}
use lib.Seq.{take_all}
use lib.Ieee.{Float, nan}
use Rattle.workspace.specs.Workspace.{floats_per_coordinate, numbers_per_run}
use Rattle.coords.specs.Parts.{run, segments_by}
use Rattle.parts.specs.Stored.{stored_runs, point_count, Laid}
use Rattle.parts.specs.Slices.{points_in, segments_in}
use Rattle.primitives.specs.declared.Point.{Point}
use Rattle.std.specs.Prelude.{slice_get, Some, None}

-- ---- points

-- fewer than four floats are no point
pub points_short : (floats : List Float) → length floats < floats_per_coordinate → points_in floats ≡ []
unfolding points_in
points_short [] h = refl
points_short (x ∷ []) h = refl
points_short (x ∷ y ∷ []) h = refl
points_short (x ∷ y ∷ z ∷ []) h = refl
points_short (x ∷ y ∷ z ∷ m ∷ floats) h = absurd (omega arith)

-- the first of four or more
pub points_more : (floats : List Float) → floats_per_coordinate ≤ length floats
    → points_in floats ≡ record { x = get_or floats 0 nan; y = get_or floats 1 nan; z = get_or floats 2 nan } ∷ points_in (take (length floats - floats_per_coordinate) (drop floats_per_coordinate floats))
unfolding points_in
points_more [] h = absurd (omega arith)
points_more (x ∷ []) h = absurd (omega arith)
points_more (x ∷ y ∷ []) h = absurd (omega arith)
points_more (x ∷ y ∷ z ∷ []) h = absurd (omega arith)
points_more (x ∷ y ∷ z ∷ m ∷ floats) h = rw (take_all (length (x ∷ y ∷ z ∷ m ∷ floats) - floats_per_coordinate) floats (omega arith))

pub length_points_in : (floats : List Float) → length (points_in floats) ≡ length floats / floats_per_coordinate
unfolding points_in
length_points_in [] = refl
length_points_in (x ∷ []) = refl
length_points_in (x ∷ y ∷ []) = refl
length_points_in (x ∷ y ∷ z ∷ []) = refl
length_points_in (x ∷ y ∷ z ∷ m ∷ floats) = omega (arith, length_points_in floats)

pub first_short : (floats : List Float) → length floats < floats_per_coordinate → slice_get (points_in floats) 0 ≡ None
first_short floats h = rw (points_short floats h)

pub first_more : (floats : List Float) → floats_per_coordinate ≤ length floats → slice_get (points_in floats) 0 ≡ Some (record { x = get_or floats 0 nan; y = get_or floats 1 nan; z = get_or floats 2 nan })
first_more floats h = rw (points_more floats h)

-- ---- segments

pub segments_none : (ps : List Point) → ps ≡ [] → segments_in ps ≡ []
unfolding segments_by
segments_none ps e = rw e

pub segments_last : (a : Point) (ps : List Point) → slice_get ps 0 ≡ None → (segments_in (a ∷ ps) ≡ []) × (segments_in ps ≡ [])
unfolding segments_by
segments_last a [] e = (refl, refl)
segments_last a (b ∷ ps) e = (cc, cc)

pub segments_more : (a b : Point) (ps : List Point) → slice_get ps 0 ≡ Some b → segments_in (a ∷ ps) ≡ (a, b) ∷ segments_in ps
unfolding segments_by
segments_more a b [] e = cc
segments_more a b (c ∷ ps) e = let f : c ≡ b = cc in rw f

pub ruleset segment_turns = (segments_none, segments_last, segments_more)

-- ---- runs

-- a table of fewer than two numbers has no run
pub runs_short : (table : List ℕ) (floats : List Float) → length table < numbers_per_run → stored_runs table floats ≡ []
unfolding stored_runs
runs_short [] floats h = refl
runs_short (kind ∷ []) floats h = refl
runs_short (kind ∷ count ∷ table) floats h = absurd (omega arith)

-- the first run has the first of the floats, and the others have the rest
pub runs_more : (table : List ℕ) (floats : List Float) → numbers_per_run ≤ length table
    → stored_runs table floats ≡ run (get_or table 0 0) (points_in (take (floats_per_coordinate * get_or table 1 0) floats)) ∷ stored_runs (take (length table - numbers_per_run) (drop numbers_per_run table)) (drop (floats_per_coordinate * get_or table 1 0) floats)
unfolding stored_runs
runs_more [] floats h = absurd (omega arith)
runs_more (kind ∷ []) floats h = absurd (omega arith)
runs_more (kind ∷ count ∷ table) floats h = rw (take_all (length (kind ∷ count ∷ table) - numbers_per_run) table (omega arith))

-- the first run's floats are there
pub run_fits : (table : List ℕ) (floats : List Float) → Laid table floats → numbers_per_run ≤ length table → floats_per_coordinate * get_or table 1 0 ≤ length floats
unfolding Laid point_count
run_fits [] floats l h = absurd (omega arith)
run_fits (kind ∷ []) floats l h = absurd (omega arith)
run_fits (kind ∷ count ∷ table) floats l h = omega (arith, l)

-- and the others', in floats that are short of the first run's at most
pub laid_more : (table : List ℕ) (floats others : List Float) → Laid table floats → numbers_per_run ≤ length table → length floats ≤ length others + floats_per_coordinate * get_or table 1 0
    → Laid (take (length table - numbers_per_run) (drop numbers_per_run table)) others
unfolding Laid point_count
laid_more [] floats others l h e = absurd (omega arith)
laid_more (kind ∷ []) floats others l h e = absurd (omega arith)
laid_more (kind ∷ count ∷ table) floats others l h e = rw (take_all (length (kind ∷ count ∷ table) - numbers_per_run) table (omega arith)) (omega (arith, l, e))

pub ruleset run_turns = (runs_short, runs_more, run_fits, laid_more)
