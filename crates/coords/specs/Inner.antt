-- The runs of what each reader of the walk gives: for the contracts of functions that other crates build on; no entry's contract speaks of these. Definitions only.
use Rattle.std.specs.Prelude.{ℕ, ◌+◌, List, Bool, cond, length, ltb, Result, Ok, Err}
use Rattle.fields.specs.Fields.{u32_at}
use Rattle.refusals.specs.declared.Reason.{Reason}
use Rattle.refusals.specs.declared.Reason.TheVariants.{BytesMissing}
use Rattle.coords.specs.declared.WkbHeader.{WkbHeader}
use Rattle.coords.specs.Walk.{Coordinate, Parsed, map_parsed, coordinates_at, line_at, rings_at, members_at, walk_of}
use Rattle.coords.specs.Parts.{Run, non_empty_run, rings_runs, members_runs, runs_of}

abbrev pub ParsedRuns : Type 0
ParsedRuns = Parsed (List (Run Coordinate))

-- the count of a list, which the bytes must hold
abbrev pub count_at : Bool → List ℕ → ℕ → Result ℕ Reason
count_at little s at = cond (ltb (length s) (at + 4)) (Err BytesMissing) (Ok (u32_at little s at))

-- the run of n coordinates
abbrev pub coordinates_runs : WkbHeader → List ℕ → ℕ → ℕ → ParsedRuns
coordinates_runs h s n at = map_parsed (non_empty_run h.kind) (coordinates_at h s n at)

-- the run of a line or ring
abbrev pub line_runs : WkbHeader → List ℕ → ℕ → ParsedRuns
line_runs h s at = map_parsed (non_empty_run h.kind) (line_at h s at)

-- the runs of a polygon or triangle
abbrev pub rings_at_runs : WkbHeader → List ℕ → ℕ → ParsedRuns
rings_at_runs h s at = map_parsed (rings_runs h.kind) (rings_at h s at)

-- the runs of a collection's members
abbrev pub members_at_runs : ℕ → Bool → List ℕ → ℕ → ParsedRuns
members_at_runs levels little s at = map_parsed members_runs (members_at (walk_of levels s) little s at)

-- the runs of a geometry
abbrev pub walk_runs : ℕ → List ℕ → ℕ → ParsedRuns
walk_runs levels s at = map_parsed runs_of (walk_of levels s at)
