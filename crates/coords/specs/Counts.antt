-- What the checking pass answers: N, R, the runs that are points or faces, and the end of the geometry, or the refusal's reason. Definitions only.
use Rattle.std.specs.Prelude.{ℕ, ◌+◌, length, Result, Ok, Err}
use Rattle.refusals.specs.declared.Reason.{Reason}
use Rattle.coords.specs.Walk.{Geometry, Parsed, ok, refused, map_parsed}
use Rattle.coords.specs.Parts.{runs_of, coordinate_count, other_count}
use Rattle.coords.specs.Inner.{ParsedRuns}
use Rattle.coords.specs.declared.Counts.{Counts}

-- nothing, before a position
abbrev pub no_counts : ℕ → Counts
no_counts end = record { coords = 0; runs = 0; others = 0; end = end }

-- two parts that were read one behind the other
abbrev pub joined : Counts → Counts → Counts
joined a b = record { coords = a.coords + b.coords; runs = a.runs + b.runs; others = a.others + b.others; end = b.end }

-- the counts of runs that were read
unfoldable pub run_counts : ParsedRuns → Result Counts Reason
run_counts (ok rs end) = Ok (record { coords = coordinate_count rs; runs = length rs; others = other_count rs; end = end })
run_counts (refused k) = Err k

-- the counts of a walk
abbrev pub counts_of : Parsed Geometry → Result Counts Reason
counts_of w = run_counts (map_parsed runs_of w)
