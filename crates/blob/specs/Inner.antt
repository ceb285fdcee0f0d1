-- What the checks of one side answer where they refuse nothing: for the contracts of functions that other crates build on; no operation's contract speaks of these. Definitions only.
use Rattle.std.specs.Prelude.{List, [], ◌∷◌, length, ℕ}
use Rattle.refusals.specs.Checks.{Check, check}
use Rattle.refusals.specs.declared.Reason.{Reason}
use Rattle.refusals.specs.declared.Reason.TheVariants.{WorkspaceTooSmall}
use Rattle.gpb.specs.Header.{geometry_start, srid_of}
use Rattle.gpb.specs.declared.Header.{Header}
use Rattle.coords.specs.Parts.{coordinate_count, other_count}
use Rattle.workspace.specs.Workspace.{too_small_for}
use Rattle.blob.specs.Blob.{walk_of_blob, walk_end, runs_of_blob}
use Rattle.blob.specs.declared.TopHeader.{TopHeader}
use Rattle.blob.specs.declared.Operand.{Operand}
use Rattle.blob.specs.declared.Lent.{Lent}

-- the header
abbrev pub top_of : Header → TopHeader
top_of h = record { at = h.at; srid = h.srid }

abbrev pub top_header_of : List ℕ → TopHeader
top_header_of s = record { at = geometry_start s; srid = srid_of s }

-- the walk
abbrev pub operand_of : List ℕ → Operand
operand_of s =
    record {
      at = geometry_start s;
      end = walk_end (walk_of_blob s);
      coords = coordinate_count (runs_of_blob s);
      runs = length (runs_of_blob s);
      others = other_count (runs_of_blob s);
      srid = srid_of s;
    }

-- 15: lent memory is too small for what was counted
abbrev pub room_checks : Operand → Lent → List (Check Reason)
room_checks o lent = check WorkspaceTooSmall (too_small_for o.coords o.runs lent.floats lent.numbers) ∷ []
