-- Where scanning ends and how many patches a collection says it has: for the contracts of inner functions only. Definitions only.
use Rattle.std.specs.Prelude.{ℕ, ◌+◌, List, cond, length, ltb, Result, Ok, Err}
use Rattle.refusals.specs.declared.Reason.{Reason}
use Rattle.refusals.specs.declared.Reason.TheVariants.{BytesMissing}
use Rattle.fields.specs.Fields.{u32_at}
use Rattle.coords.specs.Walk.{Parsed, ok, refused, ParsedHeader}
use Rattle.surface.specs.declared.PatchList.{PatchList}

-- the end of what was read, or the refusal's reason
unfoldable pub scan_end : {A : Type 0} → Parsed A → Result ℕ Reason
scan_end (ok a end) = Ok end
scan_end (refused k) = Err k

-- where the first patch of a collection starts, and the count
unfoldable pub count_from : List ℕ → ParsedHeader → Result PatchList Reason
count_from s (Ok h) =
    cond (ltb (length s) (h.body + 4)) (Err BytesMissing) (Ok (record { first = h.body + 4; count = u32_at h.little s h.body }))
count_from s (Err k) = Err k
