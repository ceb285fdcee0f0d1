-- The walk of one side: the answer by what the checking pass counted. Assumes nothing.
use mathlib.Core.Path.{◌≡◌, sym, ap, ◌∙◌}
use mathlib.Core.List.{List}
use Prim.Native.Nat.{ℕ}
use Rattle.std.specs.Prelude.{Ok, Err}
use Rattle.std.specs.Option.{option_map}
use Rattle.refusals.specs.Table.{sided}
use Rattle.refusals.specs.Checks.{first_of, refused_or, on_side}
use Rattle.refusals.specs.declared.Reason.{Reason}
use Rattle.refusals.specs.declared.Side.{Side}
use Rattle.refusals.proofs.Sides.{first_on_side}
use Rattle.gpb.specs.Header.{geometry_start}
use Rattle.coords.specs.Walk.{walk_of, all_levels}
use Rattle.coords.specs.Refusals.{walk_checks}
use Rattle.coords.specs.Counts.{counts_of}
use Rattle.coords.specs.declared.Counts.{Counts}
use Rattle.coords.proofs.Refusals.{refused_is_given, accepted_gives_none}
use Rattle.coords.proofs.Counted.{counted_refused, counted_accepted}
use Rattle.blob.specs.Blob.{walk_of_blob, walk_end}
use Rattle.blob.specs.Inner.{top_header_of, operand_of}
use Rattle.blob.specs.declared.TopHeader.{TopHeader}

module _ (s : List ℕ) (top : TopHeader) (side : Side) (starts : top ≡ top_header_of s) where
  counted_there : counts_of (walk_of all_levels s top.at) ≡ counts_of (walk_of_blob s)
  counted_there = ap (λ (t : TopHeader). counts_of (walk_of all_levels s t.at)) starts

  pub walk_refused : (k : Reason) → counts_of (walk_of all_levels s top.at) ≡ Err k → refused_or (first_of (on_side side (walk_checks s (geometry_start s)))) (operand_of s) ≡ Err (sided side k)
  walk_refused k e =
      ap (λ o. refused_or o (operand_of s)) (first_on_side side (walk_checks s (geometry_start s)) ∙ ap (option_map (sided side)) (refused_is_given s (geometry_start s) k (counted_refused (walk_of_blob s) k (sym counted_there ∙ e))))

  pub walk_read : (c : Counts) → counts_of (walk_of all_levels s top.at) ≡ Ok c → refused_or (first_of (on_side side (walk_checks s (geometry_start s)))) (operand_of s) ≡ Ok (record { at = top.at; end = c.end; coords = c.coords; runs = c.runs; others = c.others; srid = top.srid })
  unfolding walk_end
  walk_read c e =
      let read = counted_accepted (walk_of_blob s) c (sym counted_there ∙ e) in
      ap (λ o. refused_or o (operand_of s)) (first_on_side side (walk_checks s (geometry_start s)) ∙ ap (option_map (sided side)) (accepted_gives_none s (geometry_start s) read.tree c.end read.read))
      ∙ rw (starts, read.coordinates, read.number, read.other, read.read)
