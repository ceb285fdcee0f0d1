-- The SRID of a blob fits 32 bits. Assumes nothing.
use mathlib.Core.Bool.{Bool, true, false, cond, ◌&&◌}
use mathlib.Core.List.{List}
use Prim.Native.Nat.{ℕ, ◌%◌, ◌^◌, ◌<◌}
use lib.Dec.{eqb, leb, lit<}
use lib.ListN.{length, get_or}
use Rattle.fields.specs.TypeCode.{has_flag, srid_flag}
use Rattle.fields.specs.Fields.{u32_at}
use Rattle.fields.proofs.Bounds.{u32_fits}
use Rattle.gpb.specs.Header.{is_gp, flags_of, byte_order_of, top_type, ewkb_srid, srid_of}

either_fits : (b : Bool) (m n : ℕ) → m < 2 ^ 32 → n < 2 ^ 32 → cond b m n < 2 ^ 32
either_fits true m n p q = p
either_fits false m n p q = q

module _ (s : List ℕ) (bytes : (i : ℕ) → get_or s i 0 < 256) where
  pub srid_fits : srid_of s < 2 ^ 32
  unfolding srid_of ewkb_srid
  srid_fits =
      either_fits (is_gp s) (u32_at (eqb (flags_of s % 2) 1) s 4) (ewkb_srid s)
      (u32_fits s bytes (eqb (flags_of s % 2) 1) 4)
      (either_fits (leb 9 (length s) && has_flag srid_flag (top_type s)) (u32_at (eqb (byte_order_of s) 1) s 5) 0 (u32_fits s bytes (eqb (byte_order_of s) 1) 5) (lit< tt))
