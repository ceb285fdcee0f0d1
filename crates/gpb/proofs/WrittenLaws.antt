-- The written blobs: stored part by part, and read back by the header. Assumes nothing.
use mathlib.Core.Path.{◌≡◌, refl, sym, ap, ◌∙◌}
use mathlib.Core.List.{List, ◌++◌}
use Prim.Native.Nat.{ℕ, ◌+◌, ◌≤◌}
use lib.Ieee.{Float, binary64, to_bits}
use lib.ListN.{length, drop}
use lib.Seq.{sets}
use Rattle.fields.specs.Fields.{bytes_of_u32, bytes_of_u64}
use Rattle.fields.proofs.Stores.{sets_append, sets_front}
use Rattle.gpb.specs.Written.{point_bytes, line_bytes, header_bytes, ordinate_bytes, coordinate_bytes, point_blob, line_blob}

-- ---- parts stored one behind the other are the whole

pub coordinate_stored : (x y z : Float) (at : ℕ) (l : List ℕ) → sets (sets (sets l at (bytes_of_u64 (to_bits binary64 x))) (at + 8) (bytes_of_u64 (to_bits binary64 y))) (at + 16) (bytes_of_u64 (to_bits binary64 z)) ≡ sets l at (coordinate_bytes x y z)
unfolding coordinate_bytes ordinate_bytes bytes_of_u64 bytes_of_u32
coordinate_stored x y z at l =
    let a = ordinate_bytes x in
    let b = ordinate_bytes y in
    ap (λ (m : List ℕ). sets m (at + 16) (ordinate_bytes z)) (sym (sets_append a b l at)) ∙ sym (sets_append (a ++ b) (ordinate_bytes z) l at)

pub point_stored : (srid : ℕ) (x y z : Float) (l : List ℕ) → point_bytes ≤ length l → sets (sets l 0 (header_bytes srid 1001)) 13 (coordinate_bytes x y z) ≡ point_blob srid x y z ++ drop point_bytes l
unfolding point_blob header_bytes coordinate_bytes ordinate_bytes bytes_of_u64 bytes_of_u32
point_stored srid x y z l h =
    sym (sets_append (header_bytes srid 1001) (coordinate_bytes x y z) l 0) ∙ sets_front point_bytes (point_blob srid x y z) l refl h

pub line_stored : (srid : ℕ) (ax ay az bx by bz : Float) (l : List ℕ) → line_bytes ≤ length l → sets (sets (sets (sets l 0 (header_bytes srid 1002)) 13 (bytes_of_u32 2)) 17 (coordinate_bytes ax ay az)) 41 (coordinate_bytes bx by bz) ≡ line_blob srid ax ay az bx by bz ++ drop line_bytes l
unfolding line_blob header_bytes coordinate_bytes ordinate_bytes bytes_of_u64 bytes_of_u32
line_stored srid ax ay az bx by bz l h =
    let head = header_bytes srid 1002 in
    let a = coordinate_bytes ax ay az in
    let b = coordinate_bytes bx by bz in
    ap (λ (m : List ℕ). sets (sets m 17 a) 41 b) (sym (sets_append head (bytes_of_u32 2) l 0))
    ∙ ap (λ (m : List ℕ). sets m 41 b) (sym (sets_append (head ++ bytes_of_u32 2) a l 0))
    ∙ sym (sets_append (head ++ bytes_of_u32 2 ++ a) b l 0)
    ∙ sets_front line_bytes (line_blob srid ax ay az bx by bz) l refl h
